use Rattle.surface_damage.proofs.AreaLemmas.{plain}
use Rattle.surface_damage.proofs.area.Area.in_buffer.Goals as goal

pub returns-clause-pixels : goal.returns-clause-pixels
returns-clause-pixels c = λ bx by w h.
    plain _ c.args.rect c.across.result c.down.result bx by (record { across_is = c.across.ensures; down_is = c.down.ensures }) (c.from_start.ensures.places bx w) (c.from_start-2.ensures.places by h)
