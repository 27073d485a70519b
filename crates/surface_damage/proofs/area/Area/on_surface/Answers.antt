use Rattle.std.proofs.Common.{ap}
use Rattle.surface_damage.specs.Pixels.{place}
use Rattle.surface_damage.proofs.AreaLemmas.{straight, crossed}
use Rattle.surface_damage.proofs.area.Area.on_surface.Goals as goal

pub returns-in-Normal-clause-pixels : goal.returns-in-Normal-clause-pixels
returns-in-Normal-clause-pixels c = λ bx by w h.
    straight _ c.args.rect c.across-across.result c.down-down.result c.args.view.scale bx by _ _ (record { across_is = c.across-across.ensures; down_is = c.down-down.ensures }) (ap (λ t. place t c.args.view.image.width c.args.view.image.height bx by) c.in-Normal.is) (c.from_start.ensures.places bx w) (c.from_start-in-Normal.ensures.places by h)

pub returns-in-Turned90-clause-pixels : goal.returns-in-Turned90-clause-pixels
returns-in-Turned90-clause-pixels c = λ bx by w h.
    crossed _ c.args.rect c.across-across.result c.down-down.result c.args.view.scale bx by _ _ (record { across_is = c.across-across.ensures; down_is = c.down-down.ensures }) (ap (λ t. place t c.args.view.image.width c.args.view.image.height bx by) c.in-Turned90.is) (c.from_start-in-Turned90.ensures.places bx w) (c.from_end.ensures.places by h)

pub returns-in-Turned180-clause-pixels : goal.returns-in-Turned180-clause-pixels
returns-in-Turned180-clause-pixels c = λ bx by w h.
    straight _ c.args.rect c.across-across.result c.down-down.result c.args.view.scale bx by _ _ (record { across_is = c.across-across.ensures; down_is = c.down-down.ensures }) (ap (λ t. place t c.args.view.image.width c.args.view.image.height bx by) c.in-Turned180.is) (c.from_end-in-Turned180.ensures.places bx w) (c.from_end-in-Turned180-2.ensures.places by h)

pub returns-in-Turned270-clause-pixels : goal.returns-in-Turned270-clause-pixels
returns-in-Turned270-clause-pixels c = λ bx by w h.
    crossed _ c.args.rect c.across-across.result c.down-down.result c.args.view.scale bx by _ _ (record { across_is = c.across-across.ensures; down_is = c.down-down.ensures }) (ap (λ t. place t c.args.view.image.width c.args.view.image.height bx by) c.in-Turned270.is) (c.from_end-in-Turned270.ensures.places bx w) (c.from_start-in-Turned270.ensures.places by h)

pub returns-in-Flipped-clause-pixels : goal.returns-in-Flipped-clause-pixels
returns-in-Flipped-clause-pixels c = λ bx by w h.
    straight _ c.args.rect c.across-across.result c.down-down.result c.args.view.scale bx by _ _ (record { across_is = c.across-across.ensures; down_is = c.down-down.ensures }) (ap (λ t. place t c.args.view.image.width c.args.view.image.height bx by) c.in-Flipped.is) (c.from_end-in-Flipped.ensures.places bx w) (c.from_start-in-Flipped.ensures.places by h)

pub returns-in-FlippedTurned90-clause-pixels : goal.returns-in-FlippedTurned90-clause-pixels
returns-in-FlippedTurned90-clause-pixels c = λ bx by w h.
    crossed _ c.args.rect c.across-across.result c.down-down.result c.args.view.scale bx by _ _ (record { across_is = c.across-across.ensures; down_is = c.down-down.ensures }) (ap (λ t. place t c.args.view.image.width c.args.view.image.height bx by) c.in-FlippedTurned90.is) (c.from_start-in-FlippedTurned90.ensures.places bx w) (c.from_start-in-FlippedTurned90-2.ensures.places by h)

pub returns-in-FlippedTurned180-clause-pixels : goal.returns-in-FlippedTurned180-clause-pixels
returns-in-FlippedTurned180-clause-pixels c = λ bx by w h.
    straight _ c.args.rect c.across-across.result c.down-down.result c.args.view.scale bx by _ _ (record { across_is = c.across-across.ensures; down_is = c.down-down.ensures }) (ap (λ t. place t c.args.view.image.width c.args.view.image.height bx by) c.in-FlippedTurned180.is) (c.from_start-in-FlippedTurned180.ensures.places bx w) (c.from_end-in-FlippedTurned180.ensures.places by h)

pub returns-in-FlippedTurned270-clause-pixels : goal.returns-in-FlippedTurned270-clause-pixels
returns-in-FlippedTurned270-clause-pixels c = λ bx by w h.
    crossed _ c.args.rect c.across-across.result c.down-down.result c.args.view.scale bx by _ _ (record { across_is = c.across-across.ensures; down_is = c.down-down.ensures }) (ap (λ t. place t c.args.view.image.width c.args.view.image.height bx by) c.in-FlippedTurned270.is) (c.from_end-in-FlippedTurned270.ensures.places bx w) (c.from_end-in-FlippedTurned270-2.ensures.places by h)
