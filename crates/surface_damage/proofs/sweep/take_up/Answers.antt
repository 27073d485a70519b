use Rattle.std.proofs.Common.{refl}
use Rattle.surface_damage.proofs.SweepLemmas.{taken_up}
use Rattle.surface_damage.proofs.sweep.take_up.Goals as goal

pub loop-left-init : goal.loop-left-init
loop-left-init c = record { actives = c.requires.active; waits = c.requires.waiting; same = λ bx by. refl }

pub loop-left-preserved : goal.loop-left-preserved
loop-left-preserved c =
    taken_up c.args.image c.args.row c.partition_point-place.result c.loop-left.active.items c.loop-left.left.now _ _ _ _ c.loop-left.invariant c.in-len1-up.len_at_least c.if-row-area.false c.in_ok-insert.ensures.items
