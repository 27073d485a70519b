use Rattle.std.proofs.Common.{length}
use Rattle.surface_damage.proofs.SweepLemmas.{IsTakingUp}
use Rattle.surface_damage.proofs.sweep.take_up.Given as goal

abbrev pub invariant-loop-left : goal.invariant-loop-left
invariant-loop-left l = IsTakingUp l.fn.image l.row l.active.items l.left l.initial.active.items l.initial.left

abbrev pub decreases-loop-left : goal.decreases-loop-left
decreases-loop-left l = length l.left
