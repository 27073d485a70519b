use Rattle.std.proofs.Common.{◌*◌, ◌-◌}
use Rattle.copy_workers.proofs.threads.+copy_halves+fn-copy_halves-join+arg2+fn-copy_halves-join+arg3.Given as goal

abbrev pub decreases-copy_halves : goal.decreases-copy_halves
decreases-copy_halves g l = 2 * l.halvings

abbrev pub decreases-join+arg2 : goal.decreases-join+arg2
decreases-join+arg2 g l = 2 * l.halvings - 1

abbrev pub decreases-join+arg3 : goal.decreases-join+arg3
decreases-join+arg3 g l = 2 * l.halvings - 1
