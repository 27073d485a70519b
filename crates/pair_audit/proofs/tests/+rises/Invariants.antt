use Rattle.std.proofs.Common.{length}
use Rattle.pair_audit.proofs.tests.+rises.Given as goal

abbrev pub decreases-rises : goal.decreases-rises
decreases-rises l = length l.rows.now
