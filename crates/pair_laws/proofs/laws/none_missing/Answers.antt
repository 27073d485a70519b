use Rattle.pair_laws.proofs.Everything.{drained_has_everything, closed_has_everything}
use Rattle.pair_laws.proofs.Emptying.{empty_is_drained}
use Rattle.pair_laws.proofs.laws.none_missing.Goals as goal

pub returns-clause-drained : goal.returns-clause-drained
returns-clause-drained c = drained_has_everything

pub returns-clause-closed : goal.returns-clause-closed
returns-clause-closed c = closed_has_everything

pub returns-clause-empty : goal.returns-clause-empty
returns-clause-empty c = empty_is_drained
