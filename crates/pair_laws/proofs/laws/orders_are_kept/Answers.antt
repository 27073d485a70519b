use Rattle.pair_laws.proofs.Orders.{writes_in_time, hears_behind}
use Rattle.pair_laws.proofs.Taking.{each_is_shown}
use Rattle.pair_laws.proofs.laws.orders_are_kept.Goals as goal

pub returns-clause-shown : goal.returns-clause-shown
returns-clause-shown c = each_is_shown

pub returns-clause-writes : goal.returns-clause-writes
returns-clause-writes c = writes_in_time

pub returns-clause-hears : goal.returns-clause-hears
returns-clause-hears c = hears_behind
