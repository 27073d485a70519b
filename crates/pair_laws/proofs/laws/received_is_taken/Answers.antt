use Rattle.pair_laws.proofs.Passing.{order_is_told, order_has_both}
use Rattle.pair_laws.proofs.Receiving.{received_is_taken}
use Rattle.pair_laws.proofs.Rids.{rids_in_order}
use Rattle.pair_laws.proofs.Sending.{sent_is_shown}
use Rattle.pair_laws.proofs.laws.received_is_taken.Goals as goal

pub returns-clause-received : goal.returns-clause-received
returns-clause-received c = received_is_taken

pub returns-clause-sent : goal.returns-clause-sent
returns-clause-sent c = sent_is_shown

pub returns-clause-order : goal.returns-clause-order
returns-clause-order c = order_is_told

pub returns-clause-both : goal.returns-clause-both
returns-clause-both c = order_has_both

pub returns-clause-rids : goal.returns-clause-rids
returns-clause-rids c = rids_in_order
