use Rattle.pair_laws.proofs.KeptOrders.{orders_are_kept}
use Rattle.pair_laws.proofs.Orders.{heard_was_made}
use Rattle.pair_laws.proofs.laws.heard_was_made.Goals as goal

pub returns-clause-made : goal.returns-clause-made
returns-clause-made c = heard_was_made

pub returns-clause-orders : goal.returns-clause-orders
returns-clause-orders c = orders_are_kept
