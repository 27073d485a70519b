use Rattle.pair_model.proofs.RingProofs.{new_ring, made_in_ring, pushed, pushed_all, acked, at_index}
use Rattle.pair_model.proofs.laws.ring_is_kept.Goals as goal

pub returns-clause-new : goal.returns-clause-new
returns-clause-new c = new_ring

pub returns-clause-made : goal.returns-clause-made
returns-clause-made c = made_in_ring

pub returns-clause-pushed : goal.returns-clause-pushed
returns-clause-pushed c = pushed

pub returns-clause-all : goal.returns-clause-all
returns-clause-all c = pushed_all

pub returns-clause-acked : goal.returns-clause-acked
returns-clause-acked c = acked

pub returns-clause-at : goal.returns-clause-at
returns-clause-at c = at_index
