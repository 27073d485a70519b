use Rattle.std.proofs.Common.{arith}
use Rattle.block_intervals.proofs.PlaceLemmas.{touched_none, touched_last}
use Rattle.block_intervals.proofs.places.place_at_end.Goals as goal

pub returns-then-last-new : goal.returns-then-last-new
returns-then-last-new c = touched_none _ _ _ c.requires.rises (omega arith) c.if-last-new.true

pub returns-then-last-new-2 : goal.returns-then-last-new-2
returns-then-last-new-2 c = touched_last _ _ _ c.requires.rises (omega arith) c.requires.some c.if-last-new.false c.if-last-new-2.true
