use Rattle.std.proofs.Common.{◌≡◌, length}
use Rattle.part_speed.proofs.copies.sum_by_one.Given as goal

abbrev pub invariant-loop-time : goal.invariant-loop-time
invariant-loop-time l = (l.pen.words ≡ l.words) × (length l.list ≡ l.words)
