use Rattle.std.proofs.Common.{◌≡◌, length}
use Rattle.part_speed.proofs.words.sum_of_loads.Given as goal

abbrev pub invariant-loop-time : goal.invariant-loop-time
invariant-loop-time l = (l.pen.words ≡ l.words) × (length l.out.items ≡ l.words)
