use Rattle.std.proofs.Common.{◌≡◌, length}
use Rattle.part_speed.proofs.copies.sum_of_atomics.Given as goal

-- one word is there for each number so far
abbrev pub invariant-loop : goal.invariant-loop
invariant-loop l = length l.from.items ≡ l.counter

abbrev pub invariant-loop-time : goal.invariant-loop-time
invariant-loop-time l = (length l.from.items ≡ l.words) × (length l.out.items ≡ l.words)
