use Rattle.std.proofs.Common.{◌≡◌}
use Rattle.part_speed.proofs.words.count_of_writes.Given as goal

abbrev pub invariant-loop-word : goal.invariant-loop-word
invariant-loop-word l = l.pen.words ≡ l.words

abbrev pub invariant-loop-time : goal.invariant-loop-time
invariant-loop-time l = l.pen.words ≡ l.words
