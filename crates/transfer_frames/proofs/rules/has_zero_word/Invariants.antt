use Rattle.std.proofs.Common.{◌≡◌, ◌==◌, length}
use Rattle.std.specs.List.{list_any}
use Rattle.transfer_frames.specs.Numbers.{words_of}
use Rattle.transfer_frames.proofs.rules.has_zero_word.Given as goal

abbrev pub invariant-words : goal.invariant-words
invariant-words l = list_any (λ word. word == 0) (words_of l.rest) ≡ list_any (λ word. word == 0) (words_of l.bytes)

abbrev pub decreases-words : goal.decreases-words
decreases-words l = length l.rest
