use Rattle.std.proofs.Common.{◌≡◌, ◌++◌, length}
use Rattle.half_model.specs.Filling.{words_bytes}
use Rattle.owed_groups.proofs.copies.words.append_all.Given as goal

abbrev pub invariant-loop-left : goal.invariant-loop-left
invariant-loop-left l =
    l.out.items ++ words_bytes l.left ≡ l.fn.out.items ++ words_bytes l.words

abbrev pub decreases-loop-left : goal.decreases-loop-left
decreases-loop-left l = length l.left
