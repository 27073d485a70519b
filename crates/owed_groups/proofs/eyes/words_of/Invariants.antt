use Rattle.std.proofs.Common.{◌≡◌, ◌++◌, drop}
use Rattle.owed_groups.specs.JobSteps.{eyes_words}
use Rattle.owed_groups.proofs.eyes.words_of.Given as goal

abbrev pub invariant-loop-eye : goal.invariant-loop-eye
invariant-loop-eye l = l.words ++ eyes_words (drop l.eye-index l.eyes) ≡ eyes_words l.eyes
