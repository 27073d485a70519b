use Rattle.pair_trials.proofs.image.Image.fill.Given as goal

abbrev pub invariant-loop-word : goal.invariant-loop-word
invariant-loop-word l = Unit {0}
