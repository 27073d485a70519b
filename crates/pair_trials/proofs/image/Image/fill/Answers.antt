use Rattle.pair_trials.proofs.ImageLemmas.{kept_sizes}
use Rattle.pair_trials.proofs.image.Image.fill.Goals as goal

pub invariant_of-self : goal.invariant_of-self
invariant_of-self c = record {
  words = kept_sizes c.write.result c.loop-word.self.pen c.write.new.self c.loop-word.word
      c.args.value c.write.ensures.ok c.write.ensures.unchanged c.loop-word.self.words;
}
