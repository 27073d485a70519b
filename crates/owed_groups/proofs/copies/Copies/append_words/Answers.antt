use Rattle.std.proofs.Common.{◌++◌, ◌∙◌, ℕ, List, ap, arith, take, drop}
use Rattle.half_model.specs.Filling.{words_bytes}
use Rattle.owed_groups.proofs.WordLemmas.{take_of, skip_of, drop_step}
use Rattle.owed_groups.proofs.copies.Copies.append_words.Goals as goal

pub loop-left-preserved-then-place-words : goal.loop-left-preserved-then-place-words
loop-left-preserved-then-place-words c = record {
  bytes =
      take_of c.self.inside.slots.items c.loop-left.place.job c.loop-left.place.word c.min-next.result c.loop-left.left c.index.result.now c.words-words.result.now
      c.loop-left.out.items c.append_some.new.out.items c.words-words.ensures c.index.ensures (omega (arith, c.if-place-len.true, c.len.ensures))
      (omega (arith, c.if-place-words.true, c.min-next.ensures)) (omega (arith, c.min-next.ensures)) c.in_ok-append_some.ensures
      ∙ c.loop-left.invariant.bytes;
  rest =
      drop_step c.self.inside.slots.items c.loop-left.place.job c.loop-left.place.word c.min-next.result c.loop-left.left (omega (arith, c.min-next.ensures))
      ∙ c.loop-left.invariant.rest;
}

pub loop-left-preserved : goal.loop-left-preserved
loop-left-preserved c =
    let same = skip_of c.self.inside.slots.items c.loop-left.place.job c.loop-left.place.word c.index.result.now c.words-words.result.now c.words-words.ensures c.index.ensures
    (omega (arith, c.if-place-len.true, c.len.ensures)) (omega (arith, c.if-place-words.false)) in
    record {
      bytes = ap (λ (xs : List ℕ). c.loop-left.out.items ++ words_bytes (take c.loop-left.left xs)) same ∙ c.loop-left.invariant.bytes;
      rest = ap (λ (xs : List ℕ). drop c.loop-left.left xs) same ∙ c.loop-left.invariant.rest;
    }
