use Rattle.std.proofs.Common.{◌∙◌, sym, arith}
use Rattle.transfer_frames.proofs.WordLemmas.{zero_here, zero_later, zero_nowhere}
use Rattle.transfer_frames.proofs.rules.has_zero_word.Goals as goal

pub words-preserved : goal.words-preserved
words-preserved c =
    sym (zero_later c.words.rest.now c.split_at.result.1.now (omega arith)
    (λ zero. c.if-word_at-eq0.false (c.word_at.ensures ∙ zero)) c.split_at.ensures.back)
    ∙ c.words.invariant

pub returns-then-word_at-eq0 : goal.returns-then-word_at-eq0
returns-then-word_at-eq0 c =
    sym (zero_here c.words.rest.now (omega arith) (sym c.word_at.ensures ∙ c.if-word_at-eq0.true)) ∙ c.words.invariant

pub returns : goal.returns
returns c = sym (zero_nowhere c.words.rest.now (omega arith)) ∙ c.words.invariant
