use Rattle.std.proofs.Common.{ap, ◌∙◌, arith}
use Rattle.std.specs.Prelude.{ℤ}
use Rattle.std.specs.Int.{w32, cast_signed, cast_unsigned}
use Rattle.std.proofs.lemmas.Int.{of_z-to_z}
use Rattle.transfer_frames.proofs.WordLemmas.{word_read, words_read}
use Rattle.transfer_frames.proofs.reading.rids_of.Goals as goal

pub words-preserved : goal.words-preserved
words-preserved c =
    word_read (cast_signed w32) _ c.words.rids.items c.push.new.self.items c.words.rest.now c.split_at.result.1.now _
    c.words.invariant (omega arith) c.split_at.ensures.back
    (ap (λ (z : ℤ). cast_signed w32 (cast_unsigned w32 z)) c.cast_signed.ensures
    ∙ ap (cast_signed w32) (of_z-to_z w32 c.word_at.result (omega arith) ∙ c.word_at.ensures)) c.in_ok-push.ensures.items

pub returns : goal.returns
returns c = c.from_vec.ensures ∙ words_read (cast_signed w32) _ c.words.rids.items c.words.rest.now c.words.invariant (omega arith)
