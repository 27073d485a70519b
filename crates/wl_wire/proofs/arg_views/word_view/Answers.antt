use Rattle.std.proofs.Common.{ℕ, take, subst, sym}
use Rattle.std.specs.Int.{cast_signed, w32}
use Rattle.wl_wire.specs.Wire.{word_at}
use Rattle.wl_wire.specs.Arguments.{IsWord, IsSigned}
use Rattle.wl_wire.proofs.ArgReading.{word_size-ok, is_word, is_signed}
use Rattle.wl_wire.proofs.arg_views.word_view.Goals as goal

pub word_from-requires : goal.word_from-requires
word_from-requires c = (word_size-ok c.args.bytes.now c.args.size c.requires).0

pub returns-clause-word : goal.returns-clause-word
returns-clause-word c =
    let ok = word_size-ok c.args.bytes.now c.args.size c.requires in
    let P : ℕ → ℕ → Type 0 = λ size value. IsWord (take size c.args.bytes.now) value in
    subst (P c.args.size) (sym c.word_from.ensures) (subst (λ (size : ℕ). P size (word_at c.args.bytes.now 0)) (sym ok.1) (is_word c.args.bytes.now ok.0))

pub returns-clause-signed : goal.returns-clause-signed
returns-clause-signed c =
    let ok = word_size-ok c.args.bytes.now c.args.size c.requires in
    let P : ℕ → ℕ → Type 0 = λ size value. IsSigned (take size c.args.bytes.now) (cast_signed w32 value) in
    subst (P c.args.size) (sym c.word_from.ensures) (subst (λ (size : ℕ). P size (word_at c.args.bytes.now 0)) (sym ok.1) (is_signed c.args.bytes.now ok.0))
