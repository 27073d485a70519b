use Rattle.std.proofs.Common.{◌≡◌, ℕ, take, subst, sym, IsTrue}
use Rattle.wl_wire.specs.Wire.{word_at}
use Rattle.wl_wire.specs.Arguments.{IsWord}
use Rattle.wl_wire.proofs.ArgReading.{object_size-ok, is_word}
use Rattle.wl_wire.proofs.arg_views.object_view.Goals as goal

pub word_from-requires : goal.word_from-requires
word_from-requires c = (object_size-ok c.args.null c.args.bytes.now c.args.size c.requires).0

pub returns : goal.returns
returns c =
    let ok = object_size-ok c.args.null c.args.bytes.now c.args.size c.requires in
    let P : ℕ → Type 0 = λ value. (value ≡ 0 → IsTrue c.args.null) × IsWord (take c.args.size c.args.bytes.now) value in
    let Q : ℕ → Type 0 = λ size. IsWord (take size c.args.bytes.now) (word_at c.args.bytes.now 0) in
    subst P (sym c.word_from.ensures) (ok.2, subst Q (sym ok.1) (is_word c.args.bytes.now ok.0))
