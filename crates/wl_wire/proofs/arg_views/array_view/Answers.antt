use Rattle.std.proofs.Common.{◌≡◌, ℕ, List, take, drop, subst, sym, ap, ◌∙◌, arith}
use Rattle.wl_wire.specs.Wire.{word_at}
use Rattle.wl_wire.specs.Arguments.{IsCounted}
use Rattle.wl_wire.proofs.ArgReading.{array_size-ok, is_counted, span-counts}
use Rattle.wl_wire.proofs.arg_views.array_view.Goals as goal

pub word_from-count-requires : goal.word_from-count-requires
word_from-count-requires c = (array_size-ok c.args.bytes.now c.args.size c.requires).0

pub counted-requires : goal.counted-requires
counted-requires c =
    let ok = array_size-ok c.args.bytes.now c.args.size c.requires in
    omega (arith, ok.2, span-counts c.args.bytes.now, c.word_from-count.ensures)

pub returns : goal.returns
returns c =
    let ok = array_size-ok c.args.bytes.now c.args.size c.requires in
    let P : List ℕ → Type 0 = λ content. IsCounted (take c.args.size c.args.bytes.now) content in
    let Q : ℕ → Type 0 = λ size. IsCounted (take size c.args.bytes.now) (take (word_at c.args.bytes.now 0) (drop 4 c.args.bytes.now)) in
    let content : take (word_at c.args.bytes.now 0) (drop 4 c.args.bytes.now) ≡ c.counted.result.now =
    ap (λ n. take n (drop 4 c.args.bytes.now)) (sym c.word_from-count.ensures) ∙ sym c.counted.ensures in
    subst P content (subst Q (sym ok.1) (is_counted c.args.bytes.now ok.0 ok.2))
