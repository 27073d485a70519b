use Rattle.std.proofs.Common.{◌≡◌, ◌-◌, ℕ, List, take, drop, subst, sym, ap, ◌∙◌, arith}
use Rattle.wl_wire.specs.Wire.{word_at}
use Rattle.wl_wire.specs.Arguments.{IsBind}
use Rattle.wl_wire.proofs.ArgReading.{IsBound, bind_size-ok, is_bind, span-counts}
use Rattle.wl_wire.proofs.arg_views.bind_view.Goals as goal

pub overflow_sub-count : goal.overflow_sub-count
overflow_sub-count c =
    let bound : IsBound c.args.bytes.now c.args.size = bind_size-ok c.args.bytes.now c.args.size c.requires in
    omega (arith, bound.is_name.some, c.word_from-count.ensures)

pub counted-requires : goal.counted-requires
counted-requires c =
    let bound : IsBound c.args.bytes.now c.args.size = bind_size-ok c.args.bytes.now c.args.size c.requires in
    omega (arith, bound.is_name.some, bound.is_name.whole, span-counts c.args.bytes.now, c.word_from-count.ensures)

pub returns : goal.returns
returns c =
    let bound : IsBound c.args.bytes.now c.args.size = bind_size-ok c.args.bytes.now c.args.size c.requires in
    let P : List ℕ → ℕ → ℕ → Type 0 = λ name version id. IsBind (take c.args.size c.args.bytes.now) name version id in
    let name : take (word_at c.args.bytes.now 0 - 1) (drop 4 c.args.bytes.now) ≡ c.counted.result.now =
    ap (λ n. take (n - 1) (drop 4 c.args.bytes.now)) (sym c.word_from-count.ensures) ∙ sym c.counted.ensures in
    subst (λ (id : ℕ). P c.counted.result.now c.word_from-version.result id) (sym c.word_from-id.ensures)
    (subst (λ (version : ℕ). P c.counted.result.now version (word_at c.args.bytes.now (c.args.size - 4))) (sym c.word_from-version.ensures)
    (subst (λ (text : List ℕ). P text (word_at c.args.bytes.now (c.args.size - 8)) (word_at c.args.bytes.now (c.args.size - 4))) name
    (is_bind c.args.bytes.now c.args.size bound)))
