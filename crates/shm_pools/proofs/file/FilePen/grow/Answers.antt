use Rattle.std.proofs.Common.{rules, w32, FitsSigned, ◌≡◌, ℤ, ◌*◌, ◌<◌, List, length, ap, ◌∙◌, sym, subst, arith}
use Rattle.std.specs.Prelude.{sum}
use Rattle.std.specs.Vec.{vec_len}
use Rattle.std.proofs.lemmas.Int.{to_z-of_z}
use Rattle.pool_words.specs.Views.{PenState}
use Rattle.shm_pools.specs.Files.{FileState, IsWhole, pen_sizes, pool_number}
use Rattle.shm_pools.proofs.Segments.{whole_push}
use Rattle.shm_pools.proofs.file.FilePen.grow.Goals as goal

pub invariant_of-self-2 : goal.invariant_of-self-2
invariant_of-self-2 c =
    let number : ℤ = c.self.inside.number in
    let fits : FitsSigned w32 number = search rules in
    let ps : List PenState = c.self.inside.pens.items in
    let same : ps ≡ c.args.self.now.segments = ap (λ (f : FileState). f.segments) c.self.view_is in
    let few : length ps < 64 = omega (arith, ap (λ (qs : List PenState). length qs) same, c.requires.room) in
    let more : c.self.inside.bytes < c.args.bytes =
    omega (arith, ap (λ (qs : List PenState). 8 * sum (pen_sizes qs)) same, c.self.invariant.0, c.requires.greater) in
    let counted : vec_len c.self.inside.pens ≡ length ps = search rules in
    let named = c.in_ok-pen.ensures.named.0 ∙ c.pool_number-number.ensures ∙ ap (λ z. pool_number z c.len.result) (to_z-of_z w32 number fits) ∙ ap (pool_number number) (c.len.ensures ∙ counted) in
    let pushed = whole_push number c.self.inside.bytes c.args.bytes ps c.in_ok-pen.pen c.self.invariant.0 c.self.invariant.1 c.requires.size few more c.in_ok-pen.ensures.named.1 named in
    subst (λ (qs : List PenState). (c.args.bytes ≡ 8 * sum (pen_sizes qs)) × IsWhole (record { number = number; segments = qs }))
    (sym c.in_ok-push.ensures.items) pushed
