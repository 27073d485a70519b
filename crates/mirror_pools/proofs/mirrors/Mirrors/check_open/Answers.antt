use Rattle.std.proofs.Common.{◌≡◌, ℕ, ℤ, Option, sym, ◌∙◌, ap, w32}
use Rattle.std.proofs.lemmas.Int.{to_z-of_z}
use Rattle.std.proofs.lemmas.Result.{err_from_is_err_and}
use Rattle.mirror_pools.specs.Mirrors.{MirrorsState, sizes_of}
use Rattle.mirror_pools.specs.Sizes.{size_at, total, new_cause}
use Rattle.mirror_pools.proofs.mirrors.Mirrors.check_open.Goals as goal

pub returns-in_err-sum_if_opened : goal.returns-in_err-sum_if_opened
returns-in_err-sum_if_opened c =
    let p = err_from_is_err_and c.from_residual.result c.from_residual.ensures.1 in
    let found : c.size.result ≡ size_at c.args.rid (sizes_of c.args.self.now) =
    c.size.ensures.exact ∙ ap (λ (rid : ℤ). size_at rid (sizes_of c.args.self.now)) (to_z-of_z w32 c.args.rid c.ranges.rid)
    in
    let sum : c.self.inside.sum ≡ total (sizes_of c.args.self.now) =
    sym c.self.invariant.sum_is ∙ ap (λ (m : MirrorsState). total (sizes_of m)) c.self.view_is
    in
    rw (p.1, p.2) (
    sym (ap (λ (o : Option ℕ). new_cause o c.args.size c.self.inside.sum) found ∙ ap (new_cause _ c.args.size) sum)
    ∙ c.in_err-sum_if_opened.ensures.tests)

pub returns : goal.returns
returns c =
    let found : c.size.result ≡ size_at c.args.rid (sizes_of c.args.self.now) =
    c.size.ensures.exact ∙ ap (λ (rid : ℤ). size_at rid (sizes_of c.args.self.now)) (to_z-of_z w32 c.args.rid c.ranges.rid)
    in
    let sum : c.self.inside.sum ≡ total (sizes_of c.args.self.now) =
    sym c.self.invariant.sum_is ∙ ap (λ (m : MirrorsState). total (sizes_of m)) c.self.view_is
    in
    sym (ap (λ (o : Option ℕ). new_cause o c.args.size c.self.inside.sum) found ∙ ap (new_cause _ c.args.size) sum)
    ∙ c.in_ok-sum_if_opened.ensures.tests
