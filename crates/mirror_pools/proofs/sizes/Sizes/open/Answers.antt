use Rattle.std.proofs.Common.{◌≡◌, ℕ, ℤ, Option, None, sym, ◌∙◌, ap, subst, w32, int_cmp}
use Rattle.std.proofs.lemmas.Int.{to_z-of_z}
use Rattle.std.proofs.lemmas.Result.{err_from_is_err_and}
use Rattle.std.specs.BTreeMap.{insert_entry}
use Rattle.mirror_pools.specs.Sizes.{ToldSizes, size_at, with_size, new_cause, open_cause, total, IsSound, IsSummed}
use Rattle.mirror_pools.proofs.SizeLemmas.{IsSummed-opened, IsSound-opened}
use Rattle.mirror_pools.proofs.sizes.Sizes.open.Goals as goal

pub returns-in_err-sum-clause-answer : goal.returns-in_err-sum-clause-answer
returns-in_err-sum-clause-answer c =
    let p = err_from_is_err_and c.from_residual.result c.from_residual.ensures.1 in
    let found : c.size.result ≡ size_at c.args.rid c.args.self.now =
    c.size.ensures.exact ∙ ap (λ (rid : ℤ). size_at rid c.args.self.now) (to_z-of_z w32 c.args.rid c.ranges.rid)
    in
    let sum : c.self.inside.sum ≡ total c.args.self.now = sym c.self.invariant.sum_is ∙ ap total c.self.view_is in
    rw (p.1, p.2) (
    sym (ap (λ (o : Option ℕ). new_cause o c.args.size c.self.inside.sum) found ∙ ap (new_cause _ c.args.size) sum)
    ∙ c.in_err-sum.ensures.tests)

pub returns-clause-answer : goal.returns-clause-answer
returns-clause-answer c =
    let found : c.size.result ≡ size_at c.args.rid c.args.self.now =
    c.size.ensures.exact ∙ ap (λ (rid : ℤ). size_at rid c.args.self.now) (to_z-of_z w32 c.args.rid c.ranges.rid)
    in
    let sum : c.self.inside.sum ≡ total c.args.self.now = sym c.self.invariant.sum_is ∙ ap total c.self.view_is in
    sym (ap (λ (o : Option ℕ). new_cause o c.args.size c.self.inside.sum) found ∙ ap (new_cause _ c.args.size) sum)
    ∙ c.in_ok-sum.ensures.tests

pub returns-clause-ok : goal.returns-clause-ok
returns-clause-ok c =
    c.in_ok-insert.ensures.entries
    ∙ ap (λ (key : ℤ). insert_entry int_cmp c.self.inside.sizes.entries key c.args.size) (to_z-of_z w32 c.args.rid c.ranges.rid)
    ∙ ap (with_size c.args.rid c.args.size) c.self.view_is

pub invariant_of-self-2 : goal.invariant_of-self-2
invariant_of-self-2 c =
    let sizes = c.self.inside.sizes.entries in
    let found : c.size.result ≡ size_at c.args.rid sizes =
    c.size.ensures.exact
    ∙ ap (λ (rid : ℤ). size_at rid c.args.self.now) (to_z-of_z w32 c.args.rid c.ranges.rid)
    ∙ sym (ap (size_at c.args.rid) c.self.view_is)
    in
    let is : c.insert.new.self.entries ≡ with_size c.args.rid c.args.size sizes =
    c.in_ok-insert.ensures.entries
    ∙ ap (λ (key : ℤ). insert_entry int_cmp sizes key c.args.size) (to_z-of_z w32 c.args.rid c.ranges.rid)
    in
    let passes : new_cause (size_at c.args.rid sizes) c.args.size c.self.inside.sum ≡ None =
    sym (ap (λ (o : Option ℕ). new_cause o c.args.size c.self.inside.sum) found) ∙ c.in_ok-sum.ensures.tests
    in
    let Sums : ToldSizes → Type 0 = λ all. IsSummed c.in_ok-sum.sum all in
    let Sum : ℕ → Type 0 = λ n. IsSummed n (with_size c.args.rid c.args.size sizes) in
    subst Sums (sym is) (
    subst Sum (sym c.in_ok-sum.ensures.sum)
    (IsSummed-opened c.args.rid c.args.size c.self.inside.sum sizes c.self.invariant passes))

pub returns-clause-sound : goal.returns-clause-sound
returns-clause-sound c =
    let found : c.size.result ≡ size_at c.args.rid c.args.self.now =
    c.size.ensures.exact ∙ ap (λ (rid : ℤ). size_at rid c.args.self.now) (to_z-of_z w32 c.args.rid c.ranges.rid)
    in
    let sum : c.self.inside.sum ≡ total c.args.self.now = sym c.self.invariant.sum_is ∙ ap total c.self.view_is in
    let passes : open_cause c.args.rid c.args.size c.args.self.now ≡ None =
    sym (ap (λ (found : Option ℕ). new_cause found c.args.size c.self.inside.sum) found ∙ ap (new_cause _ c.args.size) sum)
    ∙ c.in_ok-sum.ensures.tests
    in
    let is : c.insert.new.self.entries ≡ with_size c.args.rid c.args.size c.args.self.now =
    c.in_ok-insert.ensures.entries
    ∙ ap (λ (key : ℤ). insert_entry int_cmp c.self.inside.sizes.entries key c.args.size) (to_z-of_z w32 c.args.rid c.ranges.rid)
    ∙ ap (with_size c.args.rid c.args.size) c.self.view_is
    in
    let Sound : ToldSizes → Type 0 = λ all. IsSound all in
    subst Sound (sym is) (IsSound-opened c.args.rid c.args.size c.args.self.now c.size.ensures.sound passes)
