use Rattle.std.proofs.Common.{ℤ, ℕ, Option, ◌∙◌, ap, subst, w32}
use Rattle.std.proofs.lemmas.Int.{to_z-of_z}
use Rattle.mirror_pools.specs.Answers.{Tests}
use Rattle.mirror_pools.specs.Sizes.{range_cause, size_at}
use Rattle.mirror_pools.proofs.sizes.Sizes.fill.Goals as goal

pub returns-clause-answer : goal.returns-clause-answer
returns-clause-answer c =
    let P : Option ℕ → Type 0 = λ found. Tests c.check_range.result (range_cause found c.args.end) in
    subst P (c.size.ensures.exact ∙ ap (λ (rid : ℤ). size_at rid c.args.self.now) (to_z-of_z w32 c.args.rid c.ranges.rid)) c.check_range.ensures
