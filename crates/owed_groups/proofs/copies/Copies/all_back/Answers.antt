use Rattle.std.proofs.Common.{ℕ, eqb, List, ◌∙◌, sym, ap}
use Rattle.half_model.specs.Jobs.{Job, all_back}
use Rattle.owed_groups.proofs.SlotLemmas.{all_here}
use Rattle.owed_groups.proofs.copies.Copies.all_back.Goals as goal

pub returns : goal.returns
returns c =
    sym (ap (λ (jobs : List Job). all_back jobs) (sym c.self.view_is) ∙ all_here c.self.inside.slots.items
    ∙ ap (λ (n : ℕ). eqb n 0) c.self.invariant.lacks)
