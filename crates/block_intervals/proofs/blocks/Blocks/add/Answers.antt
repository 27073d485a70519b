use Rattle.std.proofs.Common.{sym, ap, ◌∙◌, ◌≡◌, ◌<◌, ◌-◌, ◌||◌, ℕ, List, ◌∷◌, ◌++◌, take, drop, subst, Result, Ok, Err, OnOk, OnErr}
use Rattle.std.specs.List.{fold}
use Rattle.block_intervals.specs.declared.run.Run.{Run}
use Rattle.block_intervals.specs.Sets.{has, lies_within, Rises}
use Rattle.block_intervals.specs.Places.{AreTouched, spanning}
use Rattle.block_intervals.proofs.PlaceLemmas.{placed_rises, placed_has}
use Rattle.block_intervals.proofs.blocks.Blocks.add.Goals as goal

-- the runs after the call, where it had the memory
written : (old searched joined new : List Run) (s whole : Run) (from to : ℕ) → searched ≡ old → joined ≡ old → whole ≡ fold spanning s (take (to - from) (drop from joined)) → new ≡ take from old ++ whole ∷ drop to old → new ≡ take from searched ++ fold spanning s (take (to - from) (drop from searched)) ∷ drop to searched
written old searched joined new s whole from to e f g h =
    h ∙ ap (λ t. take from old ++ t ∷ drop to old) (g ∙ ap (λ t. fold spanning s (take (to - from) (drop from t))) f)
    ∙ ap (λ t. take from t ++ fold spanning s (take (to - from) (drop from t)) ∷ drop to t) (sym e)

rises_after : {E : Type 0} (r : Result (Unit {0}) E) (old searched joined new : List Run) (s whole : Run) (from to : ℕ) → AreTouched searched s from to → s.first < s.end → Rises old → searched ≡ old → joined ≡ old → whole ≡ fold spanning s (take (to - from) (drop from joined)) → OnOk r (new ≡ take from old ++ whole ∷ drop to old) → OnErr r (new ≡ old) → Rises new
rises_after (Ok u) old searched joined new s whole from to t some h e f g ok err =
    subst Rises (sym (written old searched joined new s whole from to e f g ok)) (placed_rises searched s from to t some (subst Rises (sym e) h))
rises_after (Err x) old searched joined new s whole from to t some h e f g ok err = subst Rises (sym err) h

has_after : {E : Type 0} (r : Result (Unit {0}) E) (old searched joined new shown : List Run) (s whole : Run) (from to : ℕ) → AreTouched searched s from to → searched ≡ old → joined ≡ old → old ≡ shown → whole ≡ fold spanning s (take (to - from) (drop from joined)) → OnOk r (new ≡ take from old ++ whole ∷ drop to old) → OnOk r ((b : ℕ) → has b new ≡ (has b shown || lies_within s.first s.end b))
has_after (Ok u) old searched joined new shown s whole from to t e f v g ok =
    λ b. ap (has b) (written old searched joined new s whole from to e f g ok) ∙ placed_has searched s from to t b ∙ ap (λ xs. has b xs || lies_within s.first s.end b) (e ∙ v)
has_after (Err x) old searched joined new shown s whole from to t e f v g ok = tt

pub invariant_of-self : goal.invariant_of-self
invariant_of-self c =
    rises_after c.replace_runs.result _ _ _ _ _ _ _ _ c.find_place-place.ensures c.requires c.self.invariant c.deref.ensures.value c.deref-2.ensures.value c.spanning_all-whole.ensures c.replace_runs.ensures.ok c.replace_runs.ensures.err

pub returns-clause-ok : goal.returns-clause-ok
returns-clause-ok c =
    has_after c.replace_runs.result _ _ _ _ _ _ _ _ _ c.find_place-place.ensures c.deref.ensures.value c.deref-2.ensures.value c.self.view_is c.spanning_all-whole.ensures c.replace_runs.ensures.ok

pub returns-clause-rises : goal.returns-clause-rises
returns-clause-rises c = invariant_of-self c
