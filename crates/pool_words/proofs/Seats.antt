-- What a change of one view asks of the other views.
use Rattle.std.proofs.Common.{◌≡◌, ◌≢◌, ℕ, List, set, sym, subst, ⊎_elim}
use mathlib.Core.Option.{some}
use lib.ListN.{get_elem?}
use Rattle.atomic_table.proofs.Lists.{at_set}
use Rattle.pool_words.specs.declared.views.Write.{Write}
use Rattle.pool_words.specs.declared.views.View.{View}
use Rattle.pool_words.specs.Pool.{Fits}

-- Where the view of one seat is changed, the others fit as they did
pub fits_set : (pen : ℕ) (h : List Write) (n : ℕ) (views : List View) (seat : ℕ) (w : View)
    → ((j : ℕ) (u : View) → j ≢ seat → get_elem? views j ≡ some u → Fits pen h n j u) → Fits pen h n seat w
    → (j : ℕ) (u : View) → get_elem? (set views seat w) j ≡ some u → Fits pen h n j u
fits_set pen h n views seat w others mine j u e =
    ⊎_elim
    (λ (x : (j ≡ seat) × (w ≡ u)). subst (λ (y : ℕ × View). Fits pen h n y.0 y.1) (λ i. (sym x.0 i, x.1 i)) mine)
    (λ (x : (j ≢ seat) × (get_elem? views j ≡ some u)). others j u x.0 x.1)
    (at_set views seat j w u e)
