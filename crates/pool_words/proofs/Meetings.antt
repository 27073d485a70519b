-- The two kinds of step in which two seats meet, each of which keeps the rule.
use Rattle.std.proofs.Common.{◌≡◌, ◌≢◌, ℕ, ◌+◌, ◌≤◌, max, List, ◌++◌, length, set, sym, ap, ◌∙◌, subst, arith}
use Rattle.std.specs.Prelude.{All}
use Rattle.std.proofs.lemmas.List.Elements.{All-weaker, All-append}
use mathlib.Core.Option.{some}
use lib.ListN.{get_elem?}
use Rattle.atomic_table.specs.Table.{Joins}
use Rattle.atomic_table.proofs.Lists.{set_else}
use Rattle.pool_words.specs.declared.views.Write.{Write}
use Rattle.pool_words.specs.declared.views.Load.{Load}
use Rattle.pool_words.specs.declared.views.View.{View}
use Rattle.pool_words.specs.declared.views.View.TheVariants.{Writing, Shown, Spent}
use Rattle.pool_words.specs.History.{HasStood}
use Rattle.pool_words.specs.Pool.{Kept, Fits, IsShown}
use Rattle.pool_words.proofs.Seats.{fits_set}
use Rattle.pool_words.proofs.Steps.{set_at}

-- the view of a seat other than the one that was changed
still : (views : List View) (id other : ℕ) (w u : View) → ¬ (other ≡ id) → get_elem? (set views id w) other ≡ some u → get_elem? views other ≡ some u
still views id other w u apart e = sym (set_else views id other w apart) ∙ e

module _ {S : Type 0} where
  pub absorbs_receipt : (words id other high more : ℕ) (loads added : List Load)
      → Joins {S = S} (Kept words) id (Shown high loads) other (Shown more added) (Shown (max high more) (loads ++ added)) Spent
  absorbs_receipt words id other high more loads added t k here apart there =
      let both : View = Shown (max high more) (loads ++ added) in
      let mine : Fits k.pen k.history k.stored_count id (Shown high loads) = k.fits id (Shown high loads) here in
      let was : get_elem? t.views other ≡ some (Shown more added) = still t.views id other both (Shown more added) apart there in
      let theirs : Fits k.pen k.history k.stored_count other (Shown more added) = k.fits other (Shown more added) was in
      let wider : (high' : ℕ) → high' ≤ max high more → (l : Load) → IsShown k.history high' l → IsShown k.history (max high more) l =
      λ high' le l s. (omega (arith, s.0, le), s.1) in
      let fit : Fits k.pen k.history k.stored_count id both = (
        omega (arith, mine.0, theirs.0),
        All-append (IsShown k.history (max high more)) loads added
            (All-weaker (IsShown k.history high) (IsShown k.history (max high more)) (wider high (omega arith)) loads mine.1)
            (All-weaker (IsShown k.history more) (IsShown k.history (max high more)) (wider more (omega arith)) added theirs.1),
      ) in
      let not_pen : (seat h : ℕ) (ls : List Load) → get_elem? t.views seat ≡ some (Shown h ls) → k.pen ≢ seat =
      λ seat h ls at e. absurd (cc) in
      record {
        pen = k.pen;
        history = k.history;
        stored_count = k.stored_count;
        settled = k.settled;
        at_pen = set_else (set t.views id both) other k.pen Spent (not_pen other more added was) ∙ set_else t.views id k.pen both (not_pen id high loads here) ∙ k.at_pen;
        pending = k.pending;
        sized = k.sized;
        counted = k.counted;
        held = k.held;
        fits = fits_set k.pen k.history k.stored_count (set t.views id both) other Spent
            (λ j u _ e. fits_set k.pen k.history k.stored_count t.views id both (λ i v _ e'. k.fits i v e') fit j u e)
            tt;
      }

  pub settles_receipt : (words id other n high : ℕ) (h : List Write) (settled loads : List Load)
      → Joins {S = S} (Kept words) id (Writing h n settled) other (Shown high loads) (Writing h n (settled ++ loads)) Spent
  settles_receipt words id other n high h settled loads t k here apart there =
      let both : View = Writing h n (settled ++ loads) in
      let mine : Fits k.pen k.history k.stored_count id (Writing h n settled) = k.fits id (Writing h n settled) here in
      let was : get_elem? t.views other ≡ some (Shown high loads) = still t.views id other both (Shown high loads) apart there in
      let theirs : Fits k.pen k.history k.stored_count other (Shown high loads) = k.fits other (Shown high loads) was in
      let stood : All (HasStood k.history) loads =
      All-weaker (IsShown k.history high) (HasStood k.history) (λ l s. (omega (arith, theirs.0, s.0), s.1)) loads theirs.1 in
      let fit : Fits k.pen k.history k.stored_count id both =
      (mine.0, mine.1, mine.2, All-append (HasStood k.history) settled loads mine.3 stood) in
      record {
        pen = k.pen;
        history = h;
        stored_count = n;
        settled = settled ++ loads;
        at_pen = subst (λ (p : ℕ). get_elem? (set (set t.views id both) other Spent) p ≡ some both) mine.0
            (set_else (set t.views id both) other id Spent (λ e. apart (sym e)) ∙ set_at t.views id (Writing h n settled) both here);
        pending = subst (λ (p : List Write × ℕ). (p.1 ≤ length p.0) × (length p.0 ≤ p.1 + 1)) (λ i. (sym mine.1 i, sym mine.2 i)) k.pending;
        sized = k.sized;
        counted = k.counted ∙ sym (ap length mine.1);
        held = λ i lt. k.held i lt ∙ (λ a. Rattle.pool_words.specs.History.at (sym mine.1 a) (sym mine.2 a) i);
        fits = λ j u e. subst (λ (p : List Write × ℕ). Fits k.pen p.0 p.1 j u) (λ i. (sym mine.1 i, sym mine.2 i))
            (fits_set k.pen k.history k.stored_count (set t.views id both) other Spent
            (λ j' u' _ e'. fits_set k.pen k.history k.stored_count t.views id both (λ i v _ e''. k.fits i v e'') fit j' u' e')
            tt j u e);
      }
