-- The six kinds of step of one seat alone, each of which keeps the rule.
use Rattle.std.proofs.Common.{◌≡◌, ◌≢◌, ℕ, zero, suc, ◌+◌, ◌<◌, ◌≤◌, List, [], ◌∷◌, ◌++◌, length, map, set, sym, refl, ap, ◌∙◌, subst, ⊎_elim, arith, length-append}
use Rattle.std.specs.Prelude.{All, slice_index, slice_set}
use Rattle.std.proofs.lemmas.List.{set-get_or, length-set, get_or-set_same, get_or-set_other, get_or-replicate, length-replicate}
use Rattle.std.proofs.lemmas.List.Elements.{All-weaker, All-push, All-map, All-nil}
use mathlib.Core.Option.{some, some-injective, some-ne-none}
use native.Mathlib.Decide.{ℕ_discrete}
use lib.ListN.{get_elem?, replicate}
use Rattle.atomic_table.specs.Table.{State, step, keeps, Allows, Splits, opening}
use Rattle.atomic_table.proofs.Lists.{at_snoc, set_else, set_again, at_longer}
use Rattle.pool_words.specs.declared.views.Write.{Write}
use Rattle.pool_words.specs.declared.views.Load.{Load}
use Rattle.pool_words.specs.declared.views.Sight.{Sight}
use Rattle.pool_words.specs.declared.views.View.{View}
use Rattle.pool_words.specs.declared.views.View.TheVariants.{Writing, Seeing, Shown, Spent}
use Rattle.pool_words.specs.History.{at, HasStood, HasStoodSince}
use Rattle.pool_words.specs.Views.{write, sight, load}
use Rattle.pool_words.specs.Pool.{Kept, Fits, IsShown, Announces, Stores, Loads, Finishes, Learns, blank}
use Rattle.pool_words.proofs.Histories.{at_front, at_end_same, at_end_other, has_stood_more, since_more, stood_more}
use Rattle.pool_words.proofs.Seats.{fits_set}

-- the views fit a longer history, but for the pen's
fits_longer : (pen : ℕ) (h : List Write) (w : Write) (n j : ℕ) (u : View) → j ≢ pen → Fits pen h n j u → Fits pen (h ++ w ∷ []) n j u
fits_longer pen h w n j (Writing h' k settled) apart f = absurd (apart f.0)
fits_longer pen h w n j (Seeing low seen) apart f =
    (f.0, All-weaker (HasStoodSince h low) (HasStoodSince (h ++ w ∷ []) low) (λ s t. since_more h (w ∷ []) low s t) seen f.1)
fits_longer pen h w n j (Shown high loads) apart f = (
  omega (arith, f.0, length-append h (w ∷ [])),
  All-weaker (IsShown h high) (IsShown (h ++ w ∷ []) high)
      (λ l t. (t.0, stood_more h (w ∷ []) l.low l.high l.high l.word l.value (omega (arith, f.0, t.0)) (omega arith) t.1))
      loads f.1,
)
fits_longer pen h w n j Spent apart f = tt

-- the views fit once more writes are stored, but for the pen's
fits_later : (pen : ℕ) (h : List Write) (n later j : ℕ) (u : View) → n ≤ later → j ≢ pen → Fits pen h n j u → Fits pen h later j u
fits_later pen h n later j (Writing h' k settled) le apart f = absurd (apart f.0)
fits_later pen h n later j (Seeing low seen) le apart f = (omega (arith, f.0, le), f.1)
fits_later pen h n later j (Shown high loads) le apart f = f
fits_later pen h n later j Spent le apart f = tt

-- what a place holds after it was set, where something was there
pub set_at : (views : List View) (id : ℕ) (v w : View) → get_elem? views id ≡ some v → get_elem? (set views id w) id ≡ some w
set_at [] id v w e = absurd (some-ne-none v (sym e))
set_at (x ∷ xs) zero v w e = refl
set_at (x ∷ xs) (suc id) v w e = set_at xs id v w e

module _ {S : Type 0} where
  -- a seat's view changes while no word and no other view does
  turned : (words : ℕ) (t : State S View) (ws : List ℕ) (homes : List (mathlib.Core.Option.Option S)) (id : ℕ) (v w : View) (k : Kept words t) → ws ≡ t.words → get_elem? t.views id ≡ some v
      → (id ≢ k.pen) → Fits k.pen k.history k.stored_count id w
      → Kept words record { words = ws; homes = homes; views = set t.views id w }
  turned words t ws homes id v w k same here apart fit = record {
    pen = k.pen;
    history = k.history;
    stored_count = k.stored_count;
    settled = k.settled;
    at_pen = set_else t.views id k.pen w (λ e. apart (sym e)) ∙ k.at_pen;
    pending = k.pending;
    sized = ap length same ∙ k.sized;
    counted = ap (λ (xs : List ℕ). slice_index xs 0) same ∙ k.counted;
    held = λ i lt. ap (λ (xs : List ℕ). slice_index xs (i + 1)) same ∙ k.held i lt;
    fits = fits_set k.pen k.history k.stored_count t.views id w (λ j u _ e. k.fits j u e) fit;
  }

  -- a seat with an eye's view is not the pen's
  eye_apart : (words : ℕ) (t : State S View) (id low : ℕ) (seen : List Sight) (k : Kept words t) → get_elem? t.views id ≡ some (Seeing low seen) → id ≢ k.pen
  eye_apart words t id low seen k here e = absurd (cc)

  pub loads_eye : (words slots id i low : ℕ) (seen : List Sight) (carried : List (ℕ × S)) → i < words
      → Allows (Kept words) slots id (Seeing low seen, carried) (i + 1) (λ n. n) (Loads (step slots (i + 1) 0 0 mathlib.Core.Option.none) (Seeing low seen, carried))
  loads_eye words slots id i low seen carried lt t k sized here small =
      let f : Fits k.pen k.history k.stored_count id (Seeing low seen) = k.fits id (Seeing low seen) here in
      let x : ℕ = slice_index t.words (i + 1) in
      let now : HasStoodSince k.history low (sight i x) = (k.stored_count, f.0, k.pending.0, sym (k.held i lt)) in (
        Seeing low (seen ++ sight i x ∷ []),
        keeps,
        tt,
        turned words t (slice_set t.words (i + 1) x) t.homes id (Seeing low seen) (Seeing low (seen ++ sight i x ∷ [])) k (set-get_or t.words (i + 1) 0) here (eye_apart words t id low seen k here)
            (f.0, All-push (HasStoodSince k.history low) seen (sight i x) f.1 now),
        ap (λ (j : ℕ). (Seeing low (seen ++ sight j x ∷ []), carried)) (omega arith),
      )

  pub finishes_eye : (words slots id low : ℕ) (seen : List Sight) (carried : List (ℕ × S))
      → Allows (Kept words) slots id (Seeing low seen, carried) 0 (λ n. n) (Finishes (step slots 0 0 0 mathlib.Core.Option.none) (Seeing low seen, carried))
  finishes_eye words slots id low seen carried t k sized here small =
      let f : Fits k.pen k.history k.stored_count id (Seeing low seen) = k.fits id (Seeing low seen) here in
      let n : ℕ = slice_index t.words 0 in (
        Shown n (map (load low n) seen),
        keeps,
        tt,
        turned words t (slice_set t.words 0 n) t.homes id (Seeing low seen) (Shown n (map (load low n) seen)) k (set-get_or t.words 0 0) here (eye_apart words t id low seen k here) (
          omega (arith, k.counted),
          All-map (IsShown k.history n) (load low n) seen
              (All-weaker (HasStoodSince k.history low) (λ s. IsShown k.history n (load low n s))
              (λ s stood. (omega arith, (stood.0, stood.1, omega (arith, stood.2, k.counted), stood.3)))
              seen f.1),
        ),
        (refl, omega (arith, f.0, k.pending.0, k.counted)),
      )

  -- the pen's seat is the one that the rule knows
  pub announces_pen : (words slots id : ℕ) (h : List Write) (settled : List Load) (carried : List (ℕ × S)) (w : Write) (count : ℕ) → count ≡ length h + 1
      → Allows (Kept words) slots id (Writing h (length h) settled, carried) 0 (λ _. count) (λ _. Announces w (step slots 0 count 0 mathlib.Core.Option.none) (Writing h (length h) settled, carried) count)
  announces_pen words slots id h settled carried w count counts t k sized here small =
      let f : Fits k.pen k.history k.stored_count id (Writing h (length h) settled) = k.fits id (Writing h (length h) settled) here in
      let next : View = Writing (h ++ w ∷ []) (length h) settled in
      let fit : Fits k.pen (h ++ w ∷ []) (length h) id next =
      (f.0, refl, refl, All-weaker (HasStood h) (HasStood (h ++ w ∷ [])) (λ l s. has_stood_more h (w ∷ []) l s) settled (subst (λ (g : List Write). All (HasStood g) settled) (sym f.1) f.3)) in
      let others : (j : ℕ) (u : View) → j ≢ id → get_elem? t.views j ≡ some u → Fits k.pen (h ++ w ∷ []) (length h) j u =
      λ j u apart e. fits_longer k.pen h w (length h) j u (λ q. apart (q ∙ sym f.0)) (subst (λ (p : List Write × ℕ). Fits k.pen p.0 p.1 j u) (λ i. (sym f.1 i, sym f.2 i)) (k.fits j u e)) in (
        next,
        keeps,
        tt,
        record {
          pen = k.pen;
          history = h ++ w ∷ [];
          stored_count = length h;
          settled = settled;
          at_pen = subst (λ (p : ℕ). get_elem? (set t.views id next) p ≡ some next) f.0 (set_at t.views id (Writing h (length h) settled) next here);
          pending = (omega (arith, length-append h (w ∷ [])), omega (arith, length-append h (w ∷ [])));
          sized = length-set t.words 0 count ∙ k.sized;
          counted = get_or-set_same t.words 0 count 0 (omega (arith, k.sized)) ∙ counts ∙ sym (length-append h (w ∷ []));
          held = λ i lt. get_or-set_other t.words 0 (i + 1) count 0 (λ q. absurd (omega arith)) ∙ k.held i lt ∙ (λ a. at (sym f.1 a) (sym f.2 a) i) ∙ sym (at_front h (w ∷ []) (length h) i (omega arith));
          fits = fits_set k.pen (h ++ w ∷ []) (length h) t.views id next others fit;
        },
        refl,
      )

  pub stores_pen : (words slots id i value : ℕ) (h : List Write) (settled : List Load) (carried : List (ℕ × S)) → i < words
      → Allows (Kept words) slots id (Writing (h ++ write i value ∷ []) (length h) settled, carried) (i + 1) (λ _. value)
      (λ _. Stores (step slots (i + 1) value 0 mathlib.Core.Option.none) (Writing (h ++ write i value ∷ []) (length h) settled, carried) value)
  stores_pen words slots id i value h settled carried lt t k sized here small =
      let all : List Write = h ++ write i value ∷ [] in
      let f : Fits k.pen k.history k.stored_count id (Writing all (length h) settled) = k.fits id (Writing all (length h) settled) here in
      let next : View = Writing all (length all) settled in
      let longer : length all ≡ length h + 1 = length-append h (write i value ∷ []) in
      let fit : Fits k.pen all (length all) id next = (f.0, refl, refl, subst (λ (g : List Write). All (HasStood g) settled) (sym f.1) f.3) in
      let others : (j : ℕ) (u : View) → j ≢ id → get_elem? t.views j ≡ some u → Fits k.pen all (length all) j u =
      λ j u apart e. fits_later k.pen all (length h) (length all) j u (omega arith) (λ q. apart (q ∙ sym f.0)) (subst (λ (p : List Write × ℕ). Fits k.pen p.0 p.1 j u) (λ i. (sym f.1 i, sym f.2 i)) (k.fits j u e)) in
      let word : (j : ℕ) → j < words → Dec (i ≡ j) → slice_index (slice_set t.words (i + 1) value) (j + 1) ≡ at all (length all) j =
      λ j below d. elim d as (λ _. slice_index (slice_set t.words (i + 1) value) (j + 1) ≡ at all (length all) j) [
        | yes same ↦ subst (λ (n : ℕ). slice_index (slice_set t.words (i + 1) value) (n + 1) ≡ at all (length all) n) same
            (get_or-set_same t.words (i + 1) value 0 (omega (arith, k.sized)) ∙ sym (at_end_same h (write i value) (length all) i longer refl))
        | no other ↦ get_or-set_other t.words (i + 1) (j + 1) value 0 (λ q. other (omega arith)) ∙ k.held j below ∙ (λ a. at (sym f.1 a) (sym f.2 a) j) ∙ at_front h (write i value ∷ []) (length h) j (omega arith)
            ∙ sym (at_end_other h (write i value) (length all) j longer other)
      ] in (
        next,
        keeps,
        tt,
        record {
          pen = k.pen;
          history = all;
          stored_count = length all;
          settled = settled;
          at_pen = subst (λ (p : ℕ). get_elem? (set t.views id next) p ≡ some next) f.0 (set_at t.views id (Writing all (length h) settled) next here);
          pending = (omega arith, omega arith);
          sized = length-set t.words (i + 1) value ∙ k.sized;
          counted = get_or-set_other t.words (i + 1) 0 value 0 (λ q. absurd (omega arith)) ∙ k.counted ∙ sym (ap length f.1);
          held = λ j below. word j below (ℕ_discrete i j);
          fits = fits_set k.pen all (length all) t.views id next others fit;
        },
        refl,
      )

  -- the pen's look at the count, which changes nothing
  pub learns_pen : (words slots id n : ℕ) (h : List Write) (settled : List Load) (carried : List (ℕ × S))
      → Allows (Kept words) slots id (Writing h n settled, carried) 0 (λ x. x) (Learns (step slots 0 0 0 mathlib.Core.Option.none) (Writing h n settled, carried))
  learns_pen words slots id n h settled carried t k sized here small =
      let f : Fits k.pen k.history k.stored_count id (Writing h n settled) = k.fits id (Writing h n settled) here in
      let mine : get_elem? t.views k.pen ≡ some (Writing h n settled) = subst (λ (p : ℕ). get_elem? t.views p ≡ some (Writing h n settled)) f.0 here in (
        Writing h n settled,
        keeps,
        tt,
        subst (λ (p : List ℕ × List View). Kept words record { words = p.0; homes = t.homes; views = p.1 }) (λ i. (sym (set-get_or t.words 0 0) i, sym (set_again t.views id (Writing h n settled) here) i)) k,
        (refl, subst (λ (g : List Write). All (HasStood g) settled) (sym f.1) f.3),
      )

  -- a new seat gets a view, and the other one keeps its own
  added : (words : ℕ) (t : State S View) (id : ℕ) (v w : View) (k : Kept words t) → get_elem? t.views id ≡ some v
      → ((j : ℕ) → Fits k.pen k.history k.stored_count j w)
      → Kept words record { words = t.words; homes = t.homes; views = slice_set t.views id v ++ w ∷ [] }
  added words t id v w k here fit =
      let same : set t.views id v ≡ t.views = set_again t.views id v here in
      record {
        pen = k.pen;
        history = k.history;
        stored_count = k.stored_count;
        settled = k.settled;
        at_pen = at_longer (set t.views id v) (w ∷ []) k.pen (Writing k.history k.stored_count k.settled) (ap (λ (vs : List View). get_elem? vs k.pen) same ∙ k.at_pen);
        pending = k.pending;
        sized = k.sized;
        counted = k.counted;
        held = k.held;
        fits = λ j u e. ⊎_elim
            (λ (was : get_elem? (set t.views id v) j ≡ some u). k.fits j u (subst (λ (vs : List View). get_elem? vs j ≡ some u) same was))
            (λ (new : w ≡ u). subst (Fits k.pen k.history k.stored_count j) new (fit j))
            (at_snoc (set t.views id v) w u j e);
      }

  pub notes_pen : (words id : ℕ) (h : List Write) (settled : List Load) → Splits {S = S} (Kept words) id (Writing h (length h) settled) (Writing h (length h) settled) (Seeing (length h) [])
  notes_pen words id h settled t k here =
      let f : Fits k.pen k.history k.stored_count id (Writing h (length h) settled) = k.fits id (Writing h (length h) settled) here in
      added words t id (Writing h (length h) settled) (Seeing (length h) []) k here (λ j. (omega (arith, f.2), All-nil (HasStoodSince k.history (length h))))

  pub divides_eye : (words id low : ℕ) (seen : List Sight) → Splits {S = S} (Kept words) id (Seeing low seen) (Seeing low seen) (Seeing low [])
  divides_eye words id low seen t k here =
      let f : Fits k.pen k.history k.stored_count id (Seeing low seen) = k.fits id (Seeing low seen) here in
      added words t id (Seeing low seen) (Seeing low []) k here (λ j. (f.0, All-nil (HasStoodSince k.history low)))

  -- a new pool: all words are 0
  pub begins : (words : ℕ) (zeros : List ℕ) → zeros ≡ replicate (words + 1) 0 → Kept words (opening {S = S} zeros [] blank)
  begins words zeros all = record {
    pen = 0;
    history = [];
    stored_count = 0;
    settled = [];
    at_pen = refl;
    pending = (omega arith, omega arith);
    sized = ap length all ∙ length-replicate (words + 1) 0;
    counted = ap (λ (xs : List ℕ). slice_index xs 0) all ∙ get_or-replicate (words + 1) 0 0 0 (omega arith);
    held = λ i lt. ap (λ (xs : List ℕ). slice_index xs (i + 1)) all ∙ get_or-replicate (words + 1) (i + 1) 0 0 (omega arith);
    fits = first;
  }
    where
      first : (seat : ℕ) (v : View) → get_elem? (blank ∷ []) seat ≡ some v → Fits 0 [] 0 seat v
      first zero v e = subst (Fits 0 [] 0 0) (some-injective _ _ e) (refl, refl, refl, All-nil (HasStood []))
      first (suc seat) v e = absurd (some-ne-none v (sym e))
