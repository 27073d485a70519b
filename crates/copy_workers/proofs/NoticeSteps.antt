-- Each step at a notice keeps its rule.
use Rattle.std.proofs.Common.{◌≡◌, ◌≢◌, ℕ, zero, suc, true, false, true≢false, Option, Some, None, is_some, if◌then◌else◌, List, [], ◌∷◌, length, set, refl, sym, ap, ◌∙◌, subst, inl, inr, ⊎_elim, arith, length-set}
use Rattle.std.specs.Prelude.{slice_index}
use Rattle.std.proofs.lemmas.List.{set-get_or, get_or-set_same}
use mathlib.Core.Option.{some, some-injective, some-ne-none}
use lib.ListN.{get_elem?}
use Rattle.atomic_table.specs.Table.{State, Act, step, keeps, stepped, Valid, carried_after, Allows, Splits, Joins, opening}
use Rattle.atomic_table.proofs.Lists.{at_set, at_snoc, set_else, set_again}
use Rattle.copy_workers.specs.declared.copies.CopyJob.{CopyJob}
use Rattle.copy_workers.specs.declared.views.Known.{Known}
use Rattle.copy_workers.specs.Notices.{IsKnown, Fits, Posted, Posts, Reads, Compares, known}

abbrev Jobs : Type 0
Jobs = Option (List CopyJob)

-- where the view of one seat is changed, the others fit as they did
fits_set : (poster : ℕ) (posted : Jobs) (views : List Known) (seat : ℕ) (w : Known)
    → ((j : ℕ) (u : Known) → j ≢ seat → get_elem? views j ≡ some u → Fits poster posted j u) → Fits poster posted seat w
    → (j : ℕ) (u : Known) → get_elem? (set views seat w) j ≡ some u → Fits poster posted j u
fits_set poster posted views seat w others mine j u e =
    ⊎_elim
    (λ (x : (j ≡ seat) × (w ≡ u)). subst (λ (y : ℕ × Known). Fits poster posted y.0 y.1) (λ i. (sym x.0 i, x.1 i)) mine)
    (λ (x : (j ≢ seat) × (get_elem? views j ≡ some u)). others j u x.0 x.1)
    (at_set views seat j w u e)

-- what is known of a notice that says nothing is nothing
nothing : (posted jobs : Jobs) → posted ≡ None → IsKnown posted jobs → jobs ≡ None
nothing posted jobs none is = ⊎_elim (λ e. e) (λ e. e ∙ none) is

-- a reader fits at any seat
reader_fits : (poster seat : ℕ) (posted jobs heard : Jobs) → IsKnown posted jobs → IsKnown posted heard → Fits poster posted seat (known false jobs heard)
reader_fits poster seat posted jobs heard read told =
    record { one = λ e. absurd (true≢false (sym e)); read = read; heard = told }

module _ {S : Type 0} where
  -- the words and the views are as they were
  same_table : (t : State S Known) (id : ℕ) (v : Known) → Posted t → get_elem? t.views id ≡ some v
      → Posted record { words = set t.words 0 (slice_index t.words 0); homes = t.homes; views = set t.views id v }
  same_table t id v k here =
      subst (λ (p : List ℕ × List Known). Posted record { words = p.0; homes = t.homes; views = p.1 })
      (λ i. (sym (set-get_or t.words 0 0) i, sym (set_again t.views id v here) i)) k

  pub begins : (zeros : List ℕ) → zeros ≡ 0 ∷ [] → Posted (opening {S = S} zeros [] (known true None None))
  begins zeros all = record {
    poster = 0;
    posted = None;
    sized = ap length all;
    word = ap (λ (ws : List ℕ). slice_index ws 0) all;
    fits = first;
  }
    where
      first : (seat : ℕ) (v : Known) → get_elem? (known true None None ∷ []) seat ≡ some v → Fits 0 None seat v
      first zero v e = subst (Fits 0 None 0) (some-injective _ _ e) (record { one = λ _. (refl, refl); read = inl refl; heard = inl refl })
      first (suc seat) v e = absurd (some-ne-none v (sym e))

  pub posts : (slots id : ℕ) (v : Known) (carried : List (ℕ × S)) (jobs : List CopyJob) → v.posts ≡ true → v.jobs ≡ None
      → Allows Posted slots id (v, carried) 0 (λ _. 1) (λ _. Posts jobs (step slots 0 1 0 mathlib.Core.Option.none) (v, carried) 1)
  posts slots id v carried jobs mine none t k sized here small =
      let f : Fits k.poster k.posted id v = k.fits id v here in
      let one = f.one mine in
      let unposted : k.posted ≡ None = sym one.1 ∙ none in
      let w : Known = known true (Some jobs) v.heard in
      let others : (j : ℕ) (u : Known) → j ≢ id → get_elem? t.views j ≡ some u → Fits k.poster (Some jobs) j u =
      λ j u apart e.
      let g : Fits k.poster k.posted j u = k.fits j u e in
      record {
        one = λ p. absurd (apart ((g.one p).0 ∙ sym one.0));
        read = inl (nothing k.posted u.jobs unposted g.read);
        heard = inl (nothing k.posted u.heard unposted g.heard);
      } in
      let own : Fits k.poster (Some jobs) id w =
      record { one = λ _. (one.0, refl); read = inr refl; heard = inl (nothing k.posted v.heard unposted f.heard) } in (
        w,
        keeps,
        tt,
        record {
          poster = k.poster;
          posted = Some jobs;
          sized = length-set t.words 0 1 ∙ k.sized;
          word = get_or-set_same t.words 0 1 0 (omega (arith, k.sized));
          fits = fits_set k.poster (Some jobs) t.views id w others own;
        },
        refl,
      )

  -- the same, by cases on what is posted
  reads_what : (posted : Jobs) (t : State S Known) (k : Posted t) (v : Known) (id slots : ℕ) (carried : List (ℕ × S)) → v.posts ≡ false
      → get_elem? t.views id ≡ some v → k.posted ≡ posted
      → (w : Known) × (a : Act S) × Valid t.homes carried a × Posted (stepped t 0 (slice_index t.words 0) id carried w a)
      × Reads (step slots 0 0 0 mathlib.Core.Option.none) (v, carried) (slice_index t.words 0) (w, carried_after carried a)
  reads_what None t k v id slots carried mine here is =
      let zero_there : slice_index t.words 0 ≡ 0 = k.word ∙ ap (λ (p : Jobs). if is_some p then 1 else 0) is in
      (v, keeps, tt, same_table t id v k here, ((λ _. refl), λ other. absurd (other zero_there)))
  reads_what (Some jobs) t k v id slots carried mine here is =
      let f : Fits k.poster k.posted id v = k.fits id v here in
      let w : Known = known false (Some jobs) v.heard in
      let one_there : slice_index t.words 0 ≡ 1 = k.word ∙ ap (λ (p : Jobs). if is_some p then 1 else 0) is in (
        w,
        keeps,
        tt,
        record {
          poster = k.poster;
          posted = k.posted;
          sized = length-set t.words 0 (slice_index t.words 0) ∙ k.sized;
          word = ap (λ (ws : List ℕ). slice_index ws 0) (set-get_or t.words 0 0) ∙ k.word;
          fits = fits_set k.poster k.posted t.views id w (λ j u _ e. k.fits j u e)
              (reader_fits k.poster id k.posted (Some jobs) v.heard (inr (sym is)) f.heard);
        },
        ((λ none. absurd (omega (arith, none, one_there))), λ _. (jobs, refl)),
      )

  pub reads : (slots id : ℕ) (v : Known) (carried : List (ℕ × S)) → v.posts ≡ false
      → Allows Posted slots id (v, carried) 0 (λ n. n) (Reads (step slots 0 0 0 mathlib.Core.Option.none) (v, carried))
  reads slots id v carried mine t k sized here small = reads_what k.posted t k v id slots carried mine here refl

  pub makes_reader : (id : ℕ) (v : Known) → Splits {S = S} Posted id v v (known false None None)
  makes_reader id v t k here = record {
    poster = k.poster;
    posted = k.posted;
    sized = k.sized;
    word = k.word;
    fits = λ j u e. ⊎_elim
        (λ (was : get_elem? (set t.views id v) j ≡ some u). k.fits j u (subst (λ (vs : List Known). get_elem? vs j ≡ some u) (set_again t.views id v here) was))
        (λ (new : known false None None ≡ u). subst (Fits k.poster k.posted j) new (reader_fits k.poster j k.posted None None (inl refl) (inl refl)))
        (at_snoc (set t.views id v) (known false None None) u j e);
  }

  pub hears : (id : ℕ) (v : Known) (other : ℕ) (u : Known) → v.posts ≡ true
      → Joins {S = S} Posted id v other u (known v.posts v.jobs u.jobs) (known false None None)
  hears id v other u mine t k here apart there =
      let both : Known = known v.posts v.jobs u.jobs in
      let f : Fits k.poster k.posted id v = k.fits id v here in
      let was : get_elem? t.views other ≡ some u = sym (set_else t.views id other both apart) ∙ there in
      let g : Fits k.poster k.posted other u = k.fits other u was in
      record {
        poster = k.poster;
        posted = k.posted;
        sized = k.sized;
        word = k.word;
        fits = fits_set k.poster k.posted (set t.views id both) other (known false None None)
            (λ j z _ e. fits_set k.poster k.posted t.views id both (λ i y _ e'. k.fits i y e') (record { one = f.one; read = f.read; heard = g.read }) j z e)
            (reader_fits k.poster other k.posted None None (inl refl) (inl refl));
      }

  pub compares : (slots id : ℕ) (v : Known) (carried : List (ℕ × S)) → v.posts ≡ true
      → Allows Posted slots id (v, carried) 0 (λ n. n) (Compares (step slots 0 0 0 mathlib.Core.Option.none) (v, carried))
  compares slots id v carried mine t k sized here small =
      let f : Fits k.poster k.posted id v = k.fits id v here in (
        v,
        keeps,
        tt,
        same_table t id v k here,
        (refl, subst (λ (jobs : Jobs). IsKnown jobs v.heard) (sym (f.one mine).1) f.heard),
      )
