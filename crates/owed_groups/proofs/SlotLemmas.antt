-- The copies of a message, of which those before a place were given out: which is the first that waits, which one comes back, and how many are missing.
use Rattle.std.proofs.Common.{◌≡◌, ℕ, zero, suc, ◌+◌, ◌-◌, ◌<◌, ◌≤◌, Bool, true, false, ◌&&◌, ◌||◌, cond, eqb, List, [], ◌∷◌, length, get_or, set, Some, None, ⊎_elim, refl, sym, ap, ◌∙◌, subst, arith}
use Rattle.std.proofs.Math.Dec.{eqb-suc-zero}
use Rattle.std.proofs.lemmas.Bool.{cond_both, and_parts, cases_lt, eqb-true, ne_eqb, false≢true}
use Rattle.pool_words.specs.Views.{EyeState}
use Rattle.half_model.specs.Filling.{Part}
use Rattle.half_model.specs.Jobs.{JobState, Waits, IsOut, IsBack, Job, Done, waits, is_out, is_back, is_done, first_waiting, lent, awaits, handed, all_back, jobs_of}
use Rattle.owed_groups.specs.Slots.{AreNumbered, AreGiven, missing, AreKept, given_out, back_with, if_waits}

-- ---- states

not_back : (state : JobState) → waits state ≡ true → is_back state ≡ false
not_back (Waits eye) e = refl
not_back IsOut e = refl
not_back (IsBack words receipt) e = absurd (false≢true e)

out_waits : (state : JobState) → is_out state ≡ true → waits state ≡ false
out_waits (Waits eye) e = absurd (false≢true e)
out_waits IsOut e = refl
out_waits (IsBack words receipt) e = refl

out_not_back : (state : JobState) → is_out state ≡ true → is_back state ≡ false
out_not_back (Waits eye) e = refl
out_not_back IsOut e = refl
out_not_back (IsBack words receipt) e = absurd (false≢true e)

-- ---- the first that waits

pub first_at : (place : ℕ) (jobs : List Job) (d : Job) → AreGiven place jobs → place < length jobs → first_waiting jobs ≡ Some (get_or jobs place d)
first_at place [] d g l = absurd (omega (arith, l))
first_at zero (job ∷ jobs) d g l = ap (λ b. cond b (Some job) (first_waiting jobs)) g.0
first_at (suc place) (job ∷ jobs) d g l =
    ap (λ b. cond b (Some job) (first_waiting jobs)) g.0 ∙ first_at place jobs d g.1 (omega (arith, l))

pub lent_at : (place : ℕ) (jobs : List Job) (d : Job) → AreGiven place jobs → place < length jobs
    → lent jobs ≡ set jobs place (given_out (get_or jobs place d))
lent_at place [] d g l = absurd (omega (arith, l))
lent_at zero (job ∷ jobs) d g l =
    ap (λ b. cond b (record job { state = IsOut } ∷ jobs) (job ∷ lent jobs)) g.0
    ∙ ap (λ (j : Job). j ∷ jobs) (sym (ap (λ b. cond b (record job { state = IsOut }) job) g.0))
lent_at (suc place) (job ∷ jobs) d g l =
    ap (λ b. cond b (record job { state = IsOut } ∷ jobs) (job ∷ lent jobs)) g.0
    ∙ ap (λ rest. job ∷ rest) (lent_at place jobs d g.1 (omega (arith, l)))

given_next : (place : ℕ) (jobs : List Job) → AreGiven place jobs → place < length jobs → AreGiven (suc place) (lent jobs)
given_next place [] g l = absurd (omega (arith, l))
given_next zero (job ∷ jobs) g l =
    let P : List Job → Type 0 = λ all. AreGiven 1 all in
    subst P (sym (ap (λ b. cond b (record job { state = IsOut } ∷ jobs) (job ∷ lent jobs)) g.0)) (refl, g.1)
given_next (suc place) (job ∷ jobs) g l =
    let P : List Job → Type 0 = λ all. AreGiven (suc (suc place)) all in
    subst P (sym (ap (λ b. cond b (record job { state = IsOut } ∷ jobs) (job ∷ lent jobs)) g.0)) (g.0, given_next place jobs g.1 (omega (arith, l)))

numbered_lent : (next : ℕ) (jobs : List Job) → AreNumbered next jobs → AreNumbered next (lent jobs)
numbered_lent next [] n = n
numbered_lent next (job ∷ jobs) n =
    cond_both (waits job.state) (record job { state = IsOut } ∷ jobs) (job ∷ lent jobs) (AreNumbered next)
    (λ e. (n.0, n.1)) (λ e. (n.0, numbered_lent (next + 1) jobs n.1))

missing_lent : (jobs : List Job) → missing (lent jobs) ≡ missing jobs
missing_lent [] = refl
missing_lent (job ∷ jobs) =
    cond_both (waits job.state) (record job { state = IsOut } ∷ jobs) (job ∷ lent jobs)
    (λ all. missing all ≡ missing (job ∷ jobs))
    (λ e. sym (ap (λ b. cond b (missing jobs) (suc (missing jobs))) (not_back job.state e)))
    (λ e. ap (λ n. cond (is_back job.state) n (suc n)) (missing_lent jobs))

pub kept_lent : (first given left : ℕ) (jobs : List Job) → AreKept first given left jobs → given < length jobs → AreKept first (given + 1) left (lent jobs)
kept_lent first given left jobs k l = record {
  numbered = numbered_lent first jobs k.numbered;
  lends = let e : given + 1 ≡ suc given = omega arith in rw e (given_next given jobs k.lends l);
  lacks = missing_lent jobs ∙ k.lacks;
}

pub none_waits : (place : ℕ) (jobs : List Job) → AreGiven place jobs → length jobs ≤ place → first_waiting jobs ≡ None
none_waits place [] g l = refl
none_waits zero (job ∷ jobs) g l = absurd (omega (arith, l))
none_waits (suc place) (job ∷ jobs) g l =
    ap (λ b. cond b (Some job) (first_waiting jobs)) g.0 ∙ none_waits place jobs g.1 (omega (arith, l))

pub none_lent : (place : ℕ) (jobs : List Job) → AreGiven place jobs → length jobs ≤ place → lent jobs ≡ jobs
none_lent place [] g l = refl
none_lent zero (job ∷ jobs) g l = absurd (omega (arith, l))
none_lent (suc place) (job ∷ jobs) g l =
    ap (λ b. cond b (record job { state = IsOut } ∷ jobs) (job ∷ lent jobs)) g.0
    ∙ ap (λ rest. job ∷ rest) (none_lent place jobs g.1 (omega (arith, l)))

-- ---- which one is back

rest_done : Done → Job → Bool
rest_done done job = eqb job.part.first done.first && (eqb job.part.count (length done.words) && (eqb job.low done.low && eqb job.pool done.receipt.number))

and_false : (b c : Bool) → c ≡ false → (b && c) ≡ false
and_false true c e = e
and_false false c e = refl

-- a copy of another number is not this one
other_id : (done : Done) (job : Job) → (job.id ≡ done.id → ⊥) → is_done done job ≡ false
other_id done job differs =
    and_false (is_out job.state) _ (ap (λ b. b && (eqb job.part.first done.first && (eqb job.part.count (length done.words) && (eqb job.low done.low && eqb job.pool done.receipt.number)))) (ne_eqb job.id done.id differs))

pub before_all : (next : ℕ) (jobs : List Job) (done : Done) → AreNumbered next jobs → done.id < next → (awaits jobs done ≡ false) × (handed done jobs ≡ jobs)
before_all next [] done n l = (refl, refl)
before_all next (job ∷ jobs) done n l =
    let not : is_done done job ≡ false = other_id done job (λ e. omega (arith, e, n.0, l)) in
    let rest = before_all (next + 1) jobs done n.1 (omega (arith, l)) in (
      ap (λ b. b || awaits jobs done) not ∙ rest.0,
      ap (λ b. cond b (record job { state = IsBack done.words done.receipt } ∷ jobs) (job ∷ handed done jobs)) not ∙ ap (λ others. job ∷ others) rest.1,
    )

pub behind_all : (next : ℕ) (jobs : List Job) (done : Done) → AreNumbered next jobs → next + length jobs ≤ done.id → (awaits jobs done ≡ false) × (handed done jobs ≡ jobs)
behind_all next [] done n l = (refl, refl)
behind_all next (job ∷ jobs) done n l =
    let not : is_done done job ≡ false = other_id done job (λ e. omega (arith, e, n.0, l)) in
    let rest = behind_all (next + 1) jobs done n.1 (omega (arith, l)) in (
      ap (λ b. b || awaits jobs done) not ∙ rest.0,
      ap (λ b. cond b (record job { state = IsBack done.words done.receipt } ∷ jobs) (job ∷ handed done jobs)) not ∙ ap (λ others. job ∷ others) rest.1,
    )

or_false : (b : Bool) → (b || false) ≡ b
or_false true = refl
or_false false = refl

pub awaited_at : (next place : ℕ) (jobs : List Job) (done : Done) (d : Job) → AreNumbered next jobs → next + place ≡ done.id → place < length jobs
    → awaits jobs done ≡ is_done done (get_or jobs place d)
awaited_at next place [] done d n e l = absurd (omega (arith, l))
awaited_at next zero (job ∷ jobs) done d n e l =
    let rest = before_all (next + 1) jobs done n.1 (omega (arith, e)) in
    ap (λ b. is_done done job || b) rest.0 ∙ or_false (is_done done job)
awaited_at next (suc place) (job ∷ jobs) done d n e l =
    let not : is_done done job ≡ false = other_id done job (λ same. omega (arith, e, same, n.0)) in
    ap (λ b. b || awaits jobs done) not ∙ awaited_at (next + 1) place jobs done d n.1 (omega (arith, e)) (omega (arith, l))

-- the copy at its place is back
pub handed_at : (next place : ℕ) (jobs : List Job) (done : Done) (d : Job) → AreNumbered next jobs → next + place ≡ done.id → place < length jobs
    → is_done done (get_or jobs place d) ≡ true → handed done jobs ≡ set jobs place (back_with done (get_or jobs place d))
handed_at next place [] done d n e l is = absurd (omega (arith, l))
handed_at next zero (job ∷ jobs) done d n e l is =
    ap (λ b. cond b (record job { state = IsBack done.words done.receipt } ∷ jobs) (job ∷ handed done jobs)) is
handed_at next (suc place) (job ∷ jobs) done d n e l is =
    let not : is_done done job ≡ false = other_id done job (λ same. omega (arith, e, same, n.0)) in
    ap (λ b. cond b (record job { state = IsBack done.words done.receipt } ∷ jobs) (job ∷ handed done jobs)) not
    ∙ ap (λ others. job ∷ others) (handed_at (next + 1) place jobs done d n.1 (omega (arith, e)) (omega (arith, l)) is)

numbered_handed : (next : ℕ) (jobs : List Job) (done : Done) → AreNumbered next jobs → AreNumbered next (handed done jobs)
numbered_handed next [] done n = n
numbered_handed next (job ∷ jobs) done n =
    cond_both (is_done done job) (record job { state = IsBack done.words done.receipt } ∷ jobs) (job ∷ handed done jobs) (AreNumbered next)
    (λ e. (n.0, n.1)) (λ e. (n.0, numbered_handed (next + 1) jobs done n.1))

given_handed : (place : ℕ) (jobs : List Job) (done : Done) → AreGiven place jobs → AreGiven place (handed done jobs)
given_handed place [] done g = g
given_handed zero (job ∷ jobs) done g =
    cond_both (is_done done job) (record job { state = IsBack done.words done.receipt } ∷ jobs) (job ∷ handed done jobs) (AreGiven zero)
    (λ e. absurd (let out = (and_parts (is_out job.state) _ e).0 in false≢true (sym (out_waits job.state out) ∙ g.0)))
    (λ e. (g.0, given_handed zero jobs done g.1))
given_handed (suc place) (job ∷ jobs) done g =
    cond_both (is_done done job) (record job { state = IsBack done.words done.receipt } ∷ jobs) (job ∷ handed done jobs) (AreGiven (suc place))
    (λ e. (refl, g.1)) (λ e. (g.0, given_handed place jobs done g.1))

missing_more : (b : Bool) (more less : ℕ) → suc less ≡ more → suc (cond b less (suc less)) ≡ cond b more (suc more)
missing_more true more less same = same
missing_more false more less same = ap (λ n. suc n) same

missing_by : (b : Bool) (done : Done) (job : Job) (jobs : List Job) → is_done done job ≡ b → (b || awaits jobs done) ≡ true
    → (awaits jobs done ≡ true → suc (missing (handed done jobs)) ≡ missing jobs) → suc (missing (handed done (job ∷ jobs))) ≡ missing (job ∷ jobs)
missing_by true done job jobs is some rest =
    ap (λ b. suc (missing (cond b (record job { state = IsBack done.words done.receipt } ∷ jobs) (job ∷ handed done jobs)))) is
    ∙ sym (ap (λ b. cond b (missing jobs) (suc (missing jobs))) (out_not_back job.state (and_parts (is_out job.state) _ is).0))
missing_by false done job jobs is some rest =
    ap (λ b. suc (missing (cond b (record job { state = IsBack done.words done.receipt } ∷ jobs) (job ∷ handed done jobs)))) is
    ∙ missing_more (is_back job.state) (missing jobs) (missing (handed done jobs)) (rest some)

missing_handed : (jobs : List Job) (done : Done) → awaits jobs done ≡ true → suc (missing (handed done jobs)) ≡ missing jobs
missing_handed [] done e = absurd (false≢true e)
missing_handed (job ∷ jobs) done e = missing_by (is_done done job) done job jobs refl e (missing_handed jobs done)

pub kept_handed : (first given left : ℕ) (jobs : List Job) (done : Done) → AreKept first given (left + 1) jobs → awaits jobs done ≡ true
    → AreKept first given left (handed done jobs)
kept_handed first given left jobs done k e = record {
  numbered = numbered_handed first jobs done k.numbered;
  lends = given_handed given jobs done k.lends;
  lacks = let m = missing_handed jobs done e in omega (arith, m, k.lacks);
}

pub some_missing : (jobs : List Job) (done : Done) → awaits jobs done ≡ true → 1 ≤ missing jobs
some_missing jobs done e = let m = missing_handed jobs done e in omega (arith, m)

-- ---- all of them

here_by : (b back : Bool) (n : ℕ) → back ≡ eqb n 0 → (b && back) ≡ eqb (cond b n (suc n)) 0
here_by true back n e = e
here_by false back n e = sym (eqb-suc-zero n)

pub all_here : (jobs : List Job) → all_back jobs ≡ eqb (missing jobs) 0
all_here [] = refl
all_here (job ∷ jobs) = here_by (is_back job.state) (all_back jobs) (missing jobs) (all_here jobs)

pub jobs_kept : (next : ℕ) (eyes : List EyeState) (parts : List Part) → AreKept next 0 (length (jobs_of next eyes parts)) (jobs_of next eyes parts)
jobs_kept next eyes [] = record { numbered = tt; lends = refl; lacks = refl }
jobs_kept next eyes (part ∷ parts) =
    let rest = jobs_kept (next + 1) eyes parts in
    record {
      numbered = (refl, rest.numbered);
      lends = (refl, rest.lends);
      lacks = let e : missing (jobs_of next eyes (part ∷ parts)) ≡ suc (missing (jobs_of (next + 1) eyes parts)) = refl in omega (arith, e, rest.lacks);
    }

-- ---- the place of a copy that is awaited

place_by : (b : Bool) (next : ℕ) (done : Done) (job : Job) (jobs : List Job) → job.id ≡ next → is_done done job ≡ b → (b || awaits jobs done) ≡ true
    → (awaits jobs done ≡ true → (next + 1 ≤ done.id) × (done.id < next + 1 + length jobs)) → (next ≤ done.id) × (done.id < next + length (job ∷ jobs))
place_by true next done job jobs id is some rest =
    let parts = (and_parts (is_out job.state) _ is).1 in
    let same = eqb-true job.id done.id (and_parts (eqb job.id done.id) _ parts).0 in
    (omega (arith, same, id), omega (arith, same, id))
place_by false next done job jobs id is some rest = let r = rest some in (omega (arith, r.0), omega (arith, r.1))

pub awaited_place : (next : ℕ) (jobs : List Job) (done : Done) → AreNumbered next jobs → awaits jobs done ≡ true → (next ≤ done.id) × (done.id < next + length jobs)
awaited_place next [] done n e = absurd (false≢true e)
awaited_place next (job ∷ jobs) done n e = place_by (is_done done job) next done job jobs n.0 refl e (awaited_place (next + 1) jobs done n.1)

-- the copy at the place of one that is awaited comes back
pub back_at : (first place : ℕ) (jobs : List Job) (done : Done) (job : Job) → AreNumbered first jobs → awaits jobs done ≡ true
    → place ≡ done.id - first → job ≡ get_or jobs place job → handed done jobs ≡ set jobs place (back_with done job)
back_at first place jobs done job n e at is =
    let within = awaited_place first jobs done n e in
    let sum : first + place ≡ done.id = omega (arith, at, within.0) in
    let low : place < length jobs = omega (arith, at, within.0, within.1) in
    let there = sym (awaited_at first place jobs done job n sum low) ∙ e in
    handed_at first place jobs done job n sum low there ∙ ap (λ (j : Job). set jobs place (back_with done j)) (sym is)

-- ---- one step of the copies

pub hand_back_step : (first given left place : ℕ) (jobs : List Job) (done : Done) (job new : Job) → AreKept first given left jobs → awaits jobs done ≡ true
    → place ≡ done.id - first → job ≡ get_or jobs place job → new ≡ back_with done job
    → (set jobs place new ≡ handed done jobs) × AreKept first given (left - 1) (set jobs place new)
hand_back_step first given left place jobs done job new k e at is to =
    let some = some_missing jobs done e in
    let back = back_at first place jobs done job k.numbered e at is in
    let all : set jobs place new ≡ handed done jobs = ap (λ (j : Job). set jobs place j) to ∙ sym back in
    let less : left - 1 + 1 ≡ left = omega (arith, some, k.lacks) in
    let before : AreKept first given (left - 1 + 1) jobs = rw less k in
    (all, rw all (kept_handed first given (left - 1) jobs done before e))

waits_at : (place : ℕ) (jobs : List Job) (d : Job) → AreGiven place jobs → place < length jobs → waits (get_or jobs place d).state ≡ true
waits_at place [] d g l = absurd (omega (arith, l))
waits_at zero (job ∷ jobs) d g l = g.0
waits_at (suc place) (job ∷ jobs) d g l = waits_at place jobs d g.1 (omega (arith, l))

pub lend_step : (first given left : ℕ) (jobs : List Job) (job new : Job) → AreKept first given left jobs → given < length jobs
    → job ≡ get_or jobs given job → new ≡ given_out job
    → (set jobs given new ≡ lent jobs) × (if_waits job ≡ first_waiting jobs) × AreKept first (given + 1) left (set jobs given new)
lend_step first given left jobs job new k l is to =
    let all : set jobs given new ≡ lent jobs =
    ap (λ (j : Job). set jobs given j) (to ∙ ap (λ (j : Job). given_out j) is) ∙ sym (lent_at given jobs job k.lends l)
    in
    let true_there : waits job.state ≡ true = ap (λ (j : Job). waits j.state) is ∙ waits_at given jobs job k.lends l in
    let first_is : if_waits job ≡ first_waiting jobs =
    ap (λ b. cond b (Some job) None) true_there ∙ ap (λ (j : Job). Some j) is ∙ sym (first_at given jobs job k.lends l)
    in
    (all, first_is, rw all (kept_lent first given left jobs k l))

pub le_from_not : {a b : ℕ} → (a < b → ⊥) → b ≤ a
le_from_not {a} {b} not = ⊎_elim (λ l. absurd (not l)) (λ l. l) (cases_lt a b)

-- ---- which copies are there

pub absent_before : (next : ℕ) (jobs : List Job) (done : Done) → AreNumbered next jobs → done.id < next → false ≡ awaits jobs done
absent_before next jobs done n l = sym (before_all next jobs done n l).0

pub absent_behind : (next place : ℕ) (jobs : List Job) (done : Done) → AreNumbered next jobs → next ≤ done.id → place ≡ done.id - next → length jobs ≤ place
    → false ≡ awaits jobs done
absent_behind next place jobs done n low at l = sym (behind_all next jobs done n (omega (arith, low, at, l))).0

pub present_at : (next place : ℕ) (jobs : List Job) (done : Done) (job : Job) → AreNumbered next jobs → next ≤ done.id → place ≡ done.id - next → place < length jobs
    → job ≡ get_or jobs place job → is_done done job ≡ awaits jobs done
present_at next place jobs done job n low at l is =
    ap (λ (j : Job). is_done done j) is ∙ sym (awaited_at next place jobs done job n (omega (arith, low, at)) l)
