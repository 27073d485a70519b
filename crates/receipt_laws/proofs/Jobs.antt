-- The jobs of a message, of which one at most is out: it goes out, it is awaited, and it is handed back.
use Rattle.std.proofs.Common.{◌≡◌, List, [], ◌∷◌, ◌++◌, length, Bool, true, false, ◌||◌, cond, eqb, Option, Some, None, refl, sym, ap, subst, ◌∙◌}
use Rattle.std.proofs.lemmas.Bool.{cond_both, and_parts, and_from, and_left, and_right, or_left, or_right, eq-eqb, false≢true, true≢false}
use Rattle.std.specs.List.{AllByRecursion}
use Rattle.pool_words.specs.Views.{EyeState}
use Rattle.half_model.specs.Group.{Owed}
use Rattle.half_model.specs.Jobs.{Job, JobState, Waits, IsBack, Done, waits, is_out, is_back, first_waiting, lent, is_done, awaits, handed, all_back}
use Rattle.half_model.specs.Turn.{group_due, made_of}
use Rattle.side_model.proofs.Sounds.{all_append}
use Rattle.receipt_laws.specs.Owning.{Ownership, ReturnsOwn}
use Rattle.receipt_laws.specs.OwnLaws.{BackIsOwn}
use Rattle.receipt_laws.specs.Lending.{FitsEye, JobFits, IsIn, sent_out, OneOut, IsBackOf}
use Rattle.receipt_laws.specs.OutLaws.{CopyIsBack, BackIsAwaited}

-- ---- one that is in

not_done : {P : Type 0} (done : Done) (job : Job) → IsIn job → is_done done job ≡ true → P
not_done done job h e = absurd (false≢true (sym h ∙ (and_parts (is_out job.state) _ e).0))

pub is_not_done : (done : Done) (job : Job) → IsIn job → is_done done job ≡ false
is_not_done done job h = and_left (is_out job.state) _ h

none_awaits : (done : Done) (jobs : List Job) → AllByRecursion IsIn jobs → awaits jobs done ≡ false
none_awaits done [] h = refl
none_awaits done (job ∷ jobs) h = ap (λ (b : Bool). b || awaits jobs done) (is_not_done done job h.0) ∙ none_awaits done jobs h.1

-- ---- one goes out

lent_by : (job : Job) (jobs : List Job) (found : Job) (b : Bool) → IsIn job → AllByRecursion IsIn jobs → JobFits job → (first_waiting jobs ≡ Some found → OneOut found (lent jobs))
    → cond b (Some job) (first_waiting jobs) ≡ Some found → OneOut found (cond b (sent_out job ∷ jobs) (job ∷ lent jobs))
lent_by job jobs found true h hs f rest e =
    let same : job ≡ found = cc in
    subst (λ (it : Job). OneOut it (sent_out job ∷ jobs)) same (record { before = []; after = jobs; row = refl; in_before = tt; in_after = hs; fits = f })
lent_by job jobs found false h hs f rest e =
    let it : OneOut found (lent jobs) = rest e in
    record { before = job ∷ it.before; after = it.after; row = ap (λ (all : List Job). job ∷ all) it.row; in_before = (h, it.in_before); in_after = it.in_after; fits = it.fits }

pub lent_one : (found : Job) (jobs : List Job) → AllByRecursion IsIn jobs → AllByRecursion JobFits jobs → first_waiting jobs ≡ Some found → OneOut found (lent jobs)
lent_one found [] h f e = absurd cc
lent_one found (job ∷ jobs) h f e = lent_by job jobs found (waits job.state) h.0 h.1 f.0 (lent_one found jobs h.1 f.1) e

pub lent_none : (jobs : List Job) → first_waiting jobs ≡ None → lent jobs ≡ jobs
lent_none [] e = refl
lent_none (job ∷ jobs) e = go (waits job.state) (lent_none jobs) e
  where
    go : (b : Bool) → (first_waiting jobs ≡ None → lent jobs ≡ jobs) → cond b (Some job) (first_waiting jobs) ≡ None → cond b (sent_out job ∷ jobs) (job ∷ lent jobs) ≡ job ∷ jobs
    go true rest d = absurd cc
    go false rest d = ap (λ (all : List Job). job ∷ all) (rest d)

pub lent_fit : (jobs : List Job) → AllByRecursion JobFits jobs → AllByRecursion JobFits (lent jobs)
lent_fit [] h = tt
lent_fit (job ∷ jobs) h = cond_both (waits job.state) (sent_out job ∷ jobs) (job ∷ lent jobs) (AllByRecursion JobFits) (λ e. (tt, h.1)) (λ e. (h.0, lent_fit jobs h.1))

-- ---- while it is out

pub one_back : (job : Job) (jobs : List Job) → OneOut job jobs → all_back jobs ≡ false
one_back job jobs h = ap all_back h.row ∙ go h.before
  where
    go : (before : List Job) → all_back (before ++ sent_out job ∷ h.after) ≡ false
    go [] = refl
    go (other ∷ before) = and_right (is_back other.state) _ (go before)

pub none_due : (owes : Option Owed) (jobs : List Job) → all_back jobs ≡ false → group_due owes jobs ≡ None
none_due None jobs e = refl
none_due (Some owed) jobs e = ap (λ (back : Bool). cond back (Some (made_of owed jobs)) None) e

pub some_out : {P : Type 0} (job : Job) (jobs : List Job) → OneOut job jobs → jobs ≡ [] → P
some_out job jobs h e = absurd (true≢false (sym (ap all_back e) ∙ one_back job jobs h))

-- ---- it is handed back

handed_by : (done : Done) (job other : Job) (before after : List Job) (b : Bool) → is_done done other ≡ b → IsIn other → (b || awaits (before ++ sent_out job ∷ after) done) ≡ true
    → (awaits (before ++ sent_out job ∷ after) done ≡ true → AllByRecursion IsIn (handed done (before ++ sent_out job ∷ after)))
    → AllByRecursion IsIn (cond b (record other { state = IsBack done.words done.receipt } ∷ (before ++ sent_out job ∷ after)) (other ∷ handed done (before ++ sent_out job ∷ after)))
handed_by done job other before after true is h e rest = not_done done other h is
handed_by done job other before after false is h e rest = (h, rest e)

handed_last : (done : Done) (job : Job) (after : List Job) (b : Bool) → AllByRecursion IsIn after → (b || awaits after done) ≡ true
    → AllByRecursion IsIn (cond b (record job { state = IsBack done.words done.receipt } ∷ after) (sent_out job ∷ handed done after))
handed_last done job after true h e = (refl, h)
handed_last done job after false h e = absurd (false≢true (sym (none_awaits done after h) ∙ e))

handed_row : (done : Done) (job : Job) (before after : List Job) → AllByRecursion IsIn before → AllByRecursion IsIn after → awaits (before ++ sent_out job ∷ after) done ≡ true
    → AllByRecursion IsIn (handed done (before ++ sent_out job ∷ after))
handed_row done job [] after h k e = handed_last done job after (is_done done (sent_out job)) k e
handed_row done job (other ∷ before) after h k e = handed_by done job other before after (is_done done other) refl h.0 e (handed_row done job before after h.1 k)

pub handed_in : (done : Done) (job : Job) (jobs : List Job) → OneOut job jobs → awaits jobs done ≡ true → AllByRecursion IsIn (handed done jobs)
handed_in done job jobs h e =
    subst (λ (all : List Job). AllByRecursion IsIn (handed done all)) (sym h.row)
    (handed_row done job h.before h.after h.in_before h.in_after (subst (λ (all : List Job). awaits all done ≡ true) h.row e))

pub handed_fit : (done : Done) (jobs : List Job) → AllByRecursion JobFits jobs → AllByRecursion JobFits (handed done jobs)
handed_fit done [] h = tt
handed_fit done (job ∷ jobs) h =
    cond_both (is_done done job) (record job { state = IsBack done.words done.receipt } ∷ jobs) (job ∷ handed done jobs) (AllByRecursion JobFits) (λ e. (tt, h.1)) (λ e. (h.0, handed_fit done jobs h.1))

-- ---- what is awaited

pub copy_is_back : CopyIsBack
copy_is_back job copy done l c = record {
  id = c.id ∙ l.id;
  first = c.first ∙ l.first;
  count = c.count ∙ l.count;
  low = c.low;
  number = ap (λ receipt. receipt.number) c.loads;
  pool = ap (λ receipt. receipt.pool) c.loads;
}

pub is_back_of : (job : Job) (eye : EyeState) (done : Done) → IsBackOf job eye done → (job.low ≡ eye.low) × (job.pool ≡ eye.number) → is_done done (sent_out job) ≡ true
is_back_of job eye done b f =
    and_from (eqb job.id done.id) _ (eq-eqb job.id done.id (sym b.id))
    (and_from (eqb job.part.first done.first) _ (eq-eqb job.part.first done.first (sym b.first))
    (and_from (eqb job.part.count (length done.words)) _ (eq-eqb job.part.count (length done.words) (sym b.count))
    (and_from (eqb job.low done.low) _ (eq-eqb job.low done.low (f.0 ∙ sym b.low)) (eq-eqb job.pool done.receipt.number (f.1 ∙ sym b.number)))))

awaits_at : (done : Done) (job : Job) (before after : List Job) → is_done done job ≡ true → awaits (before ++ job ∷ after) done ≡ true
awaits_at done job [] after e = or_left (is_done done job) _ e
awaits_at done job (other ∷ before) after e = or_right (is_done done other) _ (awaits_at done job before after e)

pub back_is_awaited : BackIsAwaited
back_is_awaited job eye done jobs h state b =
    let fits : FitsEye job.low job.pool (Waits eye) = subst (λ (it : JobState). FitsEye job.low job.pool it) state h.fits in
    subst (λ (all : List Job). awaits all done ≡ true) (sym h.row) (awaits_at done (sent_out job) h.before h.after (is_back_of job eye done b fits))

-- ---- and own

module _ (Own : Ownership) where
  in_returns : (done : Done) (jobs : List Job) → AllByRecursion IsIn jobs → AllByRecursion (ReturnsOwn Own done) jobs
  in_returns done [] h = tt
  in_returns done (job ∷ jobs) h = (λ e. not_done done job h.0 e, in_returns done jobs h.1)

  pub back_is_own : BackIsOwn Own
  back_is_own s job eye done h own b =
      subst (λ (all : List Job). AllByRecursion (ReturnsOwn Own done) all) (sym h.row)
      (all_append (ReturnsOwn Own done) h.before (sent_out job ∷ h.after) (in_returns done h.before h.in_before)
      (λ e. own done.receipt b.number b.pool, in_returns done h.after h.in_after))
