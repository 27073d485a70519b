-- The jobs of what is owed stay its jobs, and once all are back they make its group.
use Rattle.std.proofs.Common.{◌≡◌, ℕ, Bool, true, false, ◌&&◌, cond, eqb, List, [], ◌∷◌, length, map, Some, None, refl, sym, ap, ◌∙◌, subst}
use Rattle.std.proofs.lemmas.Bool.{cond_both, and_parts, eqb-true, false≢true}
use Rattle.std.specs.List.{AllByRecursion, cons_option}
use Rattle.pool_words.specs.Views.{ReceiptState}
use Rattle.half_model.specs.declared.notes.CopyRecord.{CopyRecord}
use Rattle.half_model.specs.Filling.{Part}
use Rattle.half_model.specs.Group.{Owed, IsGroup, part_of}
use Rattle.half_model.specs.Jobs.{JobState, Waits, IsOut, IsBack, Job, Done, waits, is_out, is_back, is_done, lent, handed, all_back, copies_of, copied}
use Rattle.half_model.specs.Turn.{MadeGroup, made_of}
use Rattle.half_model.specs.TurnLaws.{IsWhole, JobsStay, GroupIsLawful}

-- ---- lent

lent_parts : (jobs : List Job) → map (λ job. job.part) (lent jobs) ≡ map (λ job. job.part) jobs
lent_parts [] = refl
lent_parts (job ∷ jobs) =
    cond_both (waits job.state) (record job { state = IsOut } ∷ jobs) (job ∷ lent jobs)
    (λ all. map (λ (j : Job). j.part) all ≡ map (λ (j : Job). j.part) (job ∷ jobs))
    (λ e. refl) (λ e. ap (λ rest. job.part ∷ rest) (lent_parts jobs))

lent_whole : (jobs : List Job) → AllByRecursion (λ job. IsWhole job job.state) jobs → AllByRecursion (λ job. IsWhole job job.state) (lent jobs)
lent_whole [] h = tt
lent_whole (job ∷ jobs) h =
    cond_both (waits job.state) (record job { state = IsOut } ∷ jobs) (job ∷ lent jobs)
    (AllByRecursion (λ j. IsWhole j j.state))
    (λ e. (tt, h.1)) (λ e. (h.0, lent_whole jobs h.1))

-- ---- handed back

done_count : (done : Done) (job : Job) → is_done done job ≡ true → length done.words ≡ job.part.count
done_count done job e =
    let ends : Bool = eqb job.low done.low && eqb job.pool done.receipt.number in
    let counts : Bool = eqb job.part.count (length done.words) in
    let begins : Bool = eqb job.part.first done.first in
    let named : Bool = eqb job.id done.id in
    let out = and_parts (is_out job.state) (named && (begins && (counts && ends))) e in
    let id = and_parts named (begins && (counts && ends)) out.1 in
    let at = and_parts begins (counts && ends) id.1 in
    sym (eqb-true job.part.count (length done.words) (and_parts counts ends at.1).0)

handed_parts : (done : Done) (jobs : List Job) → map (λ job. job.part) (handed done jobs) ≡ map (λ job. job.part) jobs
handed_parts done [] = refl
handed_parts done (job ∷ jobs) =
    cond_both (is_done done job) (record job { state = IsBack done.words done.receipt } ∷ jobs) (job ∷ handed done jobs)
    (λ all. map (λ (j : Job). j.part) all ≡ map (λ (j : Job). j.part) (job ∷ jobs))
    (λ e. refl) (λ e. ap (λ rest. job.part ∷ rest) (handed_parts done jobs))

handed_whole : (done : Done) (jobs : List Job) → AllByRecursion (λ job. IsWhole job job.state) jobs → AllByRecursion (λ job. IsWhole job job.state) (handed done jobs)
handed_whole done [] h = tt
handed_whole done (job ∷ jobs) h =
    cond_both (is_done done job) (record job { state = IsBack done.words done.receipt } ∷ jobs) (job ∷ handed done jobs)
    (AllByRecursion (λ j. IsWhole j j.state))
    (λ e. (done_count done job e, h.1)) (λ e. (h.0, handed_whole done jobs h.1))

pub jobs_stay : JobsStay
jobs_stay = record {
  lent = λ owed jobs h. record { parts = lent_parts jobs ∙ h.parts; whole = lent_whole jobs h.whole };
  handed = λ owed jobs done h. record { parts = handed_parts done jobs ∙ h.parts; whole = handed_whole done jobs h.whole };
}

-- ---- all back

copied_part : (part : Part) (low : ℕ) (words : List ℕ) (receipt : ReceiptState) → length words ≡ part.count
    → part_of (record { file = part.file; segment = part.segment; first = part.first; words = words; low = low; high = receipt.high }) ≡ part
copied_part part low words receipt e = ap (λ (n : ℕ). record part { count = n }) e

copied_one : (job : Job) (state : JobState) (copies : List CopyRecord) (parts : List Part) → is_back state ≡ true → IsWhole job state
    → map part_of copies ≡ parts → map part_of (cons_option (copied job.part job.low state) copies) ≡ job.part ∷ parts
copied_one job (Waits eye) copies parts back h rest = absurd (false≢true back)
copied_one job IsOut copies parts back h rest = absurd (false≢true back)
copied_one job (IsBack words receipt) copies parts back h rest =
    ap (λ (p : Part). p ∷ map part_of copies) (copied_part job.part job.low words receipt h) ∙ ap (λ (ps : List Part). job.part ∷ ps) rest

copied_parts : (jobs : List Job) → all_back jobs ≡ true → AllByRecursion (λ job. IsWhole job job.state) jobs
    → map part_of (copies_of jobs) ≡ map (λ job. job.part) jobs
copied_parts [] back h = refl
copied_parts (job ∷ jobs) back h =
    let both = and_parts (is_back job.state) (all_back jobs) back in
    copied_one job job.state (copies_of jobs) (map (λ j. j.part) jobs) both.0 h.0 (copied_parts jobs both.1 h.1)

same_group : (a b : MadeGroup) → Some a ≡ Some b → a ≡ b
same_group a b e = cc

due_is : (owed : Owed) (jobs : List Job) (back : Bool) (group : MadeGroup) → all_back jobs ≡ back
    → cond back (Some (made_of owed jobs)) None ≡ Some group → (all_back jobs ≡ true) × (made_of owed jobs ≡ group)
due_is owed jobs true group is e = (is, same_group _ group e)
due_is owed jobs false group is e = absurd cc

pub group_is_lawful : GroupIsLawful
group_is_lawful owed jobs group h e =
    let got = due_is owed jobs (all_back jobs) group refl e in
    let made : IsGroup owed (copies_of jobs) (made_of owed jobs).frames = record {
      are_parts = copied_parts jobs got.0 h.whole ∙ h.parts;
      is = refl;
    } in
    let P : MadeGroup → Type 0 = λ g. IsGroup owed g.copies g.frames in
    subst P got.1 made
