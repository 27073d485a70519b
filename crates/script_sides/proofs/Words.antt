-- How many words of copies are left to be loaded, where one copy at a time is out.
use Rattle.std.proofs.Common.{◌≡◌, ℕ, suc, ◌+◌, ◌-◌, ◌*◌, ◌<◌, ◌≤◌, List, [], ◌∷◌, ◌++◌, map, length, min, ℤ, Bool, true, false, ◌&&◌, cond, Option, Some, None, refl, sym, ap, subst, ◌∙◌, arith, if◌then◌else◌}
use Rattle.std.proofs.Math.Dec.{ltb}
use Rattle.std.proofs.lemmas.Bool.{cond_both, ltb-true}
use Rattle.std.proofs.lemmas.List.Sums.{sum_by-cons, sum_by-append}
use Rattle.std.proofs.lemmas.List.Folds.{list_all-append}
use Rattle.std.specs.List.{AllByRecursion}
use Rattle.std.specs.Prelude.{sum, sum_by, take}
use Rattle.block_intervals.specs.declared.run.Run.{Run}
use Rattle.half_model.specs.Filling.{Part, part_in, parts_from, parts_of_piece, parts_of}
use Rattle.half_model.specs.Group.{Owed}
use Rattle.half_model.specs.Jobs.{Job, JobState, Waits, IsOut, IsBack, Done, is_out, is_back, is_done, handed, all_back}
use Rattle.pair_runs.specs.Sides.{awaited, loaded_by, loaded_in, words_in, side_seen}
use Rattle.pool_words.specs.declared.views.Sight.{Sight}
use Rattle.pool_words.specs.Views.{sight, sights}
use Rattle.receipt_laws.specs.Lending.{IsIn, sent_out, CopiesAre}
use Rattle.receipt_laws.proofs.Jobs.{is_not_done, one_back, some_out}
use Rattle.side_model.proofs.Sounds.{all_append}
use Rattle.side_model.specs.Follows.{JobsFollow}
use Rattle.side_model.specs.State.{Now}
use Rattle.side_model.specs.Trails.{TrailState}

-- ---- each part has words

abbrev HasWords : Part → Type 0
HasWords part = 0 < part.count

part_has : (file : ℤ) (segment words first end : ℕ) → AllByRecursion HasWords (part_in file segment words first end)
part_has file segment words first end =
    cond_both (ltb first (min words end)) (record { file = file; segment = segment; first = first; count = min words end - first } ∷ []) []
    (AllByRecursion HasWords) (λ e. (omega (arith, ltb-true first (min words end) e), tt)) (λ e. tt)

from_have : (file : ℤ) (segment : ℕ) (segments : List ℕ) (first end : ℕ) → AllByRecursion HasWords (parts_from file segment segments first end)
from_have file segment [] first end = tt
from_have file segment (words ∷ segments) first end =
    all_append HasWords (part_in file segment words first end) (parts_from file (segment + 1) segments (first - words) (end - words))
    (part_has file segment words first end) (from_have file (segment + 1) segments (first - words) (end - words))

parts_have : (file : ℤ) (segments : List ℕ) (pieces : List Run) → AllByRecursion HasWords (parts_of file segments pieces)
parts_have file segments [] = tt
parts_have file segments (piece ∷ pieces) =
    all_append HasWords (parts_of_piece file segments piece) (parts_of file segments pieces) (from_have file 0 segments (8 * piece.first) (8 * piece.end)) (parts_have file segments pieces)

-- and so has each job
abbrev pub JobHas : Job → Type 0
JobHas job = 0 < job.part.count

jobs_have : (jobs : List Job) → AllByRecursion HasWords (map (λ job. job.part) jobs) → AllByRecursion JobHas jobs
jobs_have [] h = tt
jobs_have (job ∷ jobs) h = (h.0, jobs_have jobs h.1)

pub follow_have : (owed : Owed) (jobs : List Job) → JobsFollow (Some owed) jobs → AllByRecursion JobHas jobs
follow_have owed jobs h = jobs_have jobs (subst (λ (parts : List Part). AllByRecursion HasWords parts) (sym h.0.parts) (parts_have owed.file owed.segments owed.pieces))

-- ---- the words that are left of a job

abbrev pub left_in : ℕ → Job → ℕ
left_in half job = job.part.count - loaded_in half job

-- no more are loaded of a job than it has
abbrev pub Fair : ℕ → Job → Type 0
Fair half job = loaded_in half job ≤ words_in job

-- one that is not back has some left
abbrev pub Lacks : ℕ → Job → Type 0
Lacks half job = is_back job.state ≡ false → 0 < left_in half job

pub left_sum : (half : ℕ) (jobs : List Job) → AllByRecursion (Fair half) jobs → sum (map words_in jobs) ≡ sum_by (loaded_in half) jobs + sum_by (left_in half) jobs
left_sum half [] h = refl
left_sum half (job ∷ jobs) h =
    let more : sum (words_in job ∷ map words_in jobs) ≡ words_in job + sum (map words_in jobs) = sum_by-cons (λ x. x) (words_in job) (map words_in jobs) in
    omega (arith, more, sum_by-cons (loaded_in half) job jobs, sum_by-cons (left_in half) job jobs, h.0, left_sum half jobs h.1)

pub some_left : (half : ℕ) (jobs : List Job) → AllByRecursion (Lacks half) jobs → all_back jobs ≡ false → 0 < sum_by (left_in half) jobs
some_left half [] h e = absurd cc
some_left half (job ∷ jobs) h e = by_back (λ k. some_left half jobs h.1 k) (is_back job.state) refl e
  where
    by_back : (all_back jobs ≡ false → 0 < sum_by (left_in half) jobs) → (b : Bool) → is_back job.state ≡ b → (b && all_back jobs) ≡ false → 0 < sum_by (left_in half) (job ∷ jobs)
    by_back rest true d k = omega (arith, sum_by-cons (left_in half) job jobs, rest k)
    by_back rest false d k = omega (arith, sum_by-cons (left_in half) job jobs, h.0 d)

back_left : (half count : ℕ) (state : JobState) → is_back state ≡ true → count - loaded_by half count state ≡ 0
back_left half count (Waits eye) e = absurd cc
back_left half count IsOut e = absurd cc
back_left half count (IsBack words receipt) e = omega arith

pub none_left : (half : ℕ) (jobs : List Job) → all_back jobs ≡ true → sum_by (left_in half) jobs ≡ 0
none_left half [] e = refl
none_left half (job ∷ jobs) e = by_back (λ k. none_left half jobs k) (is_back job.state) refl e
  where
    by_back : (all_back jobs ≡ true → sum_by (left_in half) jobs ≡ 0) → (b : Bool) → is_back job.state ≡ b → (b && all_back jobs) ≡ true → sum_by (left_in half) (job ∷ jobs) ≡ 0
    by_back rest true d k = omega (arith, sum_by-cons (left_in half) job jobs, back_left half job.part.count job.state d, rest k)
    by_back rest false d k = absurd cc

-- ---- jobs that are not out

in_state : (half other count : ℕ) (state : JobState) → is_out state ≡ false → loaded_by half count state ≡ loaded_by other count state
in_state half other count (Waits eye) e = refl
in_state half other count IsOut e = absurd cc
in_state half other count (IsBack words receipt) e = refl

pub in_loaded : (half other : ℕ) (jobs : List Job) → AllByRecursion IsIn jobs → sum_by (loaded_in half) jobs ≡ sum_by (loaded_in other) jobs
in_loaded half other [] h = refl
in_loaded half other (job ∷ jobs) h =
    omega (arith, sum_by-cons (loaded_in half) job jobs, sum_by-cons (loaded_in other) job jobs, in_state half other job.part.count job.state h.0, in_loaded half other jobs h.1)

in_fair : (half count : ℕ) (state : JobState) → is_out state ≡ false → loaded_by half count state ≤ count
in_fair half count (Waits eye) e = omega arith
in_fair half count IsOut e = absurd cc
in_fair half count (IsBack words receipt) e = omega arith

in_lacks : (half count : ℕ) (state : JobState) → is_out state ≡ false → 0 < count → is_back state ≡ false → 0 < count - loaded_by half count state
in_lacks half count (Waits eye) e l d = omega (arith, l)
in_lacks half count IsOut e l d = absurd cc
in_lacks half count (IsBack words receipt) e l d = absurd cc

pub all_fair : (half : ℕ) (jobs : List Job) → AllByRecursion IsIn jobs → AllByRecursion (Fair half) jobs
all_fair half [] h = tt
all_fair half (job ∷ jobs) h = (in_fair half job.part.count job.state h.0, all_fair half jobs h.1)

pub all_lack : (half : ℕ) (jobs : List Job) → AllByRecursion IsIn jobs → AllByRecursion JobHas jobs → AllByRecursion (Lacks half) jobs
all_lack half [] h k = tt
all_lack half (job ∷ jobs) h k = (λ d. in_lacks half job.part.count job.state h.0 k.0 d, all_lack half jobs h.1 k.1)

-- ---- one that is out

pub out_loaded : (half more : ℕ) (job : Job) (before after : List Job) → AllByRecursion IsIn before → AllByRecursion IsIn after
    → sum_by (loaded_in (half + more)) (before ++ sent_out job ∷ after) ≡ sum_by (loaded_in half) (before ++ sent_out job ∷ after) + more
out_loaded half more job before after h k =
    omega (
      arith,
      sum_by-append (loaded_in (half + more)) before (sent_out job ∷ after),
      sum_by-append (loaded_in half) before (sent_out job ∷ after),
      sum_by-cons (loaded_in (half + more)) (sent_out job) after,
      sum_by-cons (loaded_in half) (sent_out job) after,
      in_loaded (half + more) half before h,
      in_loaded (half + more) half after k,
    )

pub out_fair : (half : ℕ) (job : Job) (before after : List Job) → half ≤ job.part.count → AllByRecursion IsIn before → AllByRecursion IsIn after → AllByRecursion (Fair half) (before ++ sent_out job ∷ after)
out_fair half job before after l h k = all_append (Fair half) before (sent_out job ∷ after) (all_fair half before h) (l, all_fair half after k)

-- the words that are left: those of the copy that is out, and those of the others
pub out_left : (half : ℕ) (job : Job) (before after : List Job) → sum_by (left_in half) (before ++ sent_out job ∷ after) ≡ (sum_by (left_in half) before + sum_by (left_in half) after) + (job.part.count - half)
out_left half job before after = omega (arith, sum_by-append (left_in half) before (sent_out job ∷ after), sum_by-cons (left_in half) (sent_out job) after)

-- it is handed back
handed_at : (done : Done) (job : Job) (before after : List Job) → AllByRecursion IsIn before → is_done done (sent_out job) ≡ true
    → handed done (before ++ sent_out job ∷ after) ≡ before ++ record job { state = IsBack done.words done.receipt } ∷ after
handed_at done job [] after h e = ap (λ (b : Bool). cond b (record job { state = IsBack done.words done.receipt } ∷ after) (sent_out job ∷ handed done after)) e
handed_at done job (other ∷ before) after h e =
    ap (λ (b : Bool). cond b (record other { state = IsBack done.words done.receipt } ∷ (before ++ sent_out job ∷ after)) (other ∷ handed done (before ++ sent_out job ∷ after))) (is_not_done done other h.0)
    ∙ ap (λ (jobs : List Job). other ∷ jobs) (handed_at done job before after h.1 e)

-- whether the others are all back
pub handed_back : (done : Done) (job : Job) (before after : List Job) → AllByRecursion IsIn before → is_done done (sent_out job) ≡ true
    → all_back (handed done (before ++ sent_out job ∷ after)) ≡ (all_back before && all_back after)
handed_back done job before after h e =
    ap all_back (handed_at done job before after h e) ∙ list_all-append (λ it. is_back it.state) before (record job { state = IsBack done.words done.receipt } ∷ after)

-- ---- a side

-- a message is owed whose copies are awaited, where one is out
pub is_awaited : (job : Job) (s : Now) → CopiesAre (Some job) s → awaited s.live.sending.owes s.kept.jobs ≡ s.kept.jobs
is_awaited job s h = by_owes s.live.sending.owes refl
  where
    by_owes : (owes : Option Owed) → s.live.sending.owes ≡ owes → awaited owes s.kept.jobs ≡ s.kept.jobs
    by_owes None e = some_out job s.kept.jobs h.one (h.owed e)
    by_owes (Some owed) e = ap (λ (b : Bool). if b then [] else s.kept.jobs) (one_back job s.kept.jobs h.one)

-- more words of it are loaded
pub more_loaded : (half more : ℕ) (job : Job) (t : TrailState) → CopiesAre (Some job) t.now → side_seen (half + more) t ≡ record (side_seen half t) { loaded = (side_seen half t).loaded + more }
more_loaded half more job t h =
    let jobs : awaited t.now.live.sending.owes t.now.kept.jobs ≡ h.one.before ++ sent_out job ∷ h.one.after = is_awaited job t.now h ∙ h.one.row in
    ap (λ (n : ℕ). record (side_seen half t) { loaded = n })
    (ap (λ (it : List Job). sum_by (loaded_in (half + more)) it) jobs
    ∙ out_loaded half more job h.one.before h.one.after h.one.in_before h.one.in_after
    ∙ ap (λ (it : List Job). sum_by (loaded_in half) it + more) (sym jobs))

-- ---- what an eye saw of a row, of which a front was loaded before

front_of : (out back : List ℕ) → take (length out) (out ++ back) ≡ out
front_of [] back = refl
front_of (x ∷ out) back = ap (λ (it : List ℕ). x ∷ it) (front_of out back)

pub sights_rows : (i : ℕ) (front out back : List ℕ) → sights i (take (length front + length out) (front ++ (out ++ back))) ≡ sights i front ++ sights (i + length front) out
sights_rows i [] out back =
    let none : length {A = ℕ} [] + length out ≡ length out = omega arith in
    ap (λ (n : ℕ). sights i (take n (out ++ back))) none ∙ ap (sights i) (front_of out back) ∙ ap (λ (n : ℕ). sights n out) (omega arith)
sights_rows i (x ∷ front) out back =
    let more : length (x ∷ front) + length out ≡ suc (length front + length out) = omega arith in
    ap (λ (n : ℕ). sights i (take n (x ∷ (front ++ (out ++ back))))) more
    ∙ ap (λ (it : List Sight). sight i x ∷ it) (sights_rows (i + 1) front out back ∙ ap (λ (n : ℕ). sights (i + 1) front ++ sights n out) (omega arith))
