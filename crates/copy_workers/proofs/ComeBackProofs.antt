-- The laws of jobs that came back once.
use Rattle.std.proofs.Common.{◌≡◌, ℕ, zero, suc, ◌<◌, ◌==◌, cond, List, [], ◌∷◌, length, get_or, sum_by, All, Contains, refl, sym, ap, ◌∙◌, subst, arith}
use Rattle.std.specs.List.{AllZip}
use Rattle.std.proofs.lemmas.List.Sums.{sum_by-cons}
use Rattle.std.proofs.lemmas.List.Sorted.{IsPermutation-sym, length_permutation, sum_by-IsPermutation, All-permutation, Contains-permutation}
use Rattle.pool_words.specs.Views.{PoolId, ReceiptState}
use Rattle.copy_workers.specs.declared.copies.CopyJob.{CopyJob}
use Rattle.copy_workers.specs.Copies.{DoneState, IsCopyOf}
use Rattle.copy_workers.specs.ComeBack.{AsManyComeBack, IdsComeBack, EachJobComesBack, NoStrangerComesBack, PoolsAreKept}

-- two lists that match place by place are as long
zipped_long : (js : List CopyJob) (ds : List DoneState) → AllZip IsCopyOf js ds → length ds ≡ length js
zipped_long [] [] z = refl
zipped_long [] (d ∷ ds) z = absurd z
zipped_long (j ∷ js) [] z = absurd z
zipped_long (j ∷ js) (d ∷ ds) z = ap suc (zipped_long js ds z.1)

pub as_many_come_back : AsManyComeBack
as_many_come_back jobs results once =
    length_permutation once.copies results once.all_results
    ∙ zipped_long once.order once.copies once.each
    ∙ sym (length_permutation once.order jobs once.all_jobs)

-- 1 where the ids are the same
abbrev one_at : ℕ → ℕ → ℕ
one_at id n = cond (n == id) 1 0

-- copies have the ids of their jobs
zipped_ids : (id : ℕ) (js : List CopyJob) (ds : List DoneState) → AllZip IsCopyOf js ds
    → sum_by (λ (d : DoneState). one_at id d.id) ds ≡ sum_by (λ (j : CopyJob). one_at id j.id) js
zipped_ids id [] [] z = refl
zipped_ids id [] (d ∷ ds) z = absurd z
zipped_ids id (j ∷ js) [] z = absurd z
zipped_ids id (j ∷ js) (d ∷ ds) z =
    let same : one_at id d.id ≡ one_at id j.id = ap (one_at id) z.0.id in
    omega (arith, same, zipped_ids id js ds z.1, sum_by-cons (λ (e : DoneState). one_at id e.id) d ds, sum_by-cons (λ (i : CopyJob). one_at id i.id) j js)

pub ids_come_back : IdsComeBack
ids_come_back jobs results id once =
    sum_by-IsPermutation (λ (d : DoneState). one_at id d.id) once.copies results once.all_results
    ∙ zipped_ids id once.order once.copies once.each
    ∙ sym (sum_by-IsPermutation (λ (j : CopyJob). one_at id j.id) once.order jobs once.all_jobs)

-- what stands at a place of the one list has its fellow at that place of the other
right_of : (js : List CopyJob) (ds : List DoneState) (k : ℕ) (j : CopyJob) → AllZip IsCopyOf js ds → k < length js → get_or js k j ≡ j
    → (d : DoneState) × Contains ds d × IsCopyOf j d
right_of [] ds k j z lt is = absurd (omega arith)
right_of (x ∷ js) [] k j z lt is = absurd z
right_of (x ∷ js) (d ∷ ds) zero j z lt is = (d, (0, omega arith, refl), subst (λ (i : CopyJob). IsCopyOf i d) is z.0)
right_of (x ∷ js) (e ∷ ds) (suc k) j z lt is =
    let more = right_of js ds k j z.1 (omega arith) is in
    (more.0, (suc more.1.0, omega (arith, more.1.1), more.1.2), more.2)

left_of : (js : List CopyJob) (ds : List DoneState) (k : ℕ) (d : DoneState) → AllZip IsCopyOf js ds → k < length ds → get_or ds k d ≡ d
    → (j : CopyJob) × Contains js j × IsCopyOf j d
left_of js [] k d z lt is = absurd (omega arith)
left_of [] (x ∷ ds) k d z lt is = absurd z
left_of (j ∷ js) (x ∷ ds) zero d z lt is = (j, (0, omega arith, refl), subst (IsCopyOf j) is z.0)
left_of (i ∷ js) (x ∷ ds) (suc k) d z lt is =
    let more = left_of js ds k d z.1 (omega arith) is in
    (more.0, (suc more.1.0, omega (arith, more.1.1), more.1.2), more.2)

pub each_job_comes_back : EachJobComesBack
each_job_comes_back jobs results job once has =
    let there = Contains-permutation jobs once.order job (IsPermutation-sym once.order jobs once.all_jobs) has in
    let fellow = right_of once.order once.copies there.0 job once.each there.1 there.2 in
    let place = Contains-permutation once.copies results fellow.0 once.all_results fellow.1 in
    (place.0, fellow.0, place.1, place.2, fellow.2)

pub no_stranger_comes_back : NoStrangerComesBack
no_stranger_comes_back jobs results done once has =
    let there = Contains-permutation results once.copies done (IsPermutation-sym once.copies results once.all_results) has in
    let fellow = left_of once.order once.copies there.0 done once.each there.1 there.2 in
    let place = Contains-permutation once.order jobs fellow.0 once.all_jobs fellow.1 in
    (place.0, fellow.0, place.1, place.2, fellow.2)

-- the receipts of copies are of the pools of their jobs
zipped_pools : (pool : PoolId) (number : ℕ) (js : List CopyJob) (ds : List DoneState) → AllZip IsCopyOf js ds
    → All (λ (j : CopyJob). (j.eye.pool ≡ pool) × (j.eye.number ≡ number)) js
    → All (λ (d : DoneState). (d.receipt.pool ≡ pool) × (d.receipt.number ≡ number)) ds
zipped_pools pool number js [] z all k e lt = absurd (omega arith)
zipped_pools pool number [] (d ∷ ds) z all k e lt = absurd z
zipped_pools pool number (j ∷ js) (d ∷ ds) z all zero e lt =
    let mine = all 0 j (omega arith) in
    (ap (λ (r : ReceiptState). r.pool) z.0.loads ∙ mine.0, ap (λ (r : ReceiptState). r.number) z.0.loads ∙ mine.1)
zipped_pools pool number (j ∷ js) (d ∷ ds) z all (suc k) e lt =
    zipped_pools pool number js ds z.1 (λ i x below. all (suc i) x (omega arith)) k e (omega arith)

pub pools_are_kept : PoolsAreKept
pools_are_kept jobs results pool number once all =
    let P : CopyJob → Type 0 = λ j. (j.eye.pool ≡ pool) × (j.eye.number ≡ number) in
    let Q : DoneState → Type 0 = λ d. (d.receipt.pool ≡ pool) × (d.receipt.number ≡ number) in
    All-permutation Q once.copies results once.all_results
    (zipped_pools pool number once.order once.copies once.each (All-permutation P jobs once.order (IsPermutation-sym once.order jobs once.all_jobs) all))
