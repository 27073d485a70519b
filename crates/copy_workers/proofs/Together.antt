-- The ports of a chief, with those of more and more of its workers.
use Rattle.std.proofs.Common.{◌≡◌, ℕ, zero, suc, ◌+◌, true, Option, Some, None, List, [], ◌∷◌, ◌++◌, length, All, IfSome, sym, ap, ◌∙◌, subst, ⊎_elim, append-nil, arith}
use Rattle.std.specs.List.{AllZip}
use Rattle.std.proofs.lemmas.List.{nil_from_length}
use Rattle.std.proofs.lemmas.Option.{none-some}
use Rattle.copy_workers.specs.declared.copies.CopyJob.{CopyJob}
use Rattle.copy_workers.specs.Copies.{DoneState, IsCopyOf}
use Rattle.copy_workers.specs.Hands.{PortState, all_parts}
use Rattle.copy_workers.specs.Notices.{NoticeState, IsKnown}
use Rattle.copy_workers.specs.Crews.{ChiefState, WorkerState, AreAllOf, HasPorts, HasDesk}
use Rattle.copy_workers.proofs.InTurn.{head_all, tail_all}
use Rattle.copy_workers.proofs.Remainders.{zipped, zip_moved}

-- what a worker was told, if it was, are the jobs that were offered
abbrev pub IsTold : List CopyJob → WorkerState → Type 0
IsTold offered s = IfSome s.told (λ jobs. jobs ≡ offered)

-- the chief's ports have those of its workers but for the rest
pub record Joined (chief : ChiefState) (spent rest : List WorkerState) (jobs : PortState CopyJob) (results : PortState DoneState) (notice : NoticeState) : Type 0 where
  pub job_queue : jobs.queue ≡ chief.crew.jobs
  pub result_queue : results.queue ≡ chief.crew.results
  pub table : notice.table ≡ chief.crew.notice
  pub poster : notice.posts ≡ true
  pub posted : notice.jobs ≡ Some chief.offered
  pub job_parts : jobs.parts + length rest ≡ all_parts
  pub result_parts : results.parts + length rest ≡ all_parts
  pub offered : jobs.put ≡ chief.offered
  pub gathered : results.taken ≡ chief.gathered
  pub copied : AllZip IsCopyOf jobs.taken results.put
  pub crews : All (λ (s : WorkerState). s.crew ≡ chief.crew) rest
  pub told : All (IsTold chief.offered) rest → All (IsTold chief.offered) spent

none_left : {X : Type 0} (P : X → Type 0) → All P []
none_left P k d lt = absurd (omega (arith, lt))

all_cons : {X : Type 0} (P : X → Type 0) (x : X) (xs : List X) → P x → All P xs → All P (x ∷ xs)
all_cons P x xs one all zero d lt = one
all_cons P x xs one all (suc k) d lt = all k d (omega (arith, lt))

abbrev value_or : List CopyJob → Option (List CopyJob) → List CopyJob
value_or other None = other
value_or other (Some jobs) = jobs

pub all_one : {X : Type 0} (P : X → Type 0) (x : X) → P x → All P (x ∷ [])
all_one P x one = all_cons P x [] one (none_left P)

-- what is known of a notice that was posted is what it says
is_told : (told : Option (List CopyJob)) (offered : List CopyJob) → IsKnown (Some offered) told → IfSome told (λ jobs. jobs ≡ offered)
is_told None offered known = tt
is_told (Some jobs) offered known =
    ⊎_elim (λ (e : Some jobs ≡ None). absurd (none-some jobs (sym e))) (λ (e : Some jobs ≡ Some offered). ap (value_or []) e) known

-- a chief without its workers
pub begins : (chief : ChiefState) (spent rest : List WorkerState) (jobs : PortState CopyJob) (results : PortState DoneState) (notice : NoticeState)
    → rest ≡ spent → jobs.queue ≡ chief.crew.jobs → results.queue ≡ chief.crew.results → notice.table ≡ chief.crew.notice
    → jobs.put ≡ chief.offered → results.taken ≡ chief.gathered → HasPorts chief.workers jobs results
    → notice.posts ≡ true → notice.jobs ≡ Some jobs.put → AreAllOf chief spent → Joined chief spent rest jobs results notice
begins chief spent rest jobs results notice same jq rq tq put taken ports poster posted all =
    let long : length rest ≡ chief.workers = ap length same ∙ all.0 in
    record {
      job_queue = jq;
      result_queue = rq;
      table = tq;
      poster = poster;
      posted = posted ∙ ap Some put;
      job_parts = ap (λ (n : ℕ). jobs.parts + n) long ∙ ports.job_parts;
      result_parts = ap (λ (n : ℕ). results.parts + n) long ∙ ports.result_parts;
      offered = put;
      gathered = taken;
      copied = zip_moved ports.no_job ports.no_result tt;
      crews = subst (All (λ (s : WorkerState). s.crew ≡ chief.crew)) (sym same) all.1;
      told = λ a. subst (All (IsTold chief.offered)) same a;
    }

-- a chief with one worker more
pub joins : (chief : ChiefState) (spent rest less : List WorkerState) (worker : WorkerState) (jobs jobs' theirs : PortState CopyJob)
    (results results' made : PortState DoneState) (notice notice' read : NoticeState)
    → rest ≡ worker ∷ less → HasDesk theirs made → read.jobs ≡ worker.told
    → jobs'.parts ≡ jobs.parts + theirs.parts → jobs'.put ≡ jobs.put ++ theirs.put → jobs'.taken ≡ jobs.taken ++ theirs.taken → jobs'.queue ≡ jobs.queue
    → results'.parts ≡ results.parts + made.parts → results'.put ≡ results.put ++ made.put → results'.taken ≡ results.taken ++ made.taken → results'.queue ≡ results.queue
    → IsKnown notice.jobs read.jobs → notice' ≡ notice
    → Joined chief spent rest jobs results notice → Joined chief spent less jobs' results' notice'
joins chief spent rest less worker jobs jobs' theirs results results' made notice notice' read e desk says jp jput jt jq rp rput rt rq known same before =
    let long : length rest ≡ suc (length less) = ap length e in
    let told : IsTold chief.offered worker =
    is_told worker.told chief.offered (subst (IsKnown (Some chief.offered)) says (subst (λ (o : Option (List CopyJob)). IsKnown o read.jobs) before.posted known)) in
    record {
      job_queue = jq ∙ before.job_queue;
      result_queue = rq ∙ before.result_queue;
      table = ap (λ (n : NoticeState). n.table) same ∙ before.table;
      poster = ap (λ (n : NoticeState). n.posts) same ∙ before.poster;
      posted = ap (λ (n : NoticeState). n.jobs) same ∙ before.posted;
      job_parts = omega (arith, jp, desk.job_parts, long, before.job_parts);
      result_parts = omega (arith, rp, desk.result_parts, long, before.result_parts);
      offered = jput ∙ ap (λ (l : List CopyJob). jobs.put ++ l) desk.no_job ∙ append-nil jobs.put ∙ before.offered;
      gathered = rt ∙ ap (λ (l : List DoneState). results.taken ++ l) desk.no_result ∙ append-nil results.taken ∙ before.gathered;
      copied = zip_moved jt rput (zipped jobs.taken results.put theirs.taken made.put before.copied desk.copied);
      crews = tail_all (λ (s : WorkerState). s.crew ≡ chief.crew) rest less worker e before.crews;
      told = λ a. before.told (subst (All (IsTold chief.offered)) (sym e) (all_cons (IsTold chief.offered) worker less told a));
    }

-- a worker that is still to join is of the chief's crew
pub is_of : (chief : ChiefState) (spent rest less : List WorkerState) (worker : WorkerState) (jobs : PortState CopyJob)
    (results : PortState DoneState) (notice : NoticeState) → rest ≡ worker ∷ less → Joined chief spent rest jobs results notice → worker.crew ≡ chief.crew
is_of chief spent rest less worker jobs results notice e before = head_all (λ (s : WorkerState). s.crew ≡ chief.crew) rest less worker e before.crews

-- a chief with all its workers
pub ends : (chief : ChiefState) (spent rest : List WorkerState) (jobs : PortState CopyJob) (results : PortState DoneState) (notice : NoticeState)
    → length rest ≡ 0 → Joined chief spent rest jobs results notice → Joined chief spent [] jobs results notice
ends chief spent rest jobs results notice none before =
    subst (λ (l : List WorkerState). Joined chief spent l jobs results notice) (nil_from_length rest none) before

pub all_told : (chief : ChiefState) (spent : List WorkerState) (jobs : PortState CopyJob) (results : PortState DoneState) (notice : NoticeState)
    → Joined chief spent [] jobs results notice → All (IsTold chief.offered) spent
all_told chief spent jobs results notice whole = whole.told (none_left (IsTold chief.offered))
