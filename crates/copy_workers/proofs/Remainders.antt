-- What is left of a crew, with what was gathered, is each job once.
use Rattle.std.proofs.Common.{◌≡◌, List, [], ◌∷◌, ◌++◌, sym, ap, ◌∙◌, subst, IsPermutation, append_assoc}
use Rattle.std.specs.List.{AllZip}
use Rattle.std.proofs.lemmas.List.Sorted.{IsPermutation-sym, IsPermutation-append_left}
use Rattle.copy_workers.specs.declared.copies.CopyJob.{CopyJob}
use Rattle.copy_workers.specs.Copies.{DoneState, IsCopyOf}
use Rattle.copy_workers.specs.Hands.{PortState}
use Rattle.copy_workers.specs.Crews.{EachOnce, CopiesRest, HasDesk}
use Rattle.copy_workers.proofs.Shuffles.{via, along}

-- two pairs of lists that match place by place match behind each other
pub zipped : (js : List CopyJob) (ds : List DoneState) (js' : List CopyJob) (ds' : List DoneState) → AllZip IsCopyOf js ds → AllZip IsCopyOf js' ds'
    → AllZip IsCopyOf (js ++ js') (ds ++ ds')
zipped [] [] js' ds' z z' = z'
zipped [] (d ∷ ds) js' ds' z z' = absurd z
zipped (j ∷ js) [] js' ds' z z' = absurd z
zipped (j ∷ js) (d ∷ ds) js' ds' z z' = (z.0, zipped js ds js' ds' z.1 z')

-- one pair more that matches
pub one_more : (js : List CopyJob) (ds : List DoneState) (j : CopyJob) (d : DoneState) → AllZip IsCopyOf js ds → IsCopyOf j d
    → AllZip IsCopyOf (js ++ j ∷ []) (ds ++ d ∷ [])
one_more js ds j d z is = zipped js ds (j ∷ []) (d ∷ []) z (is, tt)

-- lists that are the same match the same
pub zip_moved : {js js' : List CopyJob} {ds ds' : List DoneState} → js' ≡ js → ds' ≡ ds → AllZip IsCopyOf js ds → AllZip IsCopyOf js' ds'
zip_moved {js} {js'} {ds} {ds'} e f z =
    subst (λ (l : List CopyJob). AllZip IsCopyOf l ds') (sym e) (subst (λ (l : List DoneState). AllZip IsCopyOf js l) (sym f) z)

-- the ports of a worker that has taken one job more and put its copy
pub one_copied : (jobs jobs' : PortState CopyJob) (results results' : PortState DoneState) (j : CopyJob) (d : DoneState)
    → jobs' ≡ record jobs { taken = jobs.taken ++ j ∷ [] } → results' ≡ record results { put = results.put ++ d ∷ [] }
    → IsCopyOf j d → HasDesk jobs results → HasDesk jobs' results'
one_copied jobs jobs' results results' j d e f is desk = record {
  job_parts = ap (λ (p : PortState CopyJob). p.parts) e ∙ desk.job_parts;
  result_parts = ap (λ (p : PortState DoneState). p.parts) f ∙ desk.result_parts;
  no_job = ap (λ (p : PortState CopyJob). p.put) e ∙ desk.no_job;
  no_result = ap (λ (p : PortState DoneState). p.taken) f ∙ desk.no_result;
  copied = zip_moved (ap (λ (p : PortState CopyJob). p.taken) e) (ap (λ (p : PortState DoneState). p.put) f) (one_more jobs.taken results.put j d desk.copied is);
}

-- the jobs that were taken have their copies among those put, and those that were left have theirs
pub once : (offered taken : List CopyJob) (gathered put left more : List DoneState) → AllZip IsCopyOf taken put
    → IsPermutation put (gathered ++ left) → CopiesRest offered taken more → EachOnce offered (gathered ++ (left ++ more))
once offered taken gathered put left more each all rest = record {
  order = taken ++ rest.rest;
  copies = put ++ more;
  all_jobs = IsPermutation-sym offered (taken ++ rest.rest) rest.all_jobs;
  all_results = via (IsPermutation-append_left more put (gathered ++ left) all) (along (append_assoc gathered left more));
  each = zipped taken put rest.rest more each rest.each;
}
