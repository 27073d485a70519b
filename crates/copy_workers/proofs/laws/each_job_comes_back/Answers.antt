use Rattle.copy_workers.proofs.ComeBackProofs.{each_job_comes_back}
use Rattle.copy_workers.proofs.laws.each_job_comes_back.Goals as goal

pub returns : goal.returns
returns c = each_job_comes_back
