use Rattle.copy_workers.proofs.NoticeSteps.{begins}
use Rattle.copy_workers.proofs.notices.Notice.open.Goals as goal

pub of_words-requires : goal.of_words-requires
of_words-requires c = begins _ (c.as_slice.ensures)
