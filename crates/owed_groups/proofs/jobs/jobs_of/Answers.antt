use Rattle.half_model.specs.Filling.{parts_of}
use Rattle.owed_groups.specs.JobSteps.{eyes_words}
use Rattle.owed_groups.proofs.JobLemmas.{kept_of}
use Rattle.owed_groups.proofs.jobs.jobs_of.Goals as goal

pub from_slots-requires : goal.from_slots-requires
from_slots-requires c =
    kept_of c.args.next c.args.eyes.now (parts_of c.args.file.number (eyes_words c.args.eyes.now) c.args.pieces.now) c.in_ok-slots.slots.items c.in_ok-slots.ensures
