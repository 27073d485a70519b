use Rattle.std.proofs.Common.{◌≡◌, ◌+◌, ◌++◌, drop, length}
use Rattle.half_model.specs.Filling.{parts_of}
use Rattle.half_model.specs.Jobs.{jobs_of}
use Rattle.message_plans.specs.Blocks.{AreInFile}
use Rattle.owed_groups.specs.JobSteps.{eyes_words}
use Rattle.owed_groups.proofs.jobs.slots_of.Given as goal

abbrev pub invariant-loop-piece : goal.invariant-loop-piece
invariant-loop-piece l = record {
  jobs : l.slots.items
      ++ jobs_of (l.next + length l.slots.items) l.fn.eyes (parts_of l.file.number (eyes_words l.fn.eyes) (drop l.piece-index l.pieces))
      ≡ jobs_of l.next l.fn.eyes (parts_of l.file.number (eyes_words l.fn.eyes) l.pieces);
  same : l.eyes ≡ l.fn.eyes;
  left : AreInFile (drop l.piece-index l.pieces);
}
