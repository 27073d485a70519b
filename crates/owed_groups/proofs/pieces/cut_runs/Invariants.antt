use Rattle.std.proofs.Common.{◌≡◌, ◌++◌, drop}
use Rattle.half_model.specs.Filling.{pieces_of}
use Rattle.message_plans.specs.Blocks.{AreInFile}
use Rattle.owed_groups.proofs.pieces.cut_runs.Given as goal

abbrev pub invariant-loop-run : goal.invariant-loop-run
invariant-loop-run l = record {
  all : l.pieces ++ pieces_of (drop l.run-index l.runs) ≡ pieces_of l.runs;
  left : AreInFile (drop l.run-index l.runs);
}
