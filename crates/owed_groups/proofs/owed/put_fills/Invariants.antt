use Rattle.std.proofs.Common.{◌≡◌, ◌++◌, drop}
use Rattle.half_model.specs.Filling.{fills, words_bytes}
use Rattle.half_model.specs.Group.{words_in}
use Rattle.half_model.specs.Jobs.{copies_of}
use Rattle.message_plans.specs.Blocks.{AreInFile}
use Rattle.owed_groups.specs.Slots.{words_from}
use Rattle.owed_groups.proofs.owed.put_fills.Given as goal

abbrev pub invariant-loop-piece : goal.invariant-loop-piece
invariant-loop-piece l = record {
  all : l.row ++ fills l.file.rid (drop l.piece-index l.pieces) (words_bytes (words_from l.place l.copies))
      ≡ l.fn.before ++ fills l.file.rid l.pieces (words_bytes (words_in (copies_of l.copies)));
  left : AreInFile (drop l.piece-index l.pieces);
}
