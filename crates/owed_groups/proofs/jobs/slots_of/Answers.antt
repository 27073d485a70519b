use Rattle.std.proofs.Common.{◌∙◌}
use Rattle.owed_groups.proofs.JobLemmas.{piece_put, rest_in_file}
use Rattle.owed_groups.proofs.jobs.slots_of.Goals as goal

pub loop-piece-preserved : goal.loop-piece-preserved
loop-piece-preserved c = record {
  jobs =
      piece_put c.args.next c.args.file.number c.args.eyes.now c.loop-piece.eyes c.loop-piece.slots.items c.add_piece.new.slots.items c.args.pieces.now
      c.loop-piece.piece-index _ c.loop-piece.invariant.same c.loop-piece-test.true c.in_ok-add_piece.ensures.slots
      ∙ c.loop-piece.invariant.jobs;
  same = c.in_ok-add_piece.ensures.eyes ∙ c.loop-piece.invariant.same;
  left = rest_in_file c.args.pieces.now c.loop-piece.piece-index c.loop-piece-test.true c.loop-piece.invariant.left;
}
