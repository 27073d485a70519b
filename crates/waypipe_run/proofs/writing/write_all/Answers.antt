use Rattle.std.proofs.Common.{◌∙◌, ap, take, drop, arith}
use Rattle.waypipe_run.proofs.MovingLemmas.{held_more}
use Rattle.wp_outside.specs.Pieces.{held_with}
use Rattle.waypipe_run.proofs.writing.write_all.Goals as goal

pub loop-written-preserved : goal.loop-written-preserved
loop-written-preserved g c =
    let text = c.args.text.now in
    let held = g.K.Sink.held c.args.output.now in
    record {
      inside = omega (arith, c.in-Ok.ensures.part, c.split_at.ensures.back_len);
      text = c.in-Ok.ensures.content
          ∙ ap (λ rest. held_with (g.K.Sink.held c.loop-written.output) (take c.in-Ok.count rest)) c.split_at.ensures.back
          ∙ ap (λ front. held_with front (take c.in-Ok.count (drop c.loop-written.written text))) c.loop-written.invariant.text
          ∙ held_more held text c.loop-written.written c.in-Ok.count;
      faults = omega arith;
    }
