use Rattle.std.proofs.Common.{◌≡◌, ◌-◌, ◌≤◌, length, take}
use Rattle.wp_outside.specs.Pieces.{held_with}
use Rattle.waypipe_run.proofs.writing.write_all.Given as goal

-- what was written is the text up to here
abbrev pub invariant-loop-written : goal.invariant-loop-written
invariant-loop-written g l = record {
  inside : l.written ≤ length l.text;
  text : g.K.Sink.held l.output ≡ held_with (g.K.Sink.held l.initial.output) (take l.written l.text);
  faults : g.K.Sink.faults l.initial.output ≤ g.K.Sink.faults l.output;
}

abbrev pub decreases-loop-written : goal.decreases-loop-written
decreases-loop-written g l = length l.text - l.written
