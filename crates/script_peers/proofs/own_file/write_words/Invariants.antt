use Rattle.std.proofs.Common.{◌≡◌}
use Rattle.script_peers.specs.Holding.{IsRewritten}
use Rattle.script_peers.specs.Owning.{written_from}
use Rattle.script_peers.proofs.own_file.write_words.Given as goal

-- the words before this step are written
abbrev pub invariant-loop-step : goal.invariant-loop-step
invariant-loop-step l = record {
  written : l.pen ≡ written_from l.first l.step l.value l.initial.pen;
  same : IsRewritten l.initial.pen l.pen;
}
