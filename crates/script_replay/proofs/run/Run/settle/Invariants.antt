use Rattle.pair_runs.specs.Measure.{left}
use Rattle.script_replay.specs.Settling.{Leads}
use Rattle.script_replay.specs.Standing.{state_of, IsReady}
use Rattle.script_replay.proofs.run.Run.settle.Given as goal

-- the rounds so far lead on
abbrev pub invariant-rounds : goal.invariant-rounds
invariant-rounds g l = record {
  leads : Leads l.most (state_of l.fn.self (g.L.LinkStore.line l.fn.line)) (state_of l.self (g.L.LinkStore.line l.line));
  ready : IsReady l.self (g.L.LinkStore.line l.line);
}

abbrev pub decreases-rounds : goal.decreases-rounds
decreases-rounds g l = left (state_of l.self (g.L.LinkStore.line l.line))
