use Rattle.std.proofs.Common.{◌≡◌, ◌<◌, drop, length}
use Rattle.script_replay.specs.Playing.{LeadsOn}
use Rattle.script_replay.specs.Standing.{IsReady, state_of}
use Rattle.script_replay.proofs.replaying.play.Given as goal

-- the lines so far lead on to those that are left
abbrev pub invariant-loop-step : goal.invariant-loop-step
invariant-loop-step g l = record {
  leads : LeadsOn l.steps (drop l.step-index l.steps) l.most (state_of l.initial.run (g.L.LinkStore.line l.initial.line)) (state_of l.run (g.L.LinkStore.line l.line));
  ready : IsReady l.run (g.L.LinkStore.line l.line);
  some : 0 < l.most;
  sized : length l.room ≡ 65536;
}
