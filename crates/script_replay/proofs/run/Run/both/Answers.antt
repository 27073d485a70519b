use Rattle.std.proofs.Common.{[], ◌∷◌}
use Rattle.pair_runs.specs.Moves.{Push, Pull}
use Rattle.script_replay.proofs.Settling.{goes_then, goes_stop}
use Rattle.script_replay.proofs.run.Run.both.Goals as goal

pub pull-requires-clause-ready : goal.pull-requires-clause-ready
pull-requires-clause-ready g c = (c.in-Ok.ensures c.requires.ready).stays

pub returns-in-Ok : goal.returns-in-Ok
returns-in-Ok g c =
    goes_then c.pull.result (Push c.args.dir c.args.most ∷ []) (Pull c.args.dir c.args.most ∷ []) c.args.self.now c.push.new.self c.pull.new.self
    (g.L.LinkStore.line c.args.line.now) (g.L.LinkStore.line c.push.new.line) (g.L.LinkStore.line c.pull.new.line) c.in-Ok.ensures c.pull.ensures

pub returns-in-Err : goal.returns-in-Err
returns-in-Err g c =
    goes_stop (Unit {0}) (Unit {0}) c.in-Err.stop (Push c.args.dir c.args.most ∷ []) (Pull c.args.dir c.args.most ∷ []) c.args.self.now c.push.new.self
    (g.L.LinkStore.line c.args.line.now) (g.L.LinkStore.line c.push.new.line) c.in-Err.ensures
