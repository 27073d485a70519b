use Rattle.std.proofs.Common.{[], ◌∷◌, Some, None}
use Rattle.wp_outside.specs.declared.kinds.Side.TheVariants.{Near, Far}
use Rattle.pair_runs.specs.Moves.{Load}
use Rattle.script_replay.specs.Going.{GoesAside}
use Rattle.script_replay.proofs.Calling.{load_goes, load_stops}
use Rattle.script_replay.proofs.Keeping.{with_run, stopped}
use Rattle.script_replay.proofs.run.Run.load.Goals as goal

pub load-requires-in-Ok : goal.load-requires-in-Ok
load-requires-in-Ok c = c.requires.far.ready

pub returns-in-Ok-load : goal.returns-in-Ok-load
returns-in-Ok-load c =
    load_goes c.ready_goes_on.ensures c.args.words c.in-Ok.over c.in-Ok-load.field-0 c.args.self.now c.load.new.self c.load-in-Ok.new.self None c.in-Ok.ensures.loads c.in-Ok-load.ensures.loads c.in-Ok.ensures.leaves c.in-Ok-load.ensures.leaves c.in-Ok.ensures.wire c.in-Ok-load.ensures.wire

pub returns-in-Err-load : goal.returns-in-Err-load
returns-in-Err-load c =
    stopped (Unit {0}) Far c.in-Err-load.fault c.stop_by.result (GoesAside (Load c.args.words ∷ []) c.args.self.now (with_run Far c.load-in-Ok.new.self (with_run Near c.load.new.self c.args.self.now))) c.stop_by.ensures
    (λ n. load_goes c.ready_goes_on.ensures c.args.words c.in-Ok.over 0 c.args.self.now c.load.new.self c.load-in-Ok.new.self (Some c.in-Err-load.fault) c.in-Ok.ensures.loads (c.in-Err-load.ensures.loads n) c.in-Ok.ensures.leaves (c.in-Err-load.ensures.leaves n) c.in-Ok.ensures.wire c.in-Err-load.ensures.wire)

pub returns-in-Err : goal.returns-in-Err
returns-in-Err c =
    stopped (Unit {0}) Near c.in-Err.fault c.stop_by-in-Err.result (GoesAside (Load c.args.words ∷ []) c.args.self.now (with_run Near c.load.new.self c.args.self.now)) c.stop_by-in-Err.ensures
    (λ n. load_stops c.ready_goes_on.ensures c.args.words c.args.self.now c.load.new.self c.in-Err.fault (c.in-Err.ensures.loads n) (c.in-Err.ensures.leaves n) c.in-Err.ensures.wire)
