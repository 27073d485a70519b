use Rattle.std.proofs.Common.{[], ◌∷◌, Some, None}
use Rattle.wp_outside.specs.declared.kinds.Side.TheVariants.{Near, Far}
use Rattle.pair_runs.specs.Moves.{Close}
use Rattle.script_replay.specs.Going.{GoesAside}
use Rattle.script_replay.proofs.Calling.{close_goes}
use Rattle.script_replay.proofs.Keeping.{with_run, stopped}
use Rattle.script_replay.proofs.run.Run.close.Goals as goal

pub returns-in-Ok : goal.returns-in-Ok
returns-in-Ok c = close_goes c.ready_goes_on.ensures c.args.side Near c.args.self.now c.close.new.self None c.in-Near.is c.in-Ok.ensures.closes c.in-Ok.ensures.leaves c.in-Ok.ensures.wire

pub returns-in-Err : goal.returns-in-Err
returns-in-Err c =
    stopped (Unit {0}) Near c.in-Err.fault c.stop_by.result (GoesAside (Close c.args.side ∷ []) c.args.self.now (with_run Near c.close.new.self c.args.self.now)) c.stop_by.ensures
    (λ n. close_goes c.ready_goes_on.ensures c.args.side Near c.args.self.now c.close.new.self (Some c.in-Err.fault) c.in-Near.is (c.in-Err.ensures.closes n) (c.in-Err.ensures.leaves n) c.in-Err.ensures.wire)

pub returns-in-Ok-close : goal.returns-in-Ok-close
returns-in-Ok-close c = close_goes c.ready_goes_on.ensures c.args.side Far c.args.self.now c.close-in-Far.new.self None c.in-Far.is c.in-Ok-close.ensures.closes c.in-Ok-close.ensures.leaves c.in-Ok-close.ensures.wire

pub returns-in-Err-close : goal.returns-in-Err-close
returns-in-Err-close c =
    stopped (Unit {0}) Far c.in-Err-close.fault c.stop_by-in-Err-close.result (GoesAside (Close c.args.side ∷ []) c.args.self.now (with_run Far c.close-in-Far.new.self c.args.self.now)) c.stop_by-in-Err-close.ensures
    (λ n. close_goes c.ready_goes_on.ensures c.args.side Far c.args.self.now c.close-in-Far.new.self (Some c.in-Err-close.fault) c.in-Far.is (c.in-Err-close.ensures.closes n) (c.in-Err-close.ensures.leaves n) c.in-Err-close.ensures.wire)
