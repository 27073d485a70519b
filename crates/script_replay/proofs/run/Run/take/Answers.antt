use Rattle.std.proofs.Common.{[], ◌∷◌, Bool, Some, None, Ok, ap}
use Rattle.wp_outside.specs.declared.kinds.Side.TheVariants.{Near, Far}
use Rattle.pair_runs.specs.Moves.{Take}
use Rattle.script_replay.specs.Going.{GoesAside}
use Rattle.script_replay.proofs.Calling.{take_goes, take_told, take_ready}
use Rattle.script_replay.proofs.Keeping.{with_run, stopped}
use Rattle.script_replay.proofs.run.Run.take.Goals as goal

pub returns-in-Ok-clause-moves : goal.returns-in-Ok-clause-moves
returns-in-Ok-clause-moves c = take_goes c.ready_goes_on.ensures c.args.side Near c.args.most c.args.self.now c.take.new.self None c.in-Near.is c.in-Ok.ensures.takes c.in-Ok.ensures.leaves

pub returns-in-Ok-clause-took : goal.returns-in-Ok-clause-took
returns-in-Ok-clause-took c = take_told c.ready_goes_on.ensures Near c.args.most c.args.self.now c.take.new.self c.in-Ok.took c.in-Ok.ensures.takes c.in-Ok.ensures.leaves (λ e. c.in-Ok.ensures.none (ap Ok e)) (λ e. c.in-Ok.ensures.some (ap Ok e))

pub returns-in-Ok-clause-ready : goal.returns-in-Ok-clause-ready
returns-in-Ok-clause-ready c = take_ready Near c.args.most c.args.self.now c.take.new.self c.in-Ok.ensures.takes c.requires c.in-Ok.ensures.leaves

pub returns-in-Err-clause-moves : goal.returns-in-Err-clause-moves
returns-in-Err-clause-moves c =
    stopped Bool Near c.in-Err.fault c.stop_by.result (GoesAside (Take c.args.side c.args.most ∷ []) c.args.self.now (with_run Near c.take.new.self c.args.self.now)) c.stop_by.ensures
    (λ n. take_goes c.ready_goes_on.ensures c.args.side Near c.args.most c.args.self.now c.take.new.self (Some c.in-Err.fault) c.in-Near.is (c.in-Err.ensures.takes n) (c.in-Err.ensures.leaves n))

pub returns-in-Ok-take-clause-moves : goal.returns-in-Ok-take-clause-moves
returns-in-Ok-take-clause-moves c = take_goes c.ready_goes_on.ensures c.args.side Far c.args.most c.args.self.now c.take-in-Far.new.self None c.in-Far.is c.in-Ok-take.ensures.takes c.in-Ok-take.ensures.leaves

pub returns-in-Ok-take-clause-took : goal.returns-in-Ok-take-clause-took
returns-in-Ok-take-clause-took c = take_told c.ready_goes_on.ensures Far c.args.most c.args.self.now c.take-in-Far.new.self c.in-Ok-take.took c.in-Ok-take.ensures.takes c.in-Ok-take.ensures.leaves (λ e. c.in-Ok-take.ensures.none (ap Ok e)) (λ e. c.in-Ok-take.ensures.some (ap Ok e))

pub returns-in-Ok-take-clause-ready : goal.returns-in-Ok-take-clause-ready
returns-in-Ok-take-clause-ready c = take_ready Far c.args.most c.args.self.now c.take-in-Far.new.self c.in-Ok-take.ensures.takes c.requires c.in-Ok-take.ensures.leaves

pub returns-in-Err-take-clause-moves : goal.returns-in-Err-take-clause-moves
returns-in-Err-take-clause-moves c =
    stopped Bool Far c.in-Err-take.fault c.stop_by-in-Err-take.result (GoesAside (Take c.args.side c.args.most ∷ []) c.args.self.now (with_run Far c.take-in-Far.new.self c.args.self.now)) c.stop_by-in-Err-take.ensures
    (λ n. take_goes c.ready_goes_on.ensures c.args.side Far c.args.most c.args.self.now c.take-in-Far.new.self (Some c.in-Err-take.fault) c.in-Far.is (c.in-Err-take.ensures.takes n) (c.in-Err-take.ensures.leaves n))
