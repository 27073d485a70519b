use Rattle.std.proofs.Common.{[], ◌∷◌, Bool, Some, None, Ok, ap}
use Rattle.wp_outside.specs.declared.kinds.Side.TheVariants.{Near, Far}
use Rattle.pair_runs.specs.Moves.{LoadAll}
use Rattle.script_replay.specs.Going.{GoesAside}
use Rattle.script_replay.proofs.Calling.{load_all_goes, load_all_changed, load_all_ready}
use Rattle.script_replay.proofs.Keeping.{with_run, stopped}
use Rattle.script_replay.proofs.run.Run.load_all.Goals as goal

pub returns-in-Ok-clause-moves : goal.returns-in-Ok-clause-moves
returns-in-Ok-clause-moves c = load_all_goes c.ready_goes_on.ensures c.args.side Near c.args.self.now c.load_all.new.self None c.in-Near.is c.in-Ok.ensures.loads c.in-Ok.ensures.leaves c.in-Ok.ensures.wire

pub returns-in-Ok-clause-loaded : goal.returns-in-Ok-clause-loaded
returns-in-Ok-clause-loaded c = load_all_changed Near c.args.self.now c.load_all.new.self c.in-Ok.loaded c.in-Ok.ensures.loads c.in-Ok.ensures.wire (λ e. c.in-Ok.ensures.none (ap Ok e)) (λ e. c.in-Ok.ensures.some (ap Ok e))

pub returns-in-Ok-clause-ready : goal.returns-in-Ok-clause-ready
returns-in-Ok-clause-ready c = load_all_ready Near c.args.self.now c.load_all.new.self c.in-Ok.ensures.loads c.requires c.in-Ok.ensures.leaves

pub returns-in-Err-clause-moves : goal.returns-in-Err-clause-moves
returns-in-Err-clause-moves c =
    stopped Bool Near c.in-Err.fault c.stop_by.result (GoesAside (LoadAll c.args.side ∷ []) c.args.self.now (with_run Near c.load_all.new.self c.args.self.now)) c.stop_by.ensures
    (λ n. load_all_goes c.ready_goes_on.ensures c.args.side Near c.args.self.now c.load_all.new.self (Some c.in-Err.fault) c.in-Near.is (c.in-Err.ensures.loads n) (c.in-Err.ensures.leaves n) c.in-Err.ensures.wire)

pub returns-in-Ok-load_all-clause-moves : goal.returns-in-Ok-load_all-clause-moves
returns-in-Ok-load_all-clause-moves c = load_all_goes c.ready_goes_on.ensures c.args.side Far c.args.self.now c.load_all-in-Far.new.self None c.in-Far.is c.in-Ok-load_all.ensures.loads c.in-Ok-load_all.ensures.leaves c.in-Ok-load_all.ensures.wire

pub returns-in-Ok-load_all-clause-loaded : goal.returns-in-Ok-load_all-clause-loaded
returns-in-Ok-load_all-clause-loaded c = load_all_changed Far c.args.self.now c.load_all-in-Far.new.self c.in-Ok-load_all.loaded c.in-Ok-load_all.ensures.loads c.in-Ok-load_all.ensures.wire (λ e. c.in-Ok-load_all.ensures.none (ap Ok e)) (λ e. c.in-Ok-load_all.ensures.some (ap Ok e))

pub returns-in-Ok-load_all-clause-ready : goal.returns-in-Ok-load_all-clause-ready
returns-in-Ok-load_all-clause-ready c = load_all_ready Far c.args.self.now c.load_all-in-Far.new.self c.in-Ok-load_all.ensures.loads c.requires c.in-Ok-load_all.ensures.leaves

pub returns-in-Err-load_all-clause-moves : goal.returns-in-Err-load_all-clause-moves
returns-in-Err-load_all-clause-moves c =
    stopped Bool Far c.in-Err-load_all.fault c.stop_by-in-Err-load_all.result (GoesAside (LoadAll c.args.side ∷ []) c.args.self.now (with_run Far c.load_all-in-Far.new.self c.args.self.now)) c.stop_by-in-Err-load_all.ensures
    (λ n. load_all_goes c.ready_goes_on.ensures c.args.side Far c.args.self.now c.load_all-in-Far.new.self (Some c.in-Err-load_all.fault) c.in-Far.is (c.in-Err-load_all.ensures.loads n) (c.in-Err-load_all.ensures.leaves n) c.in-Err-load_all.ensures.wire)
