use Rattle.std.proofs.Common.{[], ◌∷◌, Bool, ◌||◌, Ok, Err, subst, sym}
use Rattle.wp_outside.specs.declared.kinds.Side.TheVariants.{Near, Far}
use Rattle.pair_runs.specs.Moves.{Take, LoadAll}
use Rattle.script_replay.specs.Settling.{ChangedAside}
use Rattle.script_replay.proofs.Settling.{aside_then, aside_stop, changed_then, in_loads, in_takes}
use Rattle.script_replay.proofs.run.Run.bring.Goals as goal

pub returns-then-took-clause-moves : goal.returns-then-took-clause-moves
returns-then-took-clause-moves c =
    aside_then {X = Unit {0}} (Ok tt) (Take Near c.args.most ∷ Take Far c.args.most ∷ []) (LoadAll Near ∷ LoadAll Far ∷ []) c.args.self.now c.take_both.new.self c.load_both.new.self c.in-Ok.ensures.moves c.in-Ok-load_both.ensures.moves

pub returns-then-took-clause-brought : goal.returns-then-took-clause-brought
returns-then-took-clause-brought c =
    subst (λ (changed : Bool). ChangedAside c.args.self.now c.load_both.new.self changed) (sym c.if-took.true)
    (subst (λ (changed : Bool). ChangedAside c.args.self.now c.load_both.new.self (changed || c.in-Ok-load_both.loaded)) c.if-took.true
    (changed_then c.args.most c.in-Ok.took c.in-Ok-load_both.loaded (Take Near c.args.most ∷ Take Far c.args.most ∷ []) (LoadAll Near ∷ LoadAll Far ∷ []) c.args.self.now c.take_both.new.self c.load_both.new.self (in_takes c.args.most) (in_loads c.args.most)
    c.in-Ok.ensures.moves c.in-Ok-load_both.ensures.moves c.in-Ok.ensures.took c.in-Ok-load_both.ensures.loaded))

pub returns-else-took-clause-moves : goal.returns-else-took-clause-moves
returns-else-took-clause-moves c =
    aside_then {X = Unit {0}} (Ok tt) (Take Near c.args.most ∷ Take Far c.args.most ∷ []) (LoadAll Near ∷ LoadAll Far ∷ []) c.args.self.now c.take_both.new.self c.load_both.new.self c.in-Ok.ensures.moves c.in-Ok-load_both.ensures.moves

pub returns-else-took-clause-brought : goal.returns-else-took-clause-brought
returns-else-took-clause-brought c =
    subst (λ (changed : Bool). ChangedAside c.args.self.now c.load_both.new.self (changed || c.in-Ok-load_both.loaded)) c.if-took.false
    (changed_then c.args.most c.in-Ok.took c.in-Ok-load_both.loaded (Take Near c.args.most ∷ Take Far c.args.most ∷ []) (LoadAll Near ∷ LoadAll Far ∷ []) c.args.self.now c.take_both.new.self c.load_both.new.self (in_takes c.args.most) (in_loads c.args.most)
    c.in-Ok.ensures.moves c.in-Ok-load_both.ensures.moves c.in-Ok.ensures.took c.in-Ok-load_both.ensures.loaded)

pub returns-in-Err-load_both-clause-moves : goal.returns-in-Err-load_both-clause-moves
returns-in-Err-load_both-clause-moves c =
    aside_then {X = Bool} (Err c.in-Err-load_both.stop) (Take Near c.args.most ∷ Take Far c.args.most ∷ []) (LoadAll Near ∷ LoadAll Far ∷ []) c.args.self.now c.take_both.new.self c.load_both.new.self c.in-Ok.ensures.moves c.in-Err-load_both.ensures.moves

pub returns-in-Err-clause-moves : goal.returns-in-Err-clause-moves
returns-in-Err-clause-moves c =
    aside_stop Bool Bool c.in-Err.stop (Take Near c.args.most ∷ Take Far c.args.most ∷ []) (LoadAll Near ∷ LoadAll Far ∷ []) c.args.self.now c.take_both.new.self c.in-Err.ensures.moves
