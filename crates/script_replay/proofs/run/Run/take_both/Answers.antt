use Rattle.std.proofs.Common.{[], ◌∷◌, Bool, ◌||◌, Ok, Err, subst, sym}
use Rattle.wp_outside.specs.declared.kinds.Side.TheVariants.{Near, Far}
use Rattle.pair_runs.specs.Moves.{Take}
use Rattle.script_replay.specs.Settling.{ChangedAside}
use Rattle.script_replay.proofs.Settling.{aside_then, aside_stop, changed_then, in_take}
use Rattle.script_replay.proofs.run.Run.take_both.Goals as goal

pub returns-then-near-clause-moves : goal.returns-then-near-clause-moves
returns-then-near-clause-moves c =
    aside_then {X = Unit {0}} (Ok tt) (Take Near c.args.most ∷ []) (Take Far c.args.most ∷ []) c.args.self.now c.take.new.self c.take-in-Ok.new.self c.in-Ok.ensures.moves c.in-Ok-take.ensures.moves

pub returns-then-near-clause-took : goal.returns-then-near-clause-took
returns-then-near-clause-took c =
    subst (λ (changed : Bool). ChangedAside c.args.self.now c.take-in-Ok.new.self changed) (sym c.if-near.true)
    (subst (λ (changed : Bool). ChangedAside c.args.self.now c.take-in-Ok.new.self (changed || c.in-Ok-take.far)) c.if-near.true
    (changed_then c.args.most c.in-Ok.near c.in-Ok-take.far (Take Near c.args.most ∷ []) (Take Far c.args.most ∷ []) c.args.self.now c.take.new.self c.take-in-Ok.new.self (in_take Near c.args.most) (in_take Far c.args.most)
    c.in-Ok.ensures.moves c.in-Ok-take.ensures.moves c.in-Ok.ensures.took c.in-Ok-take.ensures.took))

pub returns-else-near-clause-moves : goal.returns-else-near-clause-moves
returns-else-near-clause-moves c =
    aside_then {X = Unit {0}} (Ok tt) (Take Near c.args.most ∷ []) (Take Far c.args.most ∷ []) c.args.self.now c.take.new.self c.take-in-Ok.new.self c.in-Ok.ensures.moves c.in-Ok-take.ensures.moves

pub returns-else-near-clause-took : goal.returns-else-near-clause-took
returns-else-near-clause-took c =
    subst (λ (changed : Bool). ChangedAside c.args.self.now c.take-in-Ok.new.self (changed || c.in-Ok-take.far)) c.if-near.false
    (changed_then c.args.most c.in-Ok.near c.in-Ok-take.far (Take Near c.args.most ∷ []) (Take Far c.args.most ∷ []) c.args.self.now c.take.new.self c.take-in-Ok.new.self (in_take Near c.args.most) (in_take Far c.args.most)
    c.in-Ok.ensures.moves c.in-Ok-take.ensures.moves c.in-Ok.ensures.took c.in-Ok-take.ensures.took)

pub returns-in-Err-take-clause-moves : goal.returns-in-Err-take-clause-moves
returns-in-Err-take-clause-moves c =
    aside_then {X = Bool} (Err c.in-Err-take.stop) (Take Near c.args.most ∷ []) (Take Far c.args.most ∷ []) c.args.self.now c.take.new.self c.take-in-Ok.new.self c.in-Ok.ensures.moves c.in-Err-take.ensures.moves

pub returns-in-Err-clause-moves : goal.returns-in-Err-clause-moves
returns-in-Err-clause-moves c =
    aside_stop Bool Bool c.in-Err.stop (Take Near c.args.most ∷ []) (Take Far c.args.most ∷ []) c.args.self.now c.take.new.self c.in-Err.ensures.moves
