use Rattle.std.proofs.Common.{[], ◌∷◌, Bool, ◌||◌, Ok, Err, subst, sym}
use Rattle.wp_outside.specs.declared.kinds.Side.TheVariants.{Near, Far}
use Rattle.pair_runs.specs.Moves.{LoadAll}
use Rattle.script_replay.specs.Settling.{ChangedAside}
use Rattle.script_replay.proofs.Settling.{aside_then, aside_stop, changed_then, in_load}
use Rattle.script_replay.proofs.run.Run.load_both.Goals as goal

pub returns-then-near-clause-moves : goal.returns-then-near-clause-moves
returns-then-near-clause-moves c =
    aside_then {X = Unit {0}} (Ok tt) (LoadAll Near ∷ []) (LoadAll Far ∷ []) c.args.self.now c.load_all.new.self c.load_all-in-Ok.new.self c.in-Ok.ensures.moves c.in-Ok-load_all.ensures.moves

pub returns-then-near-clause-loaded : goal.returns-then-near-clause-loaded
returns-then-near-clause-loaded c =
    subst (λ (changed : Bool). ChangedAside c.args.self.now c.load_all-in-Ok.new.self changed) (sym c.if-near.true)
    (subst (λ (changed : Bool). ChangedAside c.args.self.now c.load_all-in-Ok.new.self (changed || c.in-Ok-load_all.far)) c.if-near.true
    (changed_then 0 c.in-Ok.near c.in-Ok-load_all.far (LoadAll Near ∷ []) (LoadAll Far ∷ []) c.args.self.now c.load_all.new.self c.load_all-in-Ok.new.self (in_load Near 0) (in_load Far 0)
    c.in-Ok.ensures.moves c.in-Ok-load_all.ensures.moves c.in-Ok.ensures.loaded c.in-Ok-load_all.ensures.loaded))

pub returns-else-near-clause-moves : goal.returns-else-near-clause-moves
returns-else-near-clause-moves c =
    aside_then {X = Unit {0}} (Ok tt) (LoadAll Near ∷ []) (LoadAll Far ∷ []) c.args.self.now c.load_all.new.self c.load_all-in-Ok.new.self c.in-Ok.ensures.moves c.in-Ok-load_all.ensures.moves

pub returns-else-near-clause-loaded : goal.returns-else-near-clause-loaded
returns-else-near-clause-loaded c =
    subst (λ (changed : Bool). ChangedAside c.args.self.now c.load_all-in-Ok.new.self (changed || c.in-Ok-load_all.far)) c.if-near.false
    (changed_then 0 c.in-Ok.near c.in-Ok-load_all.far (LoadAll Near ∷ []) (LoadAll Far ∷ []) c.args.self.now c.load_all.new.self c.load_all-in-Ok.new.self (in_load Near 0) (in_load Far 0)
    c.in-Ok.ensures.moves c.in-Ok-load_all.ensures.moves c.in-Ok.ensures.loaded c.in-Ok-load_all.ensures.loaded)

pub returns-in-Err-load_all-clause-moves : goal.returns-in-Err-load_all-clause-moves
returns-in-Err-load_all-clause-moves c =
    aside_then {X = Bool} (Err c.in-Err-load_all.stop) (LoadAll Near ∷ []) (LoadAll Far ∷ []) c.args.self.now c.load_all.new.self c.load_all-in-Ok.new.self c.in-Ok.ensures.moves c.in-Err-load_all.ensures.moves

pub returns-in-Err-clause-moves : goal.returns-in-Err-clause-moves
returns-in-Err-clause-moves c =
    aside_stop Bool Bool c.in-Err.stop (LoadAll Near ∷ []) (LoadAll Far ∷ []) c.args.self.now c.load_all.new.self c.in-Err.ensures.moves
