-- What a round changes, and how rounds lead to the last one; this project's own.
use Rattle.std.specs.Prelude.{◌≡◌, ◌≢◌, ℕ, Bool, true, false, List, [], ◌∷◌, Option}
use Rattle.wp_outside.specs.declared.kinds.Direction.TheVariants.{Up, Down}
use Rattle.wp_outside.specs.declared.kinds.Side.TheVariants.{Near, Far}
use Rattle.wp_outside.specs.Lines as outside
use Rattle.pair_runs.specs.Moves.{Move, Take, LoadAll, ConnectIfHeld, Push, Pull}
use Rattle.pair_runs.specs.Runs.{Settles}
use Rattle.pair_runs.specs.States.{State, Fault}
use Rattle.script_replay.specs.Standing.{state_of, IsReady}
use Rattle.script_replay.specs.declared.run.Run.{Run}

-- the parts of a round
abbrev pub bring : ℕ → List Move
bring most = Take Near most ∷ Take Far most ∷ LoadAll Near ∷ LoadAll Far ∷ []

abbrev pub carry : ℕ → List Move
carry most =
    ConnectIfHeld ∷ Push Up most ∷ Pull Up most ∷ Push Down most ∷ Pull Down most ∷ []

-- whether anything has changed
abbrev pub ChangedIf : Bool → State → State → Type 0
ChangedIf true s t = t ≢ s
ChangedIf false s t = t ≡ s

-- what leaves the link alone has changed something or not
abbrev pub ChangedAside : Run → Run → Bool → Type 0
ChangedAside old new changed =
    (line : ℕ → outside.Line) → IsReady old line
    → ChangedIf changed (state_of old line) (state_of new line)

-- rounds from here on are rounds from there on
abbrev pub Leads : ℕ → State → State → Type 0
Leads most s now =
    (t : State) (stop : Option Fault) → Settles most now t stop → Settles most s t stop
