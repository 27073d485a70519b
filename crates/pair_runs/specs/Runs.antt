-- What the lines of a script do, and how a run of both sides ends; the script language is this
-- project's own, what it puts on the wires are messages of the Wayland protocol.
use Rattle.std.specs.Prelude.{◌≡◌, ◌≢◌, ℕ, zero, suc, max, Bool, true, false, List, [], ◌∷◌, ◌++◌}
use Rattle.std.specs.Prelude.{flat_map, Option, Some, None, ◌⊎◌}
use Rattle.wp_outside.specs.declared.kinds.Direction.TheVariants.{Up, Down}
use Rattle.wp_outside.specs.declared.kinds.Side.TheVariants.{Near, Far}
use Rattle.half_model.specs.declared.items.PeerIn.{PeerIn}
use Rattle.half_model.specs.declared.items.PeerIn.TheVariants as items
use Rattle.script_lang.specs.Puts.{is_stop, put_by}
use Rattle.script_lang.specs.declared.steps.Step.{Step}
use Rattle.script_lang.specs.declared.steps.StepKind.{StepKind}
use Rattle.script_lang.specs.declared.steps.StepKind.TheVariants as line
use Rattle.pair_runs.specs.Moves.{Move, Put, Take, Load, LoadAll, Connect, ConnectIfHeld, Break}
use Rattle.pair_runs.specs.Moves.{Push, Pull, Spoil, Close, MovesAll}
use Rattle.pair_runs.specs.States.{State, Fault, first_state}

-- ---- rounds

-- one round: both sides take from their wires, all copies that are awaited are loaded, the
-- connection is made where a frame is kept, and bytes go over it both ways
abbrev pub round : ℕ → List Move
round most =
    Take Near most ∷ Take Far most ∷ LoadAll Near ∷ LoadAll Far ∷ ConnectIfHeld
    ∷ Push Up most ∷ Pull Up most ∷ Push Down most ∷ Pull Down most ∷ []

-- so many rounds that each change something, and one more, which changes nothing unless it meets a
-- fault
abbrev pub Rounds : ℕ → ℕ → State → State → Option Fault → Type 0
Rounds zero most s t stop = MovesAll (round most) s t stop × (stop ≡ None → t ≡ s)
Rounds (suc count) most s t stop =
    (between : State) × MovesAll (round most) s between None × (between ≢ s)
    × Rounds count most between t stop

-- rounds until one changes nothing
pub record Settles (most : ℕ) (s t : State) (stop : Option Fault) : Type 0 where
  pub count : ℕ
  pub rounds : Rounds count most s t stop

-- ---- lines

-- the size of the rounds of `settle` and `await`, and of those at the end
abbrev pub MOST : ℕ
MOST = 65536

-- a line of a script, with the items that its peer puts on its wire by it
pub record Played : Type 0 where
  pub what : StepKind
  pub puts : List PeerIn

-- whether a line moves all that waits
abbrev pub settles : StepKind → Bool
settles (line.Await peer count) = true
settles line.Settle = true
settles what = false

-- what another line moves; what a peer does to its own files and pipes moves nothing, nor do a cut,
-- which is for sessions, and the size of the rounds at the end
abbrev pub moves_of : StepKind → List PeerIn → List Move
moves_of (line.Hex peer bytes) puts = Put peer puts ∷ []
moves_of (line.Say peer text) puts = Put peer puts ∷ []
moves_of (line.File peer number size) puts = []
moves_of (line.Grow peer number size) puts = []
moves_of (line.Fill peer number first count value) puts = []
moves_of (line.Pipe peer number) puts = []
moves_of (line.Give peer number) puts = Put peer puts ∷ []
moves_of (line.Put peer pipe bytes) puts = Put peer puts ∷ []
moves_of (line.End peer pipe) puts = Put peer puts ∷ []
moves_of (line.Shut peer number) puts = Put peer puts ∷ []
moves_of (line.Await peer count) puts = []
moves_of (line.Take peer bytes) puts = Take peer bytes ∷ []
moves_of (line.Load words) puts = Load words ∷ []
moves_of line.Connect puts = Connect ∷ []
moves_of line.Break puts = Break ∷ []
moves_of (line.Send dir bytes) puts = Push dir bytes ∷ []
moves_of (line.Recv dir bytes) puts = Pull dir bytes ∷ []
moves_of (line.Both dir bytes) puts = Push dir bytes ∷ Pull dir bytes ∷ []
moves_of (line.Spoil dir offset byte) puts = Spoil dir offset byte ∷ []
moves_of (line.Cut dir bytes) puts = []
moves_of (line.Close peer) puts = Close peer ∷ []
moves_of line.Settle puts = []
moves_of (line.Drain bytes) puts = []
moves_of line.Stop puts = []

-- a line that moves all that waits, or another one
abbrev pub DoesBy : Bool → Played → State → State → Option Fault → Type 0
DoesBy true it s t stop = Settles MOST s t stop
DoesBy false it s t stop = MovesAll (moves_of it.what it.puts) s t stop

-- what a line does, and the fault that it meets, if it meets one
abbrev pub Does : Played → State → State → Option Fault → Type 0
Does it s t stop = DoesBy (settles it.what) it s t stop

-- the size of the rounds at the end, after a line; a round may move at least one byte
abbrev pub size_after : ℕ → StepKind → ℕ
size_after most (line.Drain bytes) = max bytes 1
size_after most what = most

-- ---- a script

-- how a run ends: nothing moved any more, at a line `stop`, or at the first fault
pub data End : Type 0 where
  Drained : End
  Stopped : End
  Fails : Fault → End

abbrev pub end_by : Option Fault → End
end_by None = Drained
end_by (Some fault) = Fails fault

-- a `stop` ends the run; another line may meet a fault, or others follow it
abbrev pub PlaysLine : Bool → Played → (State → Type 0) → State → State → End → Type 0
PlaysLine true it Others s t end = (t ≡ s) × (end ≡ Stopped)
PlaysLine false it Others s t end =
    ((fault : Fault) × Does it s t (Some fault) × (end ≡ Fails fault))
    ⊎ ((between : State) × Does it s between None × Others between)

-- the lines from here on, and then rounds of a size
abbrev pub Plays : List Played → ℕ → State → State → End → Type 0
Plays [] most s t end = (stop : Option Fault) × Settles most s t stop × (end ≡ end_by stop)
Plays (it ∷ played) most s t end =
    PlaysLine (is_stop it.what) it
    (λ between. Plays played (size_after most it.what) between t end) s t end

-- the bytes of Wayland's stream among items
abbrev pub bytes_of : PeerIn → List ℕ
bytes_of (items.Bytes bytes) = bytes
bytes_of item = []

abbrev pub bytes_in : List PeerIn → List ℕ
bytes_in puts = flat_map bytes_of puts

-- these are the script's lines, each with the bytes that it puts on one of the wires
abbrev pub AreLines : List Step → List Played → Type 0
AreLines [] [] = Unit {0}
AreLines [] (played ∷ others) = ⊥
AreLines (it ∷ steps) [] = ⊥
AreLines (it ∷ steps) (played ∷ others) =
    (played.what ≡ it.what)
    × (bytes_in played.puts ≡ put_by Near it.what ++ put_by Far it.what)
    × AreLines steps others

-- A run of a whole script, from the first line on, with what its lines put.
pub record Runs (steps : List Step) (played : List Played) (last : State) (end : End)
    : Type 0 where
  pub lines : AreLines steps played
  pub plays : Plays played MOST first_state last end
