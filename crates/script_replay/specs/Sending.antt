-- How the bytes of a side go onto its lane of the connection that is up; the link is this project's
-- own.
use Rattle.std.specs.Prelude.{◌≡◌, ◌≢◌, ℕ, ◌≤◌, true, List, [], length, Option, Some, None}
use Rattle.std.specs.Prelude.{Result, Ok, Err}
use Rattle.wp_outside.specs.declared.kinds.Direction.{Direction}
use Rattle.wp_outside.specs.Lines.{Line, pushed_onto, Became}
use Rattle.side_model.specs.declared.fault.ProxyFault.{ProxyFault}
use Rattle.pair_runs.specs.Kept.{HasFailed}
use Rattle.pair_runs.specs.Linking.{written}
use Rattle.pair_runs.specs.Moves.{WritesBy}
use Rattle.pair_runs.specs.Sides.{rows_of}
use Rattle.pair_runs.specs.Whys.{RefusesPiece}
use Rattle.script_sides.specs.Linked.{HasNoFront}
use Rattle.script_sides.specs.Ready.{IsReady}
use Rattle.script_sides.specs.Sided.{SideRun, state_of, is_up}
use Rattle.side_model.specs.declared.fault.ProxyFault.TheVariants.{Memory}

-- a side runs on, and a connection is up, of which its last line tells
pub record RunsUp (it : SideRun) : Type 0 where
  pub ready : IsReady it
  pub is_up : is_up it ≡ true
  pub some : rows_of (state_of it) ≢ []

-- and the store has this connection
pub record MaySend (connection : ℕ) (it : SideRun) (line : ℕ → Line) : Type 0 where
  pub side : RunsUp it
  pub holds : (line connection).is_up ≡ true

-- what the calls of the link leave of the peer beside a side
pub record LeavesPeer (old new : SideRun) : Type 0 where
  pub side_is : new.peer.side ≡ old.peer.side
  pub wire : new.peer.wire ≡ old.peer.wire

-- it runs on so, or has failed
abbrev pub StaysUp : Option ProxyFault → SideRun → Type 0
StaysUp None it = RunsUp it
StaysUp (Some fault) it = HasFailed it.peer.side (state_of it) fault

-- ---- a piece

-- so many bytes of the front are sent: none only where there is none
pub record SendsSome (count most connection : ℕ) (dir : Direction) (old new : SideRun)
    (before after : ℕ → Line) : Type 0 where
  pub bytes : List ℕ
  pub long : length bytes ≡ count
  pub few : count ≤ most
  pub is : state_of new ≡ written bytes (state_of old)
  pub change : Became before after connection (pushed_onto dir bytes)
  pub stays : MaySend connection new after
  pub peer : LeavesPeer old new
  pub none : count ≡ 0 → HasNoFront (state_of new)

-- the front is too heavy
pub record SendsNone (fault : ProxyFault) (old new : SideRun) (before after : ℕ → Line)
    : Type 0 where
  pub because : RefusesPiece fault (state_of new).book.trail
  pub same : state_of new ≡ state_of old
  pub line : after ≡ before
  pub failed : HasFailed new.peer.side (state_of new) fault
  pub peer : LeavesPeer old new

abbrev pub SendsPiece : Result ℕ ProxyFault → ℕ → ℕ → Direction → SideRun → SideRun → (ℕ → Line)
    → (ℕ → Line) → Type 0
SendsPiece (Ok count) most connection dir old new before after =
    SendsSome count most connection dir old new before after
SendsPiece (Err fault) most connection dir old new before after =
    fault ≢ Memory → SendsNone fault old new before after

-- ---- all of them

-- Bytes are written by a side, up to so many, and they are pushed onto the lane.
pub record Sends (most connection : ℕ) (dir : Direction) (old new : SideRun)
    (before after : ℕ → Line) (stop : Option ProxyFault) : Type 0 where
  pub bytes : List ℕ
  pub writes : WritesBy stop most bytes (state_of old) (state_of new)
  pub change : Became before after connection (pushed_onto dir bytes)
  pub stays : StaysUp stop new
  pub peer : LeavesPeer old new
