-- How bytes come off a lane of the connection that is up into a side; the link is this project's
-- own.
use Rattle.std.specs.Prelude.{◌≡◌, ◌≢◌, ℕ, ◌<◌, min, List, take, length, Option, Some, None}
use Rattle.std.specs.Prelude.{Result, Ok, Err}
use Rattle.wp_outside.specs.declared.kinds.Direction.{Direction}
use Rattle.wp_outside.specs.Lines.{Line, lane_of, pulled_from, Became}
use Rattle.side_model.specs.Sound.{MOST_PIECE}
use Rattle.side_model.specs.declared.fault.ProxyFault.{ProxyFault}
use Rattle.side_model.specs.declared.fault.ProxyFault.TheVariants.{Memory}
use Rattle.pair_runs.specs.Kept.{HasFailed}
use Rattle.pair_runs.specs.Linking.{read, Reads, ReadsInPart}
use Rattle.pair_runs.specs.WorkLaws.{FailsInPart}
use Rattle.script_sides.specs.Sided.{SideRun, state_of}
use Rattle.script_replay.specs.Sending.{RunsUp, LeavesPeer, StaysUp}

-- the bytes that wait on a lane
abbrev pub waiting_on : Direction → ℕ → (ℕ → Line) → List ℕ
waiting_on dir connection line = (lane_of dir (line connection)).waiting

-- the size of a piece that is pulled where so many bytes wait
abbrev pub size_of : ℕ → List ℕ → ℕ
size_of most waiting = min (length waiting) (min MOST_PIECE most)

-- ---- a piece

-- a piece is pulled, of as many bytes as wait and may be pulled at once, and read if it has any
pub record ReadsSome (count most connection : ℕ) (dir : Direction) (old new : SideRun)
    (before after : ℕ → Line) : Type 0 where
  pub size : count ≡ size_of most (waiting_on dir connection before)
  pub change : Became before after connection (pulled_from dir count)
  pub reads : Reads (take count (waiting_on dir connection before)) (state_of old) (state_of new)
  pub stays : RunsUp new
  pub peer : LeavesPeer old new

-- a piece is pulled that has bytes, and the side meets a fault with it
pub record ReadsBadly (fault : ProxyFault) (most connection : ℕ) (dir : Direction)
    (old new : SideRun) (before after : ℕ → Line) : Type 0 where
  pub count : ℕ
  pub some : 0 < count
  pub size : count ≡ size_of most (waiting_on dir connection before)
  pub change : Became before after connection (pulled_from dir count)
  pub part : FailsInPart count fault (state_of old)
      (read (take count (waiting_on dir connection before)) (state_of old)) (state_of new)
  pub failed : HasFailed new.peer.side (state_of new) fault
  pub peer : LeavesPeer old new

abbrev pub ReadsPiece : Result ℕ ProxyFault → ℕ → ℕ → Direction → SideRun → SideRun → (ℕ → Line)
    → (ℕ → Line) → Type 0
ReadsPiece (Ok count) most connection dir old new before after =
    ReadsSome count most connection dir old new before after
ReadsPiece (Err fault) most connection dir old new before after =
    fault ≢ Memory → ReadsBadly fault most connection dir old new before after

-- ---- all of them

-- As many bytes as wait, up to so many, are pulled and read; or some of them, up to a fault.
abbrev pub Comes : Option ProxyFault → List ℕ → ℕ → Direction → SideRun → SideRun → (ℕ → Line)
    → (ℕ → Line) → Type 0
Comes None bytes connection dir old new before after =
    Reads bytes (state_of old) (state_of new)
    × Became before after connection (pulled_from dir (length bytes))
Comes (Some fault) bytes connection dir old new before after =
    (pulled : List ℕ) × ReadsInPart bytes fault pulled (state_of old) (state_of new)
    × Became before after connection (pulled_from dir (length pulled))

pub record Came (most connection : ℕ) (dir : Direction) (old new : SideRun)
    (before after : ℕ → Line) (stop : Option ProxyFault) : Type 0 where
  pub comes : Comes stop (take most (waiting_on dir connection before)) connection dir old new
      before after
  pub stays : StaysUp stop new
  pub peer : LeavesPeer old new
