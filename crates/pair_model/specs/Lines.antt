-- The lines of a link as one of its two sides keeps them, and what it means that both sides agree
-- on the bytes; the link is this project's own. A connection's number is the index: a side has at
-- most one line of each number.
use Rattle.std.specs.Prelude.{ℕ, suc, ◌==◌, ◌≤◌, cond, Bool, List, [], ◌∷◌, Option}
use Rattle.plain_lists.specs.Fronts.{IsFront}
use Rattle.transfer_frames.specs.declared.frame.Frame.{Frame}
use Rattle.transfer_frames.specs.declared.cause.FrameCause.{FrameCause}

-- one connection as a side keeps it: its number, the bytes written on it and the bytes read from it
pub record Line : Type 0 where
  pub connection : ℕ
  pub written : List ℕ
  pub read : List ℕ

-- Where a side stopped reading for good: the connection, how many of its bytes stand before that
-- place, and for which cause it refused what stands there; no cause where it wanted memory.
pub record Stop : Type 0 where
  pub connection : ℕ
  pub place : ℕ
  pub cause : Option FrameCause

-- What a side keeps of a run. It numbers the counted frames from 0 on, its own and the other
-- side's.
pub record SideRecord : Type 0 where
  -- the frames it made, and for each one how many of the other's it had accepted when it took the
  -- message that the frame belongs to
  pub made : List Frame
  pub due : List ℕ
  -- its connections, and where it stopped reading
  pub lines : List Line
  pub stop : Option Stop
  -- how many of the other's frames it accepted, for each one how many it had made itself by then,
  -- and whether CLOSE is among them
  pub accepted : ℕ
  pub ahead : List ℕ
  pub closed : Bool
  -- how many of its own frames the other is known to have accepted
  pub acknowledged : ℕ

-- the bytes written on connection c: none where the side has no such line
abbrev pub written_on : ℕ → List Line → List ℕ
written_on c [] = []
written_on c (line ∷ lines) = cond (line.connection == c) line.written (written_on c lines)

-- the bytes read from connection c: none where the side has no such line
abbrev pub read_on : ℕ → List Line → List ℕ
read_on c [] = []
read_on c (line ∷ lines) = cond (line.connection == c) line.read (read_on c lines)

-- connection numbers that rise, the first one not below a number
abbrev pub Rising : ℕ → List Line → Type 0
Rising least [] = Unit {0}
Rising least (line ∷ lines) = (least ≤ line.connection) × Rising (suc line.connection) lines

-- Both sides agree: on each connection, in both directions, the bytes read begin the bytes written.
pub record Agrees (near far : List Line) : Type 0 where
  pub up : (c : ℕ) → IsFront (read_on c far) (written_on c near)
  pub down : (c : ℕ) → IsFront (read_on c near) (written_on c far)
