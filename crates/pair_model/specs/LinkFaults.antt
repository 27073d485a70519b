-- For which causes a side refuses the next frame of a connection: those that are told by what it
-- keeps of the session, in the order in which they are tested; they are this project's own.
use Rattle.std.specs.Prelude.{◌≡◌, ℕ, ◌==◌, ◌+◌, ◌^◌, ◌||◌, cond, max, nat_lt, nat_le, not, Bool}
use Rattle.std.specs.Prelude.{false, List, [], ◌∷◌, Option, Some, None, length}
use Rattle.std.specs.Str.{bytes_eq}
use Rattle.transfer_frames.specs.declared.frame.Frame.{Frame}
use Rattle.transfer_frames.specs.declared.frame.FrameRole.{FrameRole}
use Rattle.transfer_frames.specs.declared.frame.FrameRole.TheVariants.{Counted, Tells, Greets}
use Rattle.transfer_frames.specs.Grammar.{role}
use Rattle.transfer_frames.specs.declared.cause.FrameCause.{FrameCause}
use Rattle.transfer_frames.specs.declared.cause.FrameCause.TheVariants.{RestartMissing}
use Rattle.transfer_frames.specs.declared.cause.FrameCause.TheVariants.{RestartAgain, Token}
use Rattle.transfer_frames.specs.declared.cause.FrameCause.TheVariants.{Connection, RestartBehind}
use Rattle.transfer_frames.specs.declared.cause.FrameCause.TheVariants.{RestartAhead, AckBehind}
use Rattle.transfer_frames.specs.declared.cause.FrameCause.TheVariants.{AckAhead, AfterClose}
use Rattle.transfer_frames.specs.declared.cause.FrameCause.TheVariants.{CountSpent}
use Rattle.transfer_frames.specs.Faults.{first_of}
use Rattle.pair_model.specs.Lines.{SideRecord}
use Rattle.pair_model.specs.Rows.{counted, is_counted, count_in, received_in, first_count, Reads}

-- what a side judges a frame by
pub record Judge : Type 0 where
  -- the session's token, and the connection's number
  pub token : List ℕ
  pub connection : ℕ
  -- how many of its own frames are acknowledged, how many it made, and how many it has wholly sent
  -- on this connection
  pub acknowledged : ℕ
  pub made : ℕ
  pub whole : ℕ
  -- how many of the other's frames it accepted, and whether the other's CLOSE is among them
  pub accepted : ℕ
  pub closed : Bool

-- the greatest count of frames
abbrev pub MOST_FRAMES : ℕ
MOST_FRAMES = 2 ^ 60

-- The cause for which a frame is refused, by its part on the connection. The second argument is the
-- received count of the other's RESTART, where that was read on this connection.
abbrev pub link_fault : Judge → Option ℕ → FrameRole → Option FrameCause
link_fault judge None (Greets token connection received) = first_of (
    (not (bytes_eq token judge.token), Token) ∷
    (not (connection == judge.connection), Connection) ∷
    (nat_lt received judge.acknowledged, RestartBehind) ∷
    (nat_lt judge.made received, RestartAhead) ∷ [])
link_fault judge None (Tells count) = Some RestartMissing
link_fault judge None (Counted closes) = Some RestartMissing
link_fault judge (Some received) (Greets token connection again) = Some RestartAgain
link_fault judge (Some received) (Tells count) = first_of (
    (nat_lt count judge.acknowledged, AckBehind) ∷
    (nat_lt (received + judge.whole) count, AckAhead) ∷ [])
link_fault judge (Some received) (Counted closes) = first_of (
    (judge.closed, AfterClose) ∷
    (nat_le MOST_FRAMES judge.accepted, CountSpent) ∷ [])

-- CLOSE is counted, and its maker makes no counted frame after it
abbrev pub is_close : FrameRole → Bool
is_close (Counted closes) = closes
is_close (Tells count) = false
is_close (Greets token connection received) = false

abbrev pub has_closed : List Frame → Bool
has_closed [] = false
has_closed (frame ∷ frames) = is_close (role frame) || has_closed frames

abbrev pub ClosesLast : List Frame → Type 0
ClosesLast [] = Unit {0}
ClosesLast (frame ∷ []) = Unit {0}
ClosesLast (frame ∷ next ∷ frames) = (is_close (role frame) ≡ false) × ClosesLast (next ∷ frames)

-- ---- what a side judges by

-- the frame that it reads next on a connection, where it has wholly sent so many counted frames
abbrev pub judge_of : List ℕ → SideRecord → ℕ → ℕ → Judge
judge_of token side connection whole = record {
  token = token;
  connection = connection;
  acknowledged = side.acknowledged;
  made = length side.made;
  whole = whole;
  accepted = side.accepted;
  closed = side.closed;
}

-- the first frame of a connection, where it was told this count before and had accepted these
-- frames
abbrev pub judge_first : List ℕ → ℕ → ℕ → ℕ → ℕ → List Frame → Judge
judge_first token connection made whole told accepted = record {
  token = token;
  connection = connection;
  acknowledged = told;
  made = made;
  whole = whole;
  accepted = length accepted;
  closed = has_closed accepted;
}

-- the frame behind one that it did not refuse
abbrev pub judge_after : FrameRole → Judge → Judge
judge_after part judge = record judge {
  acknowledged = max judge.acknowledged (count_in part);
  accepted = judge.accepted + cond (is_counted part) 1 0;
  closed = judge.closed || is_close part;
}

-- none of these frames is refused, one after another
abbrev pub Passes : Judge → Option ℕ → List Frame → Type 0
Passes judge answer [] = Unit {0}
Passes judge answer (frame ∷ frames) = (link_fault judge answer (role frame) ≡ None)
    × Passes (judge_after (role frame) judge) (first_count answer (received_in (role frame))) frames

-- None of the frames seen on a connection is refused, by how many frames the side has made and has
-- wholly written there so far. Both only grow, and a frame that fewer let pass is let pass by more.
pub record Unrefused (token : List ℕ) (connection made told : ℕ) (accepted seen : List Frame)
    (written : List ℕ) : Type 0 where
  pub whole : List Frame
  pub wrote : Reads None written whole
  pub passes :
      Passes (judge_first token connection made (length (counted whole)) told accepted) None seen
