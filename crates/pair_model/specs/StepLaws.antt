-- The laws of the steps of one side of a link, which is this project's own: each keeps what stands
-- between steps, and what stands gives what a side may have written and read.
use Rattle.std.specs.Prelude.{◌≡◌, ◌≢◌, Err, ℕ, ◌+◌, ◌<◌, ◌≤◌, cond, min, false, List, [], ◌∷◌}
use Rattle.std.specs.Prelude.{◌++◌, Option, Some, None, length, ◌⊎◌}
use Rattle.std.specs.List.{AllByRecursion}
use Rattle.transfer_frames.specs.declared.frame.Frame.{Frame}
use Rattle.transfer_frames.specs.declared.frame.Frame.TheVariants.{Restart, Ack}
use Rattle.transfer_frames.specs.declared.cause.FrameCause.{FrameCause}
use Rattle.transfer_frames.specs.Grammar.{role, IsFrame, spelling}
use Rattle.transfer_frames.specs.Front.{front}
use Rattle.pair_model.specs.Lines.{SideRecord, Agrees, written_on}
use Rattle.pair_model.specs.Rows.{counted, Reads, AllCounted}
use Rattle.pair_model.specs.LinkFaults.{link_fault}
use Rattle.pair_model.specs.Wire.{Wire, Accepts}
use Rattle.pair_model.specs.Quiet.{NoFront}
use Rattle.pair_model.specs.Steps.{Here, Stands, Between, Idle, HeardBy, Nothing, MOST_PLACE}
use Rattle.pair_model.specs.Steps.{side_up, here_up, side_sent, here_sent, side_fed, here_fed}
use Rattle.pair_model.specs.Steps.{side_read, here_read, side_made, side_stopped, place_here}
use Rattle.pair_model.specs.Steps.{judge_here, picks, chosen, bytes_at}
use Rattle.pair_model.specs.Refusals.{Refused, RefusedFrame}
use Rattle.pair_model.specs.Laws.{Countable}

-- a side that has made, written and read nothing
abbrev pub side_new : SideRecord
side_new = record {
  made = [];
  due = [];
  lines = [];
  stop = None;
  accepted = 0;
  ahead = [];
  closed = false;
  acknowledged = 0;
}

abbrev pub BeginsWire : Type 0
BeginsWire = (token : List ℕ) → Wire token side_new

-- ---- each step keeps what stands

-- a connection comes up, with a number above all earlier ones
abbrev pub UpStands : Type 0
UpStands = (token : List ℕ) (side : SideRecord) (connection : ℕ) → Wire token side
    → side.stop ≡ None
    → 0 < connection → AllByRecursion (λ line. line.connection < connection) side.lines
    → IsFrame (Restart token connection side.accepted)
    → Stands token (side_up connection side) (here_up token connection side.accepted)

-- bytes of the front are written
abbrev pub SentStands : Type 0
SentStands = (token : List ℕ) (side : SideRecord) (here : Here) (n : ℕ)
    → Stands token side here → n ≤ length here.front
    → Stands token (side_sent n here side) (here_sent n here)

-- bytes come in
abbrev pub FedStands : Type 0
FedStands = (token : List ℕ) (side : SideRecord) (here : Here) (piece : List ℕ)
    → Stands token side here → Stands token (side_fed piece side) (here_fed piece here)

-- a whole frame is read that is not refused
abbrev pub ReadStands : Type 0
ReadStands = (token : List ℕ) (side : SideRecord) (here : Here) (frame : Frame) (more : List ℕ)
    → Stands token side here → IsFrame frame → here.unread ≡ spelling frame ++ more
    → link_fault (judge_here token side here) here.answer (role frame) ≡ None
    → Stands token (side_read (role frame) side) (here_read frame more here)

-- the next front is chosen
abbrev pub ChosenStands : Type 0
ChosenStands = (token : List ℕ) (side : SideRecord) (here : Here) → Stands token side here
    → AllByRecursion IsFrame side.made → AllCounted side.made → IsFrame (Ack side.accepted)
    → Stands token side (chosen side.accepted (bytes_at side.made here.next) here)

-- frames are made
abbrev pub MadeStands : Type 0
MadeStands =
    (token : List ℕ) (side : SideRecord) (here : Here) (more : List Frame) (counts : List ℕ)
    → Stands token side here
    → length counts ≡ length more → AllByRecursion (λ count. count ≤ side.accepted) counts
    → Stands token (side_made more counts side) here

-- also where no connection is up
abbrev pub MadeWire : Type 0
MadeWire = (token : List ℕ) (side : SideRecord) (more : List Frame) (counts : List ℕ)
    → Wire token side
    → length counts ≡ length more → AllByRecursion (λ count. count ≤ side.accepted) counts
    → Wire token (side_made more counts side)

-- ---- what stands gives what was written and read

-- between calls, and when the connection is down
abbrev pub StandsWire : Type 0
StandsWire = (token : List ℕ) (side : SideRecord) (here : Here) → Between token side here
    → Wire token side

-- where reading stops for good
abbrev pub StoppedWire : Type 0
StoppedWire = (token : List ℕ) (side : SideRecord) (here : Here) (cause : Option FrameCause)
    → Stands token side here → Wire token (side_stopped cause here side)

-- Where it stops for a cause that the bytes unread have, what is refused can be told from the
-- record.
abbrev pub StoppedRefused : Type 0
StoppedRefused = (content : List Frame → Frame → Option FrameCause) (token : List ℕ)
    (side : SideRecord) (here : Here) (accepted : List Frame) (cause : FrameCause)
    → Stands token side here → HeardBy side here accepted
    → (front here.unread ≡ Err cause)
    ⊎ RefusedFrame (content accepted) (judge_here token side here) here.answer here.unread cause
    → Refused content token (side_stopped (Some cause) here side)
    (record { connection = here.connection; place = place_here here side; cause = Some cause })

-- ---- what was accepted so far, step by step

abbrev pub HeardUp : Type 0
HeardUp = (token : List ℕ) (side : SideRecord) (connection : ℕ) (accepted : List Frame)
    → Wire token side → side.stop ≡ None
    → 0 < connection → AllByRecursion (λ line. line.connection < connection) side.lines
    → IsFrame (Restart token connection side.accepted) → Accepts side accepted
    → HeardBy (side_up connection side) (here_up token connection side.accepted) accepted

abbrev pub HeardSent : Type 0
HeardSent = (token : List ℕ) (side : SideRecord) (here : Here) (n : ℕ) (accepted : List Frame)
    → Stands token side here → n ≤ length here.front → HeardBy side here accepted
    → HeardBy (side_sent n here side) (here_sent n here) accepted

abbrev pub HeardFed : Type 0
HeardFed =
    (token : List ℕ) (side : SideRecord) (here : Here) (piece : List ℕ) (accepted : List Frame)
    → Stands token side here → HeardBy side here accepted
    → HeardBy (side_fed piece side) (here_fed piece here) accepted

-- a frame that is read adds itself, where it is counted
abbrev pub HeardRead : Type 0
HeardRead = (token : List ℕ) (side : SideRecord) (here : Here) (frame : Frame) (more : List ℕ)
    (accepted : List Frame)
    → Stands token side here → IsFrame frame → here.unread ≡ spelling frame ++ more
    → link_fault (judge_here token side here) here.answer (role frame) ≡ None
    → HeardBy side here accepted
    → HeardBy (side_read (role frame) side) (here_read frame more here)
    (accepted ++ counted (frame ∷ []))

abbrev pub HeardChosen : Type 0
HeardChosen =
    (side : SideRecord) (here : Here) (count : ℕ) (bytes : Option (List ℕ)) (accepted : List Frame)
    → HeardBy side here accepted → HeardBy side (chosen count bytes here) accepted

abbrev pub HeardMade : Type 0
HeardMade =
    (side : SideRecord) (here : Here) (more : List Frame) (counts : List ℕ) (accepted : List Frame)
    → HeardBy side here accepted → HeardBy (side_made more counts side) here accepted

-- between two calls, and where reading stopped, it is what was accepted
abbrev pub HeardAll : Type 0
HeardAll = (token : List ℕ) (side : SideRecord) (here : Here) (accepted : List Frame)
    → Between token side here → HeardBy side here accepted → Accepts side accepted

abbrev pub HeardStopped : Type 0
HeardStopped = (side : SideRecord) (here : Here) (cause : Option FrameCause) (accepted : List Frame)
    → HeardBy side here accepted → Accepts (side_stopped cause here side) accepted

-- what was accepted is one thing
abbrev pub HeardOnce : Type 0
HeardOnce = (side : SideRecord) (here : Here) (one other : List Frame)
    → HeardBy side here one → HeardBy side here other → one ≡ other

-- ---- what is kept of the connection

-- its counts, where so many frames are made and acknowledged
pub record AreCounts (made acknowledged : ℕ) (here : Here) : Type 0 where
  pub unanswered : here.answer ≡ None → (here.counts ≡ false) × (here.whole ≡ 0)
  pub answered : (p : ℕ) → here.answer ≡ Some p
      → (p + here.whole + cond here.counts 1 0 ≡ here.next)
      × (here.next ≤ made) × (acknowledged ≤ p + here.whole)

abbrev pub HereCounts : Type 0
HereCounts = (token : List ℕ) (side : SideRecord) (here : Here) → Stands token side here
    → AreCounts (length side.made) side.acknowledged here

-- how many counted frames are wholly written
abbrev pub WholeIsSent : Type 0
WholeIsSent = (token : List ℕ) (side : SideRecord) (here : Here) (whole : List Frame)
    → Stands token side here → Reads None (written_on here.connection side.lines) whole
    → length (counted whole) ≡ here.whole

-- how many bytes stand before those unread
abbrev pub HerePlace : Type 0
HerePlace = (token : List ℕ) (side : SideRecord) (here : Here) → Stands token side here
    → here.place ≡ min (place_here here side) MOST_PLACE

-- nothing is chosen just where there is nothing to send
abbrev pub ChosenIdle : Type 0
ChosenIdle = (token : List ℕ) (side : SideRecord) (here : Here) → Stands token side here
    → here.front ≡ []
    → (picks side.accepted (bytes_at side.made here.next) here ≡ Nothing → Idle side here)
    × (Idle side here → picks side.accepted (bytes_at side.made here.next) here ≡ Nothing)

abbrev pub IdleNoFront : Type 0
IdleNoFront = (token : List ℕ) (side : SideRecord) (here : Here) → Between token side here
    → Idle side here
    → NoFront token here.connection side

-- ---- over two sides

-- Where both sides agree, a whole frame that stands at the front of the bytes read is not refused,
abbrev pub NextIsDue : Type 0
NextIsDue = (token : List ℕ) (side other : SideRecord) (here : Here) (frame : Frame) (more : List ℕ)
    → Stands token side here → Wire token other → Agrees side.lines other.lines → Countable other
    → IsFrame frame → here.unread ≡ spelling frame ++ more
    → link_fault (judge_here token side here) here.answer (role frame) ≡ None

-- and no fault of the grammar stands there.
abbrev pub NoFaultComes : Type 0
NoFaultComes = (token : List ℕ) (side other : SideRecord) (here : Here) (cause : FrameCause)
    → Stands token side here → Wire token other → Agrees side.lines other.lines
    → front here.unread ≢ Err cause
