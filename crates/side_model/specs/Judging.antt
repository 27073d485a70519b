-- Which frames of the other side a proxy accepts, told by its state and by its records: those that
-- neither the connection nor what they say gives a cause to refuse, one after another; this
-- project's own.
use Rattle.std.specs.Prelude.{◌≡◌, ℕ, List, length, Option, Some, None, Ok}
use Rattle.wp_outside.specs.declared.kinds.Side.{Side}
use Rattle.transfer_frames.specs.declared.frame.Frame.{Frame}
use Rattle.transfer_frames.specs.Front.{front}
use Rattle.transfer_frames.specs.Grammar.{role}
use Rattle.half_model.specs.Content.{content_fault}
use Rattle.half_model.specs.Story.{accepted_in}
use Rattle.pair_model.specs.Lines.{SideRecord, read_on, written_on}
use Rattle.pair_model.specs.LinkFaults.{link_fault, Unrefused}
use Rattle.pair_model.specs.Steps.{Here, judge_here}
use Rattle.pair_model.specs.Wire.{Sees, Waits, accepted_below, told_below, stop_on}
use Rattle.side_model.specs.declared.fault.ProxyFault.{ProxyFault}
use Rattle.side_model.specs.Books.{Book}
use Rattle.side_model.specs.Due.{judge_in, next}
use Rattle.side_model.specs.Events.{Heard, Do}
use Rattle.side_model.specs.Follows.{Follows}
use Rattle.side_model.specs.Places.{places_in, side_of}
use Rattle.side_model.specs.Records.{Law}
use Rattle.side_model.specs.State.{Now}

-- ---- by its state

-- the frame stands at the front of the bytes read, and nothing refuses it
pub record IsNext (s : Now) (frame : Frame) : Type 0 where
  pub here : Here
  pub is_here : s.live.here ≡ Some here
  pub stands : front here.unread ≡ Ok (Some frame)
  pub link : link_fault (judge_in s.token s.kept.ring s.kept.accepted s.kept.heard_close here)
      here.answer (role frame) ≡ None
  pub content : content_fault s.live.tables s.live.taking frame ≡ None

-- just such a frame is heard
abbrev pub HearsJustThose : Type 0
HearsJustThose = (s : Now) (frame : Frame)
    → (next s ≡ Do (Heard frame) → IsNext s frame) × (IsNext s frame → next s ≡ Do (Heard frame))

-- what it is judged by is what the records tell
abbrev pub JudgedByRecord : Type 0
JudgedByRecord = (s : Now) (book : Book) (f : Follows s book) (here : Here)
    → judge_in s.token s.kept.ring s.kept.accepted s.kept.heard_close here
    ≡ judge_here s.token (side_of book.trail (places_in f.story) None) here

-- ---- by its records

-- connection by connection none of the frames read is refused, one after another, and the counted
-- ones are accepted; where reading did not stop, no more than a part of a frame stands behind them
pub record AcceptsInTurn (token : List ℕ) (side : SideRecord) (accepted : List Frame)
    : Type 0 where
  pub seen : ℕ → List Frame
  pub bound : ℕ
  pub sees : Sees side bound seen
  pub unrefused : (c : ℕ) → Unrefused token c (length side.made) (told_below seen c)
      (accepted_below seen c) (seen c) (written_on c side.lines)
  pub accepted_are : accepted ≡ accepted_below seen bound
  pub waits : (c : ℕ) → Waits (stop_on c side.stop) (read_on c side.lines) (seen c)

abbrev pub AcceptsJustThose : Type 0
AcceptsJustThose = (side : Side) (token : List ℕ) (book : Book) (fault : Option ProxyFault)
    (law : Law side token book fault)
    → AcceptsInTurn token (side_of book.trail (places_in law.story) law.stop)
    (accepted_in law.story)
