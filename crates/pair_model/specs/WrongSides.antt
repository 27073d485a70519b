-- Sides of a link, which is this project's own, that did what they may not do: none of them keeps
-- what a side may have written and read.
use Rattle.std.specs.Prelude.{◌≡◌, ◌≢◌, Err, ℕ, ◌+◌, ◌<◌, max, true, false, List, [], ◌∷◌, ◌++◌}
use Rattle.std.specs.Prelude.{Some, None, length, slice_get}
use Rattle.std.specs.List.{AllByRecursion}
use Rattle.transfer_frames.specs.declared.frame.Frame.{Frame}
use Rattle.transfer_frames.specs.declared.frame.Frame.TheVariants.{Restart, Ack}
use Rattle.transfer_frames.specs.declared.frame.FrameRole.TheVariants.{Tells}
use Rattle.transfer_frames.specs.declared.cause.FrameCause.{FrameCause}
use Rattle.transfer_frames.specs.Grammar.{role, IsFrame}
use Rattle.transfer_frames.specs.Front.{front}
use Rattle.pair_model.specs.Lines.{Line, SideRecord, Stop, read_on, written_on}
use Rattle.pair_model.specs.Rows.{spellings, counted, told, reply, is_counted, is_greeting, Reads}
use Rattle.pair_model.specs.LinkFaults.{has_closed}
use Rattle.pair_model.specs.Wire.{Wire, Wrote, Sees, Accepts, accepted_below, told_below, stop_on}
use Rattle.pair_model.specs.Steps.{Here, Stands, side_read, here_read}

-- a side kept what it may, and read these frames on a connection
pub record HasRead (token : List ℕ) (side : SideRecord) (connection : ℕ) (frames : List Frame)
    : Type 0 where
  pub wire : Wire token side
  pub reads : Reads (stop_on connection side.stop) (read_on connection side.lines) frames

-- ---- what it accepted on a connection

-- a first frame that is no RESTART
abbrev pub NoGreetingFirst : Type 0
NoGreetingFirst = (token : List ℕ) (side : SideRecord) (c : ℕ) (frame : Frame) (frames : List Frame)
    → HasRead token side c (frame ∷ frames) → is_greeting (role frame) ≡ false → ⊥

-- a RESTART with another token
abbrev pub OtherToken : Type 0
OtherToken = (token other : List ℕ) (side : SideRecord) (c d received : ℕ) (frames : List Frame)
    → HasRead token side c (Restart other d received ∷ frames) → other ≢ token → ⊥

-- or of another connection
abbrev pub OtherConnection : Type 0
OtherConnection =
    (token other : List ℕ) (side : SideRecord) (c d received : ℕ) (frames : List Frame)
    → HasRead token side c (Restart other d received ∷ frames) → d ≢ c → ⊥

-- or with a count above all that was made
abbrev pub CountAboveMade : Type 0
CountAboveMade = (token other : List ℕ) (side : SideRecord) (c d received : ℕ) (frames : List Frame)
    → HasRead token side c (Restart other d received ∷ frames) → length side.made < received → ⊥

-- a second RESTART
abbrev pub GreetsAgain : Type 0
GreetsAgain = (token : List ℕ) (side : SideRecord) (c : ℕ)
    (first : Frame) (before : List Frame) (again : Frame) (after : List Frame)
    → HasRead token side c (first ∷ (before ++ again ∷ after)) → is_greeting (role again) ≡ true → ⊥

-- an ACK of frames that were not sent
abbrev pub AckAboveSent : Type 0
AckAboveSent =
    (token other : List ℕ) (side : SideRecord) (c d p count : ℕ) (before after whole : List Frame)
    → HasRead token side c (Restart other d p ∷ (before ++ Ack count ∷ after))
    → Reads None (written_on c side.lines) whole → p + length (counted whole) < count → ⊥

-- a counted frame behind CLOSE
abbrev pub BehindClose : Type 0
BehindClose =
    (token : List ℕ) (side : SideRecord) (before : List Frame) (frame : Frame) (after : List Frame)
    → Wire token side → Accepts side (before ++ frame ∷ after) → has_closed before ≡ true → ⊥

-- a fault of the grammar, behind which it went on
abbrev pub FaultPassedBy : Type 0
FaultPassedBy = (token : List ℕ) (side : SideRecord) (c : ℕ)
    (frames : List Frame) (rest : List ℕ) (cause : FrameCause)
    → Wire token side → stop_on c side.stop ≡ None → AllByRecursion IsFrame frames
    → read_on c side.lines ≡ spellings frames ++ rest → front rest ≡ Err cause → ⊥

-- ---- its connections

-- two lines of one number
abbrev pub TwoLines : Type 0
TwoLines = (token : List ℕ) (side : SideRecord) (before between after : List Line) (one two : Line)
    → Wire token side → side.lines ≡ before ++ one ∷ (between ++ two ∷ after)
    → one.connection ≡ two.connection → ⊥

-- reading on where it stopped for good, on a later connection
abbrev pub ReadBehindStop : Type 0
ReadBehindStop = (token : List ℕ) (side : SideRecord) (stop : Stop) (c : ℕ)
    → Wire token side → side.stop ≡ Some stop → stop.connection < c → read_on c side.lines ≢ [] → ⊥

-- or writing
abbrev pub WroteBehindStop : Type 0
WroteBehindStop = (token : List ℕ) (side : SideRecord) (stop : Stop) (c : ℕ)
    → Wire token side → side.stop ≡ Some stop → stop.connection < c → written_on c side.lines ≢ []
    → ⊥

-- ---- between two steps

-- an ACK of frames that were not sent is read
abbrev pub AckKeepsNothing : Type 0
AckKeepsNothing = (token : List ℕ) (side : SideRecord) (here : Here) (p count : ℕ) (more : List ℕ)
    → here.answer ≡ Some p → p + here.whole < count
    → Stands token (side_read (Tells count) side) (here_read (Ack count) more here) → ⊥

-- ---- the order

-- a frame was sent before the other side was told of a frame that its message was taken after
abbrev pub SentEarly : Type 0
SentEarly = (token : List ℕ) (c received upto p taken_after : ℕ) (made : List Frame)
    (due : List ℕ) (seen before : List Frame) (frame : Frame) (after : List Frame)
    → Wrote token c received upto made due seen
    (spellings (Restart token c received ∷ (before ++ frame ∷ after)))
    → AllByRecursion IsFrame (before ++ frame ∷ after)
    → reply seen ≡ Some p → is_counted (role frame) ≡ true
    → slice_get due (p + length (counted before)) ≡ Some taken_after
    → max received (told before) < taken_after → ⊥

-- a frame was accepted while fewer were made than the other had told before it
abbrev pub HeardEarly : Type 0
HeardEarly = (token : List ℕ) (side : SideRecord) (bound c made : ℕ)
    (seen : ℕ → List Frame) (before : List Frame) (frame : Frame) (after : List Frame)
    → Wire token side → Sees side bound seen → seen c ≡ before ++ frame ∷ after
    → is_counted (role frame) ≡ true
    → slice_get side.ahead (length (accepted_below seen c ++ counted before)) ≡ Some made
    → made < max (told_below seen c) (told before) → ⊥
