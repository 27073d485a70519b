-- The laws over two sides of a link, which is this project's own: what agreement on the bytes
-- gives.
use Rattle.std.specs.Prelude.{◌≡◌, ℕ, ◌-◌, ◌≤◌, Bool, false, None, Option, Some, List, [], ◌++◌}
use Rattle.std.specs.Prelude.{take, drop, length}
use Rattle.transfer_frames.specs.declared.frame.Frame.{Frame}
use Rattle.transfer_frames.specs.declared.frame.FrameRole.{FrameRole}
use Rattle.transfer_frames.specs.declared.cause.FrameCause.{FrameCause}
use Rattle.pair_model.specs.Lines.{SideRecord, Stop, Agrees}
use Rattle.pair_model.specs.LinkFaults.{MOST_FRAMES, Judge, link_fault, ClosesLast}
use Rattle.pair_model.specs.Wire.{Wire, Wrote, Kept, Accepts}
use Rattle.pair_model.specs.Quiet.{NoFront, AllRead, DrainedLink}
use Rattle.pair_model.specs.Cases.{ByCases}
use Rattle.pair_model.specs.Refusals.{Refused, ContentRefused}

-- what the reader accepted are the first frames that the writer made, as many as it accepted
pub record AcceptedFirst (reader writer : SideRecord) : Type 0 where
  pub count : reader.accepted ≤ length writer.made
  pub accepts : Accepts reader (take reader.accepted writer.made)
  pub frames : (accepted : List Frame) → Accepts reader accepted
      → accepted ≡ take reader.accepted writer.made

-- Where both sides agree, each has accepted just the first frames that the other made, each once.
abbrev pub EachOnce : Type 0
EachOnce = (token other : List ℕ) (near far : SideRecord)
    → Wire token near → Wire other far → Agrees near.lines far.lines
    → AcceptedFirst far near × AcceptedFirst near far

-- The writer knows of no more frames than the reader accepted, and what it keeps is all from there
-- on: some that were accepted, and each that was not.
pub record KeepsRest (writer reader : SideRecord) : Type 0 where
  pub known : writer.acknowledged ≤ reader.accepted
  pub keeps : Kept writer false (drop writer.acknowledged writer.made)
  pub unaccepted : (has_failed : Bool) (frames : List Frame) (kept : Kept writer has_failed frames)
      → frames ≡ take (reader.accepted - writer.acknowledged) frames
      ++ (drop reader.accepted writer.made ++ kept.further)

-- Where both sides agree, each still keeps every frame that the other has not accepted.
abbrev pub NoneLost : Type 0
NoneLost = (token other : List ℕ) (near far : SideRecord)
    → Wire token near → Wire other far → Agrees near.lines far.lines
    → KeepsRest near far × KeepsRest far near

-- a side makes no frame after CLOSE, and no more frames than can be counted
pub record Countable (side : SideRecord) : Type 0 where
  pub closes : ClosesLast side.made
  pub most : length side.made ≤ MOST_FRAMES

-- Where both sides have one token and agree, a side that stopped reading for a cause refused the
-- content of a frame: no cause of the grammar or of the connection is met.
abbrev pub Unspoiled : Type 0
Unspoiled = (content : List Frame → Frame → Option FrameCause) (token : List ℕ)
    (reader writer : SideRecord) (stop : Stop) (cause : FrameCause)
    → Wire token reader → Wire token writer → Agrees reader.lines writer.lines → Countable writer
    → Refused content token reader stop → stop.cause ≡ Some cause
    → ContentRefused content reader writer cause

-- Where both sides agree, all that was written on a connection was read, and neither side has
-- anything more to send there, nothing is kept: each side's frames are all acknowledged.
abbrev pub QuietIsDone : Type 0
QuietIsDone = (token other : List ℕ) (near far : SideRecord) (connection : ℕ)
    → Wire token near → Wire other far → Agrees near.lines far.lines
    → AllRead connection near far → NoFront token connection near → NoFront other connection far
    → DrainedLink near far
    × ((kept : List Frame) → Kept near false kept → kept ≡ [])
    × ((kept : List Frame) → Kept far false kept → kept ≡ [])

-- Where both sides agree and all frames are acknowledged, each has accepted all that the other
-- made.
abbrev pub DrainedHasAll : Type 0
DrainedHasAll = (token other : List ℕ) (near far : SideRecord)
    → Wire token near → Wire other far → Agrees near.lines far.lines → DrainedLink near far
    → Accepts far near.made × Accepts near far.made

-- What may have been written, said with one rest still to be written, and said by cases, is the
-- same.
abbrev pub SameByCases : Type 0
SameByCases = (token : List ℕ) (connection received upto : ℕ) (made : List Frame) (due : List ℕ)
    (seen : List Frame) (written : List ℕ)
    → (Wrote token connection received upto made due seen written
    → ByCases token connection received upto made due seen written)
    × (ByCases token connection received upto made due seen written
    → Wrote token connection received upto made due seen written)

-- A frame that is let pass still is where more frames are made and wholly sent.
abbrev pub FaultFalls : Type 0
FaultFalls = (judge : Judge) (answer : Option ℕ) (part : FrameRole) (made whole : ℕ)
    → link_fault judge answer part ≡ None → judge.made ≤ made → judge.whole ≤ whole
    → link_fault (record judge { made = made; whole = whole }) answer part ≡ None
