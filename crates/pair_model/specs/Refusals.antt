-- Where a side of a link, which is this project's own, stopped reading because it refused a frame:
-- what stands at that place, and who refuses it.
use Rattle.std.specs.Prelude.{◌≡◌, ◌++◌, ◌∷◌, [], ℕ, List, Option, Some, None, Err, true, ◌⊎◌}
use Rattle.std.specs.Prelude.{length}
use Rattle.std.specs.Option.{MatchOption}
use Rattle.plain_lists.specs.Fronts.{IsFront}
use Rattle.transfer_frames.specs.declared.frame.Frame.{Frame}
use Rattle.transfer_frames.specs.declared.cause.FrameCause.{FrameCause}
use Rattle.transfer_frames.specs.Front.{front}
use Rattle.transfer_frames.specs.Grammar.{role, IsFrame, spelling}
use Rattle.pair_model.specs.Lines.{SideRecord, Stop, read_on, written_on}
use Rattle.pair_model.specs.Rows.{spellings, counted, reply, is_counted, Reads}
use Rattle.pair_model.specs.LinkFaults.{Judge, link_fault, judge_of}
use Rattle.pair_model.specs.Wire.{Sees, Accepts, accepted_below}

-- the first of two causes
abbrev pub first_cause : Option FrameCause → Option FrameCause → Option FrameCause
first_cause None other = other
first_cause (Some cause) other = Some cause

-- A whole frame stands there, and the connection refuses it, or else its content is refused.
pub record RefusedFrame (content : Frame → Option FrameCause) (judge : Judge) (answer : Option ℕ)
    (bytes : List ℕ) (cause : FrameCause) : Type 0 where
  pub frame : Frame
  pub is_frame : IsFrame frame
  pub more : List ℕ
  pub bytes_are : bytes ≡ spelling frame ++ more
  pub cause_is : first_cause (link_fault judge answer (role frame)) (content frame) ≡ Some cause

-- A side stopped reading there, and where it had a cause, that is the one of the bytes behind the
-- frames seen: a fault of the grammar, or a whole frame that is refused. Whether the content of a
-- frame is refused is told by the frames accepted before it.
pub record Refused (content : List Frame → Frame → Option FrameCause) (token : List ℕ)
    (side : SideRecord) (stop : Stop) : Type 0 where
  pub stops : side.stop ≡ Some stop
  pub seen : ℕ → List Frame
  pub bound : ℕ
  pub sees : Sees side bound seen
  pub whole : List Frame
  pub wrote : Reads None (written_on stop.connection side.lines) whole
  pub because : MatchOption stop.cause (Unit {0}) (λ cause.
      (rest : List ℕ)
      → read_on stop.connection side.lines ≡ spellings (seen stop.connection) ++ rest
      → (front rest ≡ Err cause) ⊎ RefusedFrame (content (accepted_below seen bound))
      (judge_of token side stop.connection (length (counted whole)))
      (reply (seen stop.connection)) rest cause)

-- It is the content of a frame that is refused, and a counted one is the next frame that the other
-- side made.
pub record ContentRefused (content : List Frame → Frame → Option FrameCause)
    (reader writer : SideRecord) (cause : FrameCause) : Type 0 where
  pub accepted : List Frame
  pub accepts : Accepts reader accepted
  pub frame : Frame
  pub is_frame : IsFrame frame
  pub refuses : content accepted frame ≡ Some cause
  pub is_next : is_counted (role frame) ≡ true → IsFront (accepted ++ frame ∷ []) writer.made
