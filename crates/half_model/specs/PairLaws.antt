-- Laws of two sides' stories, where what one has heard is what the other made: what is given is
-- what was sent, and which causes may refuse the next frame. Messages are Wayland's, all else is
-- this project's own.
use Rattle.std.specs.Prelude.{◌≡◌, List, ◌∷◌, ◌++◌, map, Option, Some, None}
use Rattle.plain_lists.specs.Fronts.{IsFront}
use Rattle.wp_outside.specs.declared.kinds.Side.{Side}
use Rattle.transfer_frames.specs.declared.cause.FrameCause.{FrameCause}
use Rattle.transfer_frames.specs.declared.cause.FrameCause.TheVariants.{RidCount, PeerMessage}
use Rattle.transfer_frames.specs.declared.frame.Frame.{Frame}
use Rattle.half_model.specs.Content.{content_fault}
use Rattle.half_model.specs.Log.{Mark, log_new}
use Rattle.half_model.specs.Meaning.{none_carried, carry_all}
use Rattle.half_model.specs.Sides.{other_side}
use Rattle.half_model.specs.Story.{made_in, accepted_in, messages_in, sent_from}
use Rattle.half_model.specs.StoryLaws.{now, IsStory}

-- what the one has accepted is what the other made, up to a place
abbrev pub Hears : List Mark → List Mark → Type 0
Hears reader writer = IsFront (accepted_in reader) (made_in writer)

-- The messages that the reader's frames mean in its order of passing are the first that the writer
-- sent, each with the rid of its handle.
abbrev pub GivenIsSent : Type 0
GivenIsSent =
    (side : Side) (writer reader : List Mark)
    → IsStory side writer
    → IsStory (other_side side) reader
    → Hears reader writer
    → IsFront (carry_all (other_side side) reader none_carried).given
    (sent_from (log_new side) writer)

-- Each message of the frames that the reader accepted is given, in their order.
abbrev pub AllIsGiven : Type 0
AllIsGiven =
    (side : Side) (writer reader : List Mark)
    → IsStory side writer
    → IsStory (other_side side) reader
    → Hears reader writer
    → map (λ sent. sent.0) (carry_all (other_side side) reader none_carried).given
    ≡ messages_in (accepted_in reader)

-- a cause that may refuse a frame that the other side made
abbrev pub MayRefuse : Option FrameCause → Type 0
MayRefuse None = Unit {0}
MayRefuse (Some RidCount) = Unit {0}
MayRefuse (Some (PeerMessage fault)) = Unit {0}
MayRefuse (Some cause) = ⊥

-- The frame that the reader hears next, of those that the writer made, it refuses for its content
-- only where its tracking or its count of rids does.
abbrev pub ContentIsFine : Type 0
ContentIsFine =
    (side : Side) (writer reader : List Mark) (frame : Frame) (later : List Frame)
    → IsStory side writer
    → IsStory (other_side side) reader
    → made_in writer ≡ accepted_in reader ++ frame ∷ later
    → Hears writer reader
    → MayRefuse (content_fault (now (other_side side) reader).tables
    (now (other_side side) reader).taking frame)
