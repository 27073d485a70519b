-- Laws of the grammar of the link's frames, which are this project's own: one spelling for each
-- frame, one frame for each spelling, and one row of frames in a stream.
use Rattle.std.specs.Prelude.{◌≡◌, ◌≢◌, ℕ, ◌≤◌, List, [], ◌++◌, length, Some, None, Ok}
use Rattle.std.specs.List.{flat_map, AllByRecursion}
use Rattle.wl_wire.specs.Wire.{IsMessage}
use Rattle.transfer_frames.specs.declared.frame.TheConstants.{LARGEST_FRAME}
use Rattle.transfer_frames.specs.declared.frame.Frame.{Frame}
use Rattle.transfer_frames.specs.declared.frame.Frame.TheVariants.{Protocol}
use Rattle.transfer_frames.specs.Numbers.{word_of, IsBytes}
use Rattle.transfer_frames.specs.Grammar.{IsFrame, Spells, spelling}
use Rattle.transfer_frames.specs.Faults.{frame_length, first_fault}
use Rattle.transfer_frames.specs.Front.{frame_in, front}

-- what is spelled has no fault, and is seen whole
abbrev pub SpelledIsRead : Type 0
SpelledIsRead = (frame : Frame) (bytes : List ℕ) → Spells frame bytes
    → (first_fault bytes ≡ None)
    × (frame_in bytes ≡ Some frame)
    × (length bytes ≡ frame_length (word_of bytes))

-- bytes of a whole frame without a fault are a frame's spelling
abbrev pub ReadIsSpelled : Type 0
ReadIsSpelled =
    (bytes : List ℕ)
    → IsBytes bytes
    → length bytes ≡ frame_length (word_of bytes)
    → first_fault bytes ≡ None
    → (frame : Frame) × (frame_in bytes ≡ Some frame) × Spells frame bytes

-- no spelling begins another, so frames that are spelled alike are one
abbrev pub NoneBegins : Type 0
NoneBegins =
    (f g : Frame) (a b : List ℕ)
    → IsFrame f
    → IsFrame g
    → spelling f ++ a ≡ spelling g ++ b
    → (f ≡ g) × (a ≡ b)

-- no whole frame stands at the front
abbrev pub NoFrame : List ℕ → Type 0
NoFrame bytes = (frame : Frame) (more : List ℕ) → IsFrame frame → bytes ≢ spelling frame ++ more

-- up to a rest with no whole frame at its front, bytes are one row of frames
abbrev pub OneRow : Type 0
OneRow =
    (fs gs : List Frame) (r s : List ℕ)
    → AllByRecursion IsFrame fs
    → AllByRecursion IsFrame gs
    → NoFrame r
    → NoFrame s
    → flat_map spelling fs ++ r ≡ flat_map spelling gs ++ s → (fs ≡ gs) × (r ≡ s)

-- a frame stands at the front just where the bytes begin with its spelling
abbrev pub FrontOfFrame : Type 0
FrontOfFrame =
    (frame : Frame) (more : List ℕ)
    → IsFrame frame
    → front (spelling frame ++ more) ≡ Ok (Some frame)

abbrev pub FrameOfFront : Type 0
FrameOfFront = (bytes : List ℕ) (frame : Frame) → IsBytes bytes → front bytes ≡ Ok (Some frame)
    → IsFrame frame × ((more : List ℕ) × (bytes ≡ spelling frame ++ more))

-- a frame or a fault at the front stays, whatever comes behind it
abbrev pub FrontStays : Type 0
FrontStays = (bytes more : List ℕ) → front bytes ≢ Ok None → front (bytes ++ more) ≡ front bytes

-- a part of a spelling, from its front, is no whole frame and no fault
abbrev pub PartWaits : Type 0
PartWaits =
    (frame : Frame) (part rest : List ℕ)
    → IsFrame frame
    → spelling frame ≡ part ++ rest
    → rest ≢ []
    → front part ≡ Ok None

-- how long a spelling may be
abbrev pub SpellingLength : Type 0
SpellingLength =
    (frame : Frame)
    → IsFrame frame
    → (4 ≤ length (spelling frame)) × (length (spelling frame) ≤ LARGEST_FRAME)

-- one whole message makes a frame
abbrev pub MessageFits : Type 0
MessageFits = (message : List ℕ) → IsMessage message → IsFrame (Protocol message)
