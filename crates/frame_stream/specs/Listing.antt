-- The listing of a whole stream of the link's frames: a line for each frame, then the rest or the
-- fault behind them; the frames and the lines are this project's own.
use Rattle.std.specs.Prelude.{◌≡◌, ℕ, ◌+◌, List, [], ◌∷◌, ◌++◌, length, None, Ok, Err}
use Rattle.std.specs.List.{flat_map, AllByRecursion}
use Rattle.transfer_frames.specs.declared.frame.Frame.{Frame}
use Rattle.transfer_frames.specs.Numbers.{IsBytes}
use Rattle.transfer_frames.specs.Grammar.{IsFrame, spelling}
use Rattle.transfer_frames.specs.Front.{front}
use Rattle.transfer_frames.specs.FrameLines.{line}
use Rattle.transfer_frames.specs.Laws.{NoFrame}
use Rattle.frame_stream.specs.declared.listing.StreamEnd.{StreamEnd}
use Rattle.frame_stream.specs.declared.listing.StreamEnd.TheVariants.{Rest, Fault}
use Rattle.frame_stream.specs.declared.listing.Listing.{Listing}

-- the bytes are these frames, one behind the other, and a rest at whose front no whole frame stands
pub record Lists (bytes : List ℕ) (frames : List Frame) (rest : List ℕ) : Type 0 where
  pub whole : AllByRecursion IsFrame frames
  pub joined : bytes ≡ flat_map spelling frames ++ rest
  pub stops : NoFrame rest

-- the lines of frames, the first of which stands at a place, with the byte 10 behind each
abbrev pub text_of : ℕ → List Frame → List ℕ
text_of place [] = []
text_of place (frame ∷ frames) =
    line place frame ++ (10 ∷ text_of (place + length (spelling frame)) frames)

-- what stands behind the frames: a beginning or nothing, with its length, or a fault, with the
-- length of the frames
abbrev pub EndsSo : StreamEnd → List Frame → List ℕ → Type 0
EndsSo (Rest count) frames rest = (front rest ≡ Ok None) × (count ≡ length rest)
EndsSo (Fault place cause) frames rest =
    (front rest ≡ Err cause) × (place ≡ length (flat_map spelling frames))

-- the listing tells the frames and the end of the bytes
pub record IsListing (bytes : List ℕ) (listing : Listing) : Type 0 where
  pub frames : List Frame
  pub rest : List ℕ
  pub lists : Lists bytes frames rest
  pub lines : listing.lines ≡ text_of 0 frames
  pub ends : EndsSo listing.stream_end frames rest

-- bytes are frames and a rest in one way alone
abbrev pub ListedOnce : Type 0
ListedOnce =
    (bytes : List ℕ) (fs gs : List Frame) (r s : List ℕ)
    → Lists bytes fs r
    → Lists bytes gs s
    → (fs ≡ gs) × (r ≡ s)

-- so they have one listing, and each has one
abbrev pub OneListing : Type 0
OneListing = (bytes : List ℕ) (a b : Listing) → IsListing bytes a → IsListing bytes b → a ≡ b

abbrev pub SomeListing : Type 0
SomeListing = (bytes : List ℕ) → IsBytes bytes → (listing : Listing) × IsListing bytes listing
