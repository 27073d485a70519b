-- How the listing of a stream of frames ends. The frames, the lines and the program are this
-- project's own.
use Rattle.std.specs.Prelude.{◌≡◌, ℕ, List, ◌++◌}
use Rattle.frame_stream.specs.declared.listing.StreamEnd.{StreamEnd}
use Rattle.frame_stream.specs.declared.listing.StreamEnd.TheVariants.{Rest, Fault}
use Rattle.waypipe_run.specs.Texts.{frame_text, rest_text}
use Rattle.waypipe_run.specs.declared.status.Reader.TheVariants.{Input}
use Rattle.waypipe_run.specs.declared.status.Status.{Status}
use Rattle.waypipe_run.specs.declared.status.Status.TheVariants.{Done, Frame}

-- a status and a text behind the lines of the frames, by what stands behind the frames
abbrev pub EndsListing : Status → StreamEnd → List ℕ → List ℕ → Type 0
EndsListing answer (Rest count) lines text = (answer ≡ Done) × (text ≡ lines ++ rest_text count)
EndsListing answer (Fault place cause) lines text =
    (answer ≡ Frame Input 0 place cause) × (text ≡ lines ++ frame_text Input 0 place cause)
