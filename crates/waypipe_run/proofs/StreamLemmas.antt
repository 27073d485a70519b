-- A listing of a stream of frames, with its last line, is what is replied to the stream.
use Rattle.std.proofs.Common.{◌≡◌, ℕ, List, ◌++◌, Result, Ok, Err, inl, inr, ap, ◌∙◌}
use Rattle.std.specs.Result.{IfOk}
use Rattle.std.specs.declared.alloc.AllocError.{AllocError}
use Rattle.transfer_frames.specs.declared.frame.Frame.{Frame}
use Rattle.frame_stream.specs.Listing.{Lists, EndsSo, IsListing, text_of}
use Rattle.frame_stream.specs.declared.listing.Listing.{Listing}
use Rattle.frame_stream.specs.declared.listing.StreamEnd.{StreamEnd}
use Rattle.frame_stream.specs.declared.listing.StreamEnd.TheVariants.{Rest, Fault}
use Rattle.waypipe_run.specs.Streams.{EndsListing}
use Rattle.waypipe_run.specs.Texts.{frame_text, rest_text}
use Rattle.waypipe_run.specs.Top.{RepliesToStream}
use Rattle.waypipe_run.specs.declared.replies.Reply.{Reply}
use Rattle.waypipe_run.specs.declared.status.Reader.TheVariants as reader
use Rattle.waypipe_run.specs.declared.status.Status.{Status}
use Rattle.waypipe_run.specs.declared.status.Status.TheVariants as status

replied : (end : StreamEnd) (bytes lines text : List ℕ) (frames : List Frame) (rest : List ℕ) (answer : Status) → Lists bytes frames rest → lines ≡ text_of 0 frames → EndsSo end frames rest → EndsListing answer end lines text → RepliesToStream answer bytes text
replied (Rest count) bytes lines text frames rest answer lists same ends by = inl (record {
  frames = frames;
  rest = rest;
  lists = lists;
  waits = ends.0;
  answered = by.0;
  printed = by.1 ∙ ap (λ (l : List ℕ). l ++ rest_text count) same ∙ ap (λ (n : ℕ). text_of 0 frames ++ rest_text n) ends.1;
})
replied (Fault place cause) bytes lines text frames rest answer lists same ends by = inr (record {
  frames = frames;
  rest = rest;
  cause = cause;
  lists = lists;
  fault = ends.0;
  answered = by.0 ∙ ap (λ (n : ℕ). status.Frame reader.Input 0 n cause) ends.1;
  printed = by.1 ∙ ap (λ (l : List ℕ). l ++ frame_text reader.Input 0 place cause) same ∙ ap (λ (n : ℕ). text_of 0 frames ++ frame_text reader.Input 0 n cause) ends.1;
})

pub listed : (told : Result Reply AllocError) (bytes : List ℕ) (listing : Listing) → IsListing bytes listing
    → IfOk told (λ reply. EndsListing reply.status listing.stream_end listing.lines reply.text) → IfOk told (λ reply. RepliesToStream reply.status bytes reply.text)
listed (Ok reply) bytes listing is ends = replied listing.stream_end bytes listing.lines reply.text is.frames is.rest reply.status is.lists is.lines is.ends ends
listed (Err error) bytes listing is ends = ends
