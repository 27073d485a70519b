-- What a decoder that answers the frame or the first fault says of spellings.
use Rattle.std.proofs.Common.{◌≡◌, ℕ, List, length, Option, Some, None, Result, Ok, Err, sym, ap, subst, ◌∙◌}
use Rattle.std.specs.Prelude.{IfOk}
use Rattle.transfer_frames.specs.declared.frame.Frame.{Frame}
use Rattle.transfer_frames.specs.declared.cause.FrameCause.{FrameCause}
use Rattle.transfer_frames.specs.declared.cause.DecodeFault.{DecodeFault}
use Rattle.transfer_frames.specs.Numbers.{word_of, IsBytes}
use Rattle.transfer_frames.specs.Grammar.{type_at, Spells}
use Rattle.transfer_frames.specs.Faults.{word_fault, type_in, frame_length, first_fault, rest_fault, body_in, padding_in}
use Rattle.transfer_frames.specs.Front.{frame_in, Reads}
use Rattle.transfer_frames.proofs.FrameLaws.{found, both_none, spelled_no_fault, spelled_frame}

word_passed : (bytes : List ℕ) → first_fault bytes ≡ None → word_fault (word_of bytes) ≡ None
unfolding first_fault
word_passed bytes e = (both_none (word_fault (word_of bytes)) (rest_fault (type_at (type_in (word_of bytes))) (body_in bytes) (padding_in bytes)) e).0

pub is_found : (bytes : List ℕ) (answer : Result Frame DecodeFault) → IsBytes bytes → (word_fault (word_of bytes) ≡ None → length bytes ≡ frame_length (word_of bytes))
    → Reads answer (first_fault bytes) (frame_in bytes) → IfOk answer (λ frame. Spells frame bytes)
is_found bytes (Ok frame) fits whole reads =
    let f = found bytes fits (whole (word_passed bytes reads.0)) reads.0 in
    let same : f.frame ≡ frame = let both : Some f.frame ≡ Some frame = sym f.read ∙ reads.1 in cc in
    subst (λ (x : Frame). Spells x bytes) same f.spelled
is_found bytes (Err fault) fits whole reads = tt

pub is_read : (bytes : List ℕ) (answer : Result Frame DecodeFault) (frame : Frame) → Spells frame bytes → Reads answer (first_fault bytes) (frame_in bytes) → Reads answer None (Some frame)
is_read bytes answer frame spelled reads =
    let fault : first_fault bytes ≡ None = ap first_fault spelled.1 ∙ spelled_no_fault frame spelled.0 in
    let read : frame_in bytes ≡ Some frame = ap frame_in spelled.1 ∙ spelled_frame frame spelled.0 in
    subst (λ (x : Option Frame). Reads answer None x) read (subst (λ (x : Option FrameCause). Reads answer x (frame_in bytes)) fault reads)
