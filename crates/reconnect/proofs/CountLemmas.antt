-- What follows from a side's counts: its greeting is a frame of the grammar, and where a frame isn't refused one more can be counted.
use Rattle.std.proofs.Common.{◌≡◌, ℕ, ◌<◌, ◌++◌, List, [], ◌∷◌, Option, Some, None, true, false, nat_le, Bool, length, arith, length-append}
use Rattle.std.proofs.lemmas.Bool.Decides.{nat_tests}
use Rattle.transfer_frames.specs.declared.frame.Frame.TheVariants.{Restart}
use Rattle.transfer_frames.specs.declared.frame.FrameRole.TheVariants.{Counted}
use Rattle.transfer_frames.specs.declared.cause.FrameCause.TheVariants.{AfterClose, CountSpent}
use Rattle.transfer_frames.specs.Faults.{first_of}
use Rattle.transfer_frames.specs.Grammar.{IsFrame}
use Rattle.transfer_frames.specs.Numbers.{word_bytes, long_bytes, IsWord, IsLong}
use Rattle.transfer_frames.proofs.NumberLaws.{length-word_bytes, length-long_bytes}
use Rattle.pair_model.specs.LinkFaults.{MOST_FRAMES, Judge, link_fault}
use Rattle.pair_model.specs.RingState.{RingState}
use Rattle.pair_model.specs.Tally.{Tally, judge_of_counts}
use Rattle.reconnect.specs.Judging.{fault_of}

pub greeting_is_frame : (token : List ℕ) (connection received : ℕ) → length token ≡ 16 → IsWord connection → IsLong received
    → IsFrame (Restart token connection received)
greeting_is_frame token connection received sixteen word long = record {
  fields = (sixteen, word, long);
  fits = omega (
    arith,
    length-append token (word_bytes connection ++ long_bytes received),
    length-append (word_bytes connection) (long_bytes received),
    length-word_bytes connection,
    length-long_bytes received,
  );
}

-- where neither test refuses, one more can be counted
below_most : (closed : Bool) (accepted : ℕ)
    → first_of ((closed, AfterClose) ∷ (nat_le MOST_FRAMES accepted, CountSpent) ∷ []) ≡ None → accepted < MOST_FRAMES
below_most true accepted none = cc
below_most false accepted none = grind (arith, nat_tests)

one_more_at : (judge : Judge) (answer : Option ℕ) (closes : Bool) → link_fault judge answer (Counted closes) ≡ None → judge.accepted < MOST_FRAMES
one_more_at judge None closes none = cc
one_more_at judge (Some received) closes none = below_most judge.closed judge.accepted none

pub one_more : (ring : RingState) (tally : Tally) (closes : Bool) → fault_of ring tally (Counted closes) ≡ None → tally.accepted < MOST_FRAMES
one_more ring tally closes none = one_more_at (judge_of_counts ring tally) tally.answer closes none
