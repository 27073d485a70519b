-- How a call that judges a frame of the link answers: with the cause for which the connection
-- refuses a frame of that part, or with none; the link is this project's own.
use Rattle.std.specs.Prelude.{◌≡◌, Option, Some, None, Result, MatchResult}
use Rattle.transfer_frames.specs.declared.frame.FrameRole.{FrameRole}
use Rattle.transfer_frames.specs.declared.cause.FrameCause.{FrameCause}
use Rattle.pair_model.specs.LinkFaults.{link_fault}
use Rattle.pair_model.specs.RingState.{RingState}
use Rattle.pair_model.specs.Tally.{Tally, judge_of_counts}

-- why a side with this ring and these counts refuses a frame of this part
abbrev pub fault_of : RingState → Tally → FrameRole → Option FrameCause
fault_of ring tally part = link_fault (judge_of_counts ring tally) tally.answer part

-- the answer is Ok exactly where there is no fault, and else the fault
abbrev pub Judges : Result (Unit {0}) FrameCause → Option FrameCause → Type 0
Judges result fault = MatchResult result (λ _. fault ≡ None) (λ cause. fault ≡ Some cause)
