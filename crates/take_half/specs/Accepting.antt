-- What a taking half answers to a frame of the other side: the frame is refused for what it says,
-- or it leaves what it means; this project's own.
use Rattle.std.specs.Prelude.{◌≡◌, Option, Some, None, Result, Ok, Err}
use Rattle.transfer_frames.specs.declared.frame.Frame.{Frame}
use Rattle.half_model.specs.declared.causes.TakeFault.{TakeFault}
use Rattle.half_model.specs.declared.causes.TakeFault.TheVariants as faults
use Rattle.half_model.specs.Content.{content_fault, heard}
use Rattle.half_model.specs.Tables.{Tables}
use Rattle.take_half.specs.TakeState.{TakeState, behind}

-- an accepted frame leaves what it means, in the half and in the tables
pub record Accepted (frame : Frame) (tables after : Tables) (old new : TakeState) : Type 0 where
  pub fine : content_fault tables old.taking frame ≡ None
  pub half : new ≡ behind (heard tables old.taking frame) old
  pub shared : after ≡ (heard tables old.taking frame).tables

-- what a frame comes to, of a half that has not failed; want of memory may come at any time
abbrev pub Accepts :
    Result Unit TakeFault → Frame → (tables after : Tables) → (old new : TakeState) → Type 0
Accepts (Ok done) frame tables after old new = Accepted frame tables after old new
Accepts (Err (faults.Frame cause)) frame tables after old new =
    content_fault tables old.taking frame ≡ Some cause
Accepts (Err faults.Memory) frame tables after old new = Unit {0}

-- a half that has failed answers its fault again, and nothing changes
pub record Again (fault : TakeFault) (result : Result Unit TakeFault)
    (tables after : Tables) (old new : TakeState) : Type 0 where
  pub answers : result ≡ Err fault
  pub half : new ≡ old
  pub shared : after ≡ tables

abbrev pub AcceptsAfter : Option TakeFault → Result Unit TakeFault → Frame
    → (tables after : Tables) → (old new : TakeState) → Type 0
AcceptsAfter None result frame tables after old new = Accepts result frame tables after old new
AcceptsAfter (Some fault) result frame tables after old new =
    Again fault result tables after old new
