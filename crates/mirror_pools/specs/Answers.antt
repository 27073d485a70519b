-- What a call answers that tests a frame's content: the cause that the sizes give, and none where
-- it passes; this project's own.
use Rattle.std.specs.Prelude.{◌≡◌, Option, Some, None, Result, Ok, Err}
use Rattle.transfer_frames.specs.declared.cause.FrameCause.{FrameCause}
use Rattle.mirror_pools.specs.declared.faults.MirrorFault.{MirrorFault}
use Rattle.mirror_pools.specs.declared.faults.MirrorFault.TheVariants.{Frame, Memory}

-- a call that takes no memory
abbrev pub Tests : {X : Type 0} → Result X FrameCause → Option FrameCause → Type 0
Tests (Ok done) cause = cause ≡ None
Tests (Err refusal) cause = cause ≡ Some refusal

-- a call that takes memory, of which want may come at any time
abbrev pub Answers : {X : Type 0} → Result X MirrorFault → Option FrameCause → Type 0
Answers (Ok done) cause = cause ≡ None
Answers (Err (Frame refusal)) cause = cause ≡ Some refusal
Answers (Err Memory) cause = Unit {0}
