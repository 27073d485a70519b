-- The numbers of the causes for which a frame is refused, which are this project's own.
use Rattle.std.specs.Prelude.{ℕ}
use Rattle.transfer_frames.specs.declared.cause.FrameCause.{FrameCause}
use Rattle.transfer_frames.specs.declared.cause.FrameCause.TheVariants as causes

-- 1 to 9 are shown by the frame's own bytes, 20 to 29 by its connection, 30 to 39 by what it says
abbrev pub cause_number : FrameCause → ℕ
cause_number causes.SizeSmall = 1
cause_number causes.SizeLarge = 2
cause_number causes.UnknownType = 3
cause_number (causes.LeftOut t) = 4
cause_number causes.BodyLength = 5
cause_number causes.Padding = 6
cause_number causes.RidZero = 7
cause_number causes.FillRange = 8
cause_number causes.MessageCut = 9
cause_number causes.RestartMissing = 20
cause_number causes.RestartAgain = 21
cause_number causes.Token = 22
cause_number causes.Connection = 23
cause_number causes.RestartBehind = 24
cause_number causes.RestartAhead = 25
cause_number causes.AckBehind = 26
cause_number causes.AckAhead = 27
cause_number causes.AfterClose = 28
cause_number causes.CountSpent = 29
cause_number causes.RidInUse = 30
cause_number causes.RidUnknown = 31
cause_number causes.ExtendSmaller = 32
cause_number causes.FillOutside = 33
cause_number causes.FileTooLarge = 34
cause_number causes.PipeUnknown = 35
cause_number causes.PipeShut = 36
cause_number causes.RidCount = 37
cause_number (causes.PeerMessage fault) = 38
cause_number causes.FilesTooLarge = 39
