use Rattle.std.proofs.Common.{◌≡◌, ◌++◌, take, map}
use Rattle.std.specs.Fmt.{signed_decimal}
use Rattle.transfer_frames.specs.FrameLines.{spaced}
use Rattle.transfer_frames.proofs.line.put_rids.Given as goal

abbrev pub invariant-loop-rid : goal.invariant-loop-rid
invariant-loop-rid l = l.out.items ≡ l.initial.out.items ++ spaced (map signed_decimal (take l.rid-index l.rids))
