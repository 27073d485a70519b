use Rattle.std.proofs.Common.{◌-◌, length}
use Rattle.frame_stream.proofs.ListingLaws.{Listed}
use Rattle.frame_stream.proofs.listing.list_frames.Given as goal

abbrev pub invariant-frames : goal.invariant-frames
invariant-frames l = Listed l.fn.bytes l.place l.lines

abbrev pub decreases-frames : goal.decreases-frames
decreases-frames l = length l.fn.bytes - l.place
