-- Some of the notes are recorded, and the others are left.
use Rattle.std.proofs.Common.{length}
use Rattle.proxy_trail.proofs.Looping.{SoFar}
use Rattle.proxy_trail.proofs.recording.note_all.Given as goal

abbrev pub invariant-notes : goal.invariant-notes
invariant-notes l = SoFar l.fn.proxy l.proxy l.fn.book l.book

abbrev pub decreases-notes : goal.decreases-notes
decreases-notes l = length l.proxy.kept.notes
