use Rattle.std.proofs.Common.{◌≡◌, length, find}
use Rattle.std.specs.Ordering.{int_eq}
use Rattle.owed_groups.proofs.eyes.eyes_among.Given as goal

abbrev pub invariant-loop-it : goal.invariant-loop-it
invariant-loop-it l =
    find (λ it. int_eq l.fn.file.number it.number) l.queue.items ≡ find (λ it. int_eq l.fn.file.number it.number) l.fn.files

abbrev pub decreases-loop-it : goal.decreases-loop-it
decreases-loop-it l = length l.queue.items
