-- The way was added as often as the loop went round.
use Rattle.std.proofs.Common.{◌≡◌, ◌++◌, replicate}
use Rattle.trail_records.proofs.book.noting.push_ways.Given as goal

abbrev pub invariant-loop-i : goal.invariant-loop-i
invariant-loop-i l = l.order ≡ l.initial.order ++ replicate l.i l.way
