use Rattle.std.proofs.Common.{◌≡◌, take}
use Rattle.std.specs.List.{fold}
use Rattle.block_intervals.specs.Places.{spanning}
use Rattle.block_intervals.proofs.places.spanning_all.Given as goal

abbrev pub invariant-loop-run : goal.invariant-loop-run
invariant-loop-run l = l.whole ≡ fold spanning l.initial.whole (take l.run-index l.runs)
