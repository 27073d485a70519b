use Rattle.std.proofs.Common.{◌≡◌, ℕ, take}
use Rattle.block_intervals.specs.Sets.{has, Rises}
use Rattle.surface_damage.specs.Areas.{some_column}
use Rattle.surface_damage.proofs.sweep.columns_of.Given as goal

abbrev pub invariant-loop-area : goal.invariant-loop-area
invariant-loop-area l = record {
  rises : Rises l.columns;
  has_columns : (bx : ℕ) → has bx l.columns ≡ some_column (take l.area-index l.areas) bx;
}
