-- What holds of the table of every side, whatever was passed and kept: this project's own.
use Rattle.std.specs.Prelude.{◌≡◌, ℕ, ◌≤◌, Some, slice_get, length}
use Rattle.std.specs.Ordering.{int_cmp}
use Rattle.std.specs.List.Sorted.{IsStrictlySortedBy}
use Rattle.std.specs.Map.{keys_of}
use Rattle.handle_table.specs.declared.handles.Handle.{Handle}
use Rattle.handle_table.specs.Table.{Table, most_handles, place_of}

-- each handle that was passed stands at one place alone
abbrev pub IsPassedOnce : Table → Type 0
IsPassedOnce table =
    (place : ℕ) (h : Handle)
    → slice_get table.passed place ≡ Some h → place_of table h ≡ Some place

-- each handle was passed once, no more of them than there are rids, and the kept rids rise
pub record IsSound (table : Table) : Type 0 where
  pub once : IsPassedOnce table
  pub few : length table.passed ≤ most_handles
  pub rising : IsStrictlySortedBy int_cmp (keys_of table.kept)
