-- What holds of the rids of a table: one rid for each handle, one handle for each rid, and rids
-- without a gap in the order of first passing. This project's own: the Wayland wire format knows no
-- such numbers.
use Rattle.std.specs.Prelude.{◌≡◌, ℕ, ℤ, false, Some, IsSome, slice_get, if◌then◌else◌}
use Rattle.std.specs.Ordering.{int_eq}
use Rattle.wp_outside.specs.declared.kinds.Side.{Side}
use Rattle.wp_outside.specs.declared.kinds.HandleKind.{HandleKind}
use Rattle.handle_table.specs.declared.handles.Handle.{Handle}
use Rattle.handle_table.specs.declared.handles.Seat.{Seat}
use Rattle.handle_table.specs.Sound.{IsPassedOnce, IsSound}
use Rattle.handle_table.specs.Table.{Table, rid_at, rid_of_handle, seat_for, after_pass}
use Rattle.handle_table.specs.Table.{kind_of_rid, after_took, fresh_table}

-- two handles with one rid are one handle
abbrev pub OneHandlePerRid : Type 0
OneHandlePerRid =
    (table : Table) (h other : Handle) (rid : ℤ)
    → rid_of_handle table h ≡ Some rid → rid_of_handle table other ≡ Some rid → h ≡ other

-- a handle that is passed has the seat foreseen for it, which is not new from then on, and that
-- seat's rid
abbrev pub ForeseenIsPassed : Type 0
ForeseenIsPassed =
    (table : Table) (h : Handle) (at : Seat) → seat_for table h ≡ Some at
    → (seat_for (after_pass table h) h ≡ Some (record at { is_new = false }))
    × (rid_of_handle (after_pass table h) h ≡ Some at.rid)

-- a handle keeps its rid when a handle is passed
abbrev pub RidOutlastsPass : Type 0
RidOutlastsPass =
    (table : Table) (h other : Handle) (rid : ℤ)
    → rid_of_handle table h ≡ Some rid → rid_of_handle (after_pass table other) h ≡ Some rid

-- a handle keeps its rid, or has none, when a rid of the other side is kept
abbrev pub RidOutlastsTook : Type 0
RidOutlastsTook =
    (table : Table) (h : Handle) (rid : ℤ) (kind : HandleKind)
    → rid_of_handle (after_took table rid kind) h ≡ rid_of_handle table h

-- what is sound is so at first and stays so
pub record SoundLasts : Type 0 where
  pub fresh : (side : Side) → IsSound (fresh_table side)
  pub pass : (table : Table) (h : Handle) → IsSome (seat_for table h)
      → IsSound table → IsSound (after_pass table h)
  pub took : (table : Table) (rid : ℤ) (kind : HandleKind)
      → IsSound table → IsSound (after_took table rid kind)

-- the rids are those of the places up to the number of handles passed: each place's handle has that
-- place's rid, and each rid is that of a place's handle
pub record RidsAreDense : Type 0 where
  pub place_has : (table : Table) → IsPassedOnce table → (place : ℕ) (h : Handle)
      → slice_get table.passed place ≡ Some h
      → rid_of_handle table h ≡ Some (rid_at table.side place)
  pub rid_has : (table : Table) (h : Handle) (rid : ℤ) → rid_of_handle table h ≡ Some rid
      → (place : ℕ) × (slice_get table.passed place ≡ Some h) × (rid ≡ rid_at table.side place)

-- a rid that was taken has its kind, and every other one has what it had
abbrev pub TookKeepsKind : Type 0
TookKeepsKind =
    (table : Table) (rid other : ℤ) (kind : HandleKind)
    → kind_of_rid (after_took table rid kind) other
    ≡ (if int_eq rid other then Some kind else kind_of_rid table other)
