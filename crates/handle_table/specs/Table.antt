-- The handles that one side passed, in order, and the rids that the other side opened. This
-- project's own: the Wayland wire format sends a descriptor beside the stream and gives it no
-- number.
use Rattle.std.specs.Prelude.{ℕ, ◌+◌, Bool, true, false, ◌&&◌, ℤ, pos, negsuc, List, [], ◌∷◌, ◌++◌}
use Rattle.std.specs.Prelude.{Option, None, Some, option_map, length, position, nat_lt}
use Rattle.std.specs.Prelude.{if◌then◌else◌}
use Rattle.std.specs.Ordering.{int_cmp, int_eq}
use Rattle.std.specs.Option.{option_or}
use Rattle.std.specs.BTreeMap.{insert_entry}
use Rattle.std.specs.Map.{lookup}
use Rattle.wp_outside.specs.declared.kinds.Side.{Side}
use Rattle.wp_outside.specs.declared.kinds.Side.TheVariants.{Near, Far}
use Rattle.wp_outside.specs.declared.kinds.HandleKind.{HandleKind}
use Rattle.wp_outside.specs.declared.kinds.HandleKind.TheVariants.{File, PipeWrite}
use Rattle.handle_table.specs.declared.handles.Handle.{Handle}
use Rattle.handle_table.specs.declared.handles.Seat.{Seat}

-- what one side knows of handles: the handles that it passed in order, and the rids that it keeps,
-- rising
pub record Table : Type 0 where
  pub side : Side
  pub passed : List Handle
  pub kept : List (ℤ × HandleKind)

-- whether two kinds are the same
abbrev pub is_kind : HandleKind → HandleKind → Bool
is_kind File File = true
is_kind File PipeWrite = false
is_kind PipeWrite File = false
is_kind PipeWrite PipeWrite = true

-- whether two handles have the same number and the same kind
abbrev pub is_handle : Handle → Handle → Bool
is_handle h other = int_eq h.number other.number && is_kind h.kind other.kind

-- the rid of the handle that was passed at this place: 1, 2 and so on at the near side, -1, -2 and
-- so on at the far side
abbrev pub rid_at : Side → ℕ → ℤ
rid_at Near place = pos (place + 1)
rid_at Far place = negsuc place

-- the place of a handle among those passed
abbrev pub place_of : Table → Handle → Option ℕ
place_of table h = position (is_handle h) table.passed

-- the rid of a handle that was passed
abbrev pub rid_of_handle : Table → Handle → Option ℤ
rid_of_handle table h = option_map (rid_at table.side) (place_of table h)

-- the rid of a number: that of the pipe's end where one of this number was passed, else that of the
-- file
abbrev pub rid_of_number : Table → ℤ → Option ℤ
rid_of_number table number =
    option_or
    (rid_of_handle table (record { number = number; kind = PipeWrite }))
    (rid_of_handle table (record { number = number; kind = File }))

-- how many handles a side can pass: a rid has 32 bits
abbrev pub most_handles : ℕ
most_handles = 2147483647

-- the seat at this place of the handles passed
abbrev pub seat : Side → Bool → ℕ → Seat
seat side is_new place = record { place = place; rid = rid_at side place; is_new = is_new }

-- the seat of a handle after a look-up of it: its own, else the next one while there is a rid left
abbrev pub seat_found : Table → Option ℕ → Option Seat
seat_found table (Some place) = Some (seat table.side false place)
seat_found table None =
    if nat_lt (length table.passed) most_handles
    then Some (seat table.side true (length table.passed))
    else None

-- the seat that a handle has, or has once it is passed
abbrev pub seat_for : Table → Handle → Option Seat
seat_for table h = seat_found table (place_of table h)

-- what passing a handle answers of its seat: the rid, and whether it is new
abbrev pub answer_of : Seat → ℤ × Bool
answer_of at = (at.rid, at.is_new)

-- the handles passed, after a look-up of one that is passed now
abbrev pub passed_found : List Handle → Handle → Option ℕ → List Handle
passed_found passed h (Some place) = passed
passed_found passed h None = passed ++ h ∷ []

-- the table after a handle was passed
abbrev pub after_pass : Table → Handle → Table
after_pass table h = record table { passed = passed_found table.passed h (place_of table h) }

-- the kind of a rid that is kept
abbrev pub kind_of_rid : Table → ℤ → Option HandleKind
kind_of_rid table rid = lookup (int_eq rid) table.kept

-- the table that keeps one more rid
abbrev pub after_took : Table → ℤ → HandleKind → Table
after_took table rid kind = record table { kept = insert_entry int_cmp table.kept rid kind }

-- the table of a side that passed and kept nothing
abbrev pub fresh_table : Side → Table
fresh_table side = record { side = side; passed = []; kept = [] }
