-- How the rows of the Wayland protocol's table of messages are kept: as a name and places behind
-- references.
use Rattle.std.specs.Prelude.{length, nat_le, Bool, true, false}
use Rattle.wl_tables.specs.declared.rows.Row.{Row}
use Rattle.wl_tables.specs.declared.rows.Row.TheVariants.{Message, Destructor}
use Rattle.wl_tables.specs.Places.{MessageRow}

-- what a kept row says
abbrev pub row_of : Row → MessageRow
row_of (Message name places) = record { name = name.now; places = places.now; destroys = false }
row_of (Destructor name places) = record { name = name.now; places = places.now; destroys = true }

-- a row with at most eight arguments
abbrev pub is_short : MessageRow → Bool
is_short it = nat_le (length it.places) 8
