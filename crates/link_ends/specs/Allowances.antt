-- How much of one direction of a connection arrives. This project's own: the Wayland standard has
-- no such thing.
use Rattle.std.specs.Prelude.{ℕ, ◌-◌, Option, None, Some, List, Bool, true, false, if◌then◌else◌, min, slice_get}
use Rattle.wp_outside.specs.declared.kinds.Direction.{Direction}
use Rattle.wp_outside.specs.declared.kinds.Direction.TheVariants.{Up, Down}
use Rattle.link_ends.specs.declared.dial_pairs.Cut.{Cut}

-- how many bytes of a piece of this length may pass
abbrev pub passing : Option ℕ → ℕ → ℕ
passing None piece = piece
passing (Some left) piece = min piece left

-- what may pass once so many bytes have passed
abbrev pub less_by : ℕ → Option ℕ → Option ℕ
less_by count None = None
less_by count (Some left) = Some (left - count)

-- whether two directions are one
abbrev pub is_same : Direction → Direction → Bool
is_same Up Up = true
is_same Up Down = false
is_same Down Up = false
is_same Down Down = true

-- what may pass in this direction of a connection that is cut, or isn't
abbrev pub bound_by : Option Cut → Direction → Option ℕ
bound_by None dir = None
bound_by (Some cut) dir = if is_same cut.dir dir then (Some cut.after) else None

-- what may pass in this direction of this connection, the first cut being that of connection 1
abbrev pub bound_on : List Cut → ℕ → Direction → Option ℕ
bound_on cuts connection dir = bound_by (slice_get cuts (connection - 1)) dir
