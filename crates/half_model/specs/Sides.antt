-- Which way the messages of a side's own peer go in a Wayland connection (requests from the
-- application, events from the compositor), and which numbers of handles are a side's own; these
-- numbers are this project's own.
use Rattle.std.specs.Prelude.{Bool, ℤ, pos, int_lt}
use Rattle.wl_tables.specs.declared.way.Way.{Way}
use Rattle.wl_tables.specs.Ways.{own_way}
use Rattle.wp_outside.specs.declared.kinds.Side.{Side}
use Rattle.wp_outside.specs.declared.kinds.Side.TheVariants.{Near, Far}

-- the other of the two sides
abbrev pub other_side : Side → Side
other_side Near = Far
other_side Far = Near

-- the way of the messages that a side receives from the other one
abbrev pub other_way : Side → Way
other_way side = own_way (other_side side)

-- a number of a handle of this side's peer, or of a rid that this side gave: above 0 at the near
-- side, below 0 at the far side
abbrev pub is_own : Side → ℤ → Bool
is_own Near number = int_lt (pos 0) number
is_own Far number = int_lt number (pos 0)
