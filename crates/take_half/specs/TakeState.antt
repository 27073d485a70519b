-- What the taking half of one side is between two calls, and what a frame of the other side leaves
-- of it; halves and frames are this project's own.
use Rattle.std.specs.Prelude.{List, [], ◌++◌, drop, Option, None}
use Rattle.wp_outside.specs.declared.kinds.Side.{Side}
use Rattle.wl_objects.specs.Registry.{ObjectsState}
use Rattle.handle_table.specs.Table.{Table}
use Rattle.pipe_relay.specs.Pipes.{PipesState}
use Rattle.half_model.specs.declared.causes.TakeFault.{TakeFault}
use Rattle.half_model.specs.declared.items.PeerOut.{PeerOut}
use Rattle.half_model.specs.Content.{Taking, no_taking, Hearing}
use Rattle.half_model.specs.Tables.{Tables}

pub record TakeState : Type 0 where
  pub side : Side
  pub taking : Taking
  -- what the peer is to be given
  pub items : List PeerOut
  -- for what it has failed
  pub fault : Option TakeFault

abbrev pub no_frame_heard : Side → TakeState
no_frame_heard side = record { side = side; taking = no_taking; items = []; fault = None }

-- the tables of a side, which both its halves share
abbrev pub tables_of : ObjectsState → Table → PipesState → Tables
tables_of objects handles pipes =
    record { objects = objects; handles = handles; pipes = pipes }

-- the half behind a frame
abbrev pub behind : Hearing → TakeState → TakeState
behind it s = record s { taking = it.taking; items = s.items ++ it.given }

-- the half with the first item given
abbrev pub given_one : TakeState → TakeState
given_one s = record s { items = drop 1 s.items }
