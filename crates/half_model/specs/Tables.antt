-- What both halves of one side know together: the objects of its Wayland connection, the handles
-- that were passed either way, and the pipes.
use Rattle.wp_outside.specs.declared.kinds.Side.{Side}
use Rattle.wl_objects.specs.Registry.{ObjectsState, first_state}
use Rattle.handle_table.specs.Table.{Table, fresh_table}
use Rattle.pipe_relay.specs.Pipes.{PipesState, no_pipes}

pub record Tables : Type 0 where
  pub objects : ObjectsState
  pub handles : Table
  pub pipes : PipesState

-- the display alone lives; nothing was passed
abbrev pub first_tables : Side → Tables
first_tables side = record { objects = first_state; handles = fresh_table side; pipes = no_pipes }
