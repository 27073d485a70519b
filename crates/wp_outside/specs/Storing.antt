-- What holds of the fields in which the link store in memory keeps one direction of a connection;
-- this project's own.
use Rattle.std.specs.Prelude.{◌≡◌, ◌≤◌, true, false, [], length}
use Rattle.std.specs.Vec.{vec_capacity}
use Rattle.wp_outside.specs.declared.stored_lanes.StoredLane.TheInside.{Inside}

-- as many bytes are carried as were pushed, and before any was replaced there is room for them
pub record IsStored (lane : Inside) : Type 0 where
  pub given : lane.given ≤ length lane.pushed.items
  pub replaced : lane.was_spoiled ≡ true → length lane.replaced.items ≡ length lane.pushed.items
  pub none : lane.was_spoiled ≡ false → lane.replaced.items ≡ []
  pub room : lane.was_spoiled ≡ false → length lane.pushed.items ≤ vec_capacity lane.replaced
