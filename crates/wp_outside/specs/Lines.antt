-- The connections of a link as plain data: what was pushed, what was pulled and what waits in each
-- direction, and what each call changes. This project's own: the Wayland standard knows one stream
-- of bytes in each direction, which this keeps per connection.
use Rattle.std.specs.Prelude.{◌≡◌, ◌≢◌, ℕ, Bool, true, false, List, [], ◌++◌, take, drop, slice_set}
use Rattle.wp_outside.specs.declared.kinds.Direction.{Direction}
use Rattle.wp_outside.specs.declared.kinds.Direction.TheVariants.{Up, Down}
use Rattle.plain_lists.specs.Fronts.{IsFront}

-- one direction of one connection
pub record Lane : Type 0 where
  pub pushed : List ℕ
  pub pulled : List ℕ
  pub waiting : List ℕ
  pub was_spoiled : Bool

-- one connection
pub record Line : Type 0 where
  pub was_opened : Bool
  pub is_up : Bool
  pub up : Lane
  pub down : Lane

-- a lane that no byte went through
abbrev pub fresh_lane : Lane
fresh_lane = record { pushed = []; pulled = []; waiting = []; was_spoiled = false }

-- the line of a connection that was never opened
abbrev pub fresh_line : Line
fresh_line = record { was_opened = false; is_up = false; up = fresh_lane; down = fresh_lane }

-- the line of a connection that was just opened
abbrev pub opened_line : Line
opened_line = record { was_opened = true; is_up = true; up = fresh_lane; down = fresh_lane }

-- the lane of one direction
abbrev pub lane_of : Direction → Line → Lane
lane_of Up line = line.up
lane_of Down line = line.down

-- the line with the lane of one direction changed
abbrev pub change_lane : Direction → (Lane → Lane) → Line → Line
change_lane Up change line = record line { up = change line.up }
change_lane Down change line = record line { down = change line.down }

-- bytes pushed at the end of a lane
abbrev pub lane_with_pushed : List ℕ → Lane → Lane
lane_with_pushed bytes lane =
    record lane { pushed = lane.pushed ++ bytes; waiting = lane.waiting ++ bytes }

-- the first n waiting bytes of a lane pulled
abbrev pub lane_with_pulled : ℕ → Lane → Lane
lane_with_pulled n lane =
    record lane { pulled = lane.pulled ++ take n lane.waiting; waiting = drop n lane.waiting }

-- one waiting byte of a lane replaced, and the lane marked
abbrev pub lane_with_spoiled : ℕ → ℕ → Lane → Lane
lane_with_spoiled offset byte lane =
    record lane { waiting = slice_set lane.waiting offset byte; was_spoiled = true }

-- bytes pushed at the end of one direction
abbrev pub pushed_onto : Direction → List ℕ → Line → Line
pushed_onto direction bytes = change_lane direction (lane_with_pushed bytes)

-- the first n waiting bytes of one direction pulled
abbrev pub pulled_from : Direction → ℕ → Line → Line
pulled_from direction n = change_lane direction (lane_with_pulled n)

-- one waiting byte of one direction replaced, and the lane marked
abbrev pub spoiled_at : Direction → ℕ → ℕ → Line → Line
spoiled_at direction offset byte = change_lane direction (lane_with_spoiled offset byte)

-- the connection closed, and what waited dropped
abbrev pub cut_line : Line → Line
cut_line line =
    record line {
      is_up = false;
      up = record line.up { waiting = [] };
      down = record line.down { waiting = [] };
    }

-- one connection changed in this way, and no other one did
pub record Became (old new : ℕ → Line) (connection : ℕ) (change : Line → Line) : Type 0 where
  pub here : new connection ≡ change (old connection)
  pub others : (other : ℕ) → other ≢ connection → new other ≡ old other

-- no connection changed
abbrev pub Same : (old new : ℕ → Line) → Type 0
Same old new = (connection : ℕ) → new connection ≡ old connection

-- what holds of one direction of every connection, by whether that connection is up
pub record IsHonestLane (is_up : Bool) (lane : Lane) : Type 0 where
  pub front : lane.was_spoiled ≡ false → IsFront lane.pulled lane.pushed
  pub whole : is_up ≡ true → lane.was_spoiled ≡ false → lane.pulled ++ lane.waiting ≡ lane.pushed
  pub dropped : is_up ≡ false → lane.waiting ≡ []

-- what holds of every connection
pub record IsHonest (line : Line) : Type 0 where
  pub up : IsHonestLane line.is_up line.up
  pub down : IsHonestLane line.is_up line.down
  pub fresh : line.was_opened ≡ false → line ≡ fresh_line
