-- What the link store in memory keeps of each connection, and the line that it stands for. This
-- project's own: the Wayland standard knows one connection, and nothing of what went through it.
use Rattle.std.specs.Prelude.{ℕ, Bool, true, if◌then◌else◌, List, [], Option, None, Some, is_some, unwrap_or, take, drop}
use Rattle.std.specs.Ordering.{nat_cmp}
use Rattle.std.specs.BTreeMap.{is_at}
use Rattle.std.specs.Map.{lookup}
use Rattle.wp_outside.specs.Lines.{Lane, Line, fresh_line}

-- one direction: what was pushed, how many bytes were pulled, and, once a byte was replaced, the
-- bytes that are carried in place of those pushed
pub record KeptLane : Type 0 where
  pub pushed : List ℕ
  pub given : ℕ
  pub replaced : Option (List ℕ)

-- one connection that was opened
pub record KeptLine : Type 0 where
  pub is_up : Bool
  pub up : KeptLane
  pub down : KeptLane

-- the bytes that the reader is given
abbrev pub carried : KeptLane → List ℕ
carried lane = unwrap_or lane.replaced lane.pushed

-- the lane of a connection that is up, or was cut
abbrev pub shown_lane : Bool → KeptLane → Lane
shown_lane is_up lane =
    record {
      pushed = lane.pushed;
      pulled = take lane.given (carried lane);
      waiting = if is_up then (drop lane.given (carried lane)) else [];
      was_spoiled = is_some lane.replaced;
    }

-- the line of a connection that was opened
abbrev pub shown_line : KeptLine → Line
shown_line line =
    record {
      was_opened = true;
      is_up = line.is_up;
      up = shown_lane line.is_up line.up;
      down = shown_lane line.is_up line.down;
    }

-- the line of a connection that was opened or not
abbrev pub line_or_fresh : Option KeptLine → Line
line_or_fresh None = fresh_line
line_or_fresh (Some line) = shown_line line

-- the line of each connection, of those that were opened, by number
abbrev pub line_among : List (ℕ × KeptLine) → ℕ → Line
line_among lines connection = line_or_fresh (lookup (is_at (nat_cmp connection)) lines)
