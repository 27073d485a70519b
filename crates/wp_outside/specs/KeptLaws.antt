-- What holds of every line that the link store in memory stands for. This project's own: the
-- Wayland standard keeps no such records.
use Rattle.std.proofs.Common.{◌≡◌, ℕ, Bool, true, false, List, [], ◌++◌, Option, None, Some, is_some, unwrap_or, take, drop, refl, sym, ◌∙◌}
use Rattle.std.proofs.lemmas.List.{take-append-drop}
use mathlib.Core.Bool.{true≢false}
use Rattle.std.specs.Ordering.{nat_cmp}
use Rattle.std.specs.BTreeMap.{is_at}
use Rattle.std.specs.Map.{lookup}
use Rattle.wp_outside.specs.Lines.{fresh_lane, IsHonestLane, IsHonest}
use Rattle.wp_outside.specs.Kept.{KeptLane, KeptLine, carried, shown_lane, line_or_fresh, line_among}

-- what is carried is what was pushed, but for a lane that was spoiled
carried_unless : (replaced : Option (List ℕ)) (pushed : List ℕ)
    → is_some replaced ≡ false → unwrap_or replaced pushed ≡ pushed
carried_unless None pushed unspoiled = refl
carried_unless (Some bytes) pushed spoiled = absurd (true≢false spoiled)

-- what was given and what was not are together what was pushed
whole_unless : (lane : KeptLane) → is_some lane.replaced ≡ false
    → take lane.given (carried lane) ++ drop lane.given (carried lane) ≡ lane.pushed
whole_unless lane unspoiled =
    take-append-drop lane.given (carried lane) ∙ carried_unless lane.replaced lane.pushed unspoiled

-- a lane of a connection that was opened
shown_lane_honest : (is_up : Bool) (lane : KeptLane) → IsHonestLane is_up (shown_lane is_up lane)
shown_lane_honest true lane =
    record {
      front = λ unspoiled. record {
        rest = drop lane.given (carried lane);
        is = whole_unless lane unspoiled;
      };
      whole = λ _ unspoiled. whole_unless lane unspoiled;
      dropped = λ down. absurd (true≢false down);
    }
shown_lane_honest false lane =
    record {
      front = λ unspoiled. record {
        rest = drop lane.given (carried lane);
        is = whole_unless lane unspoiled;
      };
      whole = λ up _. absurd (true≢false (sym up));
      dropped = λ _. refl;
    }

-- a lane that no byte went through
fresh_lane_honest : IsHonestLane false fresh_lane
fresh_lane_honest =
    record {
      front = λ _. record { rest = []; is = refl };
      whole = λ _ _. refl;
      dropped = λ _. refl;
    }

-- a connection that was opened or not
line_or_fresh_honest : (line : Option KeptLine) → IsHonest (line_or_fresh line)
line_or_fresh_honest None =
    record { up = fresh_lane_honest; down = fresh_lane_honest; fresh = λ _. refl }
line_or_fresh_honest (Some line) =
    record {
      up = shown_lane_honest line.is_up line.up;
      down = shown_lane_honest line.is_up line.down;
      fresh = λ unopened. absurd (true≢false unopened);
    }

-- each connection of the store
pub line_among_honest : (lines : List (ℕ × KeptLine)) (connection : ℕ)
    → IsHonest (line_among lines connection)
line_among_honest lines connection =
    line_or_fresh_honest (lookup (is_at (nat_cmp connection)) lines)
