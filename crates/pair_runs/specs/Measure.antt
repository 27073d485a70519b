-- How much is left to move in a run; this project's own.
use Rattle.std.specs.Prelude.{◌≡◌, ℕ, ◌+◌, ◌-◌, ◌*◌, ◌<◌, List, [], ◌∷◌, length, sum_by, None, ◌⊎◌}
use Rattle.half_model.specs.declared.items.PeerIn.{PeerIn}
use Rattle.side_model.specs.Books.{weight, MOST_WEIGHT}
use Rattle.pair_runs.specs.Moves.{MovesAll}
use Rattle.pair_runs.specs.Runs.{round, bytes_of}
use Rattle.pair_runs.specs.Sides.{SideState}
use Rattle.pair_runs.specs.States.{State}

-- each item that waits on a wire, with its bytes
abbrev pub item_left : PeerIn → ℕ
item_left item = 1 + length (bytes_of item)

abbrev pub wire_left : List PeerIn → ℕ
wire_left wire = sum_by item_left wire

-- whether copies are awaited
abbrev pub copies_left : List ℕ → ℕ
copies_left [] = 0
copies_left (words ∷ copies) = 1

-- what the records may still grow by, twice, and whether copies are awaited: a message that is
-- taken weighs more than its copies count
abbrev pub side_left : SideState → ℕ
side_left it = 2 * (MOST_WEIGHT - weight it.book.trail) + copies_left it.copies

abbrev pub left : State → ℕ
left s = side_left s.near + side_left s.far + (wire_left s.near_wire + wire_left s.far_wire)

-- nothing changed, or less is left
abbrev pub Falls : State → State → Type 0
Falls s t = (t ≡ s) ⊎ (left t < left s)

-- A round that meets no fault changes nothing, or leaves less.
abbrev pub RoundFalls : Type 0
RoundFalls = (most : ℕ) (s t : State) → MovesAll (round most) s t None → Falls s t
