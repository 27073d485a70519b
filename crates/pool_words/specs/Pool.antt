-- The rule of a pool: what holds at every moment of its words and of what its pen, its eyes and its
-- receipts know, and what each step tells. Word 0 of the table is the count of writes announced.
-- Data word i is word i + 1 of the table.
use Rattle.std.specs.Prelude.{◌≡◌, ℕ, ◌+◌, ◌-◌, ◌<◌, ◌≤◌, List, [], length, slice_index, All}
use mathlib.Core.Option.{some}
use lib.ListN.{get_elem?}
use Rattle.atomic_table.specs.Table.{State, Step, Me}
use Rattle.pool_words.specs.History.{at, Stood, HasStood, HasStoodSince}
use Rattle.pool_words.specs.Views.{announced, stored, loaded, finished, low_of, history_of}
use Rattle.pool_words.specs.Views.{settled_of}
use Rattle.pool_words.specs.declared.views.Write.{Write}
use Rattle.pool_words.specs.declared.views.Load.{Load}
use Rattle.pool_words.specs.declared.views.View.{View}
use Rattle.pool_words.specs.declared.views.View.TheVariants.{Writing, Seeing, Shown, Spent}

-- a load of a receipt stood between its own counts, and its high is at most the receipt's
abbrev pub IsShown : List Write → ℕ → Load → Type 0
IsShown history high l = (l.high ≤ high) × Stood history l.low l.high l.word l.value

-- what the rule says of the view of a seat, where the pen's seat, its writes and the count of those
-- stored are these
abbrev pub Fits : ℕ → List Write → ℕ → ℕ → View → Type 0
Fits pen history n seat (Writing h k settled) =
    (seat ≡ pen) × (h ≡ history) × (k ≡ n) × All (HasStood history) settled
Fits pen history n seat (Seeing low seen) = (low ≤ n) × All (HasStoodSince history low) seen
Fits pen history n seat (Shown high loads) =
    (high ≤ length history) × All (IsShown history high) loads
Fits pen history n seat Spent = Unit {0}

-- just one seat is the pen's. Between its announcement and its store a write is in the history, and
-- its word is still as before
pub record Kept {S : Type 0} (words : ℕ) (table : State S View) : Type 0 where
  pub pen : ℕ
  pub history : List Write
  pub stored_count : ℕ
  pub settled : List Load
  pub at_pen : get_elem? table.views pen ≡ some (Writing history stored_count settled)
  pub pending : (stored_count ≤ length history) × (length history ≤ stored_count + 1)
  pub sized : length table.words ≡ words + 1
  pub counted : slice_index table.words 0 ≡ length history
  pub held : (i : ℕ) → i < words → slice_index table.words (i + 1) ≡ at history stored_count i
  pub fits : (seat : ℕ) (v : View)
      → get_elem? table.views seat ≡ some v → Fits pen history stored_count seat v

-- the first seat is the pen's, and nothing is written
abbrev pub blank : View
blank = Writing [] 0 []

module _ {S : Type 0} where
  -- the pen's store to the count announces this write
  abbrev pub Announces : Write → Step S → Me S View → ℕ → Me S View → Type 0
  Announces write step before n after = after ≡ (announced write before.0, before.1)

  abbrev pub Stores : Step S → Me S View → ℕ → Me S View → Type 0
  Stores step before n after = after ≡ (stored before.0, before.1)

  abbrev pub Loads : Step S → Me S View → ℕ → Me S View → Type 0
  Loads step before n after = after ≡ (loaded (step.word - 1) n before.0, before.1)

  abbrev pub Finishes : Step S → Me S View → ℕ → Me S View → Type 0
  Finishes step before n after = (after ≡ (finished n before.0, before.1)) × (low_of before.0 ≤ n)

  -- the pen reads the count, and is told that all loads which it settled have stood
  abbrev pub Learns : Step S → Me S View → ℕ → Me S View → Type 0
  Learns step before n after =
      (after ≡ before) × All (HasStood (history_of before.0)) (settled_of before.0)
