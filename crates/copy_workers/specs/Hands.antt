-- The rule of a queue that several threads share, first in, first out, and what each of them knows
-- of it: its hand. This project's own.
use Rattle.std.specs.Prelude.{◌≡◌, ℕ, List, [], ◌∷◌, ◌++◌, sum_by, IsPermutation}
use Rattle.std.specs.List.{flat_map}
use Rattle.atomic_table.specs.Seated.{TableId}
use Rattle.copy_workers.specs.declared.hands.Hand.{Hand}

-- which queue it is, no two share it, and how many places it has
pub record QueueId : Type 0 where
  pub table : TableId
  pub places : ℕ

-- a thread's port at a queue: its parts of the right to know the whole, what it put in, and what it
-- took out, in order
pub record PortState (T : Type 0) : Type 0 where
  pub queue : QueueId
  pub parts : ℕ
  pub put : List T
  pub taken : List T

module _ {T : Type 0} where
  abbrev pub hand : ℕ → List T → List T → Hand T
  hand parts put taken = record { parts = parts; put = put; taken = taken }

  -- all that the hands put, and all that they took
  abbrev pub all_put : List (Hand T) → List T
  all_put hands = flat_map (λ h. h.put) hands

  abbrev pub all_taken : List (Hand T) → List T
  all_taken hands = flat_map (λ h. h.taken) hands

  -- a hand with no part has put and taken nothing
  abbrev pub IsEmptyIfSpent : Hand T → Type 0
  IsEmptyIfSpent h = h.parts ≡ 0 → (h.put ≡ []) × (h.taken ≡ [])

  abbrev pub AllEmptyIfSpent : List (Hand T) → Type 0
  AllEmptyIfSpent [] = Unit {0}
  AllEmptyIfSpent (h ∷ hands) = IsEmptyIfSpent h × AllEmptyIfSpent hands

-- as many parts as a chief and sixteen workers have
abbrev pub all_parts : ℕ
all_parts = 17

-- what came in, in the order of the pushes, is what went out, in the order of the pops, and then
-- what the queue holds. What came in is what the hands put, and what went out is what they took
pub record Flows {T : Type 0} (items : List T) (hands : List (Hand T)) : Type 0 where
  pub came : List T
  pub went : List T
  pub in_order : came ≡ went ++ items
  pub put : IsPermutation came (all_put hands)
  pub taken : IsPermutation went (all_taken hands)
  pub parts : sum_by (λ h. h.parts) hands ≡ all_parts
  pub spent : AllEmptyIfSpent hands

-- who has every part knows that what it put is what it took and what the queue holds
abbrev pub Totals : {T : Type 0} → Hand T → List T → Type 0
Totals h items = h.parts ≡ all_parts → IsPermutation h.put (h.taken ++ items)
