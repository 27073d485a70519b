-- What one step of a kept lane does to the lane that it stands for.
use Rattle.std.proofs.Common.{◌≡◌, ℕ, ◌+◌, Bool, true, false, List, ◌++◌, take, drop, Some, None, if◌then◌else◌, slice_set, sym, ◌∙◌, ap, refl, arith}
use Rattle.std.proofs.lemmas.List.{drop-drop, take-set-le, drop-set-add, take-append-drop, take-take, drop-take}
use Rattle.std.proofs.lemmas.Bool.{false≢true}
use Rattle.wp_outside.specs.Lines.{lane_with_pulled, lane_with_spoiled}
use Rattle.wp_outside.specs.Kept.{KeptLane, carried, shown_lane}

-- the first n and then m elements are the first n + m
pub take_further : (n m : ℕ) (xs : List ℕ) → take (n + m) xs ≡ take n xs ++ take m (drop n xs)
take_further n m xs =
    sym (take-append-drop n (take (n + m) xs))
    ∙ ap (λ (front : List ℕ). front ++ drop n (take (n + m) xs)) (take-take n (n + m) xs (omega arith))
    ∙ ap (λ (rest : List ℕ). take n xs ++ rest) (drop-take n m xs)

-- n more bytes given
pub pulled_shown : (lane : KeptLane) (n : ℕ)
    → shown_lane true (record lane { given = lane.given + n }) ≡ lane_with_pulled n (shown_lane true lane)
pulled_shown lane n =
    rw (take_further lane.given n (carried lane), drop-drop n lane.given (carried lane)) refl

-- one waiting byte replaced
pub spoiled_shown : (lane : KeptLane) (bytes : List ℕ) (offset byte : ℕ) → carried lane ≡ bytes
    → shown_lane true (record lane { replaced = Some (slice_set bytes (lane.given + offset) byte) })
    ≡ lane_with_spoiled offset byte (shown_lane true lane)
spoiled_shown lane bytes offset byte is =
    rw (is, take-set-le lane.given bytes (lane.given + offset) byte (omega arith), drop-set-add lane.given bytes offset byte) refl

-- a lane as its fields are shown
abbrev pub stored : List ℕ → ℕ → Bool → List ℕ → KeptLane
stored pushed given was_spoiled replaced =
    record { pushed = pushed; given = given; replaced = if was_spoiled then (Some replaced) else None }

-- a byte replaced where one was before
pub spoiled_again : (pushed : List ℕ) (given : ℕ) (was_spoiled : Bool) (replaced : List ℕ) (offset byte : ℕ) → was_spoiled ≡ true
    → shown_lane true (stored pushed given was_spoiled (slice_set replaced (given + offset) byte))
    ≡ lane_with_spoiled offset byte (shown_lane true (stored pushed given was_spoiled replaced))
spoiled_again pushed given true replaced offset byte spoiled = spoiled_shown (stored pushed given true replaced) replaced offset byte refl
spoiled_again pushed given false replaced offset byte spoiled = absurd (false≢true spoiled)

-- the first byte that is replaced
pub spoiled_first : (pushed : List ℕ) (given : ℕ) (was_spoiled : Bool) (before replaced : List ℕ) (offset byte : ℕ) → was_spoiled ≡ false → replaced ≡ pushed
    → shown_lane true (stored pushed given true (slice_set replaced (given + offset) byte))
    ≡ lane_with_spoiled offset byte (shown_lane true (stored pushed given was_spoiled before))
spoiled_first pushed given true before replaced offset byte unspoiled same = absurd (false≢true (sym unspoiled))
spoiled_first pushed given false before replaced offset byte unspoiled same =
    spoiled_shown (stored pushed given false before) replaced offset byte (sym same)
