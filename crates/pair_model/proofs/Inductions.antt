-- The two inductions over the connections, for one direction.
use Rattle.std.proofs.Common.{◌≡◌, ℕ, ◌≤◌, suc, zero, List, ◌++◌, Option, Some, None, drop, length, refl, sym, subst, arith, length-append}
use Rattle.plain_lists.specs.Fronts.{IsFront}
use Rattle.plain_lists.proofs.FrontLemmas.{IsFront_behind, IsFront_nil}
use Rattle.transfer_frames.specs.declared.frame.Frame.{Frame}
use Rattle.pair_model.specs.Rows.{counted, reply}
use Rattle.pair_model.specs.Wire.{accepted_below, told_below}
use Rattle.pair_model.proofs.Came.{Came, came_counted, came_silent, came_reply, came_told}

-- What two sides have seen of each other by connection: the reader of a direction, and the writer, who
-- reads the other way.
pub record Both (token other : List ℕ) (made back : List Frame) (reader writer : ℕ → List Frame) : Type 0 where
  pub there : (c : ℕ) → Came token c (length (accepted_below writer c)) (length (accepted_below writer (suc c))) made (writer c) (reader c)
  pub back_again : (c : ℕ) → Came other c (length (accepted_below reader c)) (length (accepted_below reader (suc c))) back (reader c) (writer c)

pub accepted_begin : {token other : List ℕ} {made back : List Frame} {reader writer : ℕ → List Frame} → Both token other made back reader writer
    → (c : ℕ) → IsFront (accepted_below reader c) made
accepted_begin {token} {other} {made} {back} {reader} {writer} h zero = IsFront_nil made
accepted_begin {token} {other} {made} {back} {reader} {writer} h (suc c) = go (reply (writer c)) refl (accepted_begin h c)
  where
    go : (r : Option ℕ) → reply (writer c) ≡ r → IsFront (accepted_below reader c) made → IsFront (accepted_below reader c ++ counted (reader c)) made
    go None e before = IsFront_behind _ _ made before (subst (λ (fs : List Frame). IsFront fs (drop (length (accepted_below reader c)) made)) (sym (came_silent (h.there c) e)) (IsFront_nil _))
    go (Some p) e before = IsFront_behind _ _ made before (subst (λ (n : ℕ). IsFront (counted (reader c)) (drop n made)) (came_reply (h.back_again c) p e) (came_counted (h.there c) p e))

pub accepted_longer : (seen : ℕ → List Frame) (c : ℕ) → length (accepted_below seen c) ≤ length (accepted_below seen (suc c))
accepted_longer seen c = omega (arith, length-append (accepted_below seen c) (counted (seen c)))

pub told_accepted : {token other : List ℕ} {made back : List Frame} {reader writer : ℕ → List Frame} → Both token other made back reader writer
    → (c : ℕ) → told_below writer c ≤ length (accepted_below reader c)
told_accepted {token} {other} {made} {back} {reader} {writer} h zero = omega arith
told_accepted {token} {other} {made} {back} {reader} {writer} h (suc c) =
    omega (arith, told_accepted h c, accepted_longer reader c, came_told (h.back_again c) (accepted_longer reader c))
