-- Rows with one frame more, and counts that rise.
use Rattle.std.proofs.Common.{◌≡◌, ℕ, ◌+◌, ◌<◌, ◌≤◌, cond, List, [], ◌∷◌, ◌++◌, None, Bool, true, false, max, length, refl, ap, ◌∙◌, arith, length-append}
use Rattle.std.proofs.lemmas.List.Elements.{filter-append, filter_map-append}
use Rattle.std.specs.List.{AllByRecursion, cons_option}
use Rattle.transfer_frames.specs.declared.frame.Frame.{Frame}
use Rattle.transfer_frames.specs.declared.frame.FrameRole.{FrameRole}
use Rattle.transfer_frames.specs.declared.frame.FrameRole.TheVariants.{Counted, Tells, Greets}
use Rattle.transfer_frames.specs.Grammar.{role}
use Rattle.pair_model.specs.Rows.{counted, acks, told, reply, first_count, received_in, count_in, is_counted, is_greeting, ack_in, Rise}
use Rattle.pair_model.specs.Quiet.{last_told}
use Rattle.pair_model.proofs.Judging.{first_count-none, first_count_assoc}

-- ---- rows with one frame more

pub each_push : (P : Frame → Type 0) (fs : List Frame) (f : Frame) → AllByRecursion P fs → P f → AllByRecursion P (fs ++ f ∷ [])
each_push P [] f h k = (k, tt)
each_push P (g ∷ fs) f h k = (h.0, each_push P fs f h.1 k)

pub reply_push : (fs : List Frame) (f : Frame) → reply (fs ++ f ∷ []) ≡ first_count (reply fs) (received_in (role f))
reply_push [] f = first_count-none (received_in (role f))
reply_push (g ∷ fs) f = ap (first_count (received_in (role g))) (reply_push fs f) ∙ first_count_assoc (received_in (role g)) (reply fs) (received_in (role f))

pub told_push : (fs : List Frame) (f : Frame) → told (fs ++ f ∷ []) ≡ max (told fs) (count_in (role f))
told_push [] f = omega arith
told_push (g ∷ fs) f = omega (arith, told_push fs f)

pub length-counted_push : (fs : List Frame) (f : Frame) → length (counted (fs ++ f ∷ [])) ≡ length (counted fs) + cond (is_counted (role f)) 1 0
length-counted_push fs f = ap length (filter-append (λ frame. is_counted (role frame)) fs (f ∷ [])) ∙ length-append (counted fs) (counted (f ∷ [])) ∙ ap (λ n. length (counted fs) + n) (one (is_counted (role f)))
  where
    one : (b : Bool) → length (cond b (f ∷ []) []) ≡ cond b 1 0
    one true = refl
    one false = refl

pub acks_push : (fs : List Frame) (f : Frame) → acks (fs ++ f ∷ []) ≡ acks fs ++ cons_option (ack_in (role f)) []
acks_push fs f = filter_map-append (λ frame. ack_in (role frame)) fs (f ∷ [])

-- a counted frame neither greets nor tells
pub counted_only : (part : FrameRole) → is_counted part ≡ true → (is_greeting part ≡ false) × (ack_in part ≡ None)
counted_only (Counted closes) e = (refl, refl)
counted_only (Tells n) e = cc
counted_only (Greets t c n) e = cc

-- ---- counts that rise

pub rise_push : (low high n : ℕ) (counts : List ℕ) → Rise low counts high → last_told low counts ≡ high → high < n → Rise low (counts ++ n ∷ []) n
rise_push low high n [] h e l = (omega arith, omega arith, tt)
rise_push low high n (x ∷ xs) h e l = (h.0, omega (arith, h.1), rise_push x high n xs h.2 e l)

pub last_push : (low n : ℕ) (counts : List ℕ) → last_told low (counts ++ n ∷ []) ≡ n
last_push low n [] = refl
last_push low n (x ∷ xs) = last_push x n xs

pub rise_weaker : (low high higher : ℕ) (counts : List ℕ) → high ≤ higher → Rise low counts high → Rise low counts higher
rise_weaker low high higher [] l h = tt
rise_weaker low high higher (x ∷ xs) l h = (h.0, omega (arith, h.1), rise_weaker x high higher xs l h.2)
