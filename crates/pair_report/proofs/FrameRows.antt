-- The whole frames of bytes: the first of them, those behind it, and where there is none.
use Rattle.std.proofs.Common.{◌≡◌, ℕ, zero, suc, ◌≤◌, List, [], ◌∷◌, length, drop, Option, Some, None, Result, Ok, Err, refl, sym, ap, ◌∙◌, arith, length-drop}
use Rattle.std.proofs.lemmas.List.{length-take-le}
use Rattle.transfer_frames.specs.declared.cause.FrameCause.{FrameCause}
use Rattle.transfer_frames.specs.declared.frame.Frame.{Frame}
use Rattle.transfer_frames.specs.Front.{front, Takes}
use Rattle.transfer_frames.specs.Grammar.{spelling}
use Rattle.transfer_frames.proofs.FrontLaws.{front-short}
use Rattle.pair_model.proofs.Rows.{spelling_long}
use Rattle.pair_report.specs.Heard.{if_frame, frames_within, frames_in}

within_frame : (most : ℕ) (bytes : List ℕ) (frame : Frame) → front bytes ≡ Ok (Some frame)
    → frames_within (suc most) bytes ≡ frame ∷ frames_within most (drop (length (spelling frame)) bytes)
unfolding frames_within
within_frame most bytes frame e =
    ap (λ (found : Result (Option Frame) FrameCause). if_frame found [] (λ it. it ∷ frames_within most (drop (length (spelling it)) bytes))) e

within_none : (most : ℕ) (bytes : List ℕ) → front bytes ≡ Ok None → frames_within most bytes ≡ []
unfolding frames_within
within_none zero bytes e = refl
within_none (suc most) bytes e =
    ap (λ (found : Result (Option Frame) FrameCause). if_frame found [] (λ it. it ∷ frames_within most (drop (length (spelling it)) bytes))) e

within_fault : (most : ℕ) (bytes : List ℕ) (cause : FrameCause) → front bytes ≡ Err cause → frames_within most bytes ≡ []
unfolding frames_within
within_fault zero bytes cause e = refl
within_fault (suc most) bytes cause e =
    ap (λ (found : Result (Option Frame) FrameCause). if_frame found [] (λ it. it ∷ frames_within most (drop (length (spelling it)) bytes))) e

-- bytes that are too few are no frame
within_few : (most : ℕ) (bytes : List ℕ) → length bytes ≤ zero → frames_within most bytes ≡ []
within_few most bytes few = within_none most bytes (front-short bytes (omega (arith, few)))

-- counted far enough, they are the same
within_enough : (n m : ℕ) (bytes : List ℕ) → length bytes ≤ n → length bytes ≤ m → frames_within n bytes ≡ frames_within m bytes
within_enough zero m bytes a b = within_few zero bytes a ∙ sym (within_few m bytes a)
within_enough (suc n) zero bytes a b = within_few (suc n) bytes b ∙ sym (within_few zero bytes b)
within_enough (suc n) (suc m) bytes a b = by (within_enough n m) (front bytes) refl
  where
    by : ((rest : List ℕ) → length rest ≤ n → length rest ≤ m → frames_within n rest ≡ frames_within m rest)
        → (found : Result (Option Frame) FrameCause) → front bytes ≡ found → frames_within (suc n) bytes ≡ frames_within (suc m) bytes
    by again (Ok (Some frame)) e =
        let rest : List ℕ = drop (length (spelling frame)) bytes in
        let less_n : length rest ≤ n = omega (arith, a, spelling_long frame, length-drop (length (spelling frame)) bytes) in
        let less_m : length rest ≤ m = omega (arith, b, spelling_long frame, length-drop (length (spelling frame)) bytes) in
        within_frame n bytes frame e ∙ ap (λ (frames : List Frame). frame ∷ frames) (again rest less_n less_m) ∙ sym (within_frame m bytes frame e)
    by again (Ok None) e = within_none (suc n) bytes e ∙ sym (within_none (suc m) bytes e)
    by again (Err cause) e = within_fault (suc n) bytes cause e ∙ sym (within_fault (suc m) bytes cause e)

-- ---- all of them

pub frames_none : (bytes : List ℕ) → front bytes ≡ Ok None → frames_in bytes ≡ []
unfolding frames_in
frames_none bytes e = within_none (length bytes) bytes e

pub frames_fault : (bytes : List ℕ) (cause : FrameCause) → front bytes ≡ Err cause → frames_in bytes ≡ []
unfolding frames_in
frames_fault bytes cause e = within_fault (length bytes) bytes cause e

pub frames_first : (bytes : List ℕ) (frame : Frame) (count : ℕ) → front bytes ≡ Ok (Some frame) → count ≡ length (spelling frame)
    → frames_in bytes ≡ frame ∷ frames_in (drop count bytes)
unfolding frames_in
frames_first bytes frame count e long =
    let rest : List ℕ = drop (length (spelling frame)) bytes in
    let less : length rest ≤ length bytes = omega (arith, length-drop (length (spelling frame)) bytes) in
    within_enough (length bytes) (suc (length bytes)) bytes (omega arith) (omega arith)
    ∙ within_frame (length bytes) bytes frame e
    ∙ ap (λ (frames : List Frame). frame ∷ frames) (within_enough (length bytes) (length rest) rest less (omega arith))
    ∙ ap (λ (n : ℕ). frame ∷ frames_within (length (drop n bytes)) (drop n bytes)) (sym long)

pub taken_long : (bytes : List ℕ) (frame : Frame) (count : ℕ) → Takes bytes frame count → count ≡ length (spelling frame)
taken_long bytes frame count takes = sym (length-take-le count bytes takes.1) ∙ ap length takes.2

-- what a frame leaves is shorter
pub shorter : (bytes : List ℕ) (frame : Frame) (count : ℕ) → Takes bytes frame count → suc (length (drop count bytes)) ≤ length bytes
shorter bytes frame count takes =
    omega (arith, length-drop count bytes, taken_long bytes frame count takes, spelling_long frame, takes.1)
