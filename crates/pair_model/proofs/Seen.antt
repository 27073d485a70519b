-- What a side has seen is one thing: the bytes read leave no choice, and nothing is seen past the last connection.
use Rattle.std.proofs.Common.{◌≡◌, ℕ, ◌+◌, ◌≤◌, suc, zero, List, [], ◌∷◌, ◌++◌, Option, Some, None, length, refl, sym, ap, ◌∙◌, arith, append_assoc, length-append}
use Rattle.std.proofs.lemmas.List.{append-nil}
use Rattle.std.specs.List.{AllByRecursion}
use Rattle.transfer_frames.specs.declared.frame.Frame.{Frame}
use Rattle.transfer_frames.specs.Grammar.{IsFrame, spelling}
use Rattle.pair_model.proofs.Rows.{one_spelling, spelling_long}
use Rattle.transfer_frames.proofs.FrontLaws.{one_row}
use Rattle.pair_model.specs.Lines.{SideRecord, read_on}
use Rattle.pair_model.specs.Rows.{spellings, told, Reads}
use Rattle.pair_model.specs.Wire.{accepted_below, told_below, Sees, stop_on}
use Rattle.pair_model.proofs.Came.{no_read}
use Rattle.pair_model.proofs.Rows.{same_rest}

spellings_cons : (f : Frame) (fs : List Frame) → length (spellings (f ∷ fs)) ≡ length (spelling f) + length (spellings fs)
spellings_cons f fs = length-append (spelling f) (spellings fs)

-- where both have one length
one_length : (fs gs : List Frame) (x y : List ℕ) → AllByRecursion IsFrame fs → AllByRecursion IsFrame gs → length (spellings fs) ≡ length (spellings gs) → spellings fs ++ x ≡ spellings gs ++ y → fs ≡ gs
one_length [] [] x y hf hg l e = refl
one_length [] (g ∷ gs) x y hf hg l e = absurd (omega (arith, spelling_long g, spellings_cons g gs))
one_length (f ∷ fs) [] x y hf hg l e = absurd (omega (arith, spelling_long f, spellings_cons f fs))
one_length (f ∷ fs) (g ∷ gs) x y hf hg l e =
    let whole : spelling f ++ (spellings fs ++ x) ≡ spelling g ++ (spellings gs ++ y) = sym (append_assoc (spelling f) (spellings fs) x) ∙ e ∙ append_assoc (spelling g) (spellings gs) y in
    let same : f ≡ g = one_spelling f g (spellings fs ++ x) (spellings gs ++ y) hf.0 hg.0 whole in
    let short : length (spellings fs) ≡ length (spellings gs) = omega (arith, spellings_cons f fs, spellings_cons g gs, ap (λ (k : Frame). length (spelling k)) same) in
    let rest : fs ≡ gs = one_length fs gs x y hf.1 hg.1 short (same_rest f g _ _ same whole) in
    cc

-- the bytes read leave no choice
pub one_seen : (stop : Option ℕ) (read : List ℕ) (fs gs : List Frame) → Reads stop read fs → Reads stop read gs → fs ≡ gs
one_seen None read fs gs h k = (one_row fs gs h.rest k.rest h.frames k.frames h.ends k.ends (sym h.bytes ∙ k.bytes)).0
one_seen (Some place) read fs gs h k = one_length fs gs h.rest k.rest h.frames k.frames (sym h.ends ∙ k.ends) (sym h.bytes ∙ k.bytes)

-- two rows by connection of the same frames
pub same_accepted : (seen other : ℕ → List Frame) → ((c : ℕ) → seen c ≡ other c) → (c : ℕ) → accepted_below seen c ≡ accepted_below other c
same_accepted seen other h zero = refl
same_accepted seen other h (suc c) = let e = same_accepted seen other h c in let k = h c in cc

pub same_told : (seen other : ℕ → List Frame) → ((c : ℕ) → seen c ≡ other c) → (c : ℕ) → told_below seen c ≡ told_below other c
same_told seen other h zero = refl
same_told seen other h (suc c) = let e = same_told seen other h c in let k = h c in cc

-- past the last connection nothing is seen
pub past_seen : {side : SideRecord} {bound : ℕ} {seen : ℕ → List Frame} → Sees side bound seen → (c : ℕ) → bound ≤ c → seen c ≡ []
past_seen {side} {bound} {seen} h c l = no_read (read_on c side.lines) (h.reads c) (h.past c l)

pub accepted_past : {side : SideRecord} {bound : ℕ} {seen : ℕ → List Frame} → Sees side bound seen → (more : ℕ) → accepted_below seen (bound + more) ≡ accepted_below seen bound
accepted_past {side} {bound} {seen} h zero = let e : bound + zero ≡ bound = omega arith in ap (accepted_below seen) e
accepted_past {side} {bound} {seen} h (suc more) =
    let nothing : seen (bound + more) ≡ [] = past_seen h (bound + more) (omega arith) in
    let step : accepted_below seen (suc (bound + more)) ≡ accepted_below seen bound = rw nothing (append-nil (accepted_below seen (bound + more))) ∙ accepted_past h more in
    let e : bound + suc more ≡ suc (bound + more) = omega arith in
    ap (accepted_below seen) e ∙ step

pub told_past : {side : SideRecord} {bound : ℕ} {seen : ℕ → List Frame} → Sees side bound seen → (more : ℕ) → told_below seen (bound + more) ≡ told_below seen bound
told_past {side} {bound} {seen} h zero = let e : bound + zero ≡ bound = omega arith in ap (told_below seen) e
told_past {side} {bound} {seen} h (suc more) =
    let nothing : told (seen (bound + more)) ≡ 0 = ap told (past_seen h (bound + more) (omega arith)) in
    let step : told_below seen (suc (bound + more)) ≡ told_below seen bound = omega (arith, told_past h more) in
    let e : bound + suc more ≡ suc (bound + more) = omega arith in
    ap (told_below seen) e ∙ step

-- so what was accepted, and the greatest count told, are one thing each
pub one_accepted : {side : SideRecord} {b d : ℕ} {seen other : ℕ → List Frame} → Sees side b seen → Sees side d other → accepted_below seen b ≡ accepted_below other d
one_accepted {side} {b} {d} {seen} {other} h k =
    let same : (c : ℕ) → seen c ≡ other c = λ c. one_seen (stop_on c side.stop) (read_on c side.lines) (seen c) (other c) (h.reads c) (k.reads c) in
    let e : b + d ≡ d + b = omega arith in
    sym (accepted_past h d) ∙ ap (accepted_below seen) e ∙ same_accepted seen other same (d + b) ∙ accepted_past k b

pub one_told : {side : SideRecord} {b d : ℕ} {seen other : ℕ → List Frame} → Sees side b seen → Sees side d other → told_below seen b ≡ told_below other d
one_told {side} {b} {d} {seen} {other} h k =
    let same : (c : ℕ) → seen c ≡ other c = λ c. one_seen (stop_on c side.stop) (read_on c side.lines) (seen c) (other c) (h.reads c) (k.reads c) in
    let e : b + d ≡ d + b = omega arith in
    sym (told_past h d) ∙ ap (told_below seen) e ∙ same_told seen other same (d + b) ∙ told_past k b
