-- What a side has seen on a connection, where the bytes that it read begin those that the other wrote.
use Rattle.std.proofs.Common.{◌≡◌, ℕ, ◌≤◌, suc, List, [], ◌∷◌, ◌++◌, Option, Some, None, false, max, drop, length, refl, sym, ap, subst, ◌∙◌, arith, append_assoc, inl, inr}
use Rattle.std.proofs.lemmas.List.{append-nil}
use Rattle.std.proofs.lemmas.List.Elements.{filter-append}
use Rattle.std.specs.List.{AllByRecursion}
use Rattle.std.specs.Option.{MatchOption}
use Rattle.std.specs.List.{cons_option}
use Rattle.plain_lists.specs.Fronts.{IsFront}
use Rattle.plain_lists.proofs.FrontLemmas.{IsFront_nil, IsFront_trans}
use Rattle.transfer_frames.specs.declared.frame.Frame.{Frame}
use Rattle.transfer_frames.specs.declared.frame.Frame.TheVariants.{Restart}
use Rattle.transfer_frames.specs.declared.frame.FrameRole.{FrameRole}
use Rattle.transfer_frames.specs.declared.frame.FrameRole.TheVariants.{Counted, Tells, Greets}
use Rattle.transfer_frames.specs.Grammar.{role, IsFrame, spelling}
use Rattle.pair_model.specs.Lines.{SideRecord, written_on}
use Rattle.pair_model.specs.Rows.{spellings, counted, is_counted, is_greeting, NoGreeting, Reads, Rise, acks, ack_in, reply, told, count_in, received_in, first_count}
use Rattle.pair_model.specs.Wire.{Wrote, Wire, accepted_below}
use Rattle.pair_model.specs.Quiet.{last_told}
use Rattle.pair_model.proofs.Rows.{Follows, follows, spelling_some}

-- The frames seen begin RESTART and the frames sent after it. other is what the sender has seen.
pub record Came (token : List ℕ) (connection received upto : ℕ) (made other seen : List Frame) : Type 0 where
  pub sent : List Frame
  pub begins : IsFront seen (Restart token connection received ∷ sent)
  pub greets : NoGreeting sent
  pub order : MatchOption (reply other) (sent ≡ []) (λ p. IsFront (counted sent) (drop p made))
  pub tells : Rise received (acks sent) upto

pub nothing_sent : (r : Option ℕ) (made : List Frame) → MatchOption r (◌≡◌ {A = List Frame} [] []) (λ p. IsFront (counted []) (drop p made))
nothing_sent None made = refl
nothing_sent (Some p) made = IsFront_nil (drop p made)

pub no_bytes : (xs ys : List ℕ) → xs ++ ys ≡ [] → xs ≡ []
no_bytes [] ys e = refl
no_bytes (x ∷ xs) ys e = cc

none_seen : (seen : List Frame) (rest : List ℕ) → AllByRecursion IsFrame seen → [] ≡ spellings seen ++ rest → seen ≡ []
none_seen [] rest h e = refl
none_seen (f ∷ fs) rest h e = absurd (spelling_some f (spellings fs ++ rest) (sym (append_assoc (spelling f) (spellings fs) rest) ∙ sym e))

pub no_read : {stop : Option ℕ} {seen : List Frame} (read : List ℕ) → Reads stop read seen → read ≡ [] → seen ≡ []
no_read {stop} {seen} read h e = none_seen seen h.rest h.frames (sym e ∙ h.bytes)

from_wrote : {token : List ℕ} {c received upto : ℕ} {made : List Frame} {due : List ℕ} {other : List Frame} {written : List ℕ} {stop : Option ℕ} {read : List ℕ} {seen : List Frame}
    → Wrote token c received upto made due other written → Reads stop read seen → IsFront read written → Came token c received upto made other seen
from_wrote {token} {c} {received} {upto} {made} {due} {other} {written} {stop} {read} {seen} w h b =
    let bytes : spellings seen ++ (h.rest ++ (b.rest ++ w.left)) ≡ spellings (Restart token c received ∷ w.sent) =
    sym (append_assoc (spellings seen) h.rest (b.rest ++ w.left)) ∙ ap (λ xs. xs ++ (b.rest ++ w.left)) (sym h.bytes) ∙ sym (append_assoc read b.rest w.left) ∙ ap (λ xs. xs ++ w.left) b.is ∙ w.bytes in
    let f : Follows seen (Restart token c received ∷ w.sent) (h.rest ++ (b.rest ++ w.left)) = follows seen (Restart token c received ∷ w.sent) (h.rest ++ (b.rest ++ w.left)) h.frames w.frames bytes in
    record { sent = w.sent; begins = record { rest = f.rest; is = f.is }; greets = w.greets; order = w.order; tells = w.tells }

from_unwritten : (token : List ℕ) (c received upto : ℕ) (made other : List Frame) {written : List ℕ} {stop : Option ℕ} {read : List ℕ} {seen : List Frame}
    → written ≡ [] → Reads stop read seen → IsFront read written → Came token c received upto made other seen
from_unwritten token c received upto made other {written} {stop} {read} {seen} e h b =
    let nothing : seen ≡ [] = no_read read h (no_bytes read b.rest (b.is ∙ e)) in
    record { sent = []; begins = record { rest = Restart token c received ∷ []; is = ap (λ fs. fs ++ (Restart token c received ∷ [])) nothing }; greets = tt; order = nothing_sent (reply other) made; tells = tt }

pub came : {token : List ℕ} {writer : SideRecord} (wire : Wire token writer) (c : ℕ) {stop : Option ℕ} {read : List ℕ} {seen : List Frame}
    → Reads stop read seen → IsFront read (written_on c writer.lines)
    → Came token c (length (accepted_below wire.seen c)) (length (accepted_below wire.seen (suc c))) writer.made (wire.seen c) seen
came {token} {writer} wire c {stop} {read} {seen} h b =
    elim (wire.wrote c) [
      | inl nothing ↦ from_unwritten token c (length (accepted_below wire.seen c)) (length (accepted_below wire.seen (suc c))) writer.made (wire.seen c) nothing h b
      | inr wrote ↦ from_wrote wrote h b
    ]

-- The bytes that a reader has not seen as whole frames begin a row of frames.
pub record Row (rest : List ℕ) : Type 0 where
  pub row : List Frame
  pub more : List ℕ
  pub frames : AllByRecursion IsFrame row
  pub bytes : rest ++ more ≡ spellings row

row_of_wrote : {token : List ℕ} {c received upto : ℕ} {made : List Frame} {due : List ℕ} {other : List Frame} {written : List ℕ} {stop : Option ℕ} {read : List ℕ} {seen : List Frame}
    → Wrote token c received upto made due other written → (h : Reads stop read seen) → IsFront read written → Row h.rest
row_of_wrote {token} {c} {received} {upto} {made} {due} {other} {written} {stop} {read} {seen} w h b =
    let bytes : spellings seen ++ (h.rest ++ (b.rest ++ w.left)) ≡ spellings (Restart token c received ∷ w.sent) =
    sym (append_assoc (spellings seen) h.rest (b.rest ++ w.left)) ∙ ap (λ xs. xs ++ (b.rest ++ w.left)) (sym h.bytes) ∙ sym (append_assoc read b.rest w.left) ∙ ap (λ xs. xs ++ w.left) b.is ∙ w.bytes in
    let f : Follows seen (Restart token c received ∷ w.sent) (h.rest ++ (b.rest ++ w.left)) = follows seen (Restart token c received ∷ w.sent) (h.rest ++ (b.rest ++ w.left)) h.frames w.frames bytes in
    record { row = f.rest; more = b.rest ++ w.left; frames = f.frames; bytes = f.bytes_are }

no_bytes_right : (xs ys : List ℕ) → xs ++ ys ≡ [] → ys ≡ []
no_bytes_right [] ys e = e
no_bytes_right (x ∷ xs) ys e = cc

pub row_behind : {token : List ℕ} {writer : SideRecord} (wire : Wire token writer) (c : ℕ) {stop : Option ℕ} {read : List ℕ} {seen : List Frame}
    → (h : Reads stop read seen) → IsFront read (written_on c writer.lines) → Row h.rest
row_behind {token} {writer} wire c {stop} {read} {seen} h b =
    elim (wire.wrote c) [
      | inl nothing ↦ record { row = []; more = []; frames = tt; bytes = append-nil h.rest ∙ no_bytes_right (spellings seen) h.rest (sym h.bytes ∙ no_bytes read b.rest (b.is ∙ nothing)) }
      | inr wrote ↦ row_of_wrote wrote h b
    ]

-- the counted frames seen are the next ones of those made
pub came_counted : {token : List ℕ} {c received upto : ℕ} {made other seen : List Frame} → Came token c received upto made other seen
    → (p : ℕ) → reply other ≡ Some p → IsFront (counted seen) (drop p made)
came_counted {token} {c} {received} {upto} {made} {other} {seen} h p e =
    let sent : IsFront (counted h.sent) (drop p made) = subst (λ (r : Option ℕ). MatchOption r (h.sent ≡ []) (λ q. IsFront (counted h.sent) (drop q made))) e h.order in
    let front : IsFront (counted seen) (counted h.sent) = record { rest = counted h.begins.rest; is = sym (filter-append (λ frame. is_counted (role frame)) seen h.begins.rest) ∙ ap counted h.begins.is } in
    IsFront_trans front sent

none_behind : (seen rest : List Frame) (greeting : Frame) → is_counted (role greeting) ≡ false → seen ++ rest ≡ greeting ∷ [] → counted seen ≡ []
none_behind [] rest g h e = refl
none_behind (f ∷ []) rest g h e =
    let same : f ≡ g = cc in rw (same, h) refl
none_behind (f ∷ (k ∷ fs)) rest g h e = cc

-- nothing but RESTART is seen where the sender has no reply
pub came_silent : {token : List ℕ} {c received upto : ℕ} {made other seen : List Frame} → Came token c received upto made other seen
    → reply other ≡ None → counted seen ≡ []
came_silent {token} {c} {received} {upto} {made} {other} {seen} h e =
    let nothing : h.sent ≡ [] = subst (λ (r : Option ℕ). MatchOption r (h.sent ≡ []) (λ q. IsFront (counted h.sent) (drop q made))) e h.order in
    none_behind seen h.begins.rest (Restart token c received) refl (h.begins.is ∙ ap (λ fs. Restart token c received ∷ fs) nothing)

reply_is : (seen rest sent : List Frame) (token : List ℕ) (c received p : ℕ) → seen ++ rest ≡ Restart token c received ∷ sent → reply seen ≡ Some p → p ≡ received
reply_is [] rest sent token c received p e h = cc
reply_is (f ∷ fs) rest sent token c received p e h =
    let same : f ≡ Restart token c received = cc in
    let k : Some received ≡ Some p = subst (λ (g : Frame). first_count (received_in (role g)) (reply fs) ≡ Some p) same h in
    cc

-- a reply says how many frames its sender had accepted
pub came_reply : {token : List ℕ} {c received upto : ℕ} {made other seen : List Frame} → Came token c received upto made other seen
    → (p : ℕ) → reply seen ≡ Some p → p ≡ received
came_reply {token} {c} {received} {upto} {made} {other} {seen} h p e = reply_is seen h.begins.rest h.sent token c received p h.begins.is e

told_front : (xs ys : List Frame) → told xs ≤ told (xs ++ ys)
told_front [] ys = omega arith
told_front (x ∷ xs) ys = omega (arith, told_front xs ys)

-- one frame more, by its part
told_step : (part : FrameRole) (low high : ℕ) (counts : List ℕ) (rest : ℕ) → low ≤ high → is_greeting part ≡ false
    → ((least : ℕ) → least ≤ high → Rise least counts high → rest ≤ high) → Rise low (cons_option (ack_in part) counts) high → max (count_in part) rest ≤ high
told_step (Counted closes) low high counts rest l e again k = omega (arith, again low l k)
told_step (Tells n) low high counts rest l e again k = omega (arith, again n k.1 k.2, k.1)
told_step (Greets t c n) low high counts rest l e again k = cc

pub told_rise : (low high : ℕ) (sent : List Frame) → low ≤ high → NoGreeting sent → Rise low (acks sent) high → told sent ≤ high
told_rise low high [] l g r = omega arith
told_rise low high (f ∷ fs) l g r = told_step (role f) low high (acks fs) (told fs) l g.0 (λ least k. told_rise least high fs k g.1) r

-- no count seen is above what the sender had accepted
pub came_told : {token : List ℕ} {c received upto : ℕ} {made other seen : List Frame} → Came token c received upto made other seen → received ≤ upto → told seen ≤ upto
came_told {token} {c} {received} {upto} {made} {other} {seen} h l =
    omega (arith, told_front seen h.begins.rest, ap told h.begins.is, told_rise received upto h.sent l h.greets h.tells)

-- the last count told is among those told
last_among_step : (part : FrameRole) (before rest : ℕ) (counts : List ℕ) → ((b : ℕ) → last_told b counts ≤ max b rest) → last_told before (cons_option (ack_in part) counts) ≤ max before (max (count_in part) rest)
last_among_step (Counted closes) before rest counts h = omega (arith, h before)
last_among_step (Tells n) before rest counts h = omega (arith, h n)
last_among_step (Greets t c n) before rest counts h = omega (arith, h before)

pub last_among : (before : ℕ) (sent : List Frame) → last_told before (acks sent) ≤ max before (told sent)
last_among before [] = omega arith
last_among before (f ∷ fs) = last_among_step (role f) before (told fs) (acks fs) (λ b. last_among b fs)
