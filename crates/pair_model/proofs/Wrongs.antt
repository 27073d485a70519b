-- No side that keeps what it may did what it may not.
use Rattle.std.proofs.Common.{◌≡◌, ℕ, ◌+◌, ◌<◌, ◌≤◌, suc, zero, cond, List, [], ◌∷◌, ◌++◌, Ok, Option, Some, None, Bool, true, false, not, nat_lt, ◌==◌, ◌||◌, max, drop, length, refl, sym, ap, subst, ◌∙◌, arith, append_assoc, length-append}
use Rattle.std.proofs.lemmas.Bool.{ltb-false, eqb-true}
use Rattle.std.proofs.lemmas.List.{append-nil}
use Rattle.std.proofs.lemmas.Slice.Eq.{bytes_eq-Decides}
use Rattle.std.specs.Option.{MatchOption}
use Rattle.std.specs.Prelude.{slice_get}
use Rattle.std.specs.Str.{bytes_eq}
use Rattle.transfer_frames.specs.declared.frame.Frame.{Frame}
use Rattle.transfer_frames.specs.declared.frame.Frame.TheVariants.{Restart, Ack}
use Rattle.transfer_frames.specs.declared.frame.FrameRole.{FrameRole}
use Rattle.transfer_frames.specs.declared.frame.FrameRole.TheVariants.{Counted, Tells, Greets}
use Rattle.transfer_frames.specs.Front.{front}
use Rattle.transfer_frames.specs.Grammar.{role}
use Rattle.transfer_frames.specs.Laws.{NoFrame}
use Rattle.transfer_frames.proofs.FrontLaws.{front-spelled}
use Rattle.pair_model.specs.Lines.{Line, SideRecord, Stop, Rising, read_on, written_on}
use Rattle.pair_model.specs.Rows.{counted, told, reply, is_counted, is_greeting, received_in, first_count, Reads}
use Rattle.pair_model.specs.LinkFaults.{Judge, link_fault, judge_first, judge_after, Passes, Unrefused, ClosesLast, is_close, has_closed}
use Rattle.pair_model.specs.Order.{told_before, InTime, HeardLate}
use Rattle.pair_model.specs.Wire.{Wire, Waits, Ends, accepted_below, told_below, stop_on}
use Rattle.pair_model.specs.WrongSides.{HasRead, NoGreetingFirst, OtherToken, OtherConnection, CountAboveMade, GreetsAgain, AckAboveSent, BehindClose, FaultPassedBy, TwoLines, ReadBehindStop, WroteBehindStop, AckKeepsNothing, SentEarly, HeardEarly}
use Rattle.pair_model.proofs.Rows.{Follows, follows}
use Rattle.pair_model.proofs.Fronts.{slice_get_drop}
use Rattle.pair_model.proofs.Orders.{told_before_at, within_at}
use Rattle.pair_model.proofs.Judging.{FourFail, four_fail, two_fail, passes_at, judge_behind, judge_behind_is, answer_behind, answer_behind_is, has_closed-append, or_none, first_count-none}
use Rattle.pair_model.proofs.Seen.{one_seen, one_accepted, same_accepted, same_told}
use Rattle.pair_model.proofs.Passing.{closes_last}
use Rattle.pair_model.proofs.Wholes.{one_whole}

-- ---- frames accepted on one connection

-- none of the frames read is refused
unrefused : {token : List ℕ} {side : SideRecord} {c : ℕ} {frames : List Frame} (h : HasRead token side c frames)
    → Unrefused token c (length side.made) (told_below h.wire.seen c) (accepted_below h.wire.seen c) frames (written_on c side.lines)
unrefused {token} {side} {c} {frames} h =
    let same : h.wire.seen c ≡ frames = one_seen (stop_on c side.stop) (read_on c side.lines) (h.wire.seen c) frames (h.wire.sees.reads c) h.reads in
    subst (λ (fs : List Frame). Unrefused token c (length side.made) (told_below h.wire.seen c) (accepted_below h.wire.seen c) fs (written_on c side.lines)) same (h.wire.passes c)

-- a first frame that passes is a RESTART
greets_first : (judge : Judge) (part : FrameRole) → link_fault judge None part ≡ None → is_greeting part ≡ true
greets_first judge (Counted closes) h = absurd cc
greets_first judge (Tells n) h = absurd cc
greets_first judge (Greets t c n) h = refl

pub no_greeting : NoGreetingFirst
no_greeting token side c frame frames h e =
    let u : Unrefused token c (length side.made) (told_below h.wire.seen c) (accepted_below h.wire.seen c) (frame ∷ frames) (written_on c side.lines) = unrefused h in
    let first : is_greeting (role frame) ≡ true = greets_first (judge_first token c (length side.made) (length (counted u.whole)) (told_below h.wire.seen c) (accepted_below h.wire.seen c)) (role frame) u.passes.0 in
    absurd cc

-- what is known of a RESTART that passes
record Greeting (token other : List ℕ) (c d made received : ℕ) : Type 0 where
  token_is : bytes_eq other token ≡ true
  number_is : (d == c) ≡ true
  most : received ≤ made

not_false : (b : Bool) → not b ≡ false → b ≡ true
not_false true e = refl
not_false false e = absurd cc

greeting : {token other : List ℕ} {side : SideRecord} {c d received : ℕ} {frames : List Frame} → HasRead token side c (Restart other d received ∷ frames) → Greeting token other c d (length side.made) received
greeting {token} {other} {side} {c} {d} {received} {frames} h =
    let u : Unrefused token c (length side.made) (told_below h.wire.seen c) (accepted_below h.wire.seen c) (Restart other d received ∷ frames) (written_on c side.lines) = unrefused h in
    let f : FourFail (not (bytes_eq other token)) (not (d == c)) (nat_lt received (told_below h.wire.seen c)) (nat_lt (length side.made) received) =
    four_fail (not (bytes_eq other token)) (not (d == c)) (nat_lt received (told_below h.wire.seen c)) (nat_lt (length side.made) received) u.passes.0 in
    record { token_is = not_false (bytes_eq other token) f.first; number_is = not_false (d == c) f.second; most = ltb-false (length side.made) received f.fourth }

pub other_token : OtherToken
other_token token other side c d received frames h e = e ((bytes_eq-Decides other token).0 (greeting h).token_is)

pub other_connection : OtherConnection
other_connection token other side c d received frames h e = e (eqb-true d c (greeting h).number_is)

pub count_above_made : CountAboveMade
count_above_made token other side c d received frames h e = omega (arith, (greeting h).most)

-- behind a RESTART an answer is known
answered : (judge : Judge) (part : FrameRole) (before : List Frame) → link_fault judge None part ≡ None → (p : ℕ) × (answer_behind before (first_count None (received_in part)) ≡ Some p)
answered judge (Counted closes) before h = absurd cc
answered judge (Tells n) before h = absurd cc
answered judge (Greets t c n) before h = (n, answer_behind_is before (Some n))

no_second : (judge : Judge) (answer : Option ℕ) (p : ℕ) (part : FrameRole) → answer ≡ Some p → is_greeting part ≡ true → link_fault judge answer part ≡ None → ⊥
no_second judge None p part e g h = cc
no_second judge (Some q) p (Counted closes) e g h = cc
no_second judge (Some q) p (Tells n) e g h = cc
no_second judge (Some q) p (Greets t c n) e g h = cc

pub greets_again : GreetsAgain
greets_again token side c first before again after h e =
    let u : Unrefused token c (length side.made) (told_below h.wire.seen c) (accepted_below h.wire.seen c) (first ∷ (before ++ again ∷ after)) (written_on c side.lines) = unrefused h in
    let judge : Judge = judge_first token c (length side.made) (length (counted u.whole)) (told_below h.wire.seen c) (accepted_below h.wire.seen c) in
    let a : (p : ℕ) × (answer_behind before (first_count None (received_in (role first))) ≡ Some p) = answered judge (role first) before u.passes.0 in
    no_second (judge_behind before (judge_after (role first) judge)) (answer_behind before (first_count None (received_in (role first)))) a.0 (role again) a.1 e
    (passes_at (judge_after (role first) judge) (first_count None (received_in (role first))) before again after u.passes.1)

ack_passed : (judge : Judge) (answer : Option ℕ) (p count : ℕ) → answer ≡ Some p → link_fault judge answer (Tells count) ≡ None → count ≤ p + judge.whole
ack_passed judge None p count e h = cc
ack_passed judge (Some q) p count e h =
    let same : q ≡ p = cc in
    let f : (nat_lt count judge.acknowledged ≡ false) × (nat_lt (q + judge.whole) count ≡ false) = two_fail (nat_lt count judge.acknowledged) (nat_lt (q + judge.whole) count) h in
    omega (arith, ltb-false (q + judge.whole) count f.1)

pub ack_above_sent : AckAboveSent
ack_above_sent token other side c d p count before after whole h wrote l =
    let u : Unrefused token c (length side.made) (told_below h.wire.seen c) (accepted_below h.wire.seen c) (Restart other d p ∷ (before ++ Ack count ∷ after)) (written_on c side.lines) = unrefused h in
    let judge : Judge = judge_after (Greets other d p) (judge_first token c (length side.made) (length (counted u.whole)) (told_below h.wire.seen c) (accepted_below h.wire.seen c)) in
    let most : count ≤ p + (judge_behind before judge).whole =
    ack_passed (judge_behind before judge) (answer_behind before (Some p)) p count (answer_behind_is before (Some p)) (passes_at judge (Some p) before (Ack count) after u.passes.1) in
    let sent : (judge_behind before judge).whole ≡ length (counted whole) =
    ap (λ (j : Judge). j.whole) (judge_behind_is before judge) ∙ ap (λ (fs : List Frame). length (counted fs)) (one_whole u.whole whole u.wrote wrote) in
    omega (arith, most, sent)

-- ---- CLOSE is last among the frames accepted

neither : (a b : Bool) → (a || b) ≡ false → (a ≡ false) × (b ≡ false)
neither true b e = absurd cc
neither false b e = (refl, e)

closes_push : (fs : List Frame) (f : Frame) → has_closed fs ≡ false → ClosesLast (fs ++ f ∷ [])
closes_push [] f e = tt
closes_push (g ∷ []) f e = ((neither (is_close (role g)) false e).0, tt)
closes_push (g ∷ (k ∷ fs)) f e =
    let both : (is_close (role g) ≡ false) × (has_closed (k ∷ fs) ≡ false) = neither (is_close (role g)) (has_closed (k ∷ fs)) e in
    (both.0, closes_push (k ∷ fs) f both.1)

open_yet : (judge : Judge) (answer : Option ℕ) (closes : Bool) → link_fault judge answer (Counted closes) ≡ None → judge.closed ≡ false
open_yet judge None closes h = absurd cc
open_yet judge (Some p) closes h = go judge.closed refl
  where
    go : (b : Bool) → judge.closed ≡ b → b ≡ false
    go true e = absurd (let k : link_fault (record judge { closed = true }) (Some p) (Counted closes) ≡ None = subst (λ (b : Bool). link_fault (record judge { closed = b }) (Some p) (Counted closes) ≡ None) e h in cc)
    go false e = refl

-- one frame more, by its part
closes_step : (judge : Judge) (answer : Option ℕ) (part : FrameRole) (f : Frame) (fs : List Frame) → role f ≡ part → link_fault judge answer part ≡ None → ClosesLast fs → has_closed fs ≡ judge.closed
    → ClosesLast (fs ++ cond (is_counted part) (f ∷ []) []) × (has_closed (fs ++ cond (is_counted part) (f ∷ []) []) ≡ (judge.closed || is_close part))
closes_step judge answer (Counted closes) f fs e h c k =
    let yet : judge.closed ≡ false = open_yet judge answer closes h in (
      closes_push fs f (k ∙ yet),
      has_closed-append fs (f ∷ []) ∙ ap (λ b. b || has_closed (f ∷ [])) k ∙ ap (λ b. judge.closed || b) (or_none (is_close (role f)) ∙ ap is_close e),
    )
closes_step judge answer (Tells n) f fs e h c k =
    (subst (λ (gs : List Frame). ClosesLast gs) (sym (append-nil fs)) c, ap has_closed (append-nil fs) ∙ k ∙ sym (or_none judge.closed))
closes_step judge answer (Greets t c n) f fs e h l k =
    (subst (λ (gs : List Frame). ClosesLast gs) (sym (append-nil fs)) l, ap has_closed (append-nil fs) ∙ k ∙ sym (or_none judge.closed))

one_counted : (b : Bool) (f : Frame) (fs : List Frame) → cond b (f ∷ []) [] ++ fs ≡ cond b (f ∷ fs) fs
one_counted true f fs = refl
one_counted false f fs = refl

closes_row : (judge : Judge) (answer : Option ℕ) (fs gs : List Frame) → Passes judge answer gs → ClosesLast fs → has_closed fs ≡ judge.closed → ClosesLast (fs ++ counted gs)
closes_row judge answer fs [] h c k = subst (λ (ks : List Frame). ClosesLast ks) (sym (append-nil fs)) c
closes_row judge answer fs (g ∷ gs) h c k =
    let one : ClosesLast (fs ++ cond (is_counted (role g)) (g ∷ []) []) × (has_closed (fs ++ cond (is_counted (role g)) (g ∷ []) []) ≡ (judge.closed || is_close (role g))) =
    closes_step judge answer (role g) g fs refl h.0 c k in
    let all : ClosesLast ((fs ++ cond (is_counted (role g)) (g ∷ []) []) ++ counted gs) =
    closes_row (judge_after (role g) judge) (first_count answer (received_in (role g))) (fs ++ cond (is_counted (role g)) (g ∷ []) []) gs h.1 one.0 one.1 in
    subst (λ (ks : List Frame). ClosesLast ks) (append_assoc fs (cond (is_counted (role g)) (g ∷ []) []) (counted gs) ∙ ap (λ ks. fs ++ ks) (one_counted (is_counted (role g)) g (counted gs))) all

closes_below : {token : List ℕ} {side : SideRecord} (w : Wire token side) (c : ℕ) → ClosesLast (accepted_below w.seen c)
closes_below {token} {side} w zero = tt
closes_below {token} {side} w (suc c) =
    let u : Unrefused token c (length side.made) (told_below w.seen c) (accepted_below w.seen c) (w.seen c) (written_on c side.lines) = w.passes c in
    closes_row (judge_first token c (length side.made) (length (counted u.whole)) (told_below w.seen c) (accepted_below w.seen c)) None (accepted_below w.seen c) (w.seen c) u.passes (closes_below w c) refl

pub behind_close : BehindClose
behind_close token side before frame after wire h e =
    let same : accepted_below wire.seen wire.bound ≡ before ++ frame ∷ after = one_accepted wire.sees h.sees ∙ sym h.frames_are in
    let yet : has_closed before ≡ false = closes_last before frame after (subst (λ (fs : List Frame). ClosesLast fs) same (closes_below wire wire.bound)) in
    absurd cc

-- ---- faults and connections

pub fault_passed_by : FaultPassedBy
fault_passed_by token side c frames rest cause wire on are_frames bytes fault =
    let none : NoFrame rest = λ frame more f e. let whole : front rest ≡ Ok (Some frame) = ap front e ∙ front-spelled frame more f in cc in
    let reads : Reads (stop_on c side.stop) (read_on c side.lines) frames =
    subst (λ (o : Option ℕ). Reads o (read_on c side.lines) frames) (sym on) (record { frames = are_frames; rest = rest; bytes = bytes; ends = none }) in
    let same : wire.seen c ≡ frames = one_seen (stop_on c side.stop) (read_on c side.lines) (wire.seen c) frames (wire.sees.reads c) reads in
    let waits : Waits None (read_on c side.lines) frames =
    subst (λ (fs : List Frame). Waits None (read_on c side.lines) fs) same (subst (λ (o : Option ℕ). Waits o (read_on c side.lines) (wire.seen c)) on (wire.waits c)) in
    let waiting : front rest ≡ Ok None = waits rest bytes in
    absurd cc

rises_to : (least : ℕ) (before : List Line) (line : Line) (after : List Line) → Rising least (before ++ line ∷ after) → least ≤ line.connection
rises_to least [] line after r = r.0
rises_to least (x ∷ before) line after r = omega (arith, r.0, rises_to (suc x.connection) before line after r.1)

rises_past : (least : ℕ) (before between after : List Line) (one two : Line) → Rising least (before ++ one ∷ (between ++ two ∷ after)) → one.connection < two.connection
rises_past least [] between after one two r = omega (arith, rises_to (suc one.connection) between two after r.1)
rises_past least (x ∷ before) between after one two r = rises_past (suc x.connection) before between after one two r.1

pub two_lines : TwoLines
two_lines token side before between after one two wire e same =
    let r : one.connection < two.connection = rises_past 1 before between after one two (subst (λ (lines : List Line). Rising 1 lines) e wire.numbers) in
    omega arith

ends_at : {token : List ℕ} {side : SideRecord} (w : Wire token side) (stop : Stop) (c : ℕ) → side.stop ≡ Some stop → stop.connection < c → (read_on c side.lines ≡ []) × (written_on c side.lines ≡ [])
ends_at {token} {side} w stop c e l =
    let ends : (d : ℕ) → stop.connection < d → (read_on d side.lines ≡ []) × (written_on d side.lines ≡ []) = subst (λ (s : Option Stop). Ends s side.lines) e w.ends in
    ends c l

pub read_behind_stop : ReadBehindStop
read_behind_stop token side stop c wire e l some = some (ends_at wire stop c e l).0

pub wrote_behind_stop : WroteBehindStop
wrote_behind_stop token side stop c wire e l some = some (ends_at wire stop c e l).1

match_some : (P : ℕ → Type 0) (answer : Option ℕ) (p : ℕ) → answer ≡ Some p → MatchOption answer (Unit {0}) P → P p
match_some P None p e h = cc
match_some P (Some q) p e h = let same : q ≡ p = cc in subst P same h

pub ack_keeps_nothing : AckKeepsNothing
ack_keeps_nothing token side here p count more e l st =
    let most : max side.acknowledged count ≤ p + here.whole = match_some (λ q. max side.acknowledged count ≤ q + here.whole) (first_count here.answer None) p (first_count-none here.answer ∙ e) st.acked in
    omega arith

-- ---- the order

pub sent_early : SentEarly
sent_early token c received upto p taken_after made due seen before frame after w frames e counted_one at l =
    let f : Follows (Restart token c received ∷ (before ++ frame ∷ after)) (Restart token c received ∷ w.sent) w.left =
    follows (Restart token c received ∷ (before ++ frame ∷ after)) (Restart token c received ∷ w.sent) w.left (w.frames.0, frames) w.frames w.bytes in
    let row : w.sent ≡ before ++ frame ∷ (after ++ f.rest) = sym (cc (f.is)) ∙ append_assoc before (frame ∷ after) f.rest in
    let time : InTime due received p w.sent = match_some (λ q. InTime due received q w.sent) (reply seen) p e w.in_time in
    let told_then : slice_get (told_before received w.sent) (length (counted before)) ≡ Some (max received (told before)) =
    ap (λ (fs : List Frame). slice_get (told_before received fs) (length (counted before))) row ∙ told_before_at received before frame (after ++ f.rest) counted_one in
    let within : taken_after ≤ max received (told before) =
    within_at (λ count taken_after. taken_after ≤ count) (told_before received w.sent) (drop p due) (length (counted before)) (max received (told before)) taken_after time told_then (slice_get_drop p due (length (counted before)) ∙ at) in
    omega arith

pub heard_early : HeardEarly
heard_early token side bound c made seen before frame after wire sees e counted_one at l =
    let same : (d : ℕ) → seen d ≡ wire.seen d = λ d. one_seen (stop_on d side.stop) (read_on d side.lines) (seen d) (wire.seen d) (sees.reads d) (wire.sees.reads d) in
    let late : HeardLate side.ahead (told_below seen c) (accepted_below seen c) (seen c) =
    subst (λ (n : ℕ). HeardLate side.ahead n (accepted_below seen c) (seen c)) (sym (same_told seen wire.seen same c))
    (subst (λ (fs : List Frame). HeardLate side.ahead (told_below wire.seen c) fs (seen c)) (sym (same_accepted seen wire.seen same c))
    (subst (λ (fs : List Frame). HeardLate side.ahead (told_below wire.seen c) (accepted_below wire.seen c) fs) (sym (same c)) (wire.late c))) in
    let told_then : slice_get (told_before (told_below seen c) (seen c)) (length (counted before)) ≡ Some (max (told_below seen c) (told before)) =
    ap (λ (fs : List Frame). slice_get (told_before (told_below seen c) fs) (length (counted before))) e ∙ told_before_at (told_below seen c) before frame after counted_one in
    let index : length (accepted_below seen c) + length (counted before) ≡ length (accepted_below seen c ++ counted before) = sym (length-append (accepted_below seen c) (counted before)) in
    let within : max (told_below seen c) (told before) ≤ made =
    within_at (λ known made. known ≤ made) (told_before (told_below seen c) (seen c)) (drop (length (accepted_below seen c)) side.ahead) (length (counted before)) (max (told_below seen c) (told before)) made late told_then
    (slice_get_drop (length (accepted_below seen c)) side.ahead (length (counted before)) ∙ ap (slice_get side.ahead) index ∙ at) in
    omega arith
