-- Frames that are not refused, one after another, and what each is judged by.
use Rattle.std.proofs.Common.{◌≡◌, ℕ, ◌+◌, ◌≤◌, cond, List, [], ◌∷◌, ◌++◌, Option, Some, None, Bool, true, false, not, nat_lt, ◌==◌, ◌||◌, max, length, refl, sym, ap, ◌∙◌, arith}
use Rattle.std.proofs.lemmas.Bool.{ltb-false, le-ltb}
use Rattle.std.specs.Str.{bytes_eq}
use Rattle.transfer_frames.specs.declared.frame.Frame.{Frame}
use Rattle.transfer_frames.specs.declared.frame.FrameRole.{FrameRole}
use Rattle.transfer_frames.specs.declared.frame.FrameRole.TheVariants.{Counted, Tells, Greets}
use Rattle.transfer_frames.specs.declared.cause.FrameCause.TheVariants.{Token, Connection, RestartBehind, RestartAhead, AckBehind, AckAhead}
use Rattle.transfer_frames.specs.Faults.{first_of}
use Rattle.transfer_frames.specs.Grammar.{role}
use Rattle.pair_model.specs.Rows.{counted, told, reply, is_counted, count_in, received_in, first_count}
use Rattle.pair_model.specs.LinkFaults.{Judge, link_fault, judge_after, Passes, is_close, has_closed}
use Rattle.pair_model.specs.Laws.{FaultFalls}

-- ---- one frame

-- where none of four tests is met, each isn't
pub record FourFail (a b c d : Bool) : Type 0 where
  pub first : a ≡ false
  pub second : b ≡ false
  pub third : c ≡ false
  pub fourth : d ≡ false

pub four_fail : (a b c d : Bool) → first_of ((a, Token) ∷ (b, Connection) ∷ (c, RestartBehind) ∷ (d, RestartAhead) ∷ []) ≡ None → FourFail a b c d
four_fail true b c d e = absurd cc
four_fail false true c d e = absurd cc
four_fail false false true d e = absurd cc
four_fail false false false true e = absurd cc
four_fail false false false false e = record { first = refl; second = refl; third = refl; fourth = refl }

pub two_fail : (a b : Bool) → first_of ((a, AckBehind) ∷ (b, AckAhead) ∷ []) ≡ None → (a ≡ false) × (b ≡ false)
two_fail true b e = absurd cc
two_fail false true e = absurd cc
two_fail false false e = (refl, refl)

pub fault_falls : FaultFalls
fault_falls judge None (Greets t c n) made whole h m w =
    let f : FourFail (not (bytes_eq t judge.token)) (not (c == judge.connection)) (nat_lt n judge.acknowledged) (nat_lt judge.made n) =
    four_fail (not (bytes_eq t judge.token)) (not (c == judge.connection)) (nat_lt n judge.acknowledged) (nat_lt judge.made n) h in
    let few : nat_lt made n ≡ false = le-ltb made n (omega (arith, ltb-false judge.made n f.fourth)) in
    rw (f.first, f.second, f.third, few) refl
fault_falls judge None (Tells n) made whole h m w = absurd cc
fault_falls judge None (Counted closes) made whole h m w = absurd cc
fault_falls judge (Some p) (Greets t c n) made whole h m w = absurd cc
fault_falls judge (Some p) (Tells n) made whole h m w =
    let f : (nat_lt n judge.acknowledged ≡ false) × (nat_lt (p + judge.whole) n ≡ false) = two_fail (nat_lt n judge.acknowledged) (nat_lt (p + judge.whole) n) h in
    let few : nat_lt (p + whole) n ≡ false = le-ltb (p + whole) n (omega (arith, ltb-false (p + judge.whole) n f.1)) in
    rw (f.0, few) refl
fault_falls judge (Some p) (Counted closes) made whole h m w = h

-- ---- several frames

pub passes_more : (judge : Judge) (answer : Option ℕ) (fs : List Frame) (made whole : ℕ) → Passes judge answer fs → judge.made ≤ made → judge.whole ≤ whole → Passes (record judge { made = made; whole = whole }) answer fs
passes_more judge answer [] made whole h m w = tt
passes_more judge answer (f ∷ fs) made whole h m w =
    (fault_falls judge answer (role f) made whole h.0 m w, passes_more (judge_after (role f) judge) (first_count answer (received_in (role f))) fs made whole h.1 m w)

-- what the frame behind some is judged by
abbrev pub judge_behind : List Frame → Judge → Judge
judge_behind [] judge = judge
judge_behind (f ∷ fs) judge = judge_behind fs (judge_after (role f) judge)

abbrev pub answer_behind : List Frame → Option ℕ → Option ℕ
answer_behind [] answer = answer
answer_behind (f ∷ fs) answer = answer_behind fs (first_count answer (received_in (role f)))

pub passes_push : (judge : Judge) (answer : Option ℕ) (fs : List Frame) (f : Frame) → Passes judge answer fs → link_fault (judge_behind fs judge) (answer_behind fs answer) (role f) ≡ None → Passes judge answer (fs ++ f ∷ [])
passes_push judge answer [] f h k = (k, tt)
passes_push judge answer (g ∷ fs) f h k = (h.0, passes_push (judge_after (role g) judge) (first_count answer (received_in (role g))) fs f h.1 k)

-- the frame behind some of them is not refused either
pub passes_at : (judge : Judge) (answer : Option ℕ) (before : List Frame) (f : Frame) (after : List Frame) → Passes judge answer (before ++ f ∷ after) → link_fault (judge_behind before judge) (answer_behind before answer) (role f) ≡ None
passes_at judge answer [] f after h = h.0
passes_at judge answer (g ∷ before) f after h = passes_at (judge_after (role g) judge) (first_count answer (received_in (role g))) before f after h.1

pub first_count-none : (a : Option ℕ) → first_count a None ≡ a
first_count-none None = refl
first_count-none (Some n) = refl

pub first_count_assoc : (a b c : Option ℕ) → first_count a (first_count b c) ≡ first_count (first_count a b) c
first_count_assoc None b c = refl
first_count_assoc (Some n) b c = refl

pub answer_behind_is : (fs : List Frame) (answer : Option ℕ) → answer_behind fs answer ≡ first_count answer (reply fs)
answer_behind_is [] answer = sym (first_count-none answer)
answer_behind_is (f ∷ fs) answer = answer_behind_is fs (first_count answer (received_in (role f))) ∙ sym (first_count_assoc answer (received_in (role f)) (reply fs))

or_assoc : (a b c : Bool) → ((a || b) || c) ≡ (a || (b || c))
or_assoc true b c = refl
or_assoc false b c = refl

pub or_none : (a : Bool) → (a || false) ≡ a
or_none true = refl
or_none false = refl

pub has_closed-append : (fs gs : List Frame) → has_closed (fs ++ gs) ≡ (has_closed fs || has_closed gs)
has_closed-append [] gs = refl
has_closed-append (f ∷ fs) gs = ap (λ b. is_close (role f) || b) (has_closed-append fs gs) ∙ sym (or_assoc (is_close (role f)) (has_closed fs) (has_closed gs))

pub closes_counted : (part : FrameRole) (f : Frame) (fs : List Frame) → role f ≡ part → has_closed (cond (is_counted part) (f ∷ fs) fs) ≡ (is_close part || has_closed fs)
closes_counted (Counted closes) f fs e = ap (λ part. is_close part || has_closed fs) e
closes_counted (Tells n) f fs e = refl
closes_counted (Greets t c n) f fs e = refl

length_counted : (b : Bool) (f : Frame) (fs : List Frame) → length (cond b (f ∷ fs) fs) ≡ cond b 1 0 + length fs
length_counted true f fs = omega arith
length_counted false f fs = omega arith

same_counts : (judge : Judge) (a b m n : ℕ) (s t : Bool) → a ≡ b → m ≡ n → s ≡ t
    → (record judge { acknowledged = a; accepted = m; closed = s }) ≡ (record judge { acknowledged = b; accepted = n; closed = t })
same_counts judge a b m n s t ea em es =
    ap (λ (x : ℕ). record judge { acknowledged = x; accepted = m; closed = s }) ea
    ∙ ap (λ (x : ℕ). record judge { acknowledged = b; accepted = x; closed = s }) em
    ∙ ap (λ (x : Bool). record judge { acknowledged = b; accepted = n; closed = x }) es

pub judge_behind_is : (fs : List Frame) (judge : Judge) → judge_behind fs judge
    ≡ (record judge { acknowledged = max judge.acknowledged (told fs); accepted = judge.accepted + length (counted fs); closed = judge.closed || has_closed (counted fs) })
judge_behind_is [] judge =
    same_counts judge judge.acknowledged (max judge.acknowledged 0) judge.accepted (judge.accepted + 0) judge.closed (judge.closed || false)
    (omega arith) (omega arith) (sym (or_none judge.closed))
judge_behind_is (f ∷ fs) judge =
    let part : FrameRole = role f in
    let next : Judge = judge_after part judge in
    judge_behind_is fs next
    ∙ same_counts judge (max next.acknowledged (told fs)) (max judge.acknowledged (max (count_in part) (told fs))) (next.accepted + length (counted fs)) (judge.accepted + length (counted (f ∷ fs)))
    (next.closed || has_closed (counted fs)) (judge.closed || has_closed (counted (f ∷ fs)))
    (omega arith) (omega (arith, length_counted (is_counted part) f (counted fs)))
    (or_assoc judge.closed (is_close part) (has_closed (counted fs)) ∙ ap (λ b. judge.closed || b) (sym (closes_counted part f (counted fs) refl)))
