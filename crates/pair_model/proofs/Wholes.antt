-- The whole frames written on the connection that is up, its counts, and what stays of them when a frame is read.
use Rattle.std.proofs.Common.{◌≡◌, ℕ, ◌+◌, ◌≤◌, cond, List, [], ◌∷◌, ◌++◌, Option, Some, None, Bool, true, false, not, nat_lt, ◌==◌, max, drop, length, refl, sym, ap, subst, ◌∙◌, arith, append_assoc, length-append, length-drop, inl, inr}
use Rattle.std.proofs.lemmas.Bool.{ltb-false}
use Rattle.std.proofs.lemmas.List.Elements.{filter-append}
use Rattle.std.specs.List.{AllByRecursion}
use Rattle.std.specs.Option.{MatchOption}
use Rattle.std.specs.Str.{bytes_eq}
use Rattle.transfer_frames.specs.declared.frame.Frame.{Frame}
use Rattle.transfer_frames.specs.declared.frame.FrameRole.{FrameRole}
use Rattle.transfer_frames.specs.declared.frame.FrameRole.TheVariants.{Counted, Tells, Greets}
use Rattle.transfer_frames.specs.Grammar.{role, IsFrame, spelling}
use Rattle.transfer_frames.specs.Laws.{NoFrame}
use Rattle.transfer_frames.proofs.FrontLaws.{none_begins, one_row}
use Rattle.pair_model.specs.Rows.{spellings, counted, is_counted, count_in, received_in, first_count, Reads}
use Rattle.pair_model.specs.LinkFaults.{Judge, link_fault}
use Rattle.pair_model.specs.Steps.{Here, IsUnderWay, InOrder, At, MayGreet}
use Rattle.pair_model.proofs.Rows.{spelling_some}
use Rattle.pair_model.proofs.Came.{no_bytes}
use Rattle.pair_model.proofs.Judging.{FourFail, four_fail, two_fail}

-- ---- the whole frames written

-- a part of the frame being sent is no whole frame
no_frame_in : (current : List Frame) (part front : List ℕ) → AllByRecursion IsFrame current → part ++ front ≡ spellings current → IsUnderWay current front → NoFrame part
no_frame_in current part front h e (inl k) frame more f p =
    let none : part ≡ [] = no_bytes part front (e ∙ ap spellings k.0) in
    spelling_some frame more (sym p ∙ none)
no_frame_in [] part front h e (inr k) frame more f p = absurd (omega (arith, k.0))
no_frame_in (g ∷ []) part front h e (inr k) frame more f p =
    let whole : spelling frame ++ (more ++ front) ≡ spelling g ++ [] = sym (append_assoc (spelling frame) more front) ∙ ap (λ bytes. bytes ++ front) (sym p) ∙ e in
    let rest : more ++ front ≡ [] = (none_begins frame g (more ++ front) [] f h.0 whole).1 in
    omega (arith, k.1, ap length rest, length-append more front)
no_frame_in (g ∷ (i ∷ gs)) part front h e (inr k) frame more f p = absurd (omega (arith, k.0))

pub all_left : {X : Type 0} (P : X → Type 0) (xs ys : List X) → AllByRecursion P (xs ++ ys) → AllByRecursion P xs
all_left P [] ys h = tt
all_left P (x ∷ xs) ys h = (h.0, all_left P xs ys h.1)

pub all_right : {X : Type 0} (P : X → Type 0) (xs ys : List X) → AllByRecursion P (xs ++ ys) → AllByRecursion P ys
all_right P [] ys h = h
all_right P (x ∷ xs) ys h = all_right P xs ys h.1

pub wholly : {token : List ℕ} {here : Here} {made : List Frame} {due : List ℕ} {seen : List Frame} {written read : List ℕ} (h : At token here made due seen written read) → Reads None written h.whole
wholly {token} {here} {made} {due} {seen} {written} {read} h =
    let all : AllByRecursion IsFrame (h.whole ++ h.current) = subst (λ (fs : List Frame). AllByRecursion IsFrame fs) (sym h.row) h.row_frames in
    record { frames = all_left IsFrame h.whole h.current all; rest = h.part; bytes = h.written_is; ends = no_frame_in h.current h.part here.front (all_right IsFrame h.whole h.current all) h.front_is h.is_front }

-- they are one thing
pub one_whole : {written : List ℕ} (fs gs : List Frame) → Reads None written fs → Reads None written gs → fs ≡ gs
one_whole {written} fs gs h k = (one_row fs gs h.rest k.rest h.frames k.frames h.ends k.ends (sym h.bytes ∙ k.bytes)).0

-- ---- its counts

-- the counted frames sent are the whole ones and the one under way
pub sent_counts : {token : List ℕ} {here : Here} {made : List Frame} {due : List ℕ} {seen : List Frame} {written read : List ℕ} (h : At token here made due seen written read)
    → here.whole + cond here.counts 1 0 ≡ length (counted h.sent)
sent_counts {token} {here} {made} {due} {seen} {written} {read} h =
    omega (arith, h.wholes, h.counting, ap (λ (fs : List Frame). length (counted fs)) h.row, ap length (filter-append (λ frame. is_counted (role frame)) h.whole h.current), length-append (counted h.whole) (counted h.current))

no_count : (counts : Bool) (whole : ℕ) → whole + cond counts 1 0 ≡ 0 → (counts ≡ false) × (whole ≡ 0)
no_count true whole e = absurd (omega arith)
no_count false whole e = (refl, omega arith)

none_sent : (answer : Option ℕ) (next : ℕ) (made sent : List Frame) → answer ≡ None → InOrder answer next made sent → sent ≡ []
none_sent None next made sent e h = h
none_sent (Some p) next made sent e h = cc

pub none_counted : {token : List ℕ} {here : Here} {made : List Frame} {due : List ℕ} {seen : List Frame} {written read : List ℕ} (h : At token here made due seen written read)
    → here.answer ≡ None → (here.counts ≡ false) × (here.whole ≡ 0)
none_counted {token} {here} {made} {due} {seen} {written} {read} h e =
    no_count here.counts here.whole (sent_counts h ∙ ap (λ (fs : List Frame). length (counted fs)) (none_sent here.answer here.next made h.sent e h.order))

next_at_most : (answer : Option ℕ) (p next : ℕ) (made sent : List Frame) → answer ≡ Some p → InOrder answer next made sent → (next ≡ p + length (counted sent)) × (next ≤ length made)
next_at_most None p next made sent e h = cc
next_at_most (Some q) p next made sent e h =
    let same : q ≡ p = cc in
    (omega (arith, h.1), omega (arith, h.0, h.1, ap length h.2, length-append (counted sent) (drop next made), length-drop next made, length-drop q made))

pub next_counted : {token : List ℕ} {here : Here} {made : List Frame} {due : List ℕ} {seen : List Frame} {written read : List ℕ} (h : At token here made due seen written read)
    → (p : ℕ) → here.answer ≡ Some p → (p + here.whole + cond here.counts 1 0 ≡ here.next) × (here.next ≤ length made)
next_counted {token} {here} {made} {due} {seen} {written} {read} h p e =
    let n : (here.next ≡ p + length (counted h.sent)) × (here.next ≤ length made) = next_at_most here.answer p here.next made h.sent e h.order in
    (omega (arith, n.0, sent_counts h), n.1)

-- ---- a frame is read that is not refused

-- the other's RESTART comes once, and tells no more frames than were made
pub may_greet : (judge : Judge) (part : FrameRole) (answer : Option ℕ) → link_fault judge answer part ≡ None → MayGreet part answer judge.made
may_greet judge (Counted closes) answer h = tt
may_greet judge (Tells n) answer h = tt
may_greet judge (Greets t c n) None h =
    let f : FourFail (not (bytes_eq t judge.token)) (not (c == judge.connection)) (nat_lt n judge.acknowledged) (nat_lt judge.made n) =
    four_fail (not (bytes_eq t judge.token)) (not (c == judge.connection)) (nat_lt n judge.acknowledged) (nat_lt judge.made n) h in
    (refl, omega (arith, ltb-false judge.made n f.fourth))
may_greet judge (Greets t c n) (Some p) h = absurd cc

-- no more is acknowledged than is sent
pub acked_after : (judge : Judge) (part : FrameRole) (answer : Option ℕ) → link_fault judge answer part ≡ None → MatchOption answer (Unit {0}) (λ p. judge.acknowledged ≤ p + judge.whole)
    → MatchOption (first_count answer (received_in part)) (Unit {0}) (λ p. max judge.acknowledged (count_in part) ≤ p + judge.whole)
acked_after judge (Counted closes) None h k = tt
acked_after judge (Counted closes) (Some p) h k = omega arith
acked_after judge (Tells n) None h k = tt
acked_after judge (Tells n) (Some p) h k =
    let f : (nat_lt n judge.acknowledged ≡ false) × (nat_lt (p + judge.whole) n ≡ false) = two_fail (nat_lt n judge.acknowledged) (nat_lt (p + judge.whole) n) h in
    omega (arith, ltb-false (p + judge.whole) n f.1)
acked_after judge (Greets t c n) None h k =
    let f : FourFail (not (bytes_eq t judge.token)) (not (c == judge.connection)) (nat_lt n judge.acknowledged) (nat_lt judge.made n) =
    four_fail (not (bytes_eq t judge.token)) (not (c == judge.connection)) (nat_lt n judge.acknowledged) (nat_lt judge.made n) h in
    omega (arith, ltb-false n judge.acknowledged f.third)
acked_after judge (Greets t c n) (Some p) h k = absurd cc

-- nor more than is made
pub known_after : (judge : Judge) (part : FrameRole) (answer : Option ℕ) → link_fault judge answer part ≡ None → judge.acknowledged ≤ judge.made → ((p : ℕ) → answer ≡ Some p → p + judge.whole ≤ judge.made)
    → max judge.acknowledged (count_in part) ≤ judge.made
known_after judge (Counted closes) answer h k w = omega arith
known_after judge (Tells n) None h k w = absurd cc
known_after judge (Tells n) (Some p) h k w =
    let f : (nat_lt n judge.acknowledged ≡ false) × (nat_lt (p + judge.whole) n ≡ false) = two_fail (nat_lt n judge.acknowledged) (nat_lt (p + judge.whole) n) h in
    omega (arith, ltb-false (p + judge.whole) n f.1, w p refl)
known_after judge (Greets t c n) None h k w =
    let f : FourFail (not (bytes_eq t judge.token)) (not (c == judge.connection)) (nat_lt n judge.acknowledged) (nat_lt judge.made n) =
    four_fail (not (bytes_eq t judge.token)) (not (c == judge.connection)) (nat_lt n judge.acknowledged) (nat_lt judge.made n) h in
    omega (arith, ltb-false judge.made n f.fourth)
known_after judge (Greets t c n) (Some p) h k w = absurd cc
