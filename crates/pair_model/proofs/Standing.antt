-- What stands between steps is kept by each step.
use Rattle.std.proofs.Common.{◌≡◌, ℕ, ◌+◌, ◌<◌, ◌≤◌, suc, zero, cond, List, [], ◌∷◌, ◌++◌, Option, Some, None, Bool, true, false, ◌||◌, nat_lt, max, drop, take, length, refl, sym, ap, subst, ◌∙◌, arith, append_assoc, length-append, inl, inr, ◌⊎◌, if◌then◌else◌}
use Rattle.std.proofs.lemmas.Bool.{ltb-true, ltb-false}
use Rattle.std.proofs.lemmas.List.{append-nil, take-append-drop, drop_at, drop-drop}
use Rattle.std.proofs.lemmas.List.Elements.{filter-append}
use Rattle.std.specs.List.{AllByRecursion}
use Rattle.std.specs.Option.{MatchOption}
use Rattle.std.specs.Prelude.{slice_get, option_map}
use Rattle.transfer_frames.specs.declared.frame.Frame.{Frame}
use Rattle.transfer_frames.specs.declared.frame.Frame.TheVariants.{Ack}
use Rattle.transfer_frames.specs.declared.frame.FrameRole.{FrameRole}
use Rattle.transfer_frames.specs.Grammar.{role, IsFrame, spelling}
use Rattle.pair_model.specs.Lines.{Stop, SideRecord, read_on}
use Rattle.pair_model.specs.Rows.{counted, told, is_counted, Reads}
use Rattle.pair_model.specs.LinkFaults.{Judge, link_fault, judge_first, Unrefused, Passes, has_closed, is_close}
use Rattle.pair_model.specs.Order.{told_before, Within, HeardLate}
use Rattle.pair_model.specs.Wire.{Sees, Wrote, Waits, accepted_below, told_below, stop_on}
use Rattle.pair_model.specs.Steps.{Here, Stands, on_last, with_written, with_read, ends_one, judge_here, here_ack, here_next, send_next, pick_after, pick_behind, picked, bytes_at, Tell}
use Rattle.pair_model.specs.StepLaws.{UpStands, SentStands, FedStands, ReadStands, ChosenStands, MadeStands, MadeWire}
use Rattle.pair_model.proofs.Seen.{one_accepted, one_told}
use Rattle.pair_model.proofs.LastLine.{on_last-push, read_none}
use Rattle.pair_model.proofs.Orders.{told_before-append, length-told_before, within_push, within_longer}
use Rattle.pair_model.proofs.Judging.{passes_more, passes_push, judge_behind, judge_behind_is, answer_behind, answer_behind_is, has_closed-append, closes_counted, or_none}
use Rattle.pair_model.proofs.Growing.{told_push, length-counted_push}
use Rattle.pair_model.proofs.Moves.{at_up, at_sent, at_fed, at_read, at_ack, at_next, at_made, wrote_made}
use Rattle.pair_model.proofs.Wholes.{next_counted, may_greet, acked_after, known_after}

-- ---- a connection comes up

unfoldable pub up_stands : UpStands
up_stands token side connection wire goes_on first numbers is_greeting =
    let here : Sees side connection wire.seen = record { reads = wire.sees.reads; past = λ c l. read_none side.lines connection c numbers l } in
    let same : accepted_below wire.seen wire.bound ≡ accepted_below wire.seen connection = one_accepted wire.sees here in
    record {
      earlier = side.lines;
      line = record { connection = connection; written = []; read = [] };
      lines = refl;
      number = refl;
      first = first;
      goes_on = goes_on;
      past_seen = wire.seen;
      past = record {
        rising = wire.numbers;
        numbers = numbers;
        reads = λ c. subst (λ (stop : Option Stop). Reads (stop_on c stop) (read_on c side.lines) (wire.seen c)) goes_on (wire.sees.reads c);
        waits = λ c. subst (λ (stop : Option Stop). Waits (stop_on c stop) (read_on c side.lines) (wire.seen c)) goes_on (wire.waits c);
        passes = wire.passes;
        late = wire.late;
        wrote = wire.wrote;
      };
      seen = [];
      here_is = at_up token connection side.accepted side.made side.due is_greeting;
      received = wire.accepted ∙ ap length same;
      passes = tt;
      late = tt;
      accepted = omega arith;
      ahead_accepted = wire.ahead_accepted;
      closed = wire.closed ∙ ap has_closed (same ∙ sym (append-nil (accepted_below wire.seen connection)));
      acknowledged = omega (arith, wire.acknowledged, one_told wire.sees here);
      known = wire.known;
      acked = tt;
      told_known = omega arith;
      due_made = wire.due_made;
      due_accepted = wire.due_accepted;
    }

-- ---- bytes are written, and come in

pub acked_more : (answer : Option ℕ) (acknowledged whole more : ℕ) → MatchOption answer (Unit {0}) (λ p. acknowledged ≤ p + whole) → MatchOption answer (Unit {0}) (λ p. acknowledged ≤ p + (whole + more))
acked_more None acknowledged whole more h = tt
acked_more (Some p) acknowledged whole more h = omega arith

unfoldable pub sent_stands : SentStands
sent_stands token side here n st l =
    let more : ℕ = ends_one here.counts (drop n here.front) in
    let before : Judge = judge_first token here.connection (length side.made) here.whole (told_below st.past_seen here.connection) (accepted_below st.past_seen here.connection) in
    record {
      earlier = st.earlier;
      line = with_written (take n here.front) st.line;
      lines = ap (on_last (with_written (take n here.front))) st.lines ∙ on_last-push (with_written (take n here.front)) st.earlier st.line;
      number = st.number;
      first = st.first;
      goes_on = st.goes_on;
      past_seen = st.past_seen;
      past = st.past;
      seen = st.seen;
      here_is = at_sent token here side.made side.due st.seen st.line.written st.line.read (take n here.front) (drop n here.front) st.here_is (take-append-drop n here.front);
      received = st.received;
      passes = passes_more before None st.seen (length side.made) (here.whole + more) st.passes (omega arith) (omega arith);
      late = st.late;
      accepted = st.accepted;
      ahead_accepted = st.ahead_accepted;
      closed = st.closed;
      acknowledged = st.acknowledged;
      known = st.known;
      acked = acked_more here.answer side.acknowledged here.whole more st.acked;
      told_known = st.told_known;
      due_made = st.due_made;
      due_accepted = st.due_accepted;
    }

unfoldable pub fed_stands : FedStands
fed_stands token side here piece st = record {
  earlier = st.earlier;
  line = with_read piece st.line;
  lines = ap (on_last (with_read piece)) st.lines ∙ on_last-push (with_read piece) st.earlier st.line;
  number = st.number;
  first = st.first;
  goes_on = st.goes_on;
  past_seen = st.past_seen;
  past = st.past;
  seen = st.seen;
  here_is = at_fed token here side.made side.due st.seen st.line.written st.line.read piece st.here_is;
  received = st.received;
  passes = st.passes;
  late = st.late;
  accepted = st.accepted;
  ahead_accepted = st.ahead_accepted;
  closed = st.closed;
  acknowledged = st.acknowledged;
  known = st.known;
  acked = st.acked;
  told_known = st.told_known;
  due_made = st.due_made;
  due_accepted = st.due_accepted;
}

-- ---- a frame is read

-- a judge, in other words
same_judge : (judge : Judge) (a b m n : ℕ) (s t : Bool) → a ≡ b → m ≡ n → s ≡ t
    → (record judge { acknowledged = a; accepted = m; closed = s }) ≡ (record judge { acknowledged = b; accepted = n; closed = t })
same_judge judge a b m n s t ea em es =
    ap (λ (x : ℕ). record judge { acknowledged = x; accepted = m; closed = s }) ea
    ∙ ap (λ (x : ℕ). record judge { acknowledged = b; accepted = x; closed = s }) em
    ∙ ap (λ (x : Bool). record judge { acknowledged = b; accepted = n; closed = x }) es

-- what is kept is what the frames seen leave
pub judge_seen : (token : List ℕ) (side : SideRecord) (here : Here) (st : Stands token side here)
    → judge_behind st.seen (judge_first token here.connection (length side.made) here.whole (told_below st.past_seen here.connection) (accepted_below st.past_seen here.connection)) ≡ judge_here token side here
judge_seen token side here st =
    let first : Judge = judge_first token here.connection (length side.made) here.whole (told_below st.past_seen here.connection) (accepted_below st.past_seen here.connection) in
    judge_behind_is st.seen first
    ∙ same_judge first (max first.acknowledged (told st.seen)) side.acknowledged (first.accepted + length (counted st.seen)) side.accepted (first.closed || has_closed (counted st.seen)) side.closed
    (sym st.acknowledged) (omega (arith, st.accepted, st.received)) (sym (st.closed ∙ has_closed-append (accepted_below st.past_seen here.connection) (counted st.seen)))

pub passes_read : (token : List ℕ) (side : SideRecord) (here : Here) (st : Stands token side here) (frame : Frame) → link_fault (judge_here token side here) here.answer (role frame) ≡ None
    → Passes (judge_first token here.connection (length side.made) here.whole (told_below st.past_seen here.connection) (accepted_below st.past_seen here.connection)) None (st.seen ++ frame ∷ [])
passes_read token side here st frame none =
    let first : Judge = judge_first token here.connection (length side.made) here.whole (told_below st.past_seen here.connection) (accepted_below st.past_seen here.connection) in
    let answer : answer_behind st.seen None ≡ here.answer = answer_behind_is st.seen None ∙ st.here_is.answered in
    passes_push first None st.seen frame st.passes
    (subst (λ (judge : Judge). link_fault judge (answer_behind st.seen None) (role frame) ≡ None) (sym (judge_seen token side here st))
    (subst (λ (a : Option ℕ). link_fault (judge_here token side here) a (role frame) ≡ None) (sym answer) none))

-- one more accepted frame comes no earlier than it may
late_read : (b : Bool) (told_yet made below : ℕ) (xs ahead : List ℕ) → told_yet ≤ made → length ahead ≡ below + length xs → Within (λ known made. known ≤ made) xs (drop below ahead)
    → Within (λ known made. known ≤ made) (xs ++ cond b (told_yet ∷ []) []) (drop below (ahead ++ cond b (made ∷ []) []))
late_read false told_yet made below xs ahead l e h =
    subst (λ (ys : List ℕ). Within (λ known made. known ≤ made) ys (drop below (ahead ++ []))) (sym (append-nil xs)) (within_longer (λ known made. known ≤ made) below xs ahead [] h)
late_read true told_yet made below xs ahead l e h =
    let behind : drop (length xs) (drop below (ahead ++ made ∷ [])) ≡ made ∷ [] =
    drop-drop (length xs) below (ahead ++ made ∷ []) ∙ drop_at ahead (made ∷ []) (below + length xs) e in
    within_push (λ known made. known ≤ made) xs (drop below (ahead ++ made ∷ [])) told_yet made [] (within_longer (λ known made. known ≤ made) below xs ahead (made ∷ []) h) behind l

pub heard_late : (ahead : List ℕ) (told_first made : ℕ) (accepted seen : List Frame) (frame : Frame) → HeardLate ahead told_first accepted seen → max told_first (told seen) ≤ made → length ahead ≡ length accepted + length (counted seen)
    → HeardLate (ahead ++ cond (is_counted (role frame)) (made ∷ []) []) told_first accepted (seen ++ frame ∷ [])
heard_late ahead told_first made accepted seen frame h l e =
    subst (λ (counts : List ℕ). Within (λ known made. known ≤ made) counts (drop (length accepted) (ahead ++ cond (is_counted (role frame)) (made ∷ []) []))) (sym (told_before-append told_first seen (frame ∷ [])))
    (late_read (is_counted (role frame)) (max told_first (told seen)) made (length accepted) (told_before told_first seen) ahead l (omega (arith, e, length-told_before told_first seen)) h)

pub length-one_if : (b : Bool) (xs : List ℕ) (x : ℕ) → length (xs ++ cond b (x ∷ []) []) ≡ length xs + cond b 1 0
length-one_if b xs x = length-append xs (cond b (x ∷ []) []) ∙ ap (λ n. length xs + n) (one b)
  where
    one : (b : Bool) → length (cond b (x ∷ []) []) ≡ cond b 1 0
    one true = refl
    one false = refl

pub all_weaker : (low high : ℕ) (counts : List ℕ) → low ≤ high → AllByRecursion (λ count. count ≤ low) counts → AllByRecursion (λ count. count ≤ high) counts
all_weaker low high [] l h = tt
all_weaker low high (x ∷ xs) l h = (omega (arith, h.0), all_weaker low high xs l h.1)

pub closed_read : (below seen : List Frame) (frame : Frame) → (has_closed (below ++ counted seen) || is_close (role frame)) ≡ has_closed (below ++ counted (seen ++ frame ∷ []))
closed_read below seen frame =
    let one : has_closed (counted (frame ∷ [])) ≡ is_close (role frame) = closes_counted (role frame) frame [] refl ∙ or_none (is_close (role frame)) in
    let row : below ++ counted (seen ++ frame ∷ []) ≡ (below ++ counted seen) ++ counted (frame ∷ []) =
    ap (λ fs. below ++ fs) (filter-append (λ f. is_counted (role f)) seen (frame ∷ [])) ∙ sym (append_assoc below (counted seen) (counted (frame ∷ []))) in
    sym (ap has_closed row ∙ has_closed-append (below ++ counted seen) (counted (frame ∷ [])) ∙ ap (λ b. has_closed (below ++ counted seen) || b) one)

unfoldable pub read_stands : ReadStands
read_stands token side here frame more st is_frame front none =
    let part : FrameRole = role frame in
    record {
      earlier = st.earlier;
      line = st.line;
      lines = st.lines;
      number = st.number;
      first = st.first;
      goes_on = st.goes_on;
      past_seen = st.past_seen;
      past = record {
        rising = st.past.rising;
        numbers = st.past.numbers;
        reads = st.past.reads;
        waits = st.past.waits;
        passes = st.past.passes;
        late = λ c. within_longer (λ known made. known ≤ made) (length (accepted_below st.past_seen c)) (told_before (told_below st.past_seen c) (st.past_seen c)) side.ahead (cond (is_counted part) (length side.made ∷ []) []) (st.past.late c);
        wrote = st.past.wrote;
      };
      seen = st.seen ++ frame ∷ [];
      here_is = at_read token here side.made side.due st.seen st.line.written st.line.read frame more st.here_is is_frame front (may_greet (judge_here token side here) part here.answer none);
      received = st.received;
      passes = passes_read token side here st frame none;
      late = heard_late side.ahead (told_below st.past_seen here.connection) (length side.made) (accepted_below st.past_seen here.connection) st.seen frame st.late (omega (arith, st.acknowledged, st.known)) (omega (arith, st.ahead_accepted, st.accepted, st.received));
      accepted = omega (arith, st.accepted, length-counted_push st.seen frame);
      ahead_accepted = length-one_if (is_counted part) side.ahead (length side.made) ∙ ap (λ n. n + cond (is_counted part) 1 0) st.ahead_accepted;
      closed = ap (λ b. b || is_close part) st.closed ∙ closed_read (accepted_below st.past_seen here.connection) st.seen frame;
      acknowledged = omega (arith, st.acknowledged, told_push st.seen frame);
      known = known_after (judge_here token side here) part here.answer none st.known (λ p e. omega (arith, next_counted st.here_is p e));
      acked = acked_after (judge_here token side here) part here.answer none st.acked;
      told_known = omega (arith, st.told_known);
      due_made = st.due_made;
      due_accepted = all_weaker side.accepted (side.accepted + cond (is_counted part) 1 0) side.due (omega arith) st.due_accepted;
    }

-- ---- a front is chosen

ack_stands : (token : List ℕ) (side : SideRecord) (here : Here) (p : ℕ) → Stands token side here → here.front ≡ [] → here.answer ≡ Some p → here.told < side.accepted → IsFrame (Ack side.accepted)
    → Stands token side (here_ack side.accepted here)
ack_stands token side here p st e a l f = record {
  earlier = st.earlier;
  line = st.line;
  lines = st.lines;
  number = st.number;
  first = st.first;
  goes_on = st.goes_on;
  past_seen = st.past_seen;
  past = st.past;
  seen = st.seen;
  here_is = at_ack token here side.made side.due st.seen st.line.written st.line.read p side.accepted st.here_is e a l f;
  received = st.received;
  passes = st.passes;
  late = st.late;
  accepted = st.accepted;
  ahead_accepted = st.ahead_accepted;
  closed = st.closed;
  acknowledged = st.acknowledged;
  known = st.known;
  acked = st.acked;
  told_known = omega arith;
  due_made = st.due_made;
  due_accepted = st.due_accepted;
}

-- an item of a list, and what is left from it on
all_at : {X : Type 0} (P : X → Type 0) (xs : List X) (i : ℕ) (x : X) → AllByRecursion P xs → slice_get xs i ≡ Some x → P x
all_at P [] i x h e = absurd cc
all_at P (y ∷ ys) zero x h e = let same : y ≡ x = cc in subst P same h.0
all_at P (y ∷ ys) (suc i) x h e = all_at P ys i x h.1 e

drop_get : {X : Type 0} (xs : List X) (i : ℕ) (x : X) → slice_get xs i ≡ Some x → drop i xs ≡ x ∷ drop (suc i) xs
drop_get [] i x e = absurd cc
drop_get (y ∷ ys) zero x e = cc
drop_get (y ∷ ys) (suc i) x e = drop_get ys i x e

all_left_at : (P : ℕ → Type 0) (xs : List ℕ) (i x : ℕ) (later : List ℕ) → AllByRecursion P xs → drop i xs ≡ x ∷ later → P x
all_left_at P [] zero x later h e = absurd cc
all_left_at P [] (suc i) x later h e = absurd cc
all_left_at P (y ∷ ys) zero x later h e = let same : y ≡ x = cc in subst P same h.0
all_left_at P (y ∷ ys) (suc i) x later h e = all_left_at P ys i x later h.1 e

next_stands : (token : List ℕ) (side : SideRecord) (here : Here) (p : ℕ) (frame : Frame) → Stands token side here → here.front ≡ [] → here.answer ≡ Some p → side.accepted ≤ here.told → slice_get side.made here.next ≡ Some frame
    → IsFrame frame → is_counted (role frame) ≡ true → Stands token side (here_next (spelling frame) here)
next_stands token side here p frame st e a t g f c = record {
  earlier = st.earlier;
  line = st.line;
  lines = st.lines;
  number = st.number;
  first = st.first;
  goes_on = st.goes_on;
  past_seen = st.past_seen;
  past = st.past;
  seen = st.seen;
  here_is = at_next token here side.made side.due st.seen st.line.written st.line.read p frame (drop (suc here.next) side.made) st.here_is e a (drop_get side.made here.next frame g) f c
      (λ taken_after later k. omega (arith, all_left_at (λ count. count ≤ side.accepted) side.due here.next taken_after later st.due_accepted k)) st.due_made;
  received = st.received;
  passes = st.passes;
  late = st.late;
  accepted = st.accepted;
  ahead_accepted = st.ahead_accepted;
  closed = st.closed;
  acknowledged = st.acknowledged;
  known = st.known;
  acked = st.acked;
  told_known = st.told_known;
  due_made = st.due_made;
  due_accepted = st.due_accepted;
}

pub chosen_stands : ChosenStands
chosen_stands token side here st frames counted ack = by_front here.front refl
  where
    by_frame : (p : ℕ) (next : Option Frame) → slice_get side.made here.next ≡ next → here.front ≡ [] → here.answer ≡ Some p → side.accepted ≤ here.told
        → Stands token side (picked (send_next (option_map spelling next)) here)
    by_frame p None g e a t = st
    by_frame p (Some frame) g e a t =
        next_stands token side here p frame st e a t g (all_at IsFrame side.made here.next frame frames g) (all_at (λ f. is_counted (role f) ≡ true) side.made here.next frame counted g)

    by_test : (p : ℕ) (b : Bool) → nat_lt here.told side.accepted ≡ b → here.front ≡ [] → here.answer ≡ Some p
        → Stands token side (picked (if b then Tell side.accepted else send_next (bytes_at side.made here.next)) here)
    by_test p true t e a = ack_stands token side here p st e a (ltb-true here.told side.accepted t) ack
    by_test p false t e a = by_frame p (slice_get side.made here.next) refl e a (ltb-false here.told side.accepted t)

    by_answer : (answer : Option ℕ) → here.answer ≡ answer → here.front ≡ [] → Stands token side (picked (pick_after answer here.told side.accepted (bytes_at side.made here.next)) here)
    by_answer None a e = st
    by_answer (Some p) a e = by_test p (nat_lt here.told side.accepted) refl e a

    by_front : (front : List ℕ) → here.front ≡ front → Stands token side (picked (pick_behind front (pick_after here.answer here.told side.accepted (bytes_at side.made here.next))) here)
    by_front (byte ∷ front) e = st
    by_front [] e = by_answer here.answer refl e

-- ---- frames are made

more_wrote : {token : List ℕ} {c received upto : ℕ} {made : List Frame} {due : List ℕ} {seen : List Frame} {written : List ℕ} (more : List Frame) (counts : List ℕ)
    → (written ≡ []) ⊎ Wrote token c received upto made due seen written → (written ≡ []) ⊎ Wrote token c received upto (made ++ more) (due ++ counts) seen written
more_wrote more counts (inl e) = inl e
more_wrote more counts (inr w) = inr (wrote_made more counts w)

pub unrefused_more : {token : List ℕ} {c made told_first : ℕ} {accepted seen : List Frame} {written : List ℕ} (more : ℕ) → made ≤ more
    → Unrefused token c made told_first accepted seen written → Unrefused token c more told_first accepted seen written
unrefused_more {token} {c} {made} {told_first} {accepted} {seen} {written} more l u = record {
  whole = u.whole;
  wrote = u.wrote;
  passes = passes_more (judge_first token c made (length (counted u.whole)) told_first accepted) None seen more (length (counted u.whole)) u.passes l (omega arith);
}

all_both : {X : Type 0} (P : X → Type 0) (xs ys : List X) → AllByRecursion P xs → AllByRecursion P ys → AllByRecursion P (xs ++ ys)
all_both P [] ys h k = k
all_both P (x ∷ xs) ys h k = (h.0, all_both P xs ys h.1 k)

pub made_stands : MadeStands
made_stands token side here more counts st l a =
    let grows : length side.made ≤ length (side.made ++ more) = omega (arith, length-append side.made more) in
    let first : Judge = judge_first token here.connection (length side.made) here.whole (told_below st.past_seen here.connection) (accepted_below st.past_seen here.connection) in
    record {
      earlier = st.earlier;
      line = st.line;
      lines = st.lines;
      number = st.number;
      first = st.first;
      goes_on = st.goes_on;
      past_seen = st.past_seen;
      past = record {
        rising = st.past.rising;
        numbers = st.past.numbers;
        reads = st.past.reads;
        waits = st.past.waits;
        passes = λ c. unrefused_more (length (side.made ++ more)) grows (st.past.passes c);
        late = st.past.late;
        wrote = λ c. more_wrote more counts (st.past.wrote c);
      };
      seen = st.seen;
      here_is = at_made token here side.made more side.due counts st.seen st.line.written st.line.read st.here_is;
      received = st.received;
      passes = passes_more first None st.seen (length (side.made ++ more)) here.whole st.passes grows (omega arith);
      late = st.late;
      accepted = st.accepted;
      ahead_accepted = st.ahead_accepted;
      closed = st.closed;
      acknowledged = st.acknowledged;
      known = omega (arith, st.known, grows);
      acked = st.acked;
      told_known = st.told_known;
      due_made = omega (arith, st.due_made, l, length-append side.due counts, length-append side.made more);
      due_accepted = all_both (λ count. count ≤ side.accepted) side.due counts st.due_accepted a;
    }

pub made_wire : MadeWire
made_wire token side more counts wire l a =
    let grows : length side.made ≤ length (side.made ++ more) = omega (arith, length-append side.made more) in
    record {
      seen = wire.seen;
      bound = wire.bound;
      numbers = wire.numbers;
      sees = record { reads = wire.sees.reads; past = wire.sees.past };
      waits = wire.waits;
      ends = wire.ends;
      passes = λ c. unrefused_more (length (side.made ++ more)) grows (wire.passes c);
      late = wire.late;
      accepted = wire.accepted;
      ahead_accepted = wire.ahead_accepted;
      closed = wire.closed;
      acknowledged = wire.acknowledged;
      known = omega (arith, wire.known, grows);
      wrote = λ c. more_wrote more counts (wire.wrote c);
      due_made = omega (arith, wire.due_made, l, length-append side.due counts, length-append side.made more);
      due_accepted = all_both (λ count. count ≤ side.accepted) side.due counts wire.due_accepted a;
    }
