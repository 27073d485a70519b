-- What each step does to what stands on the connection that is up.
use Rattle.std.proofs.Common.{◌≡◌, ℕ, ◌+◌, ◌<◌, ◌≤◌, List, [], ◌∷◌, ◌++◌, Option, Some, None, true, false, min, max, drop, length, refl, sym, ap, subst, ◌∙◌, arith, append_assoc, length-append, length-drop, inl, inr}
use Rattle.std.proofs.lemmas.List.{append-nil, drop-drop, drop-append-le}
use Rattle.std.proofs.lemmas.List.Elements.{filter-append}
use Rattle.std.proofs.lemmas.Grind.{flat_map-append}
use Rattle.std.specs.List.{cons_option}
use Rattle.std.specs.Option.{MatchOption}
use Rattle.plain_lists.specs.Fronts.{IsFront}
use Rattle.plain_lists.proofs.FrontLemmas.{IsFront_trans}
use Rattle.transfer_frames.specs.declared.frame.Frame.{Frame}
use Rattle.transfer_frames.specs.declared.frame.Frame.TheVariants.{Restart, Ack}
use Rattle.transfer_frames.specs.declared.frame.FrameRole.{FrameRole}
use Rattle.transfer_frames.specs.declared.frame.FrameRole.TheVariants.{Counted, Tells, Greets}
use Rattle.transfer_frames.specs.Grammar.{role, IsFrame, spelling}
use Rattle.pair_model.specs.Rows.{spellings, counted, acks, told, reply, first_count, received_in, is_counted, is_greeting, NoGreeting, Rise}
use Rattle.pair_model.specs.Order.{told_before, Within, InTime}
use Rattle.pair_model.specs.Wire.{Wrote}
use Rattle.pair_model.specs.Quiet.{last_told}
use Rattle.pair_model.specs.Steps.{Here, MOST_PLACE, IsUnderWay, InOrder, At, here_up, here_left, here_fed, here_read, here_ack, here_next, next_after, MayGreet}
use Rattle.pair_model.proofs.Rows.{spelling_long}
use Rattle.pair_model.proofs.Orders.{told_before-append, length-told_before, within_push, within_longer, drop_longer}
use Rattle.pair_model.proofs.Came.{no_bytes, told_rise, last_among}
use Rattle.pair_model.proofs.Passing.{spellings_push, counted_push}
use Rattle.pair_model.proofs.Growing.{each_push, reply_push, acks_push, counted_only, rise_push, last_push, rise_weaker}

-- ---- a connection comes up

pub at_up : (token : List ℕ) (connection accepted : ℕ) (made : List Frame) (due : List ℕ) → IsFrame (Restart token connection accepted) → At token (here_up token connection accepted) made due [] [] []
at_up token connection accepted made due h = record {
  frames = tt;
  read_is = refl;
  placed = omega arith;
  answered = refl;
  sent = [];
  whole = [];
  current = Restart token connection accepted ∷ [];
  part = [];
  row = refl;
  row_frames = (h, tt);
  written_is = refl;
  front_is = sym (append-nil (spelling (Restart token connection accepted)));
  is_front = inr (refl, spelling_long (Restart token connection accepted));
  wholes = refl;
  counting = refl;
  greets = tt;
  order = refl;
  tells = tt;
  told_last = refl;
  in_time = tt;
}

-- ---- bytes are written

not_nothing : (xs : List ℕ) (y : ℕ) (ys : List ℕ) → xs ++ y ∷ ys ≡ [] → ⊥
not_nothing [] y ys e = cc
not_nothing (x ∷ xs) y ys e = cc

goes_on_front : (current : List Frame) (taken : List ℕ) (byte : ℕ) (rest front : List ℕ) → taken ++ byte ∷ rest ≡ front → IsUnderWay current front → IsUnderWay current (byte ∷ rest)
goes_on_front current taken byte rest front e (inl k) = absurd (not_nothing taken byte rest (e ∙ k.1))
goes_on_front current taken byte rest front e (inr k) = inr (k.0, omega arith)

pub at_sent : (token : List ℕ) (here : Here) (made : List Frame) (due : List ℕ) (seen : List Frame) (written read taken rest : List ℕ) → At token here made due seen written read → taken ++ rest ≡ here.front
    → At token (here_left rest here) made due seen (written ++ taken) read
at_sent token here made due seen written read taken [] h e =
    let front : taken ≡ here.front = sym (append-nil taken) ∙ e in
    record {
      frames = h.frames;
      read_is = h.read_is;
      placed = h.placed;
      answered = h.answered;
      sent = h.sent;
      whole = h.whole ++ h.current;
      current = [];
      part = [];
      row = append-nil (h.whole ++ h.current) ∙ h.row;
      row_frames = h.row_frames;
      written_is = ap (λ bytes. bytes ++ taken) h.written_is ∙ append_assoc (spellings h.whole) h.part taken ∙ ap (λ bytes. spellings h.whole ++ bytes) (ap (λ bytes. h.part ++ bytes) front ∙ h.front_is)
          ∙ sym (flat_map-append spelling h.whole h.current) ∙ sym (append-nil (spellings (h.whole ++ h.current)));
      front_is = refl;
      is_front = inl (refl, refl);
      wholes = omega (arith, h.wholes, h.counting, ap length (filter-append (λ frame. is_counted (role frame)) h.whole h.current), length-append (counted h.whole) (counted h.current));
      counting = refl;
      greets = h.greets;
      order = h.order;
      tells = h.tells;
      told_last = h.told_last;
      in_time = h.in_time;
    }
at_sent token here made due seen written read taken (byte ∷ rest) h e = record {
  frames = h.frames;
  read_is = h.read_is;
  placed = h.placed;
  answered = h.answered;
  sent = h.sent;
  whole = h.whole;
  current = h.current;
  part = h.part ++ taken;
  row = h.row;
  row_frames = h.row_frames;
  written_is = ap (λ bytes. bytes ++ taken) h.written_is ∙ append_assoc (spellings h.whole) h.part taken;
  front_is = append_assoc h.part taken (byte ∷ rest) ∙ ap (λ bytes. h.part ++ bytes) e ∙ h.front_is;
  is_front = goes_on_front h.current taken byte rest here.front e h.is_front;
  wholes = omega (arith, h.wholes);
  counting = h.counting;
  greets = h.greets;
  order = h.order;
  tells = h.tells;
  told_last = h.told_last;
  in_time = h.in_time;
}

-- ---- bytes come in

pub at_fed : (token : List ℕ) (here : Here) (made : List Frame) (due : List ℕ) (seen : List Frame) (written read piece : List ℕ) → At token here made due seen written read → At token (here_fed piece here) made due seen written (read ++ piece)
at_fed token here made due seen written read piece h = record {
  frames = h.frames;
  read_is = ap (λ bytes. bytes ++ piece) h.read_is ∙ append_assoc (spellings seen) here.unread piece;
  placed = h.placed;
  answered = h.answered;
  sent = h.sent;
  whole = h.whole;
  current = h.current;
  part = h.part;
  row = h.row;
  row_frames = h.row_frames;
  written_is = h.written_is;
  front_is = h.front_is;
  is_front = h.is_front;
  wholes = h.wholes;
  counting = h.counting;
  greets = h.greets;
  order = h.order;
  tells = h.tells;
  told_last = h.told_last;
  in_time = h.in_time;
}

-- ---- a frame is read

order_after : (part : FrameRole) (answer : Option ℕ) (next : ℕ) (made sent : List Frame) → MayGreet part answer (length made) → InOrder answer next made sent
    → InOrder (first_count answer (received_in part)) (next_after part next) made sent
order_after (Counted closes) None next made sent m h = h
order_after (Counted closes) (Some p) next made sent m h = h
order_after (Tells n) None next made sent m h = h
order_after (Tells n) (Some p) next made sent m h = h
order_after (Greets t c p) None next made sent m h =
    let none : counted sent ≡ [] = ap counted h in
    (m.1, omega (arith, ap length none), ap (λ fs. fs ++ drop p made) none)
order_after (Greets t c p) (Some q) next made sent m h = absurd (let e : Some q ≡ None = m.0 in cc)

place_more : (place before more after most : ℕ) → place ≡ min before most → after ≡ before + more → min (place + more) most ≡ min after most
place_more place before more after most e f = omega arith

pub length-spellings_push : (fs : List Frame) (f : Frame) → length (spellings (fs ++ f ∷ [])) ≡ length (spellings fs) + length (spelling f)
length-spellings_push fs f = ap length (flat_map-append spelling fs (f ∷ [])) ∙ length-append (spellings fs) (spelling f ++ []) ∙ ap (λ n. length (spellings fs) + n) (ap length (append-nil (spelling f)))

time_after : (part : FrameRole) (answer : Option ℕ) (next : ℕ) (made : List Frame) (due : List ℕ) (received : ℕ) (sent : List Frame) → MayGreet part answer (length made) → InOrder answer next made sent
    → MatchOption answer (Unit {0}) (λ p. InTime due received p sent) → MatchOption (first_count answer (received_in part)) (Unit {0}) (λ p. InTime due received p sent)
time_after (Counted closes) None next made due received sent m o h = h
time_after (Counted closes) (Some p) next made due received sent m o h = h
time_after (Tells n) None next made due received sent m o h = h
time_after (Tells n) (Some p) next made due received sent m o h = h
time_after (Greets t c p) None next made due received sent m o h = subst (λ (fs : List Frame). InTime due received p fs) (sym o) tt
time_after (Greets t c p) (Some q) next made due received sent m o h = h

pub at_read : (token : List ℕ) (here : Here) (made : List Frame) (due : List ℕ) (seen : List Frame) (written read : List ℕ) (frame : Frame) (more : List ℕ) → At token here made due seen written read
    → IsFrame frame → here.unread ≡ spelling frame ++ more → MayGreet (role frame) here.answer (length made)
    → At token (here_read frame more here) made due (seen ++ frame ∷ []) written read
at_read token here made due seen written read frame more h f e m = record {
  frames = each_push IsFrame seen frame h.frames f;
  read_is = h.read_is ∙ ap (λ bytes. spellings seen ++ bytes) e ∙ spellings_push seen frame more;
  placed = place_more here.place (length (spellings seen)) (length (spelling frame)) (length (spellings (seen ++ frame ∷ []))) MOST_PLACE h.placed (length-spellings_push seen frame);
  answered = reply_push seen frame ∙ ap (λ answer. first_count answer (received_in (role frame))) h.answered;
  sent = h.sent;
  whole = h.whole;
  current = h.current;
  part = h.part;
  row = h.row;
  row_frames = h.row_frames;
  written_is = h.written_is;
  front_is = h.front_is;
  is_front = h.is_front;
  wholes = h.wholes;
  counting = h.counting;
  greets = h.greets;
  order = order_after (role frame) here.answer here.next made h.sent m h.order;
  tells = h.tells;
  told_last = h.told_last;
  in_time = time_after (role frame) here.answer here.next made due here.received h.sent m h.order h.in_time;
}

-- ---- a front is chosen

no_current : (current : List Frame) (front : List ℕ) → IsUnderWay current front → front ≡ [] → current ≡ []
no_current current front (inl k) e = k.0
no_current current front (inr k) e = absurd (omega (arith, k.1, ap length e))

-- where there is no front, all frames are wholly written
pub all_whole : {token : List ℕ} {here : Here} {made : List Frame} {due : List ℕ} {seen : List Frame} {written read : List ℕ} (h : At token here made due seen written read) → here.front ≡ [] → h.whole ≡ Restart token here.connection here.received ∷ h.sent
all_whole {token} {here} {made} {due} {seen} {written} {read} h e = sym (append-nil h.whole) ∙ ap (λ fs. h.whole ++ fs) (sym (no_current h.current here.front h.is_front e)) ∙ h.row

pub no_part : {token : List ℕ} {here : Here} {made : List Frame} {due : List ℕ} {seen : List Frame} {written read : List ℕ} (h : At token here made due seen written read) → here.front ≡ [] → h.part ≡ []
no_part {token} {here} {made} {due} {seen} {written} {read} h e = no_bytes h.part here.front (h.front_is ∙ ap spellings (no_current h.current here.front h.is_front e))

order_told : (answer : Option ℕ) (p next : ℕ) (made sent more : List Frame) → answer ≡ Some p → counted more ≡ counted sent → InOrder answer next made sent → InOrder answer next made more
order_told None p next made sent more e k h = cc
order_told (Some q) p next made sent more e k h = (h.0, omega (arith, h.1, ap length k), ap (λ fs. fs ++ drop next made) k ∙ h.2)

time_told : (answer : Option ℕ) (due : List ℕ) (received : ℕ) (sent more : List Frame) → told_before received more ≡ told_before received sent
    → MatchOption answer (Unit {0}) (λ p. InTime due received p sent) → MatchOption answer (Unit {0}) (λ p. InTime due received p more)
time_told None due received sent more e h = tt
time_told (Some p) due received sent more e h = subst (λ (counts : List ℕ). Within (λ count taken_after. taken_after ≤ count) counts (drop p due)) (sym e) h

pub at_ack : (token : List ℕ) (here : Here) (made : List Frame) (due : List ℕ) (seen : List Frame) (written read : List ℕ) (p n : ℕ) → At token here made due seen written read
    → here.front ≡ [] → here.answer ≡ Some p → here.told < n → IsFrame (Ack n) → At token (here_ack n here) made due seen written read
at_ack token here made due seen written read p n h e a l f = record {
  frames = h.frames;
  read_is = h.read_is;
  placed = h.placed;
  answered = h.answered;
  sent = h.sent ++ Ack n ∷ [];
  whole = h.whole;
  current = Ack n ∷ [];
  part = [];
  row = ap (λ fs. fs ++ Ack n ∷ []) (all_whole h e);
  row_frames = (h.row_frames.0, each_push IsFrame h.sent (Ack n) h.row_frames.1 f);
  written_is = h.written_is ∙ ap (λ bytes. spellings h.whole ++ bytes) (no_part h e);
  front_is = sym (append-nil (spelling (Ack n)));
  is_front = inr (refl, spelling_long (Ack n));
  wholes = h.wholes;
  counting = refl;
  greets = each_push (λ frame. is_greeting (role frame) ≡ false) h.sent (Ack n) h.greets refl;
  order = order_told here.answer p here.next made h.sent (h.sent ++ Ack n ∷ []) a (filter-append (λ frame. is_counted (role frame)) h.sent (Ack n ∷ []) ∙ append-nil (counted h.sent)) h.order;
  tells = subst (λ (counts : List ℕ). Rise here.received counts n) (sym (acks_push h.sent (Ack n))) (rise_push here.received here.told n (acks h.sent) h.tells h.told_last l);
  told_last = ap (last_told here.received) (acks_push h.sent (Ack n)) ∙ last_push here.received n (acks h.sent);
  in_time = time_told here.answer due here.received h.sent (h.sent ++ Ack n ∷ []) (told_before-append here.received h.sent (Ack n ∷ []) ∙ append-nil (told_before here.received h.sent)) h.in_time;
}

order_next : (answer : Option ℕ) (p next : ℕ) (made sent : List Frame) (f : Frame) (more : List Frame) → answer ≡ Some p → is_counted (role f) ≡ true → drop next made ≡ f ∷ more → InOrder answer next made sent
    → InOrder answer (next + 1) made (sent ++ f ∷ [])
order_next None p next made sent f more e c k h = cc
order_next (Some q) p next made sent f more e c k h =
    let rest : drop (next + 1) made ≡ more = sym (drop-drop 1 next made) ∙ ap (drop 1) k in (
      h.0,
      omega (arith, h.1, ap length (counted_push sent f c), length-append (counted sent) (f ∷ [])),
      ap (λ fs. fs ++ drop (next + 1) made) (counted_push sent f c) ∙ append_assoc (counted sent) (f ∷ []) (drop (next + 1) made) ∙ ap (λ fs. counted sent ++ f ∷ fs) rest ∙ ap (λ fs. counted sent ++ fs) (sym k) ∙ h.2,
    )

-- the greatest count told on a connection is the one told last
rise_from : (low high : ℕ) (counts : List ℕ) → Rise low counts high → last_told low counts ≡ high → low ≤ high
rise_from low high [] r e = omega arith
rise_from low high (x ∷ xs) r e = omega (arith, r.0, r.1)

pub told_most : (received most : ℕ) (sent : List Frame) → NoGreeting sent → Rise received (acks sent) most → last_told received (acks sent) ≡ most → max received (told sent) ≡ most
told_most received most sent g r e =
    let low : received ≤ most = rise_from received most (acks sent) r e in
    omega (arith, told_rise received most sent low g r, last_among received sent)

-- a list as long as another has something left where that one has
record FirstLeft (n : ℕ) (due : List ℕ) : Type 0 where
  first : ℕ
  later : List ℕ
  is : drop n due ≡ first ∷ later

first_left : (n : ℕ) (made : List Frame) (due : List ℕ) (f : Frame) (more : List Frame) → drop n made ≡ f ∷ more → length due ≡ length made → FirstLeft n due
first_left n made due f more e l = go (drop n due) refl
  where
    go : (rest : List ℕ) → drop n due ≡ rest → FirstLeft n due
    go [] k = absurd (omega (arith, ap length k, ap length e, length-drop n due, length-drop n made))
    go (x ∷ xs) k = record { first = x; later = xs; is = k }

time_next : (answer : Option ℕ) (p next : ℕ) (due : List ℕ) (made : List Frame) (received most : ℕ) (sent : List Frame) (f : Frame) → answer ≡ Some p → is_counted (role f) ≡ true → InOrder answer next made sent
    → max received (told sent) ≡ most → ((taken_after : ℕ) (later : List ℕ) → drop next due ≡ taken_after ∷ later → taken_after ≤ most)
    → FirstLeft next due
    → MatchOption answer (Unit {0}) (λ q. InTime due received q sent) → MatchOption answer (Unit {0}) (λ q. InTime due received q (sent ++ f ∷ []))
time_next None p next due made received most sent f e c o t d k h = tt
time_next (Some q) p next due made received most sent f e c o t d k h =
    let told_there : told_before received (sent ++ f ∷ []) ≡ told_before received sent ++ most ∷ [] =
    told_before-append received sent (f ∷ []) ∙ ap (λ (counts : List ℕ). told_before received sent ++ counts) (rw (c, t) refl) in
    let behind : drop (length (told_before received sent)) (drop q due) ≡ k.first ∷ k.later =
    ap (λ n. drop n (drop q due)) (length-told_before received sent) ∙ drop-drop (length (counted sent)) q due ∙ ap (λ n. drop n due) (sym o.1) ∙ k.is in
    subst (λ (counts : List ℕ). Within (λ count taken_after. taken_after ≤ count) counts (drop q due)) (sym told_there)
    (within_push (λ count taken_after. taken_after ≤ count) (told_before received sent) (drop q due) most k.first k.later h behind (d k.first k.later k.is))

pub at_next : (token : List ℕ) (here : Here) (made : List Frame) (due : List ℕ) (seen : List Frame) (written read : List ℕ) (p : ℕ) (frame : Frame) (more : List Frame) → At token here made due seen written read
    → here.front ≡ [] → here.answer ≡ Some p → drop here.next made ≡ frame ∷ more → IsFrame frame → is_counted (role frame) ≡ true
    → ((taken_after : ℕ) (later : List ℕ) → drop here.next due ≡ taken_after ∷ later → taken_after ≤ here.told) → length due ≡ length made
    → At token (here_next (spelling frame) here) made due seen written read
at_next token here made due seen written read p frame more h e a k f c d l =
    let same_acks : acks (h.sent ++ frame ∷ []) ≡ acks h.sent = acks_push h.sent frame ∙ ap (λ count. acks h.sent ++ cons_option count []) (counted_only (role frame) c).1 ∙ append-nil (acks h.sent) in
    record {
      frames = h.frames;
      read_is = h.read_is;
      placed = h.placed;
      answered = h.answered;
      sent = h.sent ++ frame ∷ [];
      whole = h.whole;
      current = frame ∷ [];
      part = [];
      row = ap (λ fs. fs ++ frame ∷ []) (all_whole h e);
      row_frames = (h.row_frames.0, each_push IsFrame h.sent frame h.row_frames.1 f);
      written_is = h.written_is ∙ ap (λ bytes. spellings h.whole ++ bytes) (no_part h e);
      front_is = sym (append-nil (spelling frame));
      is_front = inr (refl, spelling_long frame);
      wholes = h.wholes;
      counting = sym (ap length (counted_push [] frame c));
      greets = each_push (λ g. is_greeting (role g) ≡ false) h.sent frame h.greets (counted_only (role frame) c).0;
      order = order_next here.answer p here.next made h.sent frame more a c k h.order;
      tells = subst (λ (counts : List ℕ). Rise here.received counts here.told) (sym same_acks) h.tells;
      told_last = ap (last_told here.received) same_acks ∙ h.told_last;
      in_time = time_next here.answer p here.next due made here.received here.told h.sent frame a c h.order (told_most here.received here.told h.sent h.greets h.tells h.told_last) d (first_left here.next made due frame more k l) h.in_time;
    }

-- ---- frames are made

order_made : (answer : Option ℕ) (next : ℕ) (made more sent : List Frame) → InOrder answer next made sent → InOrder answer next (made ++ more) sent
order_made None next made more sent h = h
order_made (Some p) next made more sent h =
    let small : next ≤ length made = omega (arith, h.0, h.1, ap length h.2, length-append (counted sent) (drop next made), length-drop next made, length-drop p made) in (
      omega (arith, h.0, length-append made more),
      h.1,
      ap (λ fs. counted sent ++ fs) (drop-append-le next made more small) ∙ sym (append_assoc (counted sent) (drop next made) more) ∙ ap (λ fs. fs ++ more) h.2 ∙ sym (drop-append-le p made more h.0),
    )

time_made : (answer : Option ℕ) (due counts : List ℕ) (received : ℕ) (sent : List Frame) → MatchOption answer (Unit {0}) (λ p. InTime due received p sent) → MatchOption answer (Unit {0}) (λ p. InTime (due ++ counts) received p sent)
time_made None due counts received sent h = tt
time_made (Some p) due counts received sent h = within_longer (λ count taken_after. taken_after ≤ count) p (told_before received sent) due counts h

pub at_made : (token : List ℕ) (here : Here) (made more : List Frame) (due counts : List ℕ) (seen : List Frame) (written read : List ℕ) → At token here made due seen written read → At token here (made ++ more) (due ++ counts) seen written read
at_made token here made more due counts seen written read h = record {
  frames = h.frames;
  read_is = h.read_is;
  placed = h.placed;
  answered = h.answered;
  sent = h.sent;
  whole = h.whole;
  current = h.current;
  part = h.part;
  row = h.row;
  row_frames = h.row_frames;
  written_is = h.written_is;
  front_is = h.front_is;
  is_front = h.is_front;
  wholes = h.wholes;
  counting = h.counting;
  greets = h.greets;
  order = order_made here.answer here.next made more h.sent h.order;
  tells = h.tells;
  told_last = h.told_last;
  in_time = time_made here.answer due counts here.received h.sent h.in_time;
}

begins_made : (sent made more : List Frame) (p : ℕ) → IsFront sent (drop p made) → IsFront sent (drop p (made ++ more))
begins_made sent made more p b = IsFront_trans b (drop_longer p made more)

match_made : (answer : Option ℕ) (sent made more : List Frame) → MatchOption answer (sent ≡ []) (λ p. IsFront (counted sent) (drop p made)) → MatchOption answer (sent ≡ []) (λ p. IsFront (counted sent) (drop p (made ++ more)))
match_made None sent made more h = h
match_made (Some p) sent made more h = begins_made (counted sent) made more p h

pub wrote_made : {token : List ℕ} {c received upto : ℕ} {made : List Frame} {due : List ℕ} {seen : List Frame} {written : List ℕ} (more : List Frame) (counts : List ℕ)
    → Wrote token c received upto made due seen written → Wrote token c received upto (made ++ more) (due ++ counts) seen written
wrote_made {token} {c} {received} {upto} {made} {due} {seen} {written} more counts w = record {
  sent = w.sent;
  left = w.left;
  bytes = w.bytes;
  frames = w.frames;
  greets = w.greets;
  order = match_made (reply seen) w.sent made more w.order;
  tells = w.tells;
  in_time = time_made (reply seen) due counts received w.sent w.in_time;
}

-- ---- what was written so far

order_begins : (answer : Option ℕ) (next : ℕ) (made sent : List Frame) → InOrder answer next made sent → MatchOption answer (sent ≡ []) (λ p. IsFront (counted sent) (drop p made))
order_begins None next made sent h = h
order_begins (Some p) next made sent h = record { rest = drop next made; is = h.2 }

pub wrote_here : (token : List ℕ) (here : Here) (made : List Frame) (due : List ℕ) (seen : List Frame) (written read : List ℕ) (upto : ℕ) → At token here made due seen written read → here.told ≤ upto
    → Wrote token here.connection here.received upto made due seen written
wrote_here token here made due seen written read upto h l = record {
  sent = h.sent;
  left = here.front;
  bytes = ap (λ bytes. bytes ++ here.front) h.written_is ∙ append_assoc (spellings h.whole) h.part here.front ∙ ap (λ bytes. spellings h.whole ++ bytes) h.front_is
      ∙ sym (flat_map-append spelling h.whole h.current) ∙ ap spellings h.row;
  frames = h.row_frames;
  greets = h.greets;
  order = subst (λ (answer : Option ℕ). MatchOption answer (h.sent ≡ []) (λ p. IsFront (counted h.sent) (drop p made))) (sym h.answered) (order_begins here.answer here.next made h.sent h.order);
  tells = rise_weaker here.received here.told upto (acks h.sent) l h.tells;
  in_time = subst (λ (answer : Option ℕ). MatchOption answer (Unit {0}) (λ p. InTime due here.received p h.sent)) (sym h.answered) h.in_time;
}
