-- What stands between steps gives what a side may have written and read.
use Rattle.std.proofs.Common.{◌≡◌, ◌≢◌, ℕ, ◌<◌, ◌≤◌, suc, zero, cond, eqb, List, [], ◌∷◌, ◌++◌, Ok, Option, Some, None, max, length, refl, sym, ap, subst, ◌∙◌, arith, length-append, inl, inr, ◌⊎◌}
use Rattle.std.proofs.lemmas.Bool.{eq-eqb, ne_eqb, cond-true, cond-false, cases_order, cases_eq}
use Rattle.std.proofs.lemmas.List.{append_cancel_left}
use Rattle.std.specs.List.{AllByRecursion}
use Rattle.transfer_frames.specs.declared.frame.Frame.{Frame}
use Rattle.transfer_frames.specs.declared.cause.FrameCause.{FrameCause}
use Rattle.transfer_frames.specs.Front.{front}
use Rattle.transfer_frames.specs.Laws.{NoFrame}
use Rattle.transfer_frames.proofs.FrontLaws.{front-spelled}
use Rattle.pair_model.specs.Lines.{Line, Stop, SideRecord, Rising, read_on, written_on}
use Rattle.pair_model.specs.Rows.{spellings, counted, told, Reads}
use Rattle.pair_model.specs.LinkFaults.{Unrefused, judge_first, has_closed, Passes}
use Rattle.pair_model.specs.Order.{HeardLate}
use Rattle.pair_model.specs.Wire.{Sees, Wire, Wrote, Waits, Ends, accepted_below, told_below, stop_on}
use Rattle.pair_model.specs.Steps.{Here, Stands, side_stopped, place_here}
use Rattle.pair_model.specs.StepLaws.{StandsWire, StoppedWire}
use Rattle.pair_model.proofs.Rows.{spelling_some}
use Rattle.pair_model.proofs.Came.{no_read}
use Rattle.pair_model.proofs.LastLine.{written_last, read_last, written_before, read_before, written_none, read_none}
use Rattle.pair_model.proofs.Moves.{wrote_here}
use Rattle.pair_model.proofs.Wholes.{wholly}

-- ---- the frames seen on all connections

-- those of the connection that is up, beside those of the earlier ones
unfoldable pub seen_with : ℕ → List Frame → (ℕ → List Frame) → ℕ → List Frame
seen_with connection here earlier c = cond (eqb c connection) here (earlier c)

pub with_here : (connection : ℕ) (here : List Frame) (earlier : ℕ → List Frame) (c : ℕ) → c ≡ connection → seen_with connection here earlier c ≡ here
unfolding seen_with
with_here connection here earlier c e = cond-true (eqb c connection) here (earlier c) (eq-eqb c connection e)

pub with_other : (connection : ℕ) (here : List Frame) (earlier : ℕ → List Frame) (c : ℕ) → c ≢ connection → seen_with connection here earlier c ≡ earlier c
unfolding seen_with
with_other connection here earlier c apart = cond-false (eqb c connection) here (earlier c) (ne_eqb c connection apart)

pub accepted_with : (connection : ℕ) (here : List Frame) (earlier : ℕ → List Frame) (c : ℕ) → c ≤ connection → accepted_below (seen_with connection here earlier) c ≡ accepted_below earlier c
accepted_with connection here earlier zero l = refl
accepted_with connection here earlier (suc c) l =
    let before : accepted_below (seen_with connection here earlier) c ≡ accepted_below earlier c = accepted_with connection here earlier c (omega arith) in
    let same : seen_with connection here earlier c ≡ earlier c = with_other connection here earlier c (λ e. omega arith) in
    cc

pub told_with : (connection : ℕ) (here : List Frame) (earlier : ℕ → List Frame) (c : ℕ) → c ≤ connection → told_below (seen_with connection here earlier) c ≡ told_below earlier c
told_with connection here earlier zero l = refl
told_with connection here earlier (suc c) l =
    let before : told_below (seen_with connection here earlier) c ≡ told_below earlier c = told_with connection here earlier c (omega arith) in
    let same : seen_with connection here earlier c ≡ earlier c = with_other connection here earlier c (λ e. omega arith) in
    cc

-- ---- facts in other words

pub same_reads : {stop other : Option ℕ} {read bytes : List ℕ} {seen frames : List Frame} → stop ≡ other → read ≡ bytes → seen ≡ frames → Reads other bytes frames → Reads stop read seen
same_reads {stop} {other} {read} {bytes} {seen} {frames} s b f h =
    subst (λ (o : Option ℕ). Reads o read seen) (sym s) (subst (λ (those : List ℕ). Reads other those seen) (sym b) (subst (λ (fs : List Frame). Reads other bytes fs) (sym f) h))

same_waits : {stop other : Option ℕ} {read bytes : List ℕ} {seen frames : List Frame} → stop ≡ other → read ≡ bytes → seen ≡ frames → Waits other bytes frames → Waits stop read seen
same_waits {stop} {other} {read} {bytes} {seen} {frames} s b f h =
    subst (λ (o : Option ℕ). Waits o read seen) (sym s) (subst (λ (those : List ℕ). Waits other those seen) (sym b) (subst (λ (fs : List Frame). Waits other bytes fs) (sym f) h))

same_wrote : {token : List ℕ} {c received r upto u : ℕ} {made : List Frame} {due : List ℕ} {seen frames : List Frame} {written bytes : List ℕ} → received ≡ r → upto ≡ u → seen ≡ frames → written ≡ bytes
    → (bytes ≡ []) ⊎ Wrote token c r u made due frames bytes → (written ≡ []) ⊎ Wrote token c received upto made due seen written
same_wrote {token} {c} {received} {r} {upto} {u} {made} {due} {seen} {frames} {written} {bytes} er eu es eb h =
    subst (λ (n : ℕ). (written ≡ []) ⊎ Wrote token c n upto made due seen written) (sym er) (subst (λ (n : ℕ). (written ≡ []) ⊎ Wrote token c r n made due seen written) (sym eu)
    (subst (λ (fs : List Frame). (written ≡ []) ⊎ Wrote token c r u made due fs written) (sym es) (subst (λ (those : List ℕ). (those ≡ []) ⊎ Wrote token c r u made due frames those) (sym eb) h)))

same_unrefused : {token : List ℕ} {c made t u : ℕ} {these those seen frames : List Frame} {written bytes : List ℕ} → t ≡ u → these ≡ those → seen ≡ frames → written ≡ bytes
    → Unrefused token c made u those frames bytes → Unrefused token c made t these seen written
same_unrefused {token} {c} {made} {t} {u} {these} {those} {seen} {frames} {written} {bytes} et ea es eb h =
    subst (λ (n : ℕ). Unrefused token c made n these seen written) (sym et) (subst (λ (fs : List Frame). Unrefused token c made u fs seen written) (sym ea)
    (subst (λ (fs : List Frame). Unrefused token c made u those fs written) (sym es) (subst (λ (bytes : List ℕ). Unrefused token c made u those frames bytes) (sym eb) h)))

same_late : (ahead : List ℕ) {t u : ℕ} {these those seen frames : List Frame} → t ≡ u → these ≡ those → seen ≡ frames → HeardLate ahead u those frames → HeardLate ahead t these seen
same_late ahead {t} {u} {these} {those} {seen} {frames} et ea es h =
    subst (λ (n : ℕ). HeardLate ahead n these seen) (sym et) (subst (λ (fs : List Frame). HeardLate ahead u fs seen) (sym ea) (subst (λ (fs : List Frame). HeardLate ahead u those fs) (sym es) h))

-- where nothing was written and seen, nothing was refused
pub none_read : Reads None [] []
none_read = record { frames = tt; rest = []; bytes = refl; ends = λ frame more f e. spelling_some frame more (sym e) }

pub none_refused : (token : List ℕ) (c made t : ℕ) (accepted : List Frame) → Unrefused token c made t accepted [] []
none_refused token c made t accepted = record { whole = []; wrote = none_read; passes = tt }

rising_push : (least bound : ℕ) (lines : List Line) (line : Line) → least ≤ bound → Rising least lines → AllByRecursion (λ l. l.connection < bound) lines → line.connection ≡ bound → Rising least (lines ++ line ∷ [])
rising_push least bound [] line l r h e = (omega arith, tt)
rising_push least bound (x ∷ xs) line l r h e = (r.0, rising_push (suc x.connection) bound xs line (omega (arith, h.0)) r.1 h.1 e)

-- ---- what stands gives what was written and read

module _ (token : List ℕ) (side : SideRecord) (here : Here) (st : Stands token side here) where
  unfoldable pub all_seen : ℕ → List Frame
  all_seen c = seen_with here.connection st.seen st.past_seen c

  pub read_here : (c : ℕ) → c ≡ here.connection → read_on c side.lines ≡ st.line.read
  read_here c e = ap (read_on c) st.lines ∙ ap (λ n. read_on n (st.earlier ++ st.line ∷ [])) e ∙ read_last st.earlier st.line here.connection st.past.numbers st.number

  pub read_other : (c : ℕ) → c ≢ here.connection → read_on c side.lines ≡ read_on c st.earlier
  read_other c apart = ap (read_on c) st.lines ∙ read_before st.earlier st.line c (λ e. apart (sym e ∙ st.number))

  pub read_later : (c : ℕ) → here.connection < c → read_on c side.lines ≡ []
  read_later c l = read_other c (λ e. omega arith) ∙ read_none st.earlier here.connection c st.past.numbers (omega arith)

  pub written_here : (c : ℕ) → c ≡ here.connection → written_on c side.lines ≡ st.line.written
  written_here c e = ap (written_on c) st.lines ∙ ap (λ n. written_on n (st.earlier ++ st.line ∷ [])) e ∙ written_last st.earlier st.line here.connection st.past.numbers st.number

  written_other : (c : ℕ) → c ≢ here.connection → written_on c side.lines ≡ written_on c st.earlier
  written_other c apart = ap (written_on c) st.lines ∙ written_before st.earlier st.line c (λ e. apart (sym e ∙ st.number))

  written_later : (c : ℕ) → here.connection < c → written_on c side.lines ≡ []
  written_later c l = written_other c (λ e. omega arith) ∙ written_none st.earlier here.connection c st.past.numbers (omega arith)

  pub seen_here : all_seen here.connection ≡ st.seen
  unfolding all_seen
  seen_here = with_here here.connection st.seen st.past_seen here.connection refl

  -- nothing is seen later
  seen_later : (c : ℕ) → here.connection < c → all_seen c ≡ []
  unfolding all_seen
  seen_later c l =
      with_other here.connection st.seen st.past_seen c (λ e. omega arith)
      ∙ no_read (read_on c st.earlier) (st.past.reads c) (read_none st.earlier here.connection c st.past.numbers (omega arith))

  pub accepted_all : accepted_below all_seen (suc here.connection) ≡ accepted_below st.past_seen here.connection ++ counted st.seen
  unfolding all_seen
  accepted_all =
      let before : accepted_below all_seen here.connection ≡ accepted_below st.past_seen here.connection = accepted_with here.connection st.seen st.past_seen here.connection (omega arith) in
      let same : all_seen here.connection ≡ st.seen = with_here here.connection st.seen st.past_seen here.connection refl in
      cc

  told_all : told_below all_seen (suc here.connection) ≡ max (told_below st.past_seen here.connection) (told st.seen)
  unfolding all_seen
  told_all =
      let before : told_below all_seen here.connection ≡ told_below st.past_seen here.connection = told_with here.connection st.seen st.past_seen here.connection (omega arith) in
      let same : all_seen here.connection ≡ st.seen = with_here here.connection st.seen st.past_seen here.connection refl in
      cc

  reads_all : (stop : Option Stop) → Reads (stop_on here.connection stop) st.line.read st.seen → ((c : ℕ) → c ≢ here.connection → stop_on c stop ≡ None)
      → (c : ℕ) → Reads (stop_on c stop) (read_on c side.lines) (all_seen c)
  unfolding all_seen
  reads_all stop h others c = elim (cases_eq c here.connection) [
    | inl e ↦ same_reads (ap (λ n. stop_on n stop) e) (read_here c e) (with_here here.connection st.seen st.past_seen c e) h
    | inr apart ↦ same_reads (others c apart) (read_other c apart) (with_other here.connection st.seen st.past_seen c apart) (st.past.reads c)
  ]

  waits_all : (stop : Option Stop) → Waits (stop_on here.connection stop) st.line.read st.seen → ((c : ℕ) → c ≢ here.connection → stop_on c stop ≡ None)
      → (c : ℕ) → Waits (stop_on c stop) (read_on c side.lines) (all_seen c)
  unfolding all_seen
  waits_all stop h others c = elim (cases_eq c here.connection) [
    | inl e ↦ same_waits (ap (λ n. stop_on n stop) e) (read_here c e) (with_here here.connection st.seen st.past_seen c e) h
    | inr apart ↦ same_waits (others c apart) (read_other c apart) (with_other here.connection st.seen st.past_seen c apart) (st.past.waits c)
  ]

  unrefused_here : Unrefused token here.connection (length side.made) (told_below st.past_seen here.connection) (accepted_below st.past_seen here.connection) st.seen st.line.written
  unrefused_here = record {
    whole = st.here_is.whole;
    wrote = wholly st.here_is;
    passes = subst (λ (n : ℕ). Passes (judge_first token here.connection (length side.made) n (told_below st.past_seen here.connection) (accepted_below st.past_seen here.connection)) None st.seen) st.here_is.wholes st.passes;
  }

  passes_all : (c : ℕ) → Unrefused token c (length side.made) (told_below all_seen c) (accepted_below all_seen c) (all_seen c) (written_on c side.lines)
  unfolding all_seen
  passes_all c = elim (cases_order c here.connection) [
    | inl e ↦ subst (λ (n : ℕ). Unrefused token n (length side.made) (told_below all_seen n) (accepted_below all_seen n) (all_seen n) (written_on n side.lines)) (sym e)
        (same_unrefused (told_with here.connection st.seen st.past_seen here.connection (omega arith)) (accepted_with here.connection st.seen st.past_seen here.connection (omega arith)) (with_here here.connection st.seen st.past_seen here.connection refl)
        (written_here here.connection refl) unrefused_here)
    | inr (inl below) ↦
        let apart : c ≢ here.connection = λ e. omega arith in
        same_unrefused (told_with here.connection st.seen st.past_seen c (omega arith)) (accepted_with here.connection st.seen st.past_seen c (omega arith)) (with_other here.connection st.seen st.past_seen c apart) (written_other c apart) (st.past.passes c)
    | inr (inr above) ↦
        same_unrefused refl refl (seen_later c above) (written_later c above) (none_refused token c (length side.made) (told_below all_seen c) (accepted_below all_seen c))
  ]

  late_all : (c : ℕ) → HeardLate side.ahead (told_below all_seen c) (accepted_below all_seen c) (all_seen c)
  unfolding all_seen
  late_all c = elim (cases_order c here.connection) [
    | inl e ↦ subst (λ (n : ℕ). HeardLate side.ahead (told_below all_seen n) (accepted_below all_seen n) (all_seen n)) (sym e)
        (same_late side.ahead (told_with here.connection st.seen st.past_seen here.connection (omega arith)) (accepted_with here.connection st.seen st.past_seen here.connection (omega arith)) (with_here here.connection st.seen st.past_seen here.connection refl) st.late)
    | inr (inl below) ↦
        same_late side.ahead (told_with here.connection st.seen st.past_seen c (omega arith)) (accepted_with here.connection st.seen st.past_seen c (omega arith)) (with_other here.connection st.seen st.past_seen c (λ e. omega arith)) (st.past.late c)
    | inr (inr above) ↦ same_late side.ahead refl refl (seen_later c above) tt
  ]

  wrote_all : (c : ℕ) → (written_on c side.lines ≡ []) ⊎ Wrote token c (length (accepted_below all_seen c)) (length (accepted_below all_seen (suc c))) side.made side.due (all_seen c) (written_on c side.lines)
  unfolding all_seen
  wrote_all c = elim (cases_order c here.connection) [
    | inl e ↦ subst (λ (n : ℕ). (written_on n side.lines ≡ []) ⊎ Wrote token n (length (accepted_below all_seen n)) (length (accepted_below all_seen (suc n))) side.made side.due (all_seen n) (written_on n side.lines)) (sym e)
        (same_wrote (ap length (accepted_with here.connection st.seen st.past_seen here.connection (omega arith)) ∙ sym st.received) (ap length accepted_all) (with_here here.connection st.seen st.past_seen here.connection refl) (written_here here.connection refl)
        (inr (wrote_here token here side.made side.due st.seen st.line.written st.line.read (length (accepted_below st.past_seen here.connection ++ counted st.seen)) st.here_is
        (omega (arith, st.told_known, st.accepted, st.received, length-append (accepted_below st.past_seen here.connection) (counted st.seen))))))
    | inr (inl below) ↦
        let apart : c ≢ here.connection = λ e. omega arith in
        same_wrote (ap length (accepted_with here.connection st.seen st.past_seen c (omega arith))) (ap length (accepted_with here.connection st.seen st.past_seen (suc c) (omega arith)))
        (with_other here.connection st.seen st.past_seen c apart) (written_other c apart) (st.past.wrote c)
    | inr (inr above) ↦ inl (written_later c above)
  ]

  pub sees_with : (stop : Option Stop) → Reads (stop_on here.connection stop) st.line.read st.seen → ((c : ℕ) → c ≢ here.connection → stop_on c stop ≡ None)
      → Sees (record side { stop = stop }) (suc here.connection) all_seen
  sees_with stop h others = record { reads = reads_all stop h others; past = λ c l. read_later c (omega arith) }

  wire_with : (stop : Option Stop) → Reads (stop_on here.connection stop) st.line.read st.seen → Waits (stop_on here.connection stop) st.line.read st.seen → ((c : ℕ) → c ≢ here.connection → stop_on c stop ≡ None)
      → Ends stop side.lines → Wire token (record side { stop = stop })
  wire_with stop h w others ends = record {
    seen = all_seen;
    bound = suc here.connection;
    numbers = subst (λ (lines : List Line). Rising 1 lines) (sym st.lines) (rising_push 1 here.connection st.earlier st.line st.first st.past.rising st.past.numbers st.number);
    sees = sees_with stop h others;
    waits = waits_all stop w others;
    ends = ends;
    passes = passes_all;
    late = late_all;
    accepted = omega (arith, st.accepted, st.received, ap length accepted_all, length-append (accepted_below st.past_seen here.connection) (counted st.seen));
    ahead_accepted = st.ahead_accepted;
    closed = st.closed ∙ ap has_closed (sym accepted_all);
    acknowledged = st.acknowledged ∙ sym told_all;
    known = st.known;
    wrote = wrote_all;
    due_made = st.due_made;
    due_accepted = st.due_accepted;
  }

  waits_on : front here.unread ≡ Ok None → Waits None st.line.read st.seen
  waits_on h rest e =
      let same : rest ≡ here.unread = append_cancel_left (spellings st.seen) rest here.unread (sym e ∙ st.here_is.read_is) in
      ap front same ∙ h

  -- where nothing but a part of a frame waits
  no_frame : front here.unread ≡ Ok None → NoFrame here.unread
  no_frame h frame more f e = let whole : front here.unread ≡ Ok (Some frame) = ap front e ∙ front-spelled frame more f in cc

  pub reads_on : front here.unread ≡ Ok None → Reads None st.line.read st.seen
  reads_on h = record { frames = st.here_is.frames; rest = here.unread; bytes = st.here_is.read_is; ends = no_frame h }

  -- where reading stops
  pub place_is : place_here here side ≡ length (spellings st.seen)
  place_is = omega (arith, ap length (read_here here.connection refl), ap length st.here_is.read_is, length-append (spellings st.seen) here.unread)

  stop_is : Option FrameCause → Stop
  stop_is cause = record { connection = here.connection; place = place_here here side; cause = cause }

  stops_here : (cause : Option FrameCause) → stop_on here.connection (Some (stop_is cause)) ≡ Some (place_here here side)
  unfolding stop_is
  stops_here cause = cond-true (eqb here.connection here.connection) (Some (place_here here side)) None (eq-eqb here.connection here.connection refl)

  stops_nowhere : (cause : Option FrameCause) (c : ℕ) → c ≢ here.connection → stop_on c (Some (stop_is cause)) ≡ None
  unfolding stop_is
  stops_nowhere cause c apart = cond-false (eqb here.connection c) (Some (place_here here side)) None (ne_eqb here.connection c (λ e. apart (sym e)))

  reads_stopped : (cause : Option FrameCause) → Reads (stop_on here.connection (Some (stop_is cause))) st.line.read st.seen
  reads_stopped cause =
      subst (λ (o : Option ℕ). Reads o st.line.read st.seen) (sym (stops_here cause)) (record { frames = st.here_is.frames; rest = here.unread; bytes = st.here_is.read_is; ends = place_is })

  waits_stopped : (cause : Option FrameCause) → Waits (stop_on here.connection (Some (stop_is cause))) st.line.read st.seen
  waits_stopped cause = subst (λ (o : Option ℕ). Waits o st.line.read st.seen) (sym (stops_here cause)) tt

  pub sees_stopped : (cause : Option FrameCause) → Sees (side_stopped cause here side) (suc here.connection) all_seen
  unfolding stop_is
  sees_stopped cause = sees_with (Some (stop_is cause)) (reads_stopped cause) (stops_nowhere cause)

  pub wire_stopped : (cause : Option FrameCause) → Wire token (side_stopped cause here side)
  unfolding stop_is
  wire_stopped cause =
      wire_with (Some (stop_is cause)) (reads_stopped cause) (waits_stopped cause) (stops_nowhere cause) (λ c l. (read_later c l, written_later c l))

  pub sees_between : front here.unread ≡ Ok None → Sees side (suc here.connection) all_seen
  sees_between h = subst (λ (stop : Option Stop). Sees (record side { stop = stop }) (suc here.connection) all_seen) (sym st.goes_on) (sees_with None (reads_on h) (λ c apart. refl))

  pub wire_between : front here.unread ≡ Ok None → Wire token side
  wire_between h = subst (λ (stop : Option Stop). Wire token (record side { stop = stop })) (sym st.goes_on) (wire_with None (reads_on h) (waits_on h) (λ c apart. refl) tt)

pub stands_wire : StandsWire
stands_wire token side here b = wire_between token side here b.stands b.waits

pub stopped_wire : StoppedWire
stopped_wire token side here cause st = wire_stopped token side here st cause
