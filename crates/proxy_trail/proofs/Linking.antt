-- The calls of the link: what they begin with, and how they end where something can't be recorded.
use Rattle.std.proofs.Common.{◌≡◌, ℕ, ◌+◌, ◌<◌, ◌≤◌, List, [], ◌∷◌, ◌++◌, take, drop, length, Option, Some, None, Result, Ok, Err, Bool, true, false, refl, sym, ap, subst, ◌∙◌, arith, inl, inr, length-append, nat_lt, if◌then◌else◌}
use Rattle.std.proofs.lemmas.List.{append-nil}
use Rattle.std.proofs.lemmas.Bool.{ltb-true, ltb-false}
use Rattle.std.specs.Option.{MatchOption}
use Rattle.std.specs.Prelude.{is_some}
use Rattle.std.specs.Prelude.{IfErr, OnErr, ◌⊎◌}
use Rattle.transfer_frames.specs.declared.frame.Frame.{Frame}
use Rattle.half_model.specs.declared.causes.Limit.TheVariants.{Connections}
use Rattle.half_model.specs.Story.{accepted_in}
use Rattle.pair_model.specs.Lines.{SideRecord}
use Rattle.pair_model.specs.Steps.{Here, here_sent}
use Rattle.side_model.specs.declared.fault.ProxyFault.{ProxyFault}
use Rattle.side_model.specs.declared.fault.ProxyFault.TheVariants as faults
use Rattle.side_model.specs.Books.{Book, MOST_WEIGHT, ITEM_WEIGHT, weight, line_cost, cost_read, rows_read, rows_written, with_room, grown, closed}
use Rattle.side_model.specs.Calls.{Part, Row, Stops, Runs, Refuses, CallsBarred, CallsAfter, Calls, barred, MOST_CONNECTIONS}
use Rattle.side_model.specs.Events.{Event, Up, Came, Went, Rest, Halt}
use Rattle.side_model.specs.Follows.{Follows, LinkFollows, GoesOn}
use Rattle.side_model.specs.Places.{places_in, side_of}
use Rattle.side_model.specs.Shows.{front_of, front_here, unless_fault}
use Rattle.side_model.specs.Sound.{Admits}
use Rattle.side_model.specs.State.{Now, KeptPart}
use Rattle.side_model.specs.Steps.{step}
use Rattle.side_model.specs.Trails.{TrailState, with_notes, RunsOn, Keeps, TooHeavy, FailsAtOnce, Fails, Done, FailsSo, HeavyAtOnce, Failed, FailedAtOnce, FailsNow, RunsTrail, TrailAfter, TrailCalls, Sends, NotLent, RunsLends, LendsAfter, Lends, LIMIT_TRAIL}
use Rattle.side_model.specs.Due.{next}
use Rattle.side_model.proofs.Calms.{up_rests}
use Rattle.side_model.proofs.TrailKeeps.{sends_keep, lends_keep}
use Rattle.side_model.proofs.TrailParts.{begins, Begins, same_weight}
use Rattle.side_model.proofs.Weighing.{weight_grows}
use Rattle.trail_records.specs.declared.unrecorded.Unrecorded.{Unrecorded}
use Rattle.trail_records.specs.declared.unrecorded.Unrecorded.TheVariants as whys
use Rattle.trail_records.specs.Noting.{Adds, with_lines, with_line, with_piece, with_sent}
use Rattle.proxy_trail.specs.Kept.{IsKept, state_of}
use Rattle.proxy_trail.specs.Recording.{reason_of, fault_in, Settles}
use Rattle.proxy_trail.proofs.Calling.{Answered, answered, call_keeps, up_changed, up_part}
use Rattle.proxy_trail.proofs.Giving.{match_none}
use Rattle.proxy_trail.proofs.Quietly.{IsBrought}
use Rattle.proxy_trail.proofs.Settling.{begun, Lines, LinesAlone, Context}

-- ---- where a connection is up, there is a line

line_at : (token : List ℕ) (side : SideRecord) (accepted : List Frame) (here : Option Here) → LinkFollows token side accepted here → is_some here ≡ true → 0 < length side.lines
line_at token side accepted None l e = absurd cc
line_at token side accepted (Some here) l e = omega (arith, ap length l.stands.lines, length-append l.stands.earlier (l.stands.line ∷ []))

pub has_line : (t : TrailState) (up : Bool) → Keeps t → t.fault ≡ None → up ≡ is_some t.now.live.here → up ≡ true → 0 < length (closed t.book).trail.lines.rows
has_line t up k none e u =
    let f : Follows t.now t.book = (k.runs none).follows in
    line_at t.now.token (side_of t.book.trail (places_in f.story) None) (accepted_in f.story) t.now.live.here f.link (sym e ∙ u)

-- ---- what comes

-- a piece that is recorded, or one that comes where no connection is up
pub record Brings (event : Event) (old : TrailState) (book : Book) : Type 0 where
  pub context : Context event old
  pub book_is : book ≡ begun event old

came_kept : (piece : List ℕ) (s : Now) → (step (Came piece) s).kept ≡ s.kept
unfolding step
came_kept piece s = refl

-- the weight with the piece
came_weighs : (piece : List ℕ) (old : TrailState) → Begins old (Came piece) → weight (begun (Came piece) old).trail ≡ weight (closed old.book).trail + line_cost (Came piece) old.now.live.here
came_weighs piece old b = omega (arith, weight_grows (Came piece) old.now (closed old.book) b.follows.follows)

pub came_begins : (piece : List ℕ) (old : TrailState) (up : Bool) (book : Book) → Keeps old → old.fault ≡ None → Admits (Came piece) old.now → up ≡ is_some old.now.live.here
    → (up ≡ true → Adds (length piece) (with_piece piece) (Ok tt) (closed old.book) book) → (up ≡ false → book ≡ closed old.book) → Brings (Came piece) old book
came_begins piece old up book k none a e goes stays = by_here old.now.live.here refl
  where
    b : Begins old (Came piece)
    b = begins old (Came piece) none k a

    by_here : (here : Option Here) → old.now.live.here ≡ here → Brings (Came piece) old book
    by_here None h =
        let down : up ≡ false = e ∙ ap is_some h in
        let same : begun (Came piece) old ≡ closed old.book = ap (λ (here : Option Here). with_lines (rows_read piece here (closed old.book).trail.lines.rows) (closed old.book)) h in
        record {
          context = record {
            begins = b;
            none = none;
            brought = tt;
            lines = LinesAlone refl (came_kept piece old.now) refl;
            weighs = came_weighs piece old b;
            light = omega (arith, ap (λ (x : Book). weight x.trail) same, b.weighs);
          };
          book_is = stays down ∙ sym same;
        }
    by_here (Some here) h =
        let added : Adds (length piece) (with_piece piece) (Ok tt) (closed old.book) book = goes (e ∙ ap is_some h) in
        let same : begun (Came piece) old ≡ with_piece piece (closed old.book) = ap (λ (x : Option Here). with_lines (rows_read piece x (closed old.book).trail.lines.rows) (closed old.book)) h in
        let costs : line_cost (Came piece) old.now.live.here ≡ length piece = ap (cost_read piece) h in
        record {
          context = record {
            begins = b;
            none = none;
            brought = tt;
            lines = LinesAlone refl (came_kept piece old.now) refl;
            weighs = came_weighs piece old b;
            light = omega (arith, came_weighs piece old b, costs, added.0);
          };
          book_is = added.1 ∙ sym same;
        }

-- ---- what can't be recorded

abbrev pub refusal : Unrecorded → Result Unit Unrecorded
refusal why = Err why

abbrev pub Refused : Event → Unrecorded → TrailState → Book → Type 0
Refused event why old book = Adds (line_cost event old.now.live.here) (λ b. b) (Err why) (closed old.book) book

refused_so : (event : Event) (why : Unrecorded) (old : TrailState) (book : Book) → barred event old.now ≡ None → Adds (line_cost event old.now.live.here) (λ b. b) (Err why) (closed old.book) book
    → FailsNow event (reason_of why) old (state_of old.now book (Some (reason_of why)))
refused_so event whys.TooHeavy old book admitted a = record {
  fault_is = refl;
  so = HeavyAtOnce refl (record { begins = admitted; heavy = omega (arith, a.0, same_weight 0 old.book); now = refl; book = a.1 });
}
refused_so event whys.Memory old book admitted a = record {
  fault_is = refl;
  so = FailedAtOnce (record { because = inr refl; side = refl; token = refl; kept = refl; book = a });
}

pub refused : (event : Event) (why : Unrecorded) (old : TrailState) (up : Bool) (book : Book) (fault : ProxyFault) → Keeps old → old.fault ≡ None → Admits event old.now → IsBrought event → up ≡ is_some old.now.live.here
    → barred event old.now ≡ None → Refused event why old book → fault ≡ reason_of why → Answered event (Err fault) old up old.now book (Some fault)
refused event why old up book fault k none a b e admitted r f =
    let calls : TrailCalls event (Err (reason_of why)) old (state_of old.now book (Some (reason_of why))) =
    subst (λ (g : Option ProxyFault). TrailAfter g event (Err (reason_of why)) old (state_of old.now book (Some (reason_of why)))) (sym none) (refused_so event why old book admitted r) in
    let known : TrailCalls event (Err fault) old (state_of old.now book (Some fault)) = subst (λ (g : ProxyFault). TrailCalls event (Err g) old (state_of old.now book (Some g))) (sym f) calls in
    record { calls = known; kept = call_keeps event (Err fault) old (state_of old.now book (Some fault)) up k none a b e known }

-- whatever would have been changed
other_change : (more least : ℕ) (why : Unrecorded) (change other : Book → Book) (before after : Book) → least ≡ more → Adds more change (Err why) before after → Adds least other (Err why) before after
other_change more least whys.TooHeavy change other before after e a = (omega (arith, a.0, e), a.1)
other_change more least whys.Memory change other before after e a = a

pub piece_refused : (piece : List ℕ) (why : Unrecorded) (old : TrailState) (up : Bool) (book : Book) → up ≡ is_some old.now.live.here → (up ≡ true → Adds (length piece) (with_piece piece) (Err why) (closed old.book) book)
    → (up ≡ false → refusal why ≡ Ok tt) → Refused (Came piece) why old book
piece_refused piece why old up book e goes stays = by_here old.now.live.here refl
  where
    by_here : (here : Option Here) → old.now.live.here ≡ here → Refused (Came piece) why old book
    by_here None h = absurd (let never : refusal why ≡ Ok tt = stays (e ∙ ap is_some h) in cc)
    by_here (Some here) h = other_change (length piece) (line_cost (Came piece) old.now.live.here) why (with_piece piece) (λ b. b) (closed old.book) book (ap (cost_read piece) h) (goes (e ∙ ap is_some h))

-- ---- a connection comes up

up_notes : (connection : ℕ) (s : Now) → (step (Up connection) s).kept.notes ≡ s.kept.notes
unfolding step
up_notes connection s = refl

up_parts : (connection : ℕ) (s t : Now) → Part (step (Up connection) s) [] t → t.kept.notes ≡ s.kept.notes
up_parts connection s t p = ap (λ (u : Now). u.kept.notes) p ∙ up_notes connection s

no_notes : (last : Now) → last.kept.notes ≡ [] → last ≡ with_notes [] last
no_notes last e = ap (λ ns. with_notes ns last) e

up_admitted : (connection : ℕ) (s : Now) → connection ≤ MOST_CONNECTIONS → barred (Up connection) s ≡ None
up_admitted connection s h = by_test (nat_lt MOST_CONNECTIONS connection) refl
  where
    by_test : (b : Bool) → nat_lt MOST_CONNECTIONS connection ≡ b → (if b then Some (faults.Limit Connections) else None) ≡ None
    by_test true e = absurd (omega (arith, ltb-true MOST_CONNECTIONS connection e))
    by_test false e = refl

record LineAdded (connection : ℕ) (old : TrailState) (book : Book) : Type 0 where
  fits : weight (closed old.book).trail + ITEM_WEIGHT ≤ MOST_WEIGHT
  book_is : book ≡ grown (Up connection) old.now (closed old.book)

up_runs : (connection : ℕ) (result : Result Unit ProxyFault) (old : TrailState) (last : Now) (book : Book) → RunsOn old → LineAdded connection old book → barred (Up connection) old.now ≡ None → Runs (Up connection) result [] old.now last
    → Calls (Up connection) result [] old.now last → (IfErr result (λ fault. fault ≡ faults.Memory → ⊥)) → RunsTrail (Up connection) result old (state_of last book (fault_in result))
up_runs connection (Ok done) old last book r l admitted row calls m = record {
  goes_on = refl;
  events = [];
  last = last;
  calls = calls;
  now = no_notes last (up_parts connection old.now last row.0 ∙ r.notes);
  whole = record { fit = (omega (arith, l.fits), tt); book = l.book_is };
}
up_runs connection (Err fault) old last book r l admitted (inl s) calls m = record {
  fault_is = refl;
  so = Failed (record {
    begins = admitted;
    events = [];
    last = last;
    stops = s;
    now = no_notes last (ap (λ (kept : KeptPart). kept.notes) s.halted.kept ∙ up_parts connection old.now s.last s.part ∙ r.notes);
    whole = record { fit = (omega (arith, l.fits), tt); book = l.book_is };
  });
}
up_runs connection (Err fault) old last book r l admitted (inr b) calls m = absurd (m b.memory)

pub up_calls : (connection : ℕ) (result : Result Unit ProxyFault) (old : TrailState) (up : Bool) (last : Now) (book : Book) (fault : Option ProxyFault) → Keeps old → old.fault ≡ None → Admits (Up connection) old.now
    → up ≡ is_some old.now.live.here → (connection ≤ MOST_CONNECTIONS → Adds ITEM_WEIGHT (with_line connection) (Ok tt) (closed old.book) book) → (MOST_CONNECTIONS < connection → book ≡ closed old.book)
    → Calls (Up connection) result [] old.now last → IfErr result (λ f. f ≡ faults.Memory → old.now.fault ≡ Some faults.Memory) → fault ≡ fault_in result → Answered (Up connection) result old up last book fault
up_calls connection result old up last book fault k none a e few many calls memory f = record { calls = known; kept = call_keeps (Up connection) result old (state_of last book fault) up k none a tt e known }
  where
    r : RunsOn old
    r = k.runs none

    no_memory : (result : Result Unit ProxyFault) → IfErr result (λ g. g ≡ faults.Memory → old.now.fault ≡ Some faults.Memory) → IfErr result (λ g. g ≡ faults.Memory → ⊥)
    no_memory (Ok done) h = tt
    no_memory (Err g) h = λ m. let never : None ≡ Some faults.Memory = sym r.fault ∙ h m in cc

    refuses : (g : ProxyFault) → barred (Up connection) old.now ≡ Some g → MOST_CONNECTIONS < connection → Refuses g result [] old.now last → RunsTrail (Up connection) result old (state_of last book (fault_in result))
    refuses g bar over h =
        subst (λ (x : Result Unit ProxyFault). RunsTrail (Up connection) x old (state_of last book (fault_in x))) (sym h.answers) (record {
          fault_is = refl;
          so = FailedAtOnce (record { because = inl bar; side = h.halted.side; token = h.halted.token; kept = h.halted.kept; book = many over });
        })

    by_bar : (b : Bool) → nat_lt MOST_CONNECTIONS connection ≡ b → CallsBarred (if b then Some (faults.Limit Connections) else None) (Up connection) result [] old.now last
        → RunsTrail (Up connection) result old (state_of last book (fault_in result))
    by_bar false t c =
        let within : connection ≤ MOST_CONNECTIONS = ltb-false MOST_CONNECTIONS connection t in
        let added : Adds ITEM_WEIGHT (with_line connection) (Ok tt) (closed old.book) book = few within in
        up_runs connection result old last book r (record { fits = added.0; book_is = added.1 }) (up_admitted connection old.now within) c calls (no_memory result memory)
    by_bar true t c = refuses (faults.Limit Connections) (ap (λ b. if b then Some (faults.Limit Connections) else None) t) (ltb-true MOST_CONNECTIONS connection t) c

    by_fault : (g : Option ProxyFault) → g ≡ None → CallsAfter g (Up connection) result [] old.now last → RunsTrail (Up connection) result old (state_of last book (fault_in result))
    by_fault None d c = by_bar (nat_lt MOST_CONNECTIONS connection) refl c
    by_fault (Some g) d c = absurd cc

    runs : TrailCalls (Up connection) result old (state_of last book (fault_in result))
    runs = subst (λ (g : Option ProxyFault). TrailAfter g (Up connection) result old (state_of last book (fault_in result))) (sym none) (by_fault old.now.fault r.fault calls)

    known : TrailCalls (Up connection) result old (state_of last book fault)
    known = subst (λ (g : Option ProxyFault). TrailCalls (Up connection) result old (state_of last book g)) (sym f) runs

pub line_refused : (connection : ℕ) (why : Unrecorded) (old : TrailState) (book : Book) → (connection ≤ MOST_CONNECTIONS → Adds ITEM_WEIGHT (with_line connection) (Err why) (closed old.book) book)
    → (MOST_CONNECTIONS < connection → refusal why ≡ Ok tt) → (barred (Up connection) old.now ≡ None) × Refused (Up connection) why old book
line_refused connection why old book few many = by_test (nat_lt MOST_CONNECTIONS connection) refl
  where
    by_test : (b : Bool) → nat_lt MOST_CONNECTIONS connection ≡ b → (barred (Up connection) old.now ≡ None) × Refused (Up connection) why old book
    by_test true e = absurd (let never : refusal why ≡ Ok tt = many (ltb-true MOST_CONNECTIONS connection e) in cc)
    by_test false e =
        let within : connection ≤ MOST_CONNECTIONS = ltb-false MOST_CONNECTIONS connection e in
        (up_admitted connection old.now within, other_change ITEM_WEIGHT ITEM_WEIGHT why (with_line connection) (λ b. b) (closed old.book) book refl (few within))

-- where none comes up, there is no line more
up_stops_not : (connection : ℕ) (fault : ProxyFault) (s last : Now) → s.live.here ≡ None → next s ≡ Rest → (fault ≡ faults.Memory → ⊥) → Runs (Up connection) (Err fault) [] s last → ⊥
up_stops_not connection fault s last none rests m (inl stops) = by_due stops.due
  where
    rests_on : next stops.last ≡ Rest
    rests_on = subst (λ (t : Now). next t ≡ Rest) (sym stops.part) (up_rests s connection none rests)

    by_due : (next stops.last ≡ Halt fault) ⊎ (fault ≡ faults.Memory) → ⊥
    by_due (inl halts) = absurd (let never : Rest ≡ Halt fault = sym rests_on ∙ halts in cc)
    by_due (inr memory) = m memory
up_stops_not connection fault s last none rests m (inr begun) = m begun.memory

pub up_keeps_rows : (connection : ℕ) (result : Result Unit ProxyFault) (old : TrailState) (start book : Book) (last : Now) → RunsOn old → old.now.live.here ≡ None → start ≡ closed old.book → (MOST_CONNECTIONS < connection → book ≡ start)
    → Calls (Up connection) result [] old.now last → IfErr result (λ f. f ≡ faults.Memory → old.now.fault ≡ Some faults.Memory) → OnErr result (book.trail.lines.rows ≡ old.book.trail.lines.rows)
up_keeps_rows connection (Ok done) old start book last r none s many calls m = tt
up_keeps_rows connection (Err fault) old start book last r none s many calls m = by_test (nat_lt MOST_CONNECTIONS connection) refl
  where
    no_memory : fault ≡ faults.Memory → ⊥
    no_memory e = absurd (let never : None ≡ Some faults.Memory = sym r.fault ∙ m e in cc)

    running : CallsBarred (barred (Up connection) old.now) (Up connection) (Err fault) [] old.now last
    running = subst (λ (g : Option ProxyFault). CallsAfter g (Up connection) (Err fault) [] old.now last) r.fault calls

    by_test : (b : Bool) → nat_lt MOST_CONNECTIONS connection ≡ b → book.trail.lines.rows ≡ old.book.trail.lines.rows
    by_test true e = ap (λ (b : Book). b.trail.lines.rows) (many (ltb-true MOST_CONNECTIONS connection e) ∙ s)
    by_test false e =
        let goes : Runs (Up connection) (Err fault) [] old.now last =
        subst (λ (g : Option ProxyFault). CallsBarred g (Up connection) (Err fault) [] old.now last) (up_admitted connection old.now (ltb-false MOST_CONNECTIONS connection e)) running in
        absurd (up_stops_not connection fault old.now last none r.rests no_memory goes)

-- ---- bytes are sent

fault_front : (s : Now) → s.fault ≡ None → front_of s ≡ front_here s.live.here
fault_front s e = ap (λ (fault : Option ProxyFault). unless_fault fault (front_here s.live.here) []) e

-- what is recorded of them
pub sent_book : (count : ℕ) (t : TrailState) (up : Bool) (bytes : List ℕ) (book : Book) → Keeps t → t.fault ≡ None → up ≡ is_some t.now.live.here → bytes ≡ take count (front_of t.now) → (up ≡ true → book ≡ with_sent bytes t.book)
    → (up ≡ false → book ≡ closed t.book) → book ≡ grown (Went count) t.now (closed t.book)
sent_book count t up bytes book k none e b goes stays = by_here t.now.live.here refl
  where
    r : RunsOn t
    r = k.runs none

    by_here : (here : Option Here) → t.now.live.here ≡ here → book ≡ grown (Went count) t.now (closed t.book)
    by_here None h = stays (e ∙ ap is_some h) ∙ sym (ap (λ (x : Option Here). with_lines (rows_written count x (closed t.book).trail.lines.rows) (closed t.book)) h)
    by_here (Some here) h =
        let is : bytes ≡ take count here.front = b ∙ ap (take count) (fault_front t.now r.fault ∙ ap front_here h) in
        goes (e ∙ ap is_some h) ∙ ap (λ (x : List ℕ). with_sent x t.book) is ∙ sym (ap (λ (x : Option Here). with_lines (rows_written count x (closed t.book).trail.lines.rows) (closed t.book)) h)

-- ---- as the calls tell it

-- the records once the room that was lent is given back
at_closed : (more : ℕ) (change : Book → Book) (result : Result Unit Unrecorded) (admitted_book book after : Book) → admitted_book ≡ book → Adds more change result admitted_book after → Adds more change result book after
at_closed more change result admitted_book book after e a = subst (λ (b : Book). Adds more change result b after) e a

pub came_context : (piece : List ℕ) (old : TrailState) (up : Bool) (start read : Book) → Keeps old → old.fault ≡ None → Admits (Came piece) old.now → up ≡ is_some old.now.live.here → start ≡ closed old.book
    → (up ≡ true → Adds (length piece) (with_piece piece) (Ok tt) start read) → (up ≡ false → read ≡ start) → Brings (Came piece) old read
came_context piece old up start read k none a e s goes stays =
    came_begins piece old up read k none a e (λ u. at_closed (length piece) (with_piece piece) (Ok tt) start (closed old.book) read s (goes u)) (λ u. stays u ∙ s)

pub came_answered : (piece : List ℕ) (answer result : Result Unit ProxyFault) (old : TrailState) (up : Bool) (start read : Book) (last now : Now) (book : Book) (fault : Option ProxyFault) → Keeps old → old.fault ≡ None → Admits (Came piece) old.now
    → up ≡ is_some old.now.live.here → start ≡ closed old.book → (up ≡ true → Adds (length piece) (with_piece piece) (Ok tt) start read) → (up ≡ false → read ≡ start) → (events : List Event) × Calls (Came piece) answer events old.now last
    → Settles answer result last now read book → fault ≡ fault_in result → Answered (Came piece) result old up now book fault
came_answered piece answer result old up start read last now book fault k none a e s goes stays does settles f =
    let b : Brings (Came piece) old read = came_context piece old up start read k none a e s goes stays in
    answered (Came piece) answer result old up last now read book fault b.context k a e does b.book_is settles f

pub came_refused : (piece : List ℕ) (why : Unrecorded) (old : TrailState) (up : Bool) (start book : Book) (fault : ProxyFault) → Keeps old → old.fault ≡ None → Admits (Came piece) old.now → up ≡ is_some old.now.live.here → start ≡ closed old.book
    → (up ≡ true → Adds (length piece) (with_piece piece) (Err why) start book) → (up ≡ false → refusal why ≡ Ok tt) → fault ≡ reason_of why → Answered (Came piece) (Err fault) old up old.now book (Some fault)
came_refused piece why old up start book fault k none a e s goes stays f =
    refused (Came piece) why old up book fault k none a tt e refl
    (piece_refused piece why old up book e (λ u. at_closed (length piece) (with_piece piece) (Err why) start (closed old.book) book s (goes u)) stays) f

pub up_answered : (connection : ℕ) (result : Result Unit ProxyFault) (old : TrailState) (up : Bool) (start : Book) (last : Now) (book : Book) (fault : Option ProxyFault) → Keeps old → old.fault ≡ None → Admits (Up connection) old.now
    → up ≡ is_some old.now.live.here → start ≡ closed old.book → (connection ≤ MOST_CONNECTIONS → Adds ITEM_WEIGHT (with_line connection) (Ok tt) start book) → (MOST_CONNECTIONS < connection → book ≡ start)
    → Calls (Up connection) result [] old.now last → IfErr result (λ f. f ≡ faults.Memory → old.now.fault ≡ Some faults.Memory) → fault ≡ fault_in result → Answered (Up connection) result old up last book fault
up_answered connection result old up start last book fault k none a e s few many calls memory f =
    up_calls connection result old up last book fault k none a e (λ h. at_closed ITEM_WEIGHT (with_line connection) (Ok tt) start (closed old.book) book s (few h)) (λ h. many h ∙ s) calls memory f

pub up_refused : (connection : ℕ) (why : Unrecorded) (old : TrailState) (up : Bool) (start book : Book) (fault : ProxyFault) → Keeps old → old.fault ≡ None → Admits (Up connection) old.now → up ≡ is_some old.now.live.here → start ≡ closed old.book
    → (connection ≤ MOST_CONNECTIONS → Adds ITEM_WEIGHT (with_line connection) (Err why) start book) → (MOST_CONNECTIONS < connection → refusal why ≡ Ok tt) → fault ≡ reason_of why
    → Answered (Up connection) (Err fault) old up old.now book (Some fault)
up_refused connection why old up start book fault k none a e s few many f =
    let r : (barred (Up connection) old.now ≡ None) × Refused (Up connection) why old book =
    line_refused connection why old book (λ h. at_closed ITEM_WEIGHT (with_line connection) (Err why) start (closed old.book) book s (few h)) many in
    refused (Up connection) why old up book fault k none a tt e r.0 r.1 f

-- ---- bytes are lent and sent

pub record LentSo (result : Result Unit ProxyFault) (old : TrailState) (up : Bool) (book : Book) (fault : Option ProxyFault) : Type 0 where
  pub lends : Lends result old (state_of old.now book fault)
  pub kept : IsKept up (state_of old.now book fault)

lent_so : (result : Result Unit ProxyFault) (old : TrailState) (up : Bool) (book : Book) (fault : Option ProxyFault) → Keeps old → old.fault ≡ None → up ≡ is_some old.now.live.here → RunsLends result old (state_of old.now book fault)
    → LentSo result old up book fault
lent_so result old up book fault k none e r =
    let lends : Lends result old (state_of old.now book fault) = subst (λ (f : Option ProxyFault). LendsAfter f result old (state_of old.now book fault)) (sym none) r in
    record { lends = lends; kept = record { keeps = lends_keep result old (state_of old.now book fault) k lends; here = λ goes_on. e } }

pub room_made : (old : TrailState) (up : Bool) (front : List ℕ) (start book : Book) → Keeps old → old.fault ≡ None → up ≡ is_some old.now.live.here → start ≡ closed old.book → front ≡ front_of old.now
    → Adds (length front) (with_room (length front)) (Ok tt) start book → LentSo (Ok tt) old up book old.fault
room_made old up front start book k none e s f a =
    lent_so (Ok tt) old up book old.fault k none e (
      omega (arith, a.0, ap length f, ap (λ (b : Book). weight b.trail) s, same_weight 0 old.book),
      ap (λ (b : Book). state_of old.now b old.fault) (a.1 ∙ ap (with_room (length front)) s ∙ ap (λ (bytes : List ℕ). with_room (length bytes) old.book) f),
    )

not_lent : (why : Unrecorded) (old : TrailState) (front : List ℕ) (book : Book) → front ≡ front_of old.now → Adds (length front) (with_room (length front)) (Err why) (closed old.book) book
    → NotLent (reason_of why) old (state_of old.now book (Some (reason_of why)))
not_lent whys.TooHeavy old front book f a = record { because = inl (refl, omega (arith, a.0, ap length f, same_weight 0 old.book)); fault_is = refl; now = refl; book = a.1 }
not_lent whys.Memory old front book f a = record { because = inr refl; fault_is = refl; now = refl; book = a }

pub room_refused : (why : Unrecorded) (old : TrailState) (up : Bool) (front : List ℕ) (start book : Book) (fault : ProxyFault) → Keeps old → old.fault ≡ None → up ≡ is_some old.now.live.here → start ≡ closed old.book → front ≡ front_of old.now
    → Adds (length front) (with_room (length front)) (Err why) start book → fault ≡ reason_of why → LentSo (Err fault) old up book (Some fault)
room_refused why old up front start book fault k none e s f a r =
    lent_so (Err fault) old up book (Some fault) k none e
    (subst (λ (g : ProxyFault). NotLent g old (state_of old.now book (Some g))) (sym r)
    (not_lent why old front book f (at_closed (length front) (with_room (length front)) (Err why) start (closed old.book) book s a)))

up_went : (count : ℕ) (s : Now) → is_some (step (Went count) s).live.here ≡ is_some s.live.here
unfolding step
up_went count s = up_changed (here_sent count) s.live.here

pub record SentSo (count : ℕ) (old : TrailState) (up : Bool) (now : Now) (book : Book) : Type 0 where
  pub sends : Sends count old (state_of now book old.fault)
  pub kept : IsKept up (state_of now book old.fault)

pub sent_so : (count : ℕ) (old : TrailState) (up : Bool) (now : Now) (bytes : List ℕ) (book : Book) → Keeps old → old.fault ≡ None → up ≡ is_some old.now.live.here → count ≤ old.book.trail.lines.room → bytes ≡ take count (front_of old.now)
    → (up ≡ true → book ≡ with_sent bytes old.book) → (up ≡ false → book ≡ closed old.book) → MatchOption old.now.fault ((events : List Event) × Row (step (Went count) old.now) events now Rest) (λ f. now ≡ old.now)
    → SentSo count old up now book
sent_so count old up now bytes book k none e l b goes stays m =
    let row : (events : List Event) × Row (step (Went count) old.now) events now Rest =
    match_none old.now.fault ((events : List Event) × Row (step (Went count) old.now) events now Rest) (λ f. now ≡ old.now) (k.runs none).fault m in
    let sends : Sends count old (state_of now book old.fault) = record { goes_on = none; events = row.0; row = row.1; book = sent_book count old up bytes book k none e b goes stays } in
    record {
      sends = sends;
      kept = record {
        keeps = sends_keep count old (state_of now book old.fault) none k l sends;
        here = λ goes_on. e ∙ sym (up_part (step (Went count) old.now) now row.0 row.1.0 ∙ up_went count old.now);
      };
    }
