-- Each event but that which gives an item leaves the copies whose receipts were given.
--
-- The group of the last message records one copy and one receipt for each job that is back. No other event records a copy, and none but the one that gives takes a receipt away.
use Rattle.std.proofs.Common.{◌≡◌, suc, ◌≤◌, List, [], ◌∷◌, ◌++◌, map, length, Option, Some, None, Result, Ok, Err, refl, sym, ap, subst, ◌∙◌, MatchOption, arith, length-append, inl, inr}
use Rattle.std.proofs.lemmas.Bool.{cond_both}
use Rattle.std.proofs.lemmas.List.{length-map}
use Rattle.wp_outside.specs.declared.pipe_items.PipeItem.{PipeItem}
use Rattle.wp_outside.specs.declared.pipe_items.PipeItem.TheVariants as pieces
use Rattle.half_model.specs.declared.items.PeerIn.TheVariants as inputs
use Rattle.half_model.specs.declared.items.PeerOut.{PeerOut}
use Rattle.half_model.specs.declared.notes.CopyRecord.{CopyRecord}
use Rattle.half_model.specs.Group.{Owed}
use Rattle.half_model.specs.Jobs.{Job, JobState, Waits, IsOut, IsBack, all_back, copies_of, receipts_of}
use Rattle.half_model.specs.PipeTurn as pipes
use Rattle.half_model.specs.PipeTurn.{PipeTurn, pipe_turn}
use Rattle.half_model.specs.Turn as turns
use Rattle.half_model.specs.Turn.{Turn, turn, MadeGroup, made_of, group_due}
use Rattle.side_model.specs.declared.fault.ProxyFault.{ProxyFault}
use Rattle.side_model.specs.Books.{Book, marked_trail, TrailRecord, grown, grow_all, closed}
use Rattle.side_model.specs.Calls.{Part, Row}
use Rattle.side_model.specs.Events.{Event, Fed, Handed, Lent, Up, Down, Came, Went, Gave, Asks, Told, Heard, Took, Grouped, Ended, Chose, Rest}
use Rattle.side_model.specs.Marks.{mark_pipe, mark_dropped, mark_taken, mark_grouped, mark_ended}
use Rattle.side_model.specs.RowLaws.{AtMostChose}
use Rattle.side_model.specs.State.{Now, Closing, Open, Asked, Made}
use Rattle.side_model.specs.Steps.{step, fed_pipe, took, grouped, ended, receipt_item}
use Rattle.side_model.specs.Trails.{TrailState, RunsOn, Keeps, RunsTrail, TrailAfter, RunsLends, LendsAfter}
use Rattle.side_model.specs.Shows.{front_of, front_here, unless_fault}
use Rattle.side_model.specs.Sound.{Admits}
use Rattle.side_model.proofs.Calms.{went_then_chooses}
use Rattle.side_model.proofs.Dues.{DueIn, InHear, InGroup, InTreat, InEnd, InChoose, due_in, frame_due, group_is_due, turn_due, end_is_due, choice_due}
use Rattle.receipt_laws.proofs.Calls.{not_failed, good_row}
use Rattle.copy_laws.specs.Given.{given_copies, GivesNothing}
use Rattle.copy_laws.specs.GivenLaws.{NoneGivenAtFirst, CallsLeaveGiven, StepsLeaveGiven, LendsLeaveGiven, SendsLeaveGiven}
use Rattle.copy_laws.proofs.Lists.{Ends, ends_are, ends_at, ends_more, ends_none, are_as_many}

-- ---- one event

pub as_many : (jobs : List Job) → length (copies_of jobs) ≡ length (receipts_of jobs)
as_many [] = refl
as_many (job ∷ jobs) = by_state job.state (as_many jobs)
  where
    by_state : (state : JobState) → length (copies_of jobs) ≡ length (receipts_of jobs)
        → length (copies_of (record job { state = state } ∷ jobs)) ≡ length (receipts_of (record job { state = state } ∷ jobs))
    by_state (Waits eye) rest = rest
    by_state IsOut rest = rest
    by_state (IsBack words receipt) rest = ap suc rest

abbrev OnFound : Option MadeGroup → Type 0
OnFound found = MatchOption found (Unit {0}) (λ it. length it.copies ≡ length it.receipts)

found_many : (owes : Option Owed) (jobs : List Job) → OnFound (group_due owes jobs)
found_many None jobs = tt
found_many (Some owed) jobs = cond_both (all_back jobs) (Some (made_of owed jobs)) None OnFound (λ e. as_many jobs) (λ e. tt)

-- both lists behind an event
abbrev EndsOn : List CopyRecord → TrailRecord → Now → Type 0
EndsOn start trail s = Ends start trail.copies s.live.receipts

grouped_ends : (start : List CopyRecord) (found : Option MadeGroup) (s : Now) (trail : TrailRecord) → EndsOn start trail s → OnFound found
    → EndsOn start (marked_trail (mark_grouped found) trail) (grouped found s)
grouped_ends start None s trail h f = h
grouped_ends start (Some it) s trail h f =
    ends_more start trail.copies it.copies s.live.receipts (map receipt_item it.receipts) h (f ∙ sym (length-map it.receipts receipt_item))

took_ends : (start : List CopyRecord) (it : Turn) (s : Now) (trail : TrailRecord) → EndsOn start trail s → EndsOn start (marked_trail (mark_taken it) trail) (took it s)
took_ends start turns.Idle s trail h = h
took_ends start (turns.Refuses fault) s trail h = h
took_ends start (turns.Takes it) s trail h = h

ended_ends : (start : List CopyRecord) (it : Closing) (s : Now) (trail : TrailRecord) → EndsOn start trail s → EndsOn start (marked_trail (mark_ended it) trail) (ended it s)
ended_ends start Open s trail h = h
ended_ends start (Asked reason) s trail h = ends_none start trail.copies s.live.receipts h
ended_ends start Made s trail h = h

dropped_ends : (start : List CopyRecord) (item : PipeItem) (s : Now) (trail : TrailRecord) → EndsOn start trail s → EndsOn start (marked_trail (mark_dropped item) trail) s
dropped_ends start (pieces.End rid) s trail h = h
dropped_ends start item s trail h = h

pipe_ends : (start : List CopyRecord) (item : PipeItem) (it : PipeTurn) (s : Now) (trail : TrailRecord) → EndsOn start trail s
    → EndsOn start (marked_trail (mark_pipe item it) trail) (fed_pipe it s)
pipe_ends start item pipes.Barred s trail h = h
pipe_ends start item (pipes.Drops tables) s trail h = dropped_ends start item s trail h
pipe_ends start item (pipes.Makes frame tables) s trail h = ends_none start trail.copies s.live.receipts h

pub events_end : (start : List CopyRecord) (event : Event) (s : Now) (book : Book) → GivesNothing event → EndsOn start book.trail s
    → EndsOn start (grown event s book).trail (step event s)
unfolding step
events_end start (Fed (inputs.Bytes bytes)) s book l h = h
events_end start (Fed (inputs.Handle handle)) s book l h = h
events_end start (Fed (inputs.Note note)) s book l h = h
events_end start (Fed (inputs.Pipe item)) s book l h = pipe_ends start item (pipe_turn s.live.tables s.live.taking item) s book.trail h
events_end start (Handed done) s book l h = h
events_end start Lent s book l h = h
events_end start (Up connection) s book l h = h
events_end start Down s book l h = h
events_end start (Came piece) s book l h = h
events_end start (Went n) s book l h = h
events_end start Gave s book l h = absurd l
events_end start (Asks reason) s book l h = h
events_end start Told s book l h = h
events_end start (Heard frame) s book l h = h
events_end start Took s book l h = took_ends start (turn s.live.tables s.live.sending) s book.trail h
events_end start Grouped s book l h = grouped_ends start (group_due s.live.sending.owes s.kept.jobs) s book.trail h (found_many s.live.sending.owes s.kept.jobs)
events_end start Ended s book l h = ended_ends start s.kept.closing s book.trail h
events_end start Chose s book l h = h

-- ---- events that are due

due_gives : (s : Now) (event : Event) → DueIn s event → GivesNothing event
due_gives s event (InHear e) = subst GivesNothing (sym (frame_due s event e).is) tt
due_gives s event (InGroup a e) = subst GivesNothing (sym (group_is_due s event e).is) tt
due_gives s event (InTreat a b e) = subst GivesNothing (sym (turn_due s event e).is) tt
due_gives s event (InEnd a b c e) = subst GivesNothing (sym (end_is_due s event e).is) tt
due_gives s event (InChoose a b c d e) = subst GivesNothing (sym (choice_due s event e).is) tt

pub parts_end : (start : List CopyRecord) (s t : Now) (events : List Event) (book : Book) → EndsOn start book.trail s → Part s events t → EndsOn start (grow_all events s book).trail t
parts_end start s t [] book h p = subst (λ (u : Now). EndsOn start book.trail u) (sym p) h
parts_end start s t (event ∷ events) book h p =
    parts_end start (step event s) t events (grown event s book) (events_end start event s book (due_gives s event (due_in s event p.0)) h) p.1

-- ---- calls

pub within : (t : TrailState) → Keeps t → t.fault ≡ None → length t.now.live.receipts ≤ length t.book.trail.copies
within t k none =
    let r : RunsOn t = k.runs none in
    let gone : List PeerOut = r.follows.receipts.gone in
    omega (arith, are_as_many t.book.trail.copies (gone ++ t.now.live.receipts) r.follows.receipts.all, length-append gone t.now.live.receipts)

pub ends_in : (t : TrailState) → Keeps t → t.fault ≡ None → EndsOn (given_copies t) t.book.trail t.now
ends_in t k none = ends_at t.book.trail.copies t.now.live.receipts (within t k none)

pub none_given_at_first : NoneGivenAtFirst
none_given_at_first side token = refl

pub calls_leave_given : CallsLeaveGiven
calls_leave_given event result old new l k calls none = by_fault old.fault refl calls
  where
    by_result : (result : Result Unit ProxyFault) → old.fault ≡ None → RunsTrail event result old new → given_copies new ≡ given_copies old
    by_result (Ok done) was d =
        let start : List CopyRecord = given_copies old in
        let r : Row (step event old.now) d.events d.last Rest = good_row event d.events old.now d.last d.calls in
        let first : EndsOn start (grown event old.now (closed old.book)).trail (step event old.now) = events_end start event old.now (closed old.book) l (ends_in old k was) in
        let last : EndsOn start (grow_all (event ∷ d.events) old.now (closed old.book)).trail d.last =
        parts_end start (step event old.now) d.last d.events (grown event old.now (closed old.book)) first r.0 in
        let there : EndsOn start new.book.trail d.last = subst (λ (b : Book). EndsOn start b.trail d.last) (sym d.whole.book) last in
        let here : EndsOn start new.book.trail new.now =
        subst (λ (them : List PeerOut). Ends start new.book.trail.copies them) (sym (ap (λ (u : Now). u.live.receipts) d.now)) there in
        ends_are start new.book.trail.copies new.now.live.receipts here
    by_result (Err fault) was f = not_failed fault new.fault f.fault_is none

    by_fault : (fault : Option ProxyFault) → old.fault ≡ fault → TrailAfter fault event result old new → given_copies new ≡ given_copies old
    by_fault None e r = by_result result e r
    by_fault (Some fault) e r = not_failed fault new.fault (ap (λ (t : TrailState). t.fault) r.same ∙ e) none

pub steps_leave_given : StepsLeaveGiven
steps_leave_given event old l k none =
    let start : List CopyRecord = given_copies old in
    let book : Book = grown event old.now (closed old.book) in
    ends_are start book.trail.copies (step event old.now).live.receipts (events_end start event old.now (closed old.book) l (ends_in old k none))

given_same : (old new : TrailState) → new.now ≡ old.now → new.book.trail.copies ≡ old.book.trail.copies → given_copies new ≡ given_copies old
given_same old new n c = cc

pub lends_leave_given : LendsLeaveGiven
lends_leave_given result old new d = by_fault old.fault d
  where
    by_result : (result : Result Unit ProxyFault) → RunsLends result old new → given_copies new ≡ given_copies old
    by_result (Ok done) l = ap given_copies l.1
    by_result (Err fault) l = given_same old new l.now (ap (λ (b : Book). b.trail.copies) l.book)

    by_fault : (fault : Option ProxyFault) → LendsAfter fault result old new → given_copies new ≡ given_copies old
    by_fault None l = by_result result l
    by_fault (Some fault) l = ap given_copies l.same

fault_front : (s : Now) → s.fault ≡ None → front_of s ≡ front_here s.live.here
fault_front s e = ap (λ (fault : Option ProxyFault). unless_fault fault (front_here s.live.here) []) e

-- behind bytes that went a front is chosen at most, which records nothing
chosen_same : (s t : Now) (book : Book) (events : List Event) → Part s events t → AtMostChose events → (grow_all events s book).trail.copies ≡ book.trail.copies
unfolding step
chosen_same s t book events p (inl e) = ap (λ (es : List Event). (grow_all es s book).trail.copies) e
chosen_same s t book events p (inr e) = ap (λ (es : List Event). (grow_all es s book).trail.copies) e

pub sends_leave_given : SendsLeaveGiven
sends_leave_given n old new none k l d =
    let r : RunsOn old = k.runs none in
    let admits : Admits (Went n) old.now = omega (arith, l, r.lent, ap length (fault_front old.now r.fault)) in
    let most : AtMostChose d.events = went_then_chooses old.now new.now n d.events r.sound admits r.rests d.row in
    let start : List CopyRecord = given_copies old in
    let sent : Now = step (Went n) old.now in
    let book : Book = grown (Went n) old.now (closed old.book) in
    let first : EndsOn start book.trail sent = events_end start (Went n) old.now (closed old.book) tt (ends_in old k none) in
    let last : EndsOn start (grow_all d.events sent book).trail new.now = parts_end start sent new.now d.events book first d.row.0 in
    let same : (grow_all d.events sent book).trail.copies ≡ new.book.trail.copies =
    chosen_same sent new.now book d.events d.row.0 most ∙ sym (ap (λ (b : Book). b.trail.copies) d.book) in
    ends_are start new.book.trail.copies new.now.live.receipts (subst (λ (copies : List CopyRecord). Ends start copies new.now.live.receipts) same last)
