-- What each good call of a proxy with its records is in a run.
use Rattle.std.proofs.Common.{◌≡◌, ℕ, List, [], ◌∷◌, take, length, Bool, true, false, not, Option, Some, None, Ok, Err, refl, sym, ap, subst, ◌∙◌, arith, inl, inr}
use Rattle.std.proofs.lemmas.List.{append-nil}
use Rattle.wp_outside.specs.declared.pipe_items.PipeItem.{PipeItem}
use Rattle.wp_outside.specs.declared.pipe_items.PipeItem.TheVariants as pieces
use Rattle.half_model.specs.declared.items.PeerIn.{PeerIn}
use Rattle.half_model.specs.declared.items.PeerIn.TheVariants as items
use Rattle.wl_objects.specs.Entries.{Tracked}
use Rattle.half_model.specs.Tables.{Tables}
use Rattle.half_model.specs.PipeTurn as pipes
use Rattle.half_model.specs.PipeTurn.{PipeTurn, pipe_turn}
use Rattle.pair_model.specs.Steps.{Here}
use Rattle.side_model.specs.declared.fault.ProxyFault.{ProxyFault}
use Rattle.side_model.specs.Books.{Book, rows_read, rows_written, grown, grow_all, closed}
use Rattle.side_model.specs.Calls.{Part, Row, CallsBarred, CallsAfter, Calls, barred}
use Rattle.side_model.specs.Due.{hear, next}
use Rattle.side_model.specs.Events.{Event, Fed, Up, Came, Went, Asks, Chose, Rest}
use Rattle.side_model.specs.Marks.{mark_pipe, mark_dropped}
use Rattle.side_model.specs.RowLaws.{AtMostChose}
use Rattle.side_model.specs.Shows.{front_of, front_here, unless_fault, is_open}
use Rattle.side_model.specs.Sound.{Admits}
use Rattle.side_model.specs.State.{Now, Closing, Open, Asked, Made}
use Rattle.side_model.specs.Steps as steps
use Rattle.side_model.specs.Steps.{step, fed_pipe, gone}
use Rattle.side_model.specs.Trails.{TrailState, with_notes, Done, TrailAfter, TrailCalls, RunsLends, LendsAfter}
use Rattle.side_model.proofs.Calms.{up_rests, went_then_chooses}
use Rattle.side_model.proofs.Dues.{IsQuiet, all_rest, is_quiet, hears_none}
use Rattle.side_model.proofs.Parts.{FollowsOn}
use Rattle.side_model.proofs.RowProofs.{none_after}
use Rattle.side_model.proofs.TrailParts.{begins}
use Rattle.pair_runs.specs.Leaving.{Passes}
use Rattle.pair_runs.specs.Linking.{written, read}
use Rattle.pair_runs.specs.Sides.{SideState, fed, asked, seen, side_seen, with_inside}
use Rattle.pair_runs.specs.WorkLaws.{RunsOn, FedWorks, CameWorks, AsksWorks, UpIs, DownIs, LendsIs, SendsIs}
use Rattle.pair_runs.specs.Working.{Works}
use Rattle.pair_runs.proofs.Composing.{leaves_same, works_same, works_then}
use Rattle.pair_runs.proofs.Ends.{front_same, front_more}
use Rattle.pair_runs.proofs.Rowing.{row_works, quiet_row, marked_book}
use Rattle.pair_runs.proofs.Tracking.{passes_same, objects_in, pipe_objects}

-- ---- a call that rests again

pub ok_done : (event : Event) (old new : TrailState) → old.fault ≡ None → TrailCalls event (Ok tt) old new → Done event old new
ok_done event old new none calls = subst (λ (fault : Option ProxyFault). TrailAfter fault event (Ok tt) old new) none calls

ok_row : (event : Event) (events : List Event) (old last : Now) → old.fault ≡ None → Calls event (Ok tt) events old last → Row (step event old) events last Rest
ok_row event events old last none calls = by_barred (barred event old) (subst (λ (fault : Option ProxyFault). CallsAfter fault event (Ok tt) events old last) none calls)
  where
    by_barred : (bar : Option ProxyFault) → CallsBarred bar event (Ok tt) events old last → Row (step event old) events last Rest
    by_barred None r = r
    by_barred (Some fault) r = absurd (let never : Ok tt ≡ Err fault = r.answers in cc)

-- behind it the events that are due
pub record Ran (event : Event) (old new : TrailState) : Type 0 where
  pub events : List Event
  pub last : Now
  pub row : Row (step event old.now) events last Rest
  pub now : new.now ≡ with_notes [] last
  pub is : (half : ℕ) → side_seen half new ≡ seen half last (grow_all events (step event old.now) (grown event old.now (closed old.book)))

pub ran_by : (event : Event) (old new : TrailState) → RunsOn old → TrailCalls event (Ok tt) old new → Ran event old new
ran_by event old new r calls =
    let d : Done event old new = ok_done event old new r.goes_on calls in
    record {
      events = d.events;
      last = d.last;
      row = ok_row event d.events old.now d.last (r.keeps.runs r.goes_on).fault d.calls;
      now = d.now;
      is = λ half. ap (λ (s : Now). seen half s new.book) d.now ∙ ap (λ (book : Book). seen half d.last book) d.whole.book;
    }

-- it may be called so
pub after_event : (event : Event) (old : TrailState) → RunsOn old → Admits event old.now → FollowsOn (step event old.now) (grown event old.now (closed old.book))
after_event event old r admits = (begins old event r.goes_on r.keeps admits).after

may_work : (half : ℕ) (event : Event) (old new : TrailState) → FollowsOn (step event old.now) (grown event old.now (closed old.book)) → Ran event old new → Works true (seen half (step event old.now) (grown event old.now (closed old.book))) (side_seen half new)
may_work half event old new f r =
    subst (λ (b : SideState). Works true (seen half (step event old.now) (grown event old.now (closed old.book))) b) (sym (r.is half))
    (row_works half (step event old.now) r.last (grown event old.now (closed old.book)) r.events f r.row.0)

pub quiet_work : (half : ℕ) (event : Event) (old new : TrailState) → FollowsOn (step event old.now) (grown event old.now (closed old.book)) → hear (step event old.now) ≡ Rest → Ran event old new
    → Works false (seen half (step event old.now) (grown event old.now (closed old.book))) (side_seen half new)
quiet_work half event old new f quiet r =
    subst (λ (b : SideState). Works false (seen half (step event old.now) (grown event old.now (closed old.book))) b) (sym (r.is half))
    (quiet_row half (step event old.now) r.last (grown event old.now (closed old.book)) r.events f quiet r.row.0)

-- ---- an item of the peer

same_works : (hears : Bool) {a b : SideState} → a ≡ b → Works hears a b
same_works hears {a} {b} e = subst (λ (x : SideState). Works hears a x) e (works_same hears a)

dropped_works : (half : ℕ) (item : PipeItem) (s t : Now) (book : Book) → seen half t book ≡ seen half s book
    → Works false (seen half s book) (seen half t (marked_book s.side (mark_dropped item) book))
dropped_works half (pieces.Bytes rid bytes) s t book e = same_works false (sym e)
dropped_works half (pieces.End rid) s t book e = same_works false (sym e)
dropped_works half (pieces.Shut rid) s t book e = same_works false (sym e)

-- with other objects, which are the same
with_objects : (half : ℕ) (s : Now) (book : Book) (tables : Tables) → tables.objects.tracked ≡ s.live.tables.objects.tracked → seen half (fed_pipe (pipes.Drops tables) s) book ≡ seen half s book
with_objects half s book tables e = ap (λ (objects : Tracked). with_inside (λ inside. record inside { objects = objects }) (seen half s book)) e

pipe_works : (half : ℕ) (item : PipeItem) (s : Now) (book : Book) (it : PipeTurn) → objects_in s.live.tables it ≡ s.live.tables.objects.tracked
    → Works false (seen half s book) (seen half (fed_pipe it s) (marked_book s.side (mark_pipe item it) book))
pipe_works half item s book pipes.Barred e = works_same false (seen half s book)
pipe_works half item s book (pipes.Drops tables) e = dropped_works half item s (fed_pipe (pipes.Drops tables) s) book (with_objects half s book tables e)
pipe_works half item s book (pipes.Makes frame tables) e = record {
  took = [];
  inside = record { messages = tt; inlet = leaves_same s.live.sending.inlet; asked = refl; none = λ n. refl };
  awaits = record { stay = λ e. (refl, refl); begin = λ n. absurd (n refl) };
  trail = record { side = refl; taken = sym (append-nil book.trail.taken); made = front_more book.trail.made _; copies = front_more book.trail.copies _; lines = refl; accepted = omega arith };
  order = front_same book.order;
  passes = subst (λ (objects : Tracked). Passes book.trail.side [] s.live.tables.objects.tracked objects book.order book.order) (sym e) (passes_same book.trail.side s.live.tables.objects.tracked book.order);
  silent = λ n. record { accepted = refl; acknowledged = refl; given = refl; order = λ m. refl; objects = λ m. e };
}

pub fed_base : (half : ℕ) (item : PeerIn) (s : Now) (book : Book) → Works false (fed item (seen half s book)) (seen half (step (Fed item) s) (grown (Fed item) s (closed book)))
unfolding step
fed_base half (items.Bytes piece) s book = works_same false (fed (items.Bytes piece) (seen half s book))
fed_base half (items.Handle handle) s book = works_same false (fed (items.Handle handle) (seen half s book))
fed_base half (items.Note note) s book = works_same false (fed (items.Note note) (seen half s book))
fed_base half (items.Pipe item) s book = pipe_works half item s (closed book) (pipe_turn s.live.tables s.live.taking item) (pipe_objects s.live.tables s.live.taking item)

pipe_here : (it : PipeTurn) (s : Now) → (fed_pipe it s).live.here ≡ s.live.here
pipe_here pipes.Barred s = refl
pipe_here (pipes.Drops tables) s = refl
pipe_here (pipes.Makes frame tables) s = refl

pub fed_here : (item : PeerIn) (s : Now) → (step (Fed item) s).live.here ≡ s.live.here
unfolding step
fed_here (items.Bytes piece) s = refl
fed_here (items.Handle handle) s = refl
fed_here (items.Note note) s = refl
fed_here (items.Pipe item) s = pipe_here (pipe_turn s.live.tables s.live.taking item) s

pub quiet_still : (event : Event) (s : Now) → next s ≡ Rest → (step event s).live.here ≡ s.live.here → hear (step event s) ≡ Rest
quiet_still event s rest e =
    hears_none (step event s) (subst (λ (here : Option Here). IsQuiet here) (sym e) (is_quiet s (all_rest s rest).hears))

pub fed_works : FedWorks
fed_works half item old new r admits calls =
    works_then false _ _ _ (fed_base half item old.now old.book)
    (quiet_work half (Fed item) old new (after_event (Fed item) old r admits) (quiet_still (Fed item) old.now (r.keeps.runs r.goes_on).rests (fed_here item old.now)) (ran_by (Fed item) old new r calls))

-- ---- the link

pub came_base : (half : ℕ) (piece : List ℕ) (here : Here) (s : Now) (book : Book) (up : Option Here) → s.live.here ≡ up → up ≡ Some here
    → seen half (step (Came piece) s) (grown (Came piece) s (closed book)) ≡ read piece (seen half s book)
unfolding step
came_base half piece here s book up e d = ap (λ (it : Option Here). seen half s (record book { trail = record book.trail { lines = record { rows = rows_read piece it book.trail.lines.rows; room = 0 } } })) (e ∙ d)

pub came_works : CameWorks
came_works half piece here old new r admits up calls =
    subst (λ (a : SideState). Works true a (side_seen half new)) (came_base half piece here old.now old.book old.now.live.here refl up)
    (may_work half (Came piece) old new (after_event (Came piece) old r admits) (ran_by (Came piece) old new r calls))

-- where nothing is due behind the event
pub still_is : (half : ℕ) (event : Event) (old new : TrailState) → next (step event old.now) ≡ Rest → Ran event old new
    → side_seen half new ≡ seen half (step event old.now) (grown event old.now (closed old.book))
still_is half event old new rest r =
    let none : r.events ≡ [] = none_after (step event old.now) r.last r.events rest r.row.0 in
    let part : Part (step event old.now) [] r.last = subst (λ (events : List Event). Part (step event old.now) events r.last) none r.row.0 in
    let book : Book = grown event old.now (closed old.book) in
    r.is half ∙ ap (λ (events : List Event). seen half r.last (grow_all events (step event old.now) book)) none ∙ ap (λ (s : Now). seen half s book) part

pub up_is : UpIs
unfolding step
up_is half connection old new r none calls =
    still_is half (Up connection) old new (up_rests old.now connection none (r.keeps.runs r.goes_on).rests) (ran_by (Up connection) old new r calls)

pub down_is : DownIs
unfolding step
down_is half old = refl

pub lends_is : LendsIs
lends_is half old new r lends =
    let d : RunsLends (Ok tt) old new = subst (λ (fault : Option ProxyFault). LendsAfter fault (Ok tt) old new) r.goes_on lends in
    ap (λ (t : TrailState). side_seen half t) d.1

-- ---- bytes are sent

chose_same : (half : ℕ) (s t : Now) (book : Book) (events : List Event) → Part s events t → AtMostChose events → seen half t book ≡ seen half s book
unfolding step
chose_same half s t book events p (inl e) =
    let same : t ≡ s = subst (λ (es : List Event). Part s es t) e p in
    ap (λ (u : Now). seen half u book) same
chose_same half s t book events p (inr e) =
    let part : Part s (Chose ∷ []) t = subst (λ (es : List Event). Part s es t) e p in
    ap (λ (u : Now). seen half u book) part.1

went_base : (half n : ℕ) (here : Here) (s : Now) (book : Book) → s.live.here ≡ Some here
    → seen half (step (Went n) s) (grown (Went n) s (closed book)) ≡ written (take n here.front) (seen half s book)
unfolding step
went_base half n here s book up = ap (λ (it : Option Here). seen half s (record book { trail = record book.trail { lines = record { rows = rows_written n it book.trail.lines.rows; room = 0 } } })) up

pub fault_front : (s : Now) → s.fault ≡ None → front_of s ≡ front_here s.live.here
fault_front s e = ap (λ (fault : Option ProxyFault). unless_fault fault (front_here s.live.here) []) e

pub sends_is : SendsIs
sends_is half n here old new r up few d =
    let on = r.keeps.runs r.goes_on in
    let admits : Admits (Went n) old.now = omega (arith, few, on.lent, ap length (fault_front old.now on.fault)) in
    let book : Book = grown (Went n) old.now (closed old.book) in
    ap (λ (b : Book). seen half new.now b) d.book
    ∙ chose_same half (step (Went n) old.now) new.now book d.events d.row.0 (went_then_chooses old.now new.now n d.events on.sound admits on.rests d.row)
    ∙ went_base half n here old.now old.book up

-- ---- the wish to close

pub asks_base : (half reason : ℕ) (s : Now) (book : Book) (closing : Closing) → s.kept.closing ≡ closing
    → seen half (step (Asks reason) s) (grown (Asks reason) s (closed book)) ≡ asked (seen half s book)
unfolding step
asks_base half reason s book closing e = ap (λ (said : Bool). with_inside (λ inside. record inside { asked = said }) (seen half s book)) (is_asked s.kept.closing)
  where
    is_asked : (closing : Closing) → not (is_open (steps.asked reason closing)) ≡ true
    is_asked Open = refl
    is_asked (Asked other) = refl
    is_asked Made = refl

pub asks_works : AsksWorks
unfolding step
asks_works half reason old new r admits calls =
    subst (λ (a : SideState). Works false a (side_seen half new)) (asks_base half reason old.now old.book old.now.kept.closing refl)
    (quiet_work half (Asks reason) old new (after_event (Asks reason) old r admits) (quiet_still (Asks reason) old.now (r.keeps.runs r.goes_on).rests refl) (ran_by (Asks reason) old new r calls))
