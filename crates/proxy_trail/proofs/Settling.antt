-- A call of a proxy whose notes are recorded is a call of the proxy with its records. What was noted are the notes of the event from
-- outside and of those that were due; so where all of them are recorded, the record is the one behind these events, and where one is
-- too heavy, it is the one behind the events before it, for once a note is too heavy all frames that came are heard.
use Rattle.std.proofs.Common.{◌≡◌, ℕ, ◌+◌, ◌<◌, ◌≤◌, List, [], ◌∷◌, ◌++◌, Option, Some, None, Result, Ok, Err, refl, sym, ap, subst, ◌∙◌, arith, inl, inr, ◌⊎◌}
use Rattle.std.proofs.lemmas.List.{append-nil}
use Rattle.half_model.specs.declared.notes.Noted.{Noted}
use Rattle.half_model.specs.Log.{Mark}
use Rattle.pair_model.specs.Lines.{Line}
use Rattle.side_model.specs.declared.fault.ProxyFault.{ProxyFault}
use Rattle.side_model.specs.declared.fault.ProxyFault.TheVariants as faults
use Rattle.side_model.specs.Books.{Book, MOST_WEIGHT, weight, mark_cost, line_cost, rows_after, given_after, marked_trail, marked_order, grown, grow_all, closed, Fit}
use Rattle.side_model.specs.Calls.{Part, Row, Stops, NotBegun, Runs, Refuses, CallsBarred, CallsAfter, Calls, barred, Halted}
use Rattle.side_model.specs.Due.{hear, next}
use Rattle.side_model.specs.Events.{Event, Fed, Handed, Up, Came, Asks, Told, Do, Rest}
use Rattle.side_model.specs.Follows.{Follows}
use Rattle.side_model.specs.Marks.{mark_of, notes_of}
use Rattle.side_model.specs.State.{Now, KeptPart}
use Rattle.side_model.specs.Steps.{step}
use Rattle.side_model.specs.Trails.{TrailState, with_notes, step_all, Whole, Done, StopsRecording, Fails, FailsAtOnce, Begun, LacksMemory, LIMIT_TRAIL, FailsSo, HeavyThen, Failed, FailedAtOnce, NoMemory, FailsNow, RunsTrail, TrailAfter, TrailCalls}
use Rattle.side_model.proofs.Dues.{all_rest}
use Rattle.side_model.proofs.Noting.{notes_grow}
use Rattle.side_model.proofs.Parts.{same_step, FollowsOn, follows_part, fits_part, part_at}
use Rattle.side_model.proofs.TrailParts.{NotRun, ran, Begins}
use Rattle.side_model.proofs.Weighing.{weight_grows}
use Rattle.trail_records.specs.declared.unrecorded.Unrecorded.{Unrecorded}
use Rattle.trail_records.specs.declared.unrecorded.Unrecorded.TheVariants.{TooHeavy, Memory}
use Rattle.trail_records.specs.Noting.{noted_all, NotesFit, note_weight, with_counts, with_lines}
use Rattle.proxy_trail.specs.Recording.{counted, NotesAll, NotesStop, NotesLack, Records, ended_by, fault_in}
use Rattle.proxy_trail.proofs.NoteRows.{notes_along, notes_part, weight_of_note, SplitAt, split}
use Rattle.proxy_trail.proofs.Bridges.{erased, weight_erased, all_erased, fit_erased, event_noted, grown_side, along, FitsOne, fits_one, fits_along}
use Rattle.proxy_trail.proofs.Quietly.{SameCounts, counts_quiet, heavy_quiet, IsBrought, brought_counts, brought_quiet}

-- ---- what is known of a call

-- the records with what the event from outside wrote or read
abbrev pub begun : Event → TrailState → Book
begun event old = with_lines (rows_after event old.now.live.here (closed old.book).trail.lines.rows) (closed old.book)

-- it leaves the lines as they were, or does nothing but change them and the bytes read
pub data Lines (event : Event) (old : TrailState) : Type 0 where
  SameLines : begun event old ≡ closed old.book → Lines event old
  LinesAlone : mark_of event old.now ≡ None → (step event old.now).kept ≡ old.now.kept → barred event old.now ≡ None → Lines event old

pub record Context (event : Event) (old : TrailState) : Type 0 where
  pub begins : Begins old event
  pub none : old.fault ≡ None
  pub brought : IsBrought event
  pub lines : Lines event old
  pub weighs : weight (begun event old).trail ≡ weight (closed old.book).trail + line_cost event old.now.live.here
  pub light : weight (begun event old).trail ≤ MOST_WEIGHT

-- ---- the parts

brought_given : (event : Event) (old : TrailState) → IsBrought event → given_after event old.now.live (closed old.book).trail.given ≡ (closed old.book).trail.given
brought_given (Fed item) old b = refl
brought_given (Handed done) old b = refl
brought_given (Up connection) old b = refl
brought_given (Came piece) old b = refl
brought_given (Asks reason) old b = refl
brought_given event old b = absurd b

brought_told : (event : Event) → IsBrought event → event ≡ Told → ⊥
brought_told event b e = subst (λ (v : Event). IsBrought v) e b

side_of : {event : Event} {old : TrailState} (x : Context event old) → (closed old.book).trail.side ≡ old.now.side
side_of {event} {old} x = x.begins.follows.follows.tells.side_is

-- what was noted behind the event and those that were due
pub notes_are : (event : Event) (old : TrailState) (x : Context event old) (events : List Event) (at : Now) → Part (step event old.now) events at → at.kept.notes ≡ notes_along (event ∷ events) old.now
notes_are event old x events at p =
    notes_part (step event old.now) at events p
    ∙ ap (λ ns. ns ++ notes_along events (step event old.now)) (notes_grow event old.now (brought_told event x.brought) ∙ ap (λ ns. ns ++ notes_of (mark_of event old.now)) x.begins.runs.notes)

-- the records behind them, but for the counts
pub books_are : (event : Event) (old : TrailState) (x : Context event old) (events : List Event) (at : Now) → Part (step event old.now) events at
    → erased (grow_all (event ∷ events) old.now (closed old.book)) ≡ noted_all (notes_along (event ∷ events) old.now) (erased (begun event old))
books_are event old x events at p =
    along (step event old.now) at events (grown event old.now (closed old.book)) (grown_side event old.now (closed old.book) (side_of x)) p
    ∙ ap (noted_all (notes_along events (step event old.now))) (event_noted event old.now (closed old.book) (side_of x) (brought_given event old x.brought))
    ∙ sym (all_of (notes_of (mark_of event old.now)) (notes_along events (step event old.now)) (erased (begun event old)))
  where
    all_of : (ms ns : List Noted) (book : Book) → noted_all (ms ++ ns) book ≡ noted_all ns (noted_all ms book)
    all_of [] ns book = refl
    all_of (m ∷ ms) ns book = all_of ms ns (noted_all (m ∷ []) book)

-- and with the counts
book_is : (a k : ℕ) (ns : List Noted) (b g : Book) → erased g ≡ noted_all ns (erased b) → g.trail.accepted ≡ a → g.trail.acknowledged ≡ k → with_counts a k (noted_all ns b) ≡ g
book_is a k ns b g e d c =
    ap (λ (x : Book). with_counts a k x) (sym (all_erased ns b)) ∙ ap (λ (x : Book). with_counts a k x) (sym e)
    ∙ ap (λ (n : ℕ). with_counts n k g) (sym d) ∙ ap (λ (n : ℕ). with_counts g.trail.accepted n g) (sym c)

-- all of it fits
pub fit_is : (event : Event) (old : TrailState) (x : Context event old) (events : List Event) (at : Now) → Part (step event old.now) events at → NotesFit (notes_along (event ∷ events) old.now) (begun event old)
    → Fit (event ∷ events) old.now (closed old.book)
fit_is event old x events at p h =
    let rest : List Noted = notes_along events (step event old.now) in
    let one : FitsOne (mark_of event old.now) rest (erased (begun event old)) =
    fits_one (mark_of event old.now) rest (erased (begun event old)) (omega (arith, weight_erased (begun event old), x.light)) (fit_erased (notes_along (event ∷ events) old.now) (begun event old) h) in
    let first : weight (closed old.book).trail + (mark_cost (mark_of event old.now) + line_cost event old.now.live.here) ≤ MOST_WEIGHT = omega (arith, weight_erased (begun event old), one.first, x.weighs) in (
      first,
      fits_along (step event old.now) at events (grown event old.now (closed old.book)) x.begins.after (grown_side event old.now (closed old.book) (side_of x)) p
          (omega (arith, weight_grows event old.now (closed old.book) x.begins.follows.follows, first))
          (subst (λ (b : Book). NotesFit rest b) (sym (event_noted event old.now (closed old.book) (side_of x) (brought_given event old x.brought))) one.then),
    )

-- all is recorded
whole_is : (event : Event) (old : TrailState) (x : Context event old) (events : List Event) (at last now : Now) (book : Book) → Part (step event old.now) events at → last.kept ≡ at.kept
    → NotesAll last now (begun event old) book → Whole event events old.now old.book book
whole_is event old x events at last now book p k n =
    let notes : last.kept.notes ≡ notes_along (event ∷ events) old.now = ap (λ (kept : KeptPart). kept.notes) k ∙ notes_are event old x events at p in
    let after : FollowsOn at (grow_all (event ∷ events) old.now (closed old.book)) = follows_part (step event old.now) at (grown event old.now (closed old.book)) events x.begins.after p in
    record {
      fit = fit_is event old x events at p (subst (λ (ns : List Noted). NotesFit ns (begun event old)) notes n.fit);
      book = n.book ∙ ap (λ (ns : List Noted). counted last (noted_all ns (begun event old))) notes
          ∙ book_is last.kept.accepted last.kept.ring.acknowledged (notes_along (event ∷ events) old.now) (begun event old) (grow_all (event ∷ events) old.now (closed old.book)) (books_are event old x events at p)
          (after.follows.accepted ∙ sym (ap (λ (kept : KeptPart). kept.accepted) k)) (after.follows.acknowledged ∙ sym (ap (λ (kept : KeptPart). kept.ring.acknowledged) k));
    }

-- ---- where nothing was noted

no_split : (done : List Noted) (note : Noted) (left notes : List Noted) → notes ≡ [] → notes ≡ done ++ note ∷ left → ⊥
no_split [] note left notes e d = let never : [] ≡ note ∷ left = sym e ∙ d in cc
no_split (n ∷ ns) note left notes e d = let never : [] ≡ n ∷ (ns ++ note ∷ left) = sym e ∙ d in cc

none_noted : {event : Event} {old : TrailState} (x : Context event old) (last : Now) → last.kept ≡ old.now.kept → last.kept.notes ≡ []
none_noted {event} {old} x last k = ap (λ (kept : KeptPart). kept.notes) k ∙ x.begins.runs.notes

-- nothing happened, and the records are as before
same_book : (event : Event) (old : TrailState) (x : Context event old) (last now : Now) (book : Book) → begun event old ≡ closed old.book → last.kept ≡ old.now.kept → NotesAll last now (begun event old) book → book ≡ closed old.book
same_book event old x last now book same k n =
    n.book ∙ ap (λ (ns : List Noted). counted last (noted_all ns (begun event old))) (none_noted x last k) ∙ ap (λ (b : Book). counted last b) same
    ∙ ap (λ (m : ℕ). with_counts m last.kept.ring.acknowledged (closed old.book)) (ap (λ (kept : KeptPart). kept.accepted) k ∙ sym x.begins.follows.follows.accepted)
    ∙ ap (λ (m : ℕ). with_counts (closed old.book).trail.accepted m (closed old.book)) (ap (λ (kept : KeptPart). kept.ring.acknowledged) k ∙ sym x.begins.follows.follows.acknowledged)

at_once : (event : Event) (fault : ProxyFault) (old : TrailState) (x : Context event old) (last now : Now) (book : Book) → (barred event old.now ≡ Some fault) ⊎ (fault ≡ faults.Memory) → begun event old ≡ closed old.book
    → Halted fault old.now last → NotesAll last now (begun event old) book → FailsAtOnce event fault old (record { now = now; book = book; fault = Some fault })
at_once event fault old x last now book because same h n = record {
  because = because;
  side = ap (λ (s : Now). s.side) n.now ∙ h.side;
  token = ap (λ (s : Now). s.token) n.now ∙ h.token;
  kept = ap (λ (s : Now). s.kept) n.now ∙ ap (λ (kept : KeptPart). record kept { notes = [] }) h.kept ∙ ap (λ (ns : List Noted). record old.now.kept { notes = ns }) (sym x.begins.runs.notes);
  book = same_book event old x last now book same h.kept n;
}

-- ---- all is recorded

done_so : (event : Event) (old : TrailState) (x : Context event old) (events : List Event) (last now : Now) (book : Book) → Calls event (Ok tt) events old.now last → Row (step event old.now) events last Rest
    → NotesAll last now (begun event old) book → Done event old (record { now = now; book = book; fault = None })
done_so event old x events last now book calls row n = record {
  goes_on = refl;
  events = events;
  last = last;
  calls = calls;
  now = n.now;
  whole = whole_is event old x events last last now book row.0 refl n;
}

fails_so : (event : Event) (fault : ProxyFault) (old : TrailState) (x : Context event old) (events : List Event) (last now : Now) (book : Book) → barred event old.now ≡ None
    → Stops (step event old.now) fault events last → NotesAll last now (begun event old) book → Fails event fault old (record { now = now; book = book; fault = Some fault })
fails_so event fault old x events last now book begins s n = record {
  begins = begins;
  events = events;
  last = last;
  stops = s;
  now = n.now;
  whole = whole_is event old x events s.last last now book s.part s.halted.kept n;
}

-- memory ran out before anything happened
not_begun : (event : Event) (fault : ProxyFault) (old : TrailState) (x : Context event old) (events : List Event) (last now : Now) (book : Book) → barred event old.now ≡ None
    → NotBegun fault events old.now last → NotesAll last now (begun event old) book → FailsSo event fault old (record { now = now; book = book; fault = Some fault })
not_begun event fault old x events last now book begins b n = by_lines x.lines
  where
    by_lines : Lines event old → FailsSo event fault old (record { now = now; book = book; fault = Some fault })
    by_lines (SameLines same) = FailedAtOnce (at_once event fault old x last now book (inr b.memory) same b.halted n)
    by_lines (LinesAlone mark kept admitted) = Failed (fails_so event fault old x [] last now book begins (record {
      last = step event old.now;
      part = refl;
      due = inr b.memory;
      halted = record { fault_is = b.halted.fault_is; kept = b.halted.kept ∙ sym kept; side = b.halted.side ∙ sym (same_step event old.now).side; token = b.halted.token ∙ sym (same_step event old.now).token };
    }) n)

-- ---- one is too heavy

-- what is known where one of the notes can't be recorded
record Noting (event : Event) (old : TrailState) (events : List Event) (last : Now) (done : List Noted) (note : Noted) (left : List Noted) : Type 0 where
  run : Begun event events old.now last
  admitted : barred event old.now ≡ None
  notes : notes_along (event ∷ events) old.now ≡ done ++ note ∷ left

weight_noted : (a k : ℕ) (book : Book) → weight (with_counts a k book).trail ≡ weight book.trail
unfolding weight
weight_noted a k book = refl

-- the event from outside
heavy_first : (event : Event) (old : TrailState) (x : Context event old) (events : List Event) (answer : Result Unit ProxyFault) (last now : Now) (book : Book) (n : NotesStop last now (begun event old) book)
    → Calls event answer events old.now last → Noting event old events last n.done n.heavy n.left → n.done ≡ [] → notes_of (mark_of event old.now) ≡ n.heavy ∷ []
    → StopsRecording event old (record { now = now; book = book; fault = Some LIMIT_TRAIL })
heavy_first event old x events answer last now book n calls k none note = by_lines x.lines
  where
    heavy : MOST_WEIGHT < weight (begun event old).trail + mark_cost (mark_of event old.now)
    heavy = omega (arith, weight_of_note (mark_of event old.now) n.heavy note, subst (λ (ns : List Noted). MOST_WEIGHT < weight (noted_all ns (begun event old)).trail + note_weight n.heavy) none n.too_heavy)

    quiet : hear (step event old.now) ≡ Rest
    quiet = brought_quiet event old.now (weight (begun event old).trail) x.brought (all_rest old.now x.begins.runs.rests).hears x.light heavy

    counts : SameCounts (step event old.now) k.run.at
    counts = counts_quiet (step event old.now) k.run.at events quiet k.run.part

    first : SameCounts old.now (step event old.now)
    first = brought_counts event old.now x.brought

    by_lines : Lines event old → StopsRecording event old (record { now = now; book = book; fault = Some LIMIT_TRAIL })
    by_lines (LinesAlone mark kept admitted) = absurd (let never : [] ≡ n.heavy ∷ [] = sym (ap notes_of mark) ∙ note in cc)
    by_lines (SameLines same) =
        let is_book : book ≡ closed old.book =
        n.book ∙ ap (λ (ns : List Noted). counted last (noted_all ns (begun event old))) none ∙ ap (λ (b : Book). counted last b) same
        ∙ ap (λ (m : ℕ). with_counts m last.kept.ring.acknowledged (closed old.book)) (ap (λ (kept : KeptPart). kept.accepted) k.run.kept ∙ counts.accepted ∙ first.accepted ∙ sym x.begins.follows.follows.accepted)
        ∙ ap (λ (m : ℕ). with_counts (closed old.book).trail.accepted m (closed old.book)) (ap (λ (kept : KeptPart). kept.ring.acknowledged) k.run.kept ∙ counts.acknowledged ∙ first.acknowledged ∙ sym x.begins.follows.follows.acknowledged) in
        record {
          events = events;
          answer = answer;
          last = last;
          calls = calls;
          rest = n.left;
          now = n.now;
          recorded = [];
          heavy_event = event;
          more = events;
          row = refl;
          fit = tt;
          book = is_book;
          heavy = omega (arith, heavy, ap (λ (b : Book). weight b.trail) is_book, ap (λ (b : Book). weight b.trail) same);
        }

-- one of those that were due
heavy_later : (event : Event) (old : TrailState) (x : Context event old) (events : List Event) (answer : Result Unit ProxyFault) (last now : Now) (book : Book) (n : NotesStop last now (begun event old) book)
    → Calls event answer events old.now last → Noting event old events last n.done n.heavy n.left → (recorded : List Event) (e : Event) (more : List Event) → events ≡ recorded ++ e ∷ more
    → notes_along (event ∷ recorded) old.now ≡ n.done → notes_of (mark_of e (step_all recorded (step event old.now))) ≡ n.heavy ∷ []
    → StopsRecording event old (record { now = now; book = book; fault = Some LIMIT_TRAIL })
heavy_later event old x events answer last now book n calls k recorded e more row before note =
    record {
      events = events;
      answer = answer;
      last = last;
      calls = calls;
      rest = n.left;
      now = n.now;
      recorded = event ∷ recorded;
      heavy_event = e;
      more = more;
      row = ap (λ (es : List Event). event ∷ es) row;
      fit = fit;
      book = is_book;
      heavy = omega (arith, heavy, ap (λ (b : Book). weight b.trail) is_book);
    }
  where
    at : Now
    at = step_all recorded (step event old.now)

    halves : Part (step event old.now) recorded (step_all recorded (step event old.now)) × Part (step_all recorded (step event old.now)) (e ∷ more) k.run.at
    halves = part_at (step event old.now) k.run.at recorded (e ∷ more) (subst (λ (es : List Event). Part (step event old.now) es k.run.at) row k.run.part)

    fit : Fit (event ∷ recorded) old.now (closed old.book)
    fit = fit_is event old x recorded (step_all recorded (step event old.now)) halves.0 (subst (λ (ns : List Noted). NotesFit ns (begun event old)) (sym before) n.fit)

    after : FollowsOn (step_all recorded (step event old.now)) (grow_all (event ∷ recorded) old.now (closed old.book))
    after = follows_part (step event old.now) (step_all recorded (step event old.now)) (grown event old.now (closed old.book)) recorded x.begins.after halves.0

    books : erased (grow_all (event ∷ recorded) old.now (closed old.book)) ≡ noted_all n.done (erased (begun event old))
    books = books_are event old x recorded (step_all recorded (step event old.now)) halves.0 ∙ ap (λ (ns : List Noted). noted_all ns (erased (begun event old))) before

    same_weight : weight (noted_all n.done (begun event old)).trail ≡ weight (grow_all (event ∷ recorded) old.now (closed old.book)).trail
    same_weight =
        sym (weight_noted 0 0 (noted_all n.done (begun event old))) ∙ ap (λ (b : Book). weight b.trail) (sym (all_erased n.done (begun event old)) ∙ sym books) ∙ weight_noted 0 0 (grow_all (event ∷ recorded) old.now (closed old.book))

    light : weight (grow_all (event ∷ recorded) old.now (closed old.book)).trail ≤ MOST_WEIGHT
    light = fits_part (step event old.now) (step_all recorded (step event old.now)) (grown event old.now (closed old.book)) recorded x.begins.after halves.0 fit.1
        (omega (arith, weight_grows event old.now (closed old.book) x.begins.follows.follows, fit.0))

    heavy : MOST_WEIGHT < weight (grow_all (event ∷ recorded) old.now (closed old.book)).trail + mark_cost (mark_of e (step_all recorded (step event old.now)))
    heavy = omega (arith, same_weight, n.too_heavy, weight_of_note (mark_of e (step_all recorded (step event old.now))) n.heavy note)

    counts : SameCounts (step_all recorded (step event old.now)) k.run.at
    counts = counts_quiet (step_all recorded (step event old.now)) k.run.at (e ∷ more)
        (heavy_quiet e (step_all recorded (step event old.now)) (weight (grow_all (event ∷ recorded) old.now (closed old.book)).trail) halves.1.0 light heavy) halves.1

    is_book : book ≡ grow_all (event ∷ recorded) old.now (closed old.book)
    is_book = n.book
        ∙ book_is last.kept.accepted last.kept.ring.acknowledged n.done (begun event old) (grow_all (event ∷ recorded) old.now (closed old.book)) books
        (after.follows.accepted ∙ sym counts.accepted ∙ sym (ap (λ (kept : KeptPart). kept.accepted) k.run.kept)) (after.follows.acknowledged ∙ sym counts.acknowledged ∙ sym (ap (λ (kept : KeptPart). kept.ring.acknowledged) k.run.kept))

heavy_so : (event : Event) (old : TrailState) (x : Context event old) (events : List Event) (answer : Result Unit ProxyFault) (last now : Now) (book : Book) (n : NotesStop last now (begun event old) book)
    → Calls event answer events old.now last → Noting event old events last n.done n.heavy n.left → StopsRecording event old (record { now = now; book = book; fault = Some LIMIT_TRAIL })
heavy_so event old x events answer last now book n calls k = by_recorded at.recorded at.row at.before at.note
  where
    at : SplitAt (event ∷ events) old.now n.done n.heavy
    at = split (event ∷ events) old.now n.done n.heavy n.left k.notes

    by_recorded : (recorded : List Event) → event ∷ events ≡ recorded ++ at.event ∷ at.more → notes_along recorded old.now ≡ n.done → notes_of (mark_of at.event (step_all recorded old.now)) ≡ n.heavy ∷ []
        → StopsRecording event old (record { now = now; book = book; fault = Some LIMIT_TRAIL })
    by_recorded [] row before note =
        let same : event ≡ at.event = cc in
        heavy_first event old x events answer last now book n calls k (sym before) (ap (λ (v : Event). notes_of (mark_of v old.now)) same ∙ note)
    by_recorded (v ∷ recorded) row before note =
        let same : v ≡ event = cc in
        let rest : events ≡ recorded ++ at.event ∷ at.more = cc in
        heavy_later event old x events answer last now book n calls k recorded at.event at.more rest (ap (λ (u : Event). notes_along (u ∷ recorded) old.now) (sym same) ∙ before)
        (ap (λ (u : Event). notes_of (mark_of at.event (step_all recorded (step u old.now)))) (sym same) ∙ note)

-- ---- memory for the records runs out

grown_alone : (event : Event) (old : TrailState) → mark_of event old.now ≡ None → IsBrought event → grown event old.now (closed old.book) ≡ begun event old
grown_alone event old none b =
    ap (λ (m : Option Mark). record {
      trail = record (marked_trail m (closed old.book).trail) { lines = (begun event old).trail.lines; given = given_after event old.now.live (closed old.book).trail.given };
      order = marked_order old.now.side m old.book.order;
    }) none
    ∙ ap (λ (n : ℕ). record (begun event old) { trail = record (begun event old).trail { given = n } }) (brought_given event old b)

lacks_so : (event : Event) (old : TrailState) (x : Context event old) (events : List Event) (answer : Result Unit ProxyFault) (last now : Now) (book : Book) (n : NotesLack last now (begun event old) book)
    → Calls event answer events old.now last → Noting event old events last n.done n.note n.left → LacksMemory event faults.Memory old (record { now = now; book = book; fault = Some faults.Memory })
lacks_so event old x events answer last now book n calls k = by_lines x.lines
  where
    by_lines : Lines event old → LacksMemory event faults.Memory old (record { now = now; book = book; fault = Some faults.Memory })
    by_lines (SameLines same) = record {
      memory = refl;
      events = events;
      answer = answer;
      last = last;
      calls = calls;
      rest = n.left;
      now = n.now;
      recorded = [];
      first = inl refl;
      begins = k.admitted;
      fit = tt;
      book = n.book ∙ same;
    }
    by_lines (LinesAlone mark kept admitted) = record {
      memory = refl;
      events = events;
      answer = answer;
      last = last;
      calls = calls;
      rest = n.left;
      now = n.now;
      recorded = event ∷ [];
      first = inr (refl, k.run);
      begins = k.admitted;
      fit = (omega (arith, ap mark_cost mark, x.weighs, x.light), tt);
      book = n.book ∙ sym (grown_alone event old mark x.brought);
    }

-- ---- all of it

-- where something was noted, the call began
noting : (event : Event) (answer : Result Unit ProxyFault) (old : TrailState) (x : Context event old) (events : List Event) (last : Now) (done : List Noted) (note : Noted) (left : List Noted)
    → Calls event answer events old.now last → last.kept.notes ≡ done ++ note ∷ left → Noting event old events last done note left
noting event answer old x events last done note left calls row = by_run (ran event answer events old.now last x.begins.runs.fault calls)
  where
    by_bar : (r : Begun event events old.now last) (bar : Option ProxyFault) → barred event old.now ≡ bar → CallsBarred bar event answer events old.now last → Noting event old events last done note left
    by_bar r None admitted c = record {
      run = r;
      admitted = admitted;
      notes = sym (notes_are event old x events r.at r.part) ∙ sym (ap (λ (kept : KeptPart). kept.notes) r.kept) ∙ row;
    }
    by_bar r (Some fault) admitted c = absurd (no_split done note left last.kept.notes (none_noted x last c.halted.kept) row)

    by_fault : (r : Begun event events old.now last) (fault : Option ProxyFault) → fault ≡ None → CallsAfter fault event answer events old.now last → Noting event old events last done note left
    by_fault r None e c = by_bar r (barred event old.now) refl c
    by_fault r (Some fault) e c = absurd cc

    by_run : Begun event events old.now last ⊎ NotRun old.now events last → Noting event old events last done note left
    by_run (inl r) = by_fault r old.now.fault x.begins.runs.fault calls
    by_run (inr r) = absurd (no_split done note left last.kept.notes (none_noted x last r.kept) row)

runs_so : (event : Event) (answer : Result Unit ProxyFault) (recorded : Result Unit Unrecorded) (old : TrailState) (x : Context event old) (events : List Event) (last now : Now) (book : Book)
    → Calls event answer events old.now last → Records recorded last now (begun event old) book
    → RunsTrail event (ended_by answer recorded) old (record { now = now; book = book; fault = fault_in (ended_by answer recorded) })
runs_so event answer (Err TooHeavy) old x events last now book calls n = record {
  fault_is = refl;
  so = HeavyThen refl (heavy_so event old x events answer last now book n calls (noting event answer old x events last n.done n.heavy n.left calls n.row));
}
runs_so event answer (Err Memory) old x events last now book calls n = record {
  fault_is = refl;
  so = NoMemory (lacks_so event old x events answer last now book n calls (noting event answer old x events last n.done n.note n.left calls n.row));
}
runs_so event answer (Ok u) old x events last now book calls n = by_fault old.now.fault x.begins.runs.fault calls
  where
    by_answer : (answer : Result Unit ProxyFault) → Calls event answer events old.now last → barred event old.now ≡ None → Runs event answer events old.now last
        → RunsTrail event answer old (record { now = now; book = book; fault = fault_in answer })
    by_answer (Ok done) c admitted r = done_so event old x events last now book c r n
    by_answer (Err fault) c admitted (inl s) = record { fault_is = refl; so = Failed (fails_so event fault old x events last now book admitted s n) }
    by_answer (Err fault) c admitted (inr b) = record { fault_is = refl; so = not_begun event fault old x events last now book admitted b n }

    refused : (answer : Result Unit ProxyFault) (fault : ProxyFault) → answer ≡ Err fault → barred event old.now ≡ Some fault → Halted fault old.now last → RunsTrail event answer old (record { now = now; book = book; fault = fault_in answer })
    refused answer fault e bar h = subst (λ (r : Result Unit ProxyFault). RunsTrail event r old (record { now = now; book = book; fault = fault_in r })) (sym e) (by_lines x.lines)
      where
        by_lines : Lines event old → FailsNow event fault old (record { now = now; book = book; fault = Some fault })
        by_lines (SameLines same) = record { fault_is = refl; so = FailedAtOnce (at_once event fault old x last now book (inl bar) same h n) }
        by_lines (LinesAlone mark kept admitted) = absurd (let never : None ≡ Some fault = sym admitted ∙ bar in cc)

    by_bar : (bar : Option ProxyFault) → barred event old.now ≡ bar → CallsBarred bar event answer events old.now last → RunsTrail event answer old (record { now = now; book = book; fault = fault_in answer })
    by_bar None admitted r = by_answer answer calls admitted r
    by_bar (Some fault) bar r = refused answer fault r.answers bar r.halted

    by_fault : (fault : Option ProxyFault) → fault ≡ None → CallsAfter fault event answer events old.now last → RunsTrail event answer old (record { now = now; book = book; fault = fault_in answer })
    by_fault None e c = by_bar (barred event old.now) refl c
    by_fault (Some fault) e c = absurd cc

pub settled : (event : Event) (answer : Result Unit ProxyFault) (recorded : Result Unit Unrecorded) (old : TrailState) (x : Context event old) (events : List Event) (last now : Now) (book : Book)
    → Calls event answer events old.now last → Records recorded last now (begun event old) book
    → TrailCalls event (ended_by answer recorded) old (record { now = now; book = book; fault = fault_in (ended_by answer recorded) })
settled event answer recorded old x events last now book calls n =
    subst (λ (f : Option ProxyFault). TrailAfter f event (ended_by answer recorded) old (record { now = now; book = book; fault = fault_in (ended_by answer recorded) })) (sym x.none)
    (runs_so event answer recorded old x events last now book calls n)
