-- What is left where a connection is refused, or bytes of the front, and that the records of a side that has failed are lawful.
use Rattle.std.proofs.Common.{◌≡◌, ℕ, ◌+◌, ◌<◌, ◌≤◌, nat_lt, length, List, [], ◌∷◌, ◌++◌, Bool, true, false, if◌then◌else◌, Option, Some, None, Result, Ok, Err, refl, sym, ap, subst, ◌∙◌, append_assoc, arith, inl, inr, ◌⊎◌}
use Rattle.std.proofs.lemmas.Bool.{ltb-true, ltb-false}
use Rattle.std.proofs.lemmas.List.{append-nil, length-append}
use Rattle.std.specs.List.{AllByRecursion}
use Rattle.wp_outside.specs.declared.kinds.Side.{Side}
use Rattle.transfer_frames.specs.declared.frame.Frame.{Frame}
use Rattle.transfer_frames.specs.Grammar.{IsFrame, spelling}
use Rattle.half_model.specs.declared.causes.Limit.TheVariants.{Connections, Trail}
use Rattle.half_model.specs.Story.{accepted_in}
use Rattle.pair_model.specs.Lines.{SideRecord}
use Rattle.pair_model.specs.Rows.{spellings}
use Rattle.pair_model.specs.Steps as here
use Rattle.pair_model.specs.Steps.{Here, IsUnderWay}
use Rattle.side_model.specs.declared.fault.ProxyFault.{ProxyFault}
use Rattle.side_model.specs.declared.fault.ProxyFault.TheVariants as faults
use Rattle.side_model.specs.declared.fault.ProxyFault.TheVariants.{Memory}
use Rattle.side_model.specs.Books.{Book, weight, MOST_WEIGHT, mark_cost, grow_all, closed}
use Rattle.side_model.specs.Calls.{Part, CallsBarred, CallsAfter, MOST_CONNECTIONS}
use Rattle.side_model.specs.Due.{next}
use Rattle.side_model.specs.Events.{Halt, Rest, Event, Up}
use Rattle.side_model.specs.Follows.{GoesOn, LinkFollows}
use Rattle.side_model.specs.Marks.{mark_of}
use Rattle.side_model.specs.Places.{places_in, side_of}
use Rattle.side_model.specs.Records.{Law, IndexIs}
use Rattle.side_model.specs.Shows.{front_of, front_here}
use Rattle.side_model.specs.State.{Now}
use Rattle.side_model.specs.Steps.{step}
use Rattle.side_model.specs.Trails.{TrailState, step_all, FailsNow, FailsSo, HeavyAtOnce, HeavyThen, Failed, FailedAtOnce, NoMemory, TrailAfter, TrailCalls, NotLent, TooHeavyFront, LendsAfter}
use Rattle.side_model.proofs.Calms.{up_rests}
use Rattle.side_model.proofs.RowProofs.{none_after}
use Rattle.side_model.proofs.TrailParts.{ran, same_weight}
use Rattle.pair_runs.specs.Moves.{LineInPart}
use Rattle.pair_runs.specs.Sides.{seen, side_seen}
use Rattle.pair_runs.specs.Whys.{RefusesLine, NextBytes, RefusesPiece}
use Rattle.pair_runs.specs.WorkLaws.{RunsOn, UpFails, UpLimits, LendsFails, KeptByFault}
use Rattle.pair_runs.proofs.Calling.{ok_done, fault_front}
use Rattle.pair_runs.proofs.Failing.{fails_of}

-- ---- a connection

-- nothing is due behind a connection that comes up
up_alone : (connection : ℕ) (old : TrailState) (t : Now) (events : List Event) → RunsOn old → old.now.live.here ≡ None → Part (step (Up connection) old.now) events t → events ≡ []
up_alone connection old t events r up part = none_after (step (Up connection) old.now) t events (up_rests old.now connection up (r.keeps.runs r.goes_on).rests) part

up_one : (half connection : ℕ) (old new : TrailState) → new.book ≡ grow_all (Up connection ∷ []) old.now (closed old.book) → LineInPart connection (side_seen half old) (side_seen half new)
up_one half connection old new e = inr (ap closed e)

up_row : (half connection : ℕ) (old new : TrailState) (events recorded : List Event) (heavy : Event) (more : List Event) → events ≡ [] → Up connection ∷ events ≡ recorded ++ heavy ∷ more → new.book ≡ grow_all recorded old.now (closed old.book)
    → LineInPart connection (side_seen half old) (side_seen half new)
up_row half connection old new events [] heavy more none row e = inl (ap closed e)
up_row half connection old new events (first ∷ []) heavy more none row e = absurd (let never : [] ≡ heavy ∷ more = sym none ∙ cc in cc)
up_row half connection old new events (first ∷ next ∷ recorded) heavy more none row e = absurd (let never : [] ≡ next ∷ (recorded ++ heavy ∷ more) = sym none ∙ cc in cc)

up_so : (half connection : ℕ) (fault : ProxyFault) (old new : TrailState) → RunsOn old → old.now.live.here ≡ None → FailsSo (Up connection) fault old new → LineInPart connection (side_seen half old) (side_seen half new)
up_so half connection fault old new r up (HeavyAtOnce e d) = inl (ap closed d.book)
up_so half connection fault old new r up (HeavyThen e d) = elim (ran (Up connection) d.answer d.events old.now d.last (r.keeps.runs r.goes_on).fault d.calls) [
  | inl begun ↦ up_row half connection old new d.events d.recorded d.heavy_event d.more (up_alone connection old begun.at d.events r up begun.part) d.row d.book
  | inr not_run ↦ up_row half connection old new d.events d.recorded d.heavy_event d.more not_run.none d.row d.book
]
up_so half connection fault old new r up (Failed d) =
    up_one half connection old new (d.whole.book ∙ ap (λ (es : List Event). grow_all (Up connection ∷ es) old.now (closed old.book)) (up_alone connection old d.stops.last d.events r up d.stops.part))
up_so half connection fault old new r up (FailedAtOnce d) = inl (ap closed d.book)
up_so half connection fault old new r up (NoMemory d) = elim d.first [
  | inl none ↦ inl (ap closed (d.book ∙ ap (λ (es : List Event). grow_all es old.now (closed old.book)) none))
  | inr one ↦ up_one half connection old new (d.book ∙ ap (λ (es : List Event). grow_all es old.now (closed old.book)) one.0)
]

-- why it is refused
up_bars : (b : Bool) (connection : ℕ) (fault : ProxyFault) → nat_lt MOST_CONNECTIONS connection ≡ b → (if b then Some (faults.Limit Connections) else None) ≡ Some fault → (fault ≡ faults.Limit Connections) × (MOST_CONNECTIONS < connection)
up_bars true connection fault e d = (let same : fault ≡ faults.Limit Connections = cc in same, ltb-true MOST_CONNECTIONS connection e)
up_bars false connection fault e d = absurd cc

up_why : (half connection : ℕ) (fault : ProxyFault) (old new : TrailState) → RunsOn old → old.now.live.here ≡ None → FailsSo (Up connection) fault old new → RefusesLine connection fault (closed old.book).trail
up_why half connection fault old new r up (HeavyAtOnce e d) = inr (inl (e, omega (arith, d.heavy, same_weight 0 old.book)))
up_why half connection fault old new r up (HeavyThen e d) = elim (ran (Up connection) d.answer d.events old.now d.last (r.keeps.runs r.goes_on).fault d.calls) [
  | inl begun ↦ by_row d.recorded refl (up_alone connection old begun.at d.events r up begun.part) d.row
  | inr not_run ↦ by_row d.recorded refl not_run.none d.row
]
  where
    by_row : (recorded : List Event) → d.recorded ≡ recorded → d.events ≡ [] → Up connection ∷ d.events ≡ recorded ++ d.heavy_event ∷ d.more → RefusesLine connection fault (closed old.book).trail
    by_row [] k none row =
        let same : d.heavy_event ≡ Up connection = cc in
        let book : new.book ≡ closed old.book = d.book ∙ ap (λ (es : List Event). grow_all es old.now (closed old.book)) k in
        let heavy : MOST_WEIGHT < weight new.book.trail + mark_cost (mark_of (Up connection) old.now) =
        subst (λ (x : Event). MOST_WEIGHT < weight new.book.trail + mark_cost (mark_of x old.now)) same
        (subst (λ (es : List Event). MOST_WEIGHT < weight new.book.trail + mark_cost (mark_of d.heavy_event (step_all es old.now))) k d.heavy) in
        absurd (omega (arith, heavy, ap (λ (b : Book). weight b.trail) book, same_weight 0 old.book, r.keeps.weighs))
    by_row (first ∷ []) k none row = absurd (let never : [] ≡ d.heavy_event ∷ d.more = sym none ∙ cc in cc)
    by_row (first ∷ next ∷ recorded) k none row = absurd (let never : [] ≡ next ∷ (recorded ++ d.heavy_event ∷ d.more) = sym none ∙ cc in cc)
up_why half connection fault old new r up (Failed d) = elim d.stops.due [
  | inl halt ↦
      let none : d.events ≡ [] = up_alone connection old d.stops.last d.events r up d.stops.part in
      let same : d.stops.last ≡ step (Up connection) old.now = subst (λ (es : List Event). Part (step (Up connection) old.now) es d.stops.last) none d.stops.part in
      absurd (let never : Halt fault ≡ Rest = sym halt ∙ ap next same ∙ up_rests old.now connection up (r.keeps.runs r.goes_on).rests in cc)
  | inr memory ↦ inr (inr memory)
]
up_why half connection fault old new r up (FailedAtOnce d) = elim d.because [
  | inl bar ↦ inl (up_bars (nat_lt MOST_CONNECTIONS connection) connection fault refl bar)
  | inr memory ↦ inr (inr memory)
]
up_why half connection fault old new r up (NoMemory d) = inr (inr d.memory)

pub up_fails : UpFails
up_fails half connection fault old new r up calls =
    (up_so half connection fault old new r up (fails_of (Up connection) fault old new r calls), up_why half connection fault old new r up (fails_of (Up connection) fault old new r calls))

-- ---- room for the front

last_is_frame : (whole : List Frame) (frame : Frame) → AllByRecursion IsFrame (whole ++ frame ∷ []) → IsFrame frame
last_is_frame [] frame h = h.0
last_is_frame (other ∷ whole) frame h = last_is_frame whole frame h.1

-- what is left of the frame that is being written
next_bytes : (token : List ℕ) (side : SideRecord) (up : Here) → here.Stands token side up → (up.front ≡ [] → ⊥) → NextBytes side.lines up.front
next_bytes token side up st some = by_current st.here_is.current refl st.here_is.is_front
  where
    by_current : (current : List Frame) → st.here_is.current ≡ current → IsUnderWay current up.front → NextBytes side.lines up.front
    by_current current k (inl none) = absurd (some none.1)
    by_current [] k (inr one) = absurd (omega (arith, one.0))
    by_current (frame ∷ other ∷ current) k (inr one) = absurd (omega (arith, one.0))
    by_current (frame ∷ []) k (inr one) =
        let front_is : st.here_is.part ++ up.front ≡ spelling frame =
        st.here_is.front_is ∙ ap spellings k ∙ append-nil (spelling frame) in
        let row : AllByRecursion IsFrame (st.here_is.whole ++ frame ∷ []) =
        subst (λ (current : List Frame). AllByRecursion IsFrame (st.here_is.whole ++ current)) k
        (subst (λ (fs : List Frame). AllByRecursion IsFrame fs) (sym st.here_is.row) st.here_is.row_frames) in
        record {
          earlier = st.earlier;
          line = st.line;
          rows_are = st.lines;
          sent = st.here_is.whole;
          frame = frame;
          is_frame = last_is_frame st.here_is.whole frame row;
          bytes =
              ap (λ (bytes : List ℕ). bytes ++ up.front) st.here_is.written_is
              ∙ append_assoc (spellings st.here_is.whole) st.here_is.part up.front
              ∙ ap (λ (bytes : List ℕ). spellings st.here_is.whole ++ bytes) front_is;
          some = omega (arith, ap length front_is, length-append st.here_is.part up.front);
        }

pub lends_fails : LendsFails
lends_fails half fault old new r lends =
    let d : NotLent fault old new = subst (λ (it : Option ProxyFault). LendsAfter it (Err fault) old new) r.goes_on lends in
    (because d.because d.book, ap (λ (s : Now). seen half s new.book) d.now ∙ ap (λ (book : Book). seen half old.now book) d.book)
  where
    heavy_front : (here : Option Here) → old.now.live.here ≡ here → TooHeavyFront fault old → RefusesPiece fault (closed old.book).trail
    heavy_front None e heavy =
        let none : front_of old.now ≡ [] = fault_front old.now (r.keeps.runs r.goes_on).fault ∙ ap front_here e in
        absurd (omega (arith, heavy.1, ap length none, r.keeps.weighs))
    heavy_front (Some here) e heavy =
        let on = r.keeps.runs r.goes_on in
        let is : front_of old.now ≡ here.front = fault_front old.now on.fault ∙ ap front_here e in
        let side : SideRecord = side_of old.book.trail (places_in on.follows.story) None in
        let g : GoesOn old.now.token side (accepted_in on.follows.story) here = subst (λ (it : Option Here). LinkFollows old.now.token side (accepted_in on.follows.story) it) e on.follows.link in
        let most : MOST_WEIGHT < weight old.book.trail + length here.front = omega (arith, heavy.1, ap length is) in
        inl (record {
          front = here.front;
          next = next_bytes old.now.token side here g.stands (λ none. omega (arith, most, ap length none, r.keeps.weighs));
          refuses = (heavy.0, omega (arith, most, same_weight 0 old.book));
        })

    because : TooHeavyFront fault old ⊎ (fault ≡ Memory) → new.book ≡ closed old.book → RefusesPiece fault (side_seen half new).book.trail
    because (inl heavy) e = subst (λ (book : Book). RefusesPiece fault (closed book).trail) (sym e) (heavy_front old.now.live.here refl heavy)
    because (inr memory) e = inr memory

-- ---- records of a side that has failed

index_room : (fault : Option ProxyFault) (book : Book) → IndexIs fault book.trail → IndexIs fault (closed book).trail
index_room None book h = tt
index_room (Some (faults.Frame connection place cause)) book h = tt
index_room (Some (faults.Peer index cause)) book h = h
index_room (Some (faults.Limit which)) book h = tt
index_room (Some Memory) book h = tt

law_closed : (side : Side) (token : List ℕ) (book : Book) (fault : Option ProxyFault) → Law side token book fault → Law side token (closed book) fault
law_closed side token book fault h = record {
  story = h.story;
  tells = record { side_is = h.tells.side_is; taken = h.tells.taken; made = h.tells.made; copies = h.tells.copies; accepted = h.tells.accepted; acknowledged = h.tells.acknowledged; order = h.tells.order };
  log = h.log;
  stop = h.stop;
  wire = h.wire;
  heard = h.heard;
  stops = h.stops;
  index = index_room fault book h.index;
  weighs = omega (arith, same_weight 0 book, h.weighs);
}

pub kept_by_fault : KeptByFault
kept_by_fault half fault t k e token =
    subst (λ (it : List ℕ). Law t.now.side it (closed t.book) (Some fault)) token
    (subst (λ (it : Option ProxyFault). Law t.now.side t.now.token (closed t.book) it) e (law_closed t.now.side t.now.token t.book t.fault k.law))

-- ---- the greatest connection

few_by : (b : Bool) (connection : ℕ) (result : Result Unit ProxyFault) (events : List Event) (old last : Now) → nat_lt MOST_CONNECTIONS connection ≡ b → result ≡ Ok tt
    → CallsBarred (if b then Some (faults.Limit Connections) else None) (Up connection) result events old last → connection ≤ MOST_CONNECTIONS
few_by true connection result events old last e good calls = absurd (let never : Ok tt ≡ Err (faults.Limit Connections) = sym good ∙ calls.answers in cc)
few_by false connection result events old last e good calls = omega (arith, ltb-false MOST_CONNECTIONS connection e)

up_few : (connection : ℕ) (old new : TrailState) → RunsOn old → TrailCalls (Up connection) (Ok tt) old new → connection ≤ MOST_CONNECTIONS
up_few connection old new r calls =
    let d = ok_done (Up connection) old new r.goes_on calls in
    few_by (nat_lt MOST_CONNECTIONS connection) connection (Ok tt) d.events old.now d.last refl refl
    (subst (λ (it : Option ProxyFault). CallsAfter it (Up connection) (Ok tt) d.events old.now d.last) (r.keeps.runs r.goes_on).fault d.calls)

many_by : (b : Bool) (connection : ℕ) → nat_lt MOST_CONNECTIONS connection ≡ b → (if b then Some (faults.Limit Connections) else None) ≡ Some (faults.Limit Connections) → MOST_CONNECTIONS < connection
many_by true connection e d = ltb-true MOST_CONNECTIONS connection e
many_by false connection e d = absurd cc

up_many : (connection : ℕ) (fault : ProxyFault) (old new : TrailState) → RunsOn old → old.now.live.here ≡ None → fault ≡ faults.Limit Connections → FailsSo (Up connection) fault old new → MOST_CONNECTIONS < connection
up_many connection fault old new r up is (HeavyAtOnce e d) = absurd (let never : faults.Limit Connections ≡ faults.Limit Trail = sym is ∙ e in cc)
up_many connection fault old new r up is (HeavyThen e d) = absurd (let never : faults.Limit Connections ≡ faults.Limit Trail = sym is ∙ e in cc)
up_many connection fault old new r up is (Failed d) = elim d.stops.due [
  | inl halt ↦
      let none : d.events ≡ [] = up_alone connection old d.stops.last d.events r up d.stops.part in
      let same : d.stops.last ≡ step (Up connection) old.now = subst (λ (es : List Event). Part (step (Up connection) old.now) es d.stops.last) none d.stops.part in
      absurd (let never : Halt fault ≡ Rest = sym halt ∙ ap next same ∙ up_rests old.now connection up (r.keeps.runs r.goes_on).rests in cc)
  | inr memory ↦ absurd (let never : faults.Limit Connections ≡ Memory = sym is ∙ memory in cc)
]
up_many connection fault old new r up is (FailedAtOnce d) = elim d.because [
  | inl bar ↦ many_by (nat_lt MOST_CONNECTIONS connection) connection refl (bar ∙ ap (λ (it : ProxyFault). Some it) is)
  | inr memory ↦ absurd (let never : faults.Limit Connections ≡ Memory = sym is ∙ memory in cc)
]
up_many connection fault old new r up is (NoMemory d) = absurd (let never : faults.Limit Connections ≡ Memory = sym is ∙ d.memory in cc)

pub up_limits : UpLimits
up_limits = record {
  good = up_few;
  bad = λ connection old new r up calls.
      let d : FailsNow (Up connection) (faults.Limit Connections) old new = subst (λ (it : Option ProxyFault). TrailAfter it (Up connection) (Err (faults.Limit Connections)) old new) r.goes_on calls in
      up_many connection (faults.Limit Connections) old new r up refl d.so;
}
