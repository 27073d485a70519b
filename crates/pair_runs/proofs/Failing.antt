-- What each call of a proxy with its records leaves in a run that meets a fault, and why it meets it.
use Rattle.std.proofs.Common.{◌≡◌, ℕ, ◌+◌, ◌<◌, ◌≤◌, length, List, [], ◌∷◌, ◌++◌, Bool, true, false, Option, Some, None, Err, refl, sym, ap, subst, ◌∙◌, arith, inl, inr, ◌⊎◌}
use Rattle.wp_outside.specs.declared.kinds.Side.{Side}
use Rattle.half_model.specs.declared.causes.Limit.TheVariants as limits
use Rattle.half_model.specs.declared.causes.Limit.TheVariants.{Connections, Trail}
use Rattle.half_model.specs.declared.items.PeerIn.{PeerIn}
use Rattle.half_model.specs.declared.items.PeerIn.TheVariants as inputs
use Rattle.half_model.specs.Jobs.{Done}
use Rattle.half_model.specs.Turn.{waits_in}
use Rattle.pair_model.specs.Steps.{Here}
use Rattle.side_model.specs.declared.fault.ProxyFault.{ProxyFault}
use Rattle.side_model.specs.declared.fault.ProxyFault.TheVariants.{Memory}
use Rattle.side_model.specs.Books.{Book, weight, MOST_WEIGHT, mark_cost, line_cost, cost_read, grown, grow_all, closed, Fit}
use Rattle.side_model.specs.Calls.{Part, barred}
use Rattle.side_model.specs.Due.{hear, next, is_free}
use Rattle.side_model.specs.Events.{Rest, Event, Fed, Handed, Came, Asks}
use Rattle.side_model.specs.Follows.{Follows}
use Rattle.side_model.specs.Marks.{mark_of}
use Rattle.side_model.specs.Shows.{wants_peer}
use Rattle.side_model.specs.Sound.{Admits}
use Rattle.side_model.specs.State.{Now}
use Rattle.side_model.specs.Steps.{step}
use Rattle.side_model.specs.Trails.{TrailState, step_all, FailsNow, FailsSo, HeavyAtOnce, HeavyThen, Failed, FailedAtOnce, NoMemory, StopsRecording, Fails, LacksMemory, TrailAfter, TrailCalls, Begun, LIMIT_TRAIL}
use Rattle.side_model.proofs.Dues.{due_in, all_rest}
use Rattle.side_model.proofs.Parts.{part_at, same_part, same_step, FollowsOn, follows_part}
use Rattle.side_model.proofs.Sounds.{wants_free}
use Rattle.side_model.proofs.TrailDone.{whole_weighs}
use Rattle.side_model.proofs.TrailParts.{ran, NotRun, Begins, begins, follows_room, same_weight}
use Rattle.wl_tables.specs.declared.way.Way.{Way}
use Rattle.pair_runs.specs.Leaving.{Passes}
use Rattle.pair_runs.specs.Sides.{Inside, SideState, TOKEN, fed, asked, seen, side_seen}
use Rattle.pair_runs.specs.Whys.{PassesLimit, Why}
use Rattle.pair_runs.specs.WorkLaws.{RunsOn, FailsInPart, FedFails, CameFails, AsksFails, HandedFails}
use Rattle.pair_runs.specs.Working.{Works, InPart, WorksInPart}
use Rattle.pair_runs.proofs.Calling.{fed_base, fed_here, came_base, asks_base, quiet_still}
use Rattle.pair_runs.proofs.Composing.{may_hear, works_same, works_then}
use Rattle.pair_runs.proofs.Reasons.{halts_why, heavy_why, item_heavy, item_bars}
use Rattle.pair_runs.proofs.Rowing.{row_works, stays_quiet}
use Rattle.pair_runs.proofs.Showing.{treated_so}
use Rattle.pair_runs.proofs.Partly.{Nothing, nothing_took, nothing_part}

-- ---- where a call came to

-- what a call changed up to a state that the records follow, all of which is recorded
record Reached (half : ℕ) (a : SideState) (new : TrailState) (at : Now) : Type 0 where
  works : Works true a (seen half at new.book)
  follows : Follows at (closed new.book)
  token : at.token ≡ TOKEN

reached_passes : (half : ℕ) (a : SideState) (new : TrailState) (at : Now) (r : Reached half a new at) → Passes at.side r.works.inside.inlet.uses a.inside.objects at.live.tables.objects.tracked a.book.order new.book.order
reached_passes half a new at r =
    subst (λ (side : Side). Passes side r.works.inside.inlet.uses a.inside.objects at.live.tables.objects.tracked a.book.order new.book.order) (sym r.works.trail.side ∙ r.follows.tells.side_is) r.works.passes

abbrev in_part : (half : ℕ) (a : SideState) (new : TrailState) (at : Now) → Reached half a new at → InPart a (side_seen half new)
in_part half a new at r = record {
  took = r.works.took;
  messages = r.works.inside.messages;
  bytes = record { rest = at.live.sending.inlet.bytes; is = sym r.works.inside.inlet.bytes };
  trail = r.works.trail;
  order = r.works.order;
}

reached : (half : ℕ) (a : SideState) (new : TrailState) (s t : Now) (book : Book) (events : List Event) → Works true a (seen half s book) → FollowsOn s book → s.token ≡ TOKEN → Part s events t → new.book ≡ grow_all events s book → Reached half a new t
reached half a new s t book events w f k part e =
    let row : Works true a (seen half t (grow_all events s book)) = works_then true a (seen half s book) (seen half t (grow_all events s book)) w (row_works half s t book events f part) in
    let after : FollowsOn t (grow_all events s book) = follows_part s t book events f part in
    record {
      works = subst (λ (b : Book). Works true a (seen half t b)) (sym e) row;
      follows = subst (λ (b : Book). Follows t (closed b)) (sym e) (follows_room 0 t (grow_all events s book) after.follows);
      token = (same_part s t events part).token ∙ k;
    }

-- no frame is heard along a row behind which none was to be heard
quiet_end : (s t : Now) (events : List Event) → hear s ≡ Rest → Part s events t → hear t ≡ Rest
quiet_end s t [] q p = ap hear p ∙ q
quiet_end s t (x ∷ xs) q p = quiet_end (step x s) t xs (stays_quiet x s q (due_in s x p.0)) p.1

-- ---- a call

-- what is known of a call: what it does at first, and that it may hear frames or hears none
record Called (half : ℕ) (hears : Bool) (event : Event) (a : SideState) (old : TrailState) : Type 0 where
  begins : Begins old event
  token : old.now.token ≡ TOKEN
  base : Works true a (seen half (step event old.now) (grown event old.now (closed old.book)))
  may : (hears ≡ true) ⊎ (hear (step event old.now) ≡ Rest)

still_may : (hears : Bool) (s t : Now) (events : List Event) → (hears ≡ true) ⊎ (hear s ≡ Rest) → Part s events t → (hears ≡ true) ⊎ (hear t ≡ Rest)
still_may hears s t events (inl hearing) p = inl hearing
still_may hears s t events (inr quiet) p = inr (quiet_end s t events quiet p)

reached_by : (half : ℕ) (hears : Bool) (event : Event) (a : SideState) (old new : TrailState) (t : Now) (events : List Event) → Called half hears event a old → Part (step event old.now) events t → new.book ≡ grow_all (event ∷ events) old.now (closed old.book) → Reached half a new t
reached_by half hears event a old new t events c part e =
    reached half a new (step event old.now) t (grown event old.now (closed old.book)) events c.base c.begins.after ((same_step event old.now).token ∙ c.token) part e

-- the side is that of the records
as_side : (hears : Bool) (item : Option PeerIn) (fault : ProxyFault) (took : List (List ℕ)) (inside : Inside) (ways : List Way) (book : Book) (s : Now) → Follows s book → Why s.side hears item fault took inside ways book → Why book.trail.side hears item fault took inside ways book
as_side hears item fault took inside ways book s f why = subst (λ (side : Side). Why side hears item fault took inside ways book) (sym f.tells.side_is) why

-- it failed at a fault that was due, or for want of memory
failed_there : (half : ℕ) (hears : Bool) (item : Option PeerIn) (event : Event) (fault : ProxyFault) (a : SideState) (old new : TrailState) → Called half hears event a old → Fails event fault old new → WorksInPart hears item fault a (side_seen half new)
failed_there half hears item event fault a old new c d =
    let at : Now = d.stops.last in
    let r : Reached half a new at = reached_by half hears event a old new at d.events c d.stops.part d.whole.book in
    let weighs : weight (closed new.book).trail ≤ MOST_WEIGHT =
    omega (arith, same_weight 0 new.book, ap (λ (b : Book). weight b.trail) d.whole.book, whole_weighs old event c.begins d.events at d.stops.part d.whole.fit) in
    record {
      part = in_part half a new at r;
      why = as_side hears item fault r.works.took a.inside a.book.order (closed new.book) at r.follows (elim d.stops.due [
        | inl halt ↦ halts_why hears item at (closed new.book) r.follows r.token weighs r.works.took a.inside a.book.order r.works.inside.inlet (reached_passes half a new at r) fault (still_may hears (step event old.now) at d.events c.may d.stops.part) halt
        | inr memory ↦ subst (λ (x : ProxyFault). Why at.side hears item x r.works.took a.inside a.book.order (closed new.book)) (sym memory) tt
      ]);
    }

-- at an event that was due, and too heavy
heavy_there : (half : ℕ) (hears : Bool) (item : Option PeerIn) (event : Event) (a : SideState) (old new : TrailState) → Called half hears event a old → (d : StopsRecording event old new) (t : Now) → Part (step event old.now) d.events t
    → (recorded : List Event) → d.events ≡ recorded ++ d.heavy_event ∷ d.more → d.recorded ≡ event ∷ recorded → WorksInPart hears item LIMIT_TRAIL a (side_seen half new)
heavy_there half hears item event a old new c d t part recorded rest same =
    let begun : Now = step event old.now in
    let at : Now = step_all recorded begun in
    let split : Part begun recorded at × Part at (d.heavy_event ∷ d.more) t = part_at begun t recorded (d.heavy_event ∷ d.more) (subst (λ (es : List Event). Part begun es t) rest part) in
    let book : new.book ≡ grow_all (event ∷ recorded) old.now (closed old.book) = d.book ∙ ap (λ (es : List Event). grow_all es old.now (closed old.book)) same in
    let r : Reached half a new at = reached_by half hears event a old new at recorded c split.0 book in
    let fit : Fit (event ∷ recorded) old.now (closed old.book) = subst (λ (es : List Event). Fit es old.now (closed old.book)) same d.fit in
    let weighs : weight (grow_all (event ∷ recorded) old.now (closed old.book)).trail ≤ MOST_WEIGHT = whole_weighs old event c.begins recorded at split.0 fit in
    let heavy : MOST_WEIGHT < weight new.book.trail + mark_cost (mark_of d.heavy_event at) =
    subst (λ (es : List Event). MOST_WEIGHT < weight new.book.trail + mark_cost (mark_of d.heavy_event (step_all es old.now))) same d.heavy in
    let less : weight (closed new.book).trail ≤ MOST_WEIGHT = omega (arith, same_weight 0 new.book, ap (λ (b : Book). weight b.trail) book, weighs) in
    let more : MOST_WEIGHT < weight (closed new.book).trail + mark_cost (mark_of d.heavy_event at) = omega (arith, same_weight 0 new.book, heavy) in
    record {
      part = in_part half a new at r;
      why = as_side hears item LIMIT_TRAIL r.works.took a.inside a.book.order (closed new.book) at r.follows (inl (heavy_why hears item at (closed new.book) r.follows r.token less r.works.took a.inside a.book.order r.works.inside.inlet (reached_passes half a new at r) d.heavy_event split.1.0 more));
    }

-- at the event from outside
record HeavyFirst (event : Event) (old new : TrailState) : Type 0 where
  heavy : MOST_WEIGHT < weight old.book.trail + mark_cost (mark_of event old.now)
  book : new.book ≡ closed old.book

-- what a call stops at that is too heavy
stops_there : (half : ℕ) (hears : Bool) (item : Option PeerIn) (event : Event) (a : SideState) (old new : TrailState) → Called half hears event a old → StopsRecording event old new
    → HeavyFirst event old new ⊎ WorksInPart hears item LIMIT_TRAIL a (side_seen half new)
stops_there half hears item event a old new c d = by_run (ran event d.answer d.events old.now d.last c.begins.runs.fault d.calls)
  where
    first : (recorded : List Event) → d.recorded ≡ recorded → recorded ≡ [] → d.heavy_event ≡ event → HeavyFirst event old new
    first recorded k none same =
        let book : new.book ≡ closed old.book = d.book ∙ ap (λ (es : List Event). grow_all es old.now (closed old.book)) (k ∙ none) in
        let heavy : MOST_WEIGHT < weight new.book.trail + mark_cost (mark_of event old.now) =
        subst (λ (x : Event). MOST_WEIGHT < weight new.book.trail + mark_cost (mark_of x old.now)) same
        (subst (λ (es : List Event). MOST_WEIGHT < weight new.book.trail + mark_cost (mark_of d.heavy_event (step_all es old.now))) (k ∙ none) d.heavy) in
        record { heavy = omega (arith, same_weight 0 old.book, ap (λ (b : Book). weight b.trail) book, heavy); book = book }

    by_row : (events : List Event) → d.events ≡ events → (t : Now) → Part (step event old.now) d.events t → (recorded : List Event) → d.recorded ≡ recorded → event ∷ events ≡ recorded ++ d.heavy_event ∷ d.more
        → HeavyFirst event old new ⊎ WorksInPart hears item LIMIT_TRAIL a (side_seen half new)
    by_row events e t part [] k row = inl (first [] k refl (let same : d.heavy_event ≡ event = cc in same))
    by_row events e t part (x ∷ recorded) k row =
        let same : x ≡ event = cc in
        let rest : events ≡ recorded ++ d.heavy_event ∷ d.more = cc in
        inr (heavy_there half hears item event a old new c d t part recorded (e ∙ rest) (k ∙ ap (λ v. v ∷ recorded) same))

    by_none : (recorded : List Event) → d.recorded ≡ recorded → event ∷ [] ≡ recorded ++ d.heavy_event ∷ d.more → HeavyFirst event old new
    by_none [] k row = first [] k refl (let same : d.heavy_event ≡ event = cc in same)
    by_none (x ∷ []) k row = absurd cc
    by_none (x ∷ y ∷ recorded) k row = absurd cc

    by_run : Begun event d.events old.now d.last ⊎ NotRun old.now d.events d.last → HeavyFirst event old new ⊎ WorksInPart hears item LIMIT_TRAIL a (side_seen half new)
    by_run (inl r) = by_row d.events refl r.at r.part d.recorded refl d.row
    by_run (inr n) = inl (by_none d.recorded refl (sym (ap (λ (es : List Event). event ∷ es) n.none) ∙ d.row))

-- for want of memory nothing is recorded, or the event from outside
lacks_there : (half : ℕ) (hears : Bool) (event : Event) (fault : ProxyFault) (a : SideState) (old new : TrailState) → Called half hears event a old → LacksMemory event fault old new → (new.book ≡ closed old.book) ⊎ InPart a (side_seen half new)
lacks_there half hears event fault a old new c d = elim d.first [
  | inl none ↦ inl (d.book ∙ ap (λ (es : List Event). grow_all es old.now (closed old.book)) none)
  | inr one ↦
      let r : Reached half a new (step event old.now) = reached_by half hears event a old new (step event old.now) [] c refl (d.book ∙ ap (λ (es : List Event). grow_all es old.now (closed old.book)) one.0) in
      inr (in_part half a new (step event old.now) r)
]

no_memory : (hears : Bool) (item : Option PeerIn) (fault : ProxyFault) (a b : SideState) → fault ≡ Memory → InPart a b → WorksInPart hears item fault a b
no_memory hears item fault a b e part = record { part = part; why = subst (λ (x : ProxyFault). Why b.book.trail.side hears item x part.took a.inside a.book.order b.book) (sym e) tt }

-- ---- a call that brings an item, or nothing

-- what such a call refuses at once, and that of it alone only an item for a pipe has weight
record Alone (item : Option PeerIn) (event : Event) (a : SideState) (old : TrailState) : Type 0 where
  same : a.book ≡ closed old.book
  light : line_cost event old.now.live.here ≡ 0
  bars : (fault : ProxyFault) → barred event old.now ≡ Some fault → Why old.book.trail.side false item fault [] a.inside a.book.order (closed old.book)
  heavy : MOST_WEIGHT < weight (closed old.book).trail + mark_cost (mark_of event old.now) → PassesLimit limits.Trail old.book.trail.side item [] a.inside a.book.order (closed old.book)

at_once : (half : ℕ) (item : Option PeerIn) (fault : ProxyFault) (a : SideState) (old new : TrailState) → a.book ≡ closed old.book → new.book ≡ closed old.book → Why old.book.trail.side false item fault [] a.inside a.book.order (closed old.book) → WorksInPart false item fault a (side_seen half new)
at_once half item fault a old new same e why =
    let is : (side_seen half new).book ≡ a.book = ap closed e ∙ sym same in
    let n : Nothing a (side_seen half new) = nothing_took a (side_seen half new) is in
    record {
      part = n.part;
      why = subst (λ (took : List (List ℕ)). Why (side_seen half new).book.trail.side false item fault took a.inside a.book.order (side_seen half new).book) (sym n.none)
          (subst (λ (book : Book). Why book.trail.side false item fault [] a.inside a.book.order book) (sym (is ∙ same)) why);
    }

fails_so : (half : ℕ) (item : Option PeerIn) (event : Event) (fault : ProxyFault) (a : SideState) (old new : TrailState) → Called half false event a old → Alone item event a old → FailsSo event fault old new → WorksInPart false item fault a (side_seen half new)
fails_so half item event fault a old new c k (HeavyAtOnce e d) =
    absurd (omega (arith, d.heavy, k.light, c.begins.weighs, same_weight 0 old.book))
fails_so half item event fault a old new c k (HeavyThen e d) = elim (stops_there half false item event a old new c d) [
  | inl first ↦ at_once half item fault a old new k.same first.book (subst (λ (x : ProxyFault). Why old.book.trail.side false item x [] a.inside a.book.order (closed old.book)) (sym e) (k.heavy (omega (arith, first.heavy, same_weight 0 old.book))))
  | inr there ↦ subst (λ (x : ProxyFault). WorksInPart false item x a (side_seen half new)) (sym e) there
]
fails_so half item event fault a old new c k (Failed d) = failed_there half false item event fault a old new c d
fails_so half item event fault a old new c k (FailedAtOnce d) = elim d.because [
  | inl bar ↦ at_once half item fault a old new k.same d.book (k.bars fault bar)
  | inr memory ↦ at_once half item fault a old new k.same d.book (subst (λ (x : ProxyFault). Why old.book.trail.side false item x [] a.inside a.book.order (closed old.book)) (sym memory) tt)
]
fails_so half item event fault a old new c k (NoMemory d) = elim (lacks_there half false event fault a old new c d) [
  | inl none ↦ at_once half item fault a old new k.same none (subst (λ (x : ProxyFault). Why old.book.trail.side false item x [] a.inside a.book.order (closed old.book)) (sym d.memory) tt)
  | inr some ↦ no_memory false item fault a (side_seen half new) d.memory some
]

pub fails_of : (event : Event) (fault : ProxyFault) (old new : TrailState) → RunsOn old → TrailCalls event (Err fault) old new → FailsSo event fault old new
fails_of event fault old new r calls =
    let d : FailsNow event fault old new = subst (λ (it : Option ProxyFault). TrailAfter it event (Err fault) old new) r.goes_on calls in
    d.so

-- ---- the calls

-- no whole message waits where a proxy wants more
still_waits : (s : Now) → next s ≡ Rest → wants_peer s ≡ true → waits_in s.live.sending ≡ false
still_waits s rests wants = go (waits_in s.live.sending) refl
  where
    free : is_free s.live.sending.owes s.kept.ring ≡ true
    free = (wants_free s wants).1

    go : (b : Bool) → waits_in s.live.sending ≡ b → waits_in s.live.sending ≡ false
    go false e = e
    go true e = absurd (let never : true ≡ false = sym free ∙ treated_so s (all_rest s rests).treats e in cc)

-- an item of a pipe changes no inlet, and others are barred by nothing and weigh nothing
fed_alone : (half : ℕ) (item : PeerIn) (old : TrailState) → Begins old (Fed item) → old.now.token ≡ TOKEN → Alone (Some item) (Fed item) (fed item (side_seen half old)) old
fed_alone half item old b token = by_item item b.admits
  where
    quiet : hear old.now ≡ Rest
    quiet = (all_rest old.now b.runs.rests).hears

    by_item : (item : PeerIn) → Admits (Fed item) old.now → Alone (Some item) (Fed item) (fed item (side_seen half old)) old
    by_item (inputs.Bytes bytes) admits = record {
      same = refl;
      light = refl;
      bars = λ fault bar. absurd cc;
      heavy = λ heavy. absurd (omega (arith, b.weighs, heavy));
    }
    by_item (inputs.Handle handle) admits = record {
      same = refl;
      light = refl;
      bars = λ fault bar. absurd cc;
      heavy = λ heavy. absurd (omega (arith, b.weighs, heavy));
    }
    by_item (inputs.Note note) admits = record {
      same = refl;
      light = refl;
      bars = λ fault bar. absurd cc;
      heavy = λ heavy. absurd (omega (arith, b.weighs, heavy));
    }
    by_item (inputs.Pipe pipe) admits = record {
      same = refl;
      light = refl;
      bars = λ fault bar.
          as_side false (Some (inputs.Pipe pipe)) fault [] (side_seen half old).inside (side_seen half old).book.order (closed old.book) old.now b.follows.follows
          (item_bars old.now (closed old.book) b.follows.follows token b.weighs quiet (side_seen half old).inside (side_seen half old).book.order refl (still_waits old.now b.runs.rests) admits.0 (inputs.Pipe pipe) fault bar);
      heavy = λ heavy.
          as_side false (Some (inputs.Pipe pipe)) LIMIT_TRAIL [] (side_seen half old).inside (side_seen half old).book.order (closed old.book) old.now b.follows.follows
          (inr (item_heavy old.now (closed old.book) b.follows.follows token b.weighs quiet (side_seen half old).inside (side_seen half old).book.order refl (still_waits old.now b.runs.rests) (inputs.Pipe pipe) heavy));
    }

pub fed_fails : FedFails
fed_fails half item fault old new r token admits calls =
    let b : Begins old (Fed item) = begins old (Fed item) r.goes_on r.keeps admits in
    let c : Called half false (Fed item) (fed item (side_seen half old)) old = record {
      begins = b;
      token = token;
      base = may_hear _ _ (fed_base half item old.now old.book);
      may = inr (quiet_still (Fed item) old.now b.runs.rests (fed_here item old.now));
    } in
    fails_so half (Some item) (Fed item) fault (fed item (side_seen half old)) old new c (fed_alone half item old b token) (fails_of (Fed item) fault old new r calls)

pub asks_fails : AsksFails
unfolding step
asks_fails half reason fault old new r token admits calls =
    let b : Begins old (Asks reason) = begins old (Asks reason) r.goes_on r.keeps admits in
    let c : Called half false (Asks reason) (asked (side_seen half old)) old = record {
      begins = b;
      token = token;
      base = subst (λ (a : SideState). Works true a (seen half (step (Asks reason) old.now) (grown (Asks reason) old.now (closed old.book))))
          (asks_base half reason old.now old.book old.now.kept.closing refl) (works_same true (seen half (step (Asks reason) old.now) (grown (Asks reason) old.now (closed old.book))));
      may = inr (quiet_still (Asks reason) old.now b.runs.rests refl);
    } in
    fails_so half None (Asks reason) fault (asked (side_seen half old)) old new c
    (record { same = refl; light = refl; bars = λ fault bar. absurd cc; heavy = λ heavy. absurd (omega (arith, b.weighs, heavy)) }) (fails_of (Asks reason) fault old new r calls)

-- what waits inside is the same before a copy is handed back
handed_same : (half : ℕ) (done : Done) (s : Now) (book : Book) (fault : ProxyFault) (b : SideState) → WorksInPart false None fault (seen half (step (Handed done) s) (grown (Handed done) s (closed book))) b → WorksInPart false None fault (seen half s book) b
unfolding step
handed_same half done s book fault b w = record {
  part = record { took = w.part.took; messages = w.part.messages; bytes = w.part.bytes; trail = w.part.trail; order = w.part.order };
  why = w.why;
}

pub handed_fails : HandedFails
unfolding step
handed_fails half done fault old new r token admits calls =
    let b : Begins old (Handed done) = begins old (Handed done) r.goes_on r.keeps admits in
    let a : SideState = seen half (step (Handed done) old.now) (grown (Handed done) old.now (closed old.book)) in
    let c : Called half false (Handed done) a old = record { begins = b; token = token; base = works_same true a; may = inr (quiet_still (Handed done) old.now b.runs.rests refl) } in
    handed_same half done old.now old.book fault (side_seen half new)
    (fails_so half None (Handed done) fault a old new c
    (record { same = refl; light = refl; bars = λ fault bar. absurd cc; heavy = λ heavy. absurd (omega (arith, b.weighs, heavy)) }) (fails_of (Handed done) fault old new r calls))

-- a piece that is not read is refused
came_so : (half : ℕ) (piece : List ℕ) (here : Here) (fault : ProxyFault) (old new : TrailState) → Begins old (Came piece) → old.now.token ≡ TOKEN → old.now.live.here ≡ Some here → FailsSo (Came piece) fault old new
    → FailsInPart (length piece) fault (side_seen half old) (seen half (step (Came piece) old.now) (grown (Came piece) old.now (closed old.book))) (side_seen half new)
came_so half piece here fault old new b token up why = by_why why
  where
    a : SideState
    a = seen half (step (Came piece) old.now) (grown (Came piece) old.now (closed old.book))

    c : Called half true (Came piece) a old
    c = record { begins = b; token = token; base = works_same true a; may = inl refl }

    refused : new.book ≡ closed old.book → (fault ≡ LIMIT_TRAIL) × (MOST_WEIGHT < weight old.book.trail + length piece) ⊎ (fault ≡ Memory) → FailsInPart (length piece) fault (side_seen half old) a (side_seen half new)
    refused e d = inl (
      elim d [
        | inl heavy ↦ inl (heavy.0, omega (arith, heavy.1, same_weight 0 new.book, ap (λ (book : Book). weight book.trail) e, same_weight 0 old.book))
        | inr memory ↦ inr memory
      ],
      nothing_part (side_seen half old) (side_seen half new) (ap closed e),
    )

    by_why : FailsSo (Came piece) fault old new → FailsInPart (length piece) fault (side_seen half old) a (side_seen half new)
    by_why (HeavyAtOnce e d) = refused d.book (inl (e, omega (arith, d.heavy, ap (λ (it : Option Here). cost_read piece it) up)))
    by_why (HeavyThen e d) = elim (stops_there half true None (Came piece) a old new c d) [
      | inl first ↦ absurd (omega (arith, first.heavy, b.weighs, same_weight 0 old.book))
      | inr there ↦ inr (subst (λ (x : ProxyFault). WorksInPart true None x a (side_seen half new)) (sym e) there)
    ]
    by_why (Failed d) = inr (failed_there half true None (Came piece) fault a old new c d)
    by_why (FailedAtOnce d) = elim d.because [
      | inl bar ↦ absurd cc
      | inr memory ↦ refused d.book (inr memory)
    ]
    by_why (NoMemory d) = elim (lacks_there half true (Came piece) fault a old new c d) [
      | inl none ↦ refused none (inr d.memory)
      | inr some ↦ inr (no_memory true None fault a (side_seen half new) d.memory some)
    ]

pub came_fails : CameFails
came_fails half piece here fault old new r token admits up calls =
    let b : Begins old (Came piece) = begins old (Came piece) r.goes_on r.keeps admits in
    subst (λ (a : SideState). FailsInPart (length piece) fault (side_seen half old) a (side_seen half new)) (came_base half piece here old.now old.book old.now.live.here refl up)
    (came_so half piece here fault old new b token up (fails_of (Came piece) fault old new r calls))
