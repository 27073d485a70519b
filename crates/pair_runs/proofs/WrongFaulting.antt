-- That no run ends with a wrong fault.
use Rattle.std.proofs.Common.{◌≡◌, ℕ, zero, suc, ◌-◌, ◌<◌, nat_lt, List, [], ◌∷◌, ◌++◌, map, length, Bool, true, false, if◌then◌else◌, is_none, ◌&&◌, Option, Some, None, Ok, Err, refl, sym, ap, subst, ◌∙◌, append_assoc, arith, inl, inr, ◌⊎◌}
use Rattle.std.proofs.lemmas.Bool.{ltb-false}
use Rattle.std.proofs.lemmas.List.{append-nil}
use Rattle.std.specs.List.{AllByRecursion}
use Rattle.wp_outside.specs.declared.kinds.Side.{Side}
use Rattle.wp_outside.specs.declared.pipe_items.PipeItem.{PipeItem}
use Rattle.wl_wire.specs.Wire.{first, joined}
use Rattle.wl_wire.proofs.CuttingLaws.{first-gives}
use Rattle.wp_outside.specs.declared.kinds.HandleKind.{HandleKind}
use Rattle.handle_table.specs.declared.handles.Handle.{Handle}
use Rattle.pair_runs.specs.Leaving.{Use, after_uses}
use Rattle.transfer_frames.specs.declared.cause.FrameCause.{FrameCause}
use Rattle.half_model.specs.declared.causes.PeerCause.{PeerCause}
use Rattle.half_model.specs.declared.causes.PeerCause.TheVariants as causes
use Rattle.half_model.specs.declared.items.PeerIn.{PeerIn}
use Rattle.half_model.specs.declared.items.PeerIn.TheVariants as items
use Rattle.half_model.specs.Inlet.{Inlet, no_inlet, with_item, end_of, ready, handle_for}
use Rattle.wl_objects.specs.Entries.{Tracked}
use Rattle.half_model.specs.Log.{Mark}
use Rattle.script_lang.specs.declared.steps.Step.{Step}
use Rattle.side_model.specs.declared.fault.ProxyFault.{ProxyFault}
use Rattle.side_model.specs.declared.fault.ProxyFault.TheVariants.{Frame, Peer}
use Rattle.side_model.specs.Books.{Book, TrailRecord}
use Rattle.pair_runs.specs.Causes.{MessageHas}
use Rattle.pair_runs.specs.Faults.{PeerCaused, MessageCaused, ItemCaused}
use Rattle.pair_runs.specs.Loading.{LoadsAllIn}
use Rattle.pair_runs.specs.Moves.{at_side, ClosedBy, ConnectedBy}
use Rattle.pair_runs.specs.Putting.{items_put, with_items, spread_item, spread, inlet_of, TakenOf}
use Rattle.pair_runs.specs.Runs.{Played}
use Rattle.pair_runs.specs.Sides.{SideState, fed, asked}
use Rattle.pair_runs.specs.States.{State, Fault, side_at, connections}
use Rattle.pair_runs.specs.Taking.{Taker, cut_item, TakesIn}
use Rattle.pair_runs.specs.Whys.{tracked_by, RefusesLine, Why}
use Rattle.pair_runs.specs.Working.{WorksInPart}
use Rattle.pair_runs.specs.WrongFaults.{Ends, BlamesNothing, BlamesOther, MissesHandle, IsNoPipe, BlamesPipe, LimitsFew, LimitsNone, RefusesUnheard, BlamesLink}
use Rattle.pair_runs.proofs.Blaming.{faults_are_caused}

-- ---- nothing was put

none_front : {X : Type 0} (xs ys : List X) → xs ++ ys ≡ [] → xs ≡ []
none_front [] ys e = refl
none_front (x ∷ xs) ys e = absurd cc

none_back : {X : Type 0} (xs ys : List X) → xs ++ ys ≡ [] → ys ≡ []
none_back [] ys e = e
none_back (x ∷ xs) ys e = absurd cc

nothing_waits : (waits : Inlet) → waits.bytes ≡ [] → first waits.bytes ≡ Ok None
unfolding first
nothing_waits waits e = ap first e

no_cause : (side : Side) (story : List Mark) (waits : Inlet) (cause : PeerCause) → first waits.bytes ≡ Ok None → MessageHas side story waits cause → ⊥
no_cause side story waits (causes.Object fault) e (inl h) = let never : Ok None ≡ Err h.bad = sym e ∙ h.front in cc
no_cause side story waits (causes.Object fault) e (inr h) = let never : Ok None ≡ Ok (Some h.message) = sym e ∙ h.front in cc
no_cause side story waits causes.HandleMissing e h = let never : Ok None ≡ Ok (Some h.it.message) = sym e ∙ h.it.front in cc
no_cause side story waits causes.HandleKind e h = let never : Ok None ≡ Ok (Some h.it.message) = sym e ∙ h.it.front in cc
no_cause side story waits causes.NoteMissing e h = let never : Ok None ≡ Ok (Some h.it.message) = sym e ∙ h.it.front in cc
no_cause side story waits causes.PipeUnknown e h = h

nothing_in : (side : Side) (book : Book) (waits : Inlet) (objects : Tracked) (others : List PeerIn) → TakenOf side [] book waits objects others → waits.bytes ≡ []
nothing_in side book waits objects others h =
    let none : h.ins ≡ [] = none_front h.ins others h.split in
    let bytes : joined book.trail.taken ++ waits.bytes ≡ [] = sym h.left.bytes ∙ ap (λ (ins : List PeerIn). (inlet_of ins).bytes) none in
    none_back (joined book.trail.taken) waits.bytes bytes

blamed_none : (side : Side) (book : Book) (index : ℕ) (cause : PeerCause) → PeerCaused side [] book index cause → ⊥
blamed_none side book index cause h = by_place h.at
  where
    by_place : MessageCaused side [] book index cause h.told ⊎ ItemCaused side [] book index cause h.told → ⊥
    by_place (inl m) = no_cause side h.told.story m.behind.waits cause (nothing_waits m.behind.waits (nothing_in side book m.behind.waits (tracked_by side h.told.story) m.behind.others m.behind.taken_of)) m.has
    by_place (inr i) = let none : items.Pipe i.next.pipe ∷ i.next.others ≡ [] = none_back i.next.taken_of.ins (items.Pipe i.next.pipe ∷ i.next.others) i.next.taken_of.split in cc

blamed : (side : Side) (index : ℕ) (cause : PeerCause) (steps : List Step) (played : List Played) (last : State) → Ends side (Peer index cause) steps played last → PeerCaused side (items_put side played) (side_at side last).book index cause
blamed side index cause steps played last e = faults_are_caused steps played last (record { side = side; fault = Peer index cause }) e.runs

pub blames_nothing : BlamesNothing
blames_nothing side index cause steps played last e none =
    blamed_none side (side_at side last).book index cause (subst (λ (put : List PeerIn). PeerCaused side put (side_at side last).book index cause) none (blamed side index cause steps played last e))

pub blames_other : BlamesOther
blames_other side index cause steps played last e other = other (blamed side index cause steps played last e).index_is

-- ---- a handle

-- what waits of handles stays in front
handles_stay : (put : List PeerIn) (inlet : Inlet) → (more : List (ℕ × Handle)) × ((with_items put inlet).handles ≡ inlet.handles ++ more)
handles_stay [] inlet = ([], sym (append-nil inlet.handles))
handles_stay (items.Bytes bytes ∷ put) inlet = handles_stay put (with_item (items.Bytes bytes) inlet)
handles_stay (items.Handle handle ∷ put) inlet =
    let rest = handles_stay put (with_item (items.Handle handle) inlet) in
    ((inlet.fed, handle) ∷ rest.0, rest.1 ∙ append_assoc inlet.handles ((inlet.fed, handle) ∷ []) rest.0)
handles_stay (items.Note note ∷ put) inlet = handles_stay put (with_item (items.Note note) inlet)
handles_stay (items.Pipe item ∷ put) inlet = handles_stay put inlet

-- the first handle is ready for a message
first_ready : (kind : HandleKind) (message : List ℕ) (handle : Handle) (inlet : Inlet) (rest : List (ℕ × Handle)) → inlet.handles ≡ (0, handle) ∷ rest → 0 < length message → handle_for (Some kind) message inlet ≡ Some handle
first_ready kind message handle inlet rest e some =
    ap (ready (end_of message inlet)) e ∙ go (nat_lt 0 (end_of message inlet)) refl
  where
    go : (b : Bool) → nat_lt 0 (end_of message inlet) ≡ b → (if b then Some handle else None) ≡ Some handle
    go true k = refl
    go false k = absurd (omega (arith, some, ltb-false 0 (end_of message inlet) k))

some_message : (bytes message : List ℕ) → first bytes ≡ Ok (Some message) → 0 < length message
some_message bytes message e = omega (arith, ((first-gives bytes message).0 e).0.has_header)

none_taken : (taken : List (List ℕ)) → 0 ≡ length taken → taken ≡ []
none_taken [] e = refl
none_taken (message ∷ taken) e = absurd (omega (arith, e))

none_used : (uses : List Use) → [] ≡ map (λ it. it.message) uses → uses ≡ []
none_used [] e = refl
none_used (it ∷ uses) e = absurd cc

first_in : (handle : Handle) (more ins others : List PeerIn) (waits : Inlet) (message : List ℕ) (kind : HandleKind) → ins ++ others ≡ items.Handle handle ∷ spread more → waits ≡ inlet_of ins → first waits.bytes ≡ Ok (Some message)
    → handle_for (Some kind) message waits ≡ None → ⊥
first_in handle more [] others waits message kind split is front lacks =
    let nothing : first waits.bytes ≡ Ok None = nothing_waits waits (ap (λ (inlet : Inlet). inlet.bytes) is) in
    let never : Ok None ≡ Ok (Some message) = sym nothing ∙ front in
    cc
first_in handle more (item ∷ ins) others waits message kind split is front lacks =
    let same : item ≡ items.Handle handle = cc in
    let all : inlet_of (item ∷ ins) ≡ with_items ins (with_item (items.Handle handle) no_inlet) = ap (λ (x : PeerIn). with_items ins (with_item x no_inlet)) same in
    let rest = handles_stay ins (with_item (items.Handle handle) no_inlet) in
    let handles : waits.handles ≡ (0, handle) ∷ rest.0 = ap (λ (inlet : Inlet). inlet.handles) (is ∙ all) ∙ rest.1 in
    let never : None ≡ Some handle = sym lacks ∙ first_ready kind message handle waits rest.0 handles (some_message waits.bytes message front) in
    cc

missed : (side : Side) (handle : Handle) (more : List PeerIn) (book : Book) → PeerCaused side (items.Handle handle ∷ more) book 0 causes.HandleMissing → ⊥
missed side handle more book h = by_place h.at
  where
    by_place : MessageCaused side (items.Handle handle ∷ more) book 0 causes.HandleMissing h.told ⊎ ItemCaused side (items.Handle handle ∷ more) book 0 causes.HandleMissing h.told → ⊥
    by_place (inr i) = let never : causes.HandleMissing ≡ causes.PipeUnknown = i.cause_is in cc
    by_place (inl m) =
        let t = m.behind.taken_of in
        let none : t.left.uses ≡ [] = none_used t.left.uses (sym (none_taken book.trail.taken h.index_is) ∙ t.left.took_is) in
        let is : m.behind.waits ≡ inlet_of t.ins = t.left.left_is ∙ ap (λ (uses : List Use). after_uses uses (inlet_of t.ins)) none in
        let lacks : handle_for (Some m.has.kind) m.has.it.message m.behind.waits ≡ None = ap (λ (kind : Option HandleKind). handle_for kind m.has.it.message m.behind.waits) (sym m.has.carries) ∙ m.has.none in
        first_in handle more t.ins m.behind.others m.behind.waits m.has.it.message m.has.kind t.split is m.has.it.front lacks

pub misses_handle : MissesHandle
misses_handle side handle more steps played last e put =
    missed side handle more (side_at side last).book (subst (λ (xs : List PeerIn). PeerCaused side xs (side_at side last).book 0 causes.HandleMissing) put (blamed side 0 causes.HandleMissing steps played last e))

-- ---- pipes

no_pipes : (xs ys : List PeerIn) → AllByRecursion IsNoPipe xs → AllByRecursion IsNoPipe ys → AllByRecursion IsNoPipe (xs ++ ys)
no_pipes [] ys h k = k
no_pipes (x ∷ xs) ys h k = (h.0, no_pipes xs ys h.1 k)

bytes_no_pipe : (bytes : List ℕ) → AllByRecursion IsNoPipe (map (λ byte. items.Bytes (byte ∷ [])) bytes)
bytes_no_pipe [] = tt
bytes_no_pipe (byte ∷ bytes) = (tt, bytes_no_pipe bytes)

item_no_pipe : (item : PeerIn) → IsNoPipe item → AllByRecursion IsNoPipe (spread_item item)
item_no_pipe (items.Bytes bytes) h = bytes_no_pipe bytes
item_no_pipe (items.Handle handle) h = (tt, tt)
item_no_pipe (items.Note note) h = (tt, tt)
item_no_pipe (items.Pipe item) h = absurd h

spread_no_pipe : (put : List PeerIn) → AllByRecursion IsNoPipe put → AllByRecursion IsNoPipe (spread put)
spread_no_pipe [] h = tt
spread_no_pipe (item ∷ put) h = no_pipes (spread_item item) (spread put) (item_no_pipe item h.0) (spread_no_pipe put h.1)

no_pipe_there : (xs ys : List PeerIn) (item : PipeItem) → AllByRecursion IsNoPipe (xs ++ items.Pipe item ∷ ys) → ⊥
no_pipe_there [] ys item h = h.0
no_pipe_there (x ∷ xs) ys item h = no_pipe_there xs ys item h.1

pub blames_pipe : BlamesPipe
blames_pipe side index steps played last e none = by_place h.at
  where
    h : PeerCaused side (items_put side played) (side_at side last).book index causes.PipeUnknown
    h = blamed side index causes.PipeUnknown steps played last e

    by_place : MessageCaused side (items_put side played) (side_at side last).book index causes.PipeUnknown h.told ⊎ ItemCaused side (items_put side played) (side_at side last).book index causes.PipeUnknown h.told → ⊥
    by_place (inl m) = m.has
    by_place (inr i) =
        no_pipe_there i.next.taken_of.ins i.next.others i.next.pipe
        (subst (λ (xs : List PeerIn). AllByRecursion IsNoPipe xs) (sym i.next.taken_of.split) (spread_no_pipe (items_put side played) none))

-- ---- limits

pub limits_few : LimitsFew
limits_few side steps played last e few =
    omega (arith, few, faults_are_caused steps played last (record { side = side; fault = _ }) e.runs)

pub limits_none : LimitsNone
limits_none = record {
  input = λ side steps played last e. faults_are_caused steps played last (record { side = side; fault = _ }) e.runs;
  lines = λ side steps played last e. faults_are_caused steps played last (record { side = side; fault = _ }) e.runs;
}

-- ---- moves

-- the fault that a side of a move met
fault_in : Option Fault → Option ProxyFault
fault_in None = None
fault_in (Some it) = Some it.fault

met : (side whose : Side) (fault : ProxyFault) (stop : Option ProxyFault) → Some (record { side = whose; fault = fault }) ≡ at_side side stop → stop ≡ Some fault
unfolding fault_in
met side whose fault None e = absurd cc
met side whose fault (Some other) e = sym (ap fault_in e)

module _ (connection place : ℕ) (cause : FrameCause) where
  unheard : (item : Option PeerIn) (fault : ProxyFault) (a b : SideState) → WorksInPart false item fault a b → fault ≡ Frame connection place cause → ⊥
  unheard item fault a b p e =
      let why : Why b.book.trail.side false item (Frame connection place cause) p.part.took a.inside a.book.order b.book = subst (λ (x : ProxyFault). Why b.book.trail.side false item x p.part.took a.inside a.book.order b.book) e p.why in
      let never : false ≡ true = why in
      cc

  same_fault : (stop : Option ProxyFault) (fault : ProxyFault) → stop ≡ Some fault → stop ≡ Some (Frame connection place cause) → fault ≡ Frame connection place cause
  same_fault stop fault e d = let same : Some fault ≡ Some (Frame connection place cause) = sym e ∙ d in cc

  takes_unheard : (count most : ℕ) (a : SideState) (wire : List PeerIn) (b : Taker) (stop : Option ProxyFault) → TakesIn count most a wire b stop → stop ≡ Some (Frame connection place cause) → ⊥
  takes_unheard zero most a wire b stop t e = let never : None ≡ Some (Frame connection place cause) = sym t.1 ∙ e in cc
  takes_unheard (suc count) most a [] b stop t e = t
  takes_unheard (suc count) most a (item ∷ wire) b stop t e = elim t.2 [
    | inl fails ↦ unheard (Some (cut_item most item wire).item) fails.fault (fed (cut_item most item wire).item a) b.side fails.part (same_fault stop fails.fault fails.stops e)
    | inr goes ↦ takes_unheard count (most - (cut_item most item wire).cost) goes.mid (cut_item most item wire).rest b stop goes.more e
  ]

  loads_unheard : (count : ℕ) (a b : SideState) (stop : Option ProxyFault) → LoadsAllIn count a b stop → stop ≡ Some (Frame connection place cause) → ⊥
  loads_unheard zero a b stop l e = let never : None ≡ Some (Frame connection place cause) = sym l.2 ∙ e in cc
  loads_unheard (suc count) a b stop l e = elim l.1 [
    | inl fails ↦ unheard None fails.fault a b fails.part (same_fault stop fails.fault fails.stops e)
    | inr goes ↦ loads_unheard count goes.mid b stop goes.more e
  ]

  closes_unheard : (said : Bool) (a b : SideState) (stop : Option ProxyFault) → ClosedBy said stop a b → stop ≡ Some (Frame connection place cause) → ⊥
  closes_unheard true a b None c e = cc
  closes_unheard true a b (Some fault) c e = c
  closes_unheard false a b None c e = cc
  closes_unheard false a b (Some fault) c e = unheard None fault (asked a) b c (same_fault (Some fault) fault refl e)

pub refuses_unheard : RefusesUnheard
refuses_unheard = record {
  takes = λ side whose most connection place cause s t m.
      takes_unheard connection place cause m.changes.1.1.count most (side_at side s) _ m.changes.0 m.changes.1.0 m.changes.1.1.row (met side whose (Frame connection place cause) m.changes.1.0 m.changes.1.3);
  closes = λ side whose connection place cause s t m.
      closes_unheard connection place cause (side_at side s).inside.asked (side_at side s) m.changes.0 m.changes.1.0 m.changes.1.1 (met side whose (Frame connection place cause) m.changes.1.0 m.changes.1.3);
  loads = λ side whose connection place cause s t m.
      loads_unheard connection place cause m.changes.1.1.count (side_at side s) m.changes.0 m.changes.1.0 m.changes.1.1.row (met side whose (Frame connection place cause) m.changes.1.0 m.changes.1.3);
}

no_line : (connection index : ℕ) (cause : PeerCause) (trail : TrailRecord) → RefusesLine connection (Peer index cause) trail → ⊥
no_line connection index cause trail (inl many) = let never = many.0 in cc
no_line connection index cause trail (inr (inl heavy)) = let never = heavy.0 in cc
no_line connection index cause trail (inr (inr memory)) = cc

pub blames_link : BlamesLink
blames_link = record { connects = λ side index cause s t m. go side index cause s t (is_none s.line && true) m.changes }
  where
    go : (side : Side) (index : ℕ) (cause : PeerCause) (s t : State) (b : Bool) → ConnectedBy b s t (Some (record { side = side; fault = Peer index cause })) → ⊥
    go side index cause s t true c = no_line (suc (connections s)) index cause (side_at side s).book.trail c.0
    go side index cause s t false c =
        let failed : Option Fault = Some (record { side = side; fault = Peer index cause }) in
        absurd (let never : failed ≡ None = c.1 in cc)
