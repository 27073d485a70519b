-- What is left falls with each move of a round that changes something.
use Rattle.std.proofs.Common.{◌≡◌, ◌≢◌, ℕ, zero, suc, ◌+◌, ◌-◌, ◌<◌, ◌≤◌, List, [], ◌∷◌, ◌++◌, take, drop, length, Bool, true, false, is_none, ◌&&◌, ◌||◌, Option, Some, None, option_map, refl, sym, ap, subst, ◌∙◌, arith, length-drop, inl, inr, ◌⊎◌}
use Rattle.std.proofs.lemmas.List.{append-nil}
use Rattle.std.proofs.lemmas.List.Sums.{sum_by-cons}
use Rattle.std.specs.List.{AllByRecursion}
use Rattle.wp_outside.specs.declared.kinds.Direction.{Direction}
use Rattle.wp_outside.specs.declared.kinds.Direction.TheVariants.{Up, Down}
use Rattle.wp_outside.specs.declared.kinds.Side.{Side}
use Rattle.wp_outside.specs.declared.kinds.Side.TheVariants.{Near, Far}
use Rattle.half_model.specs.declared.items.PeerIn.{PeerIn}
use Rattle.half_model.specs.declared.items.PeerIn.TheVariants as items
use Rattle.side_model.specs.declared.fault.ProxyFault.{ProxyFault}
use Rattle.side_model.specs.Books.{MOST_WEIGHT, weight}
use Rattle.pair_runs.specs.Kept.{Kept}
use Rattle.pair_runs.specs.Linking.{with_line, Writes, written, read}
use Rattle.pair_runs.specs.Loading.{LoadsAllIn, LoadsAll}
use Rattle.pair_runs.specs.Measure.{item_left, wire_left, copies_left, side_left, left, Falls, RoundFalls}
use Rattle.pair_runs.specs.Moves.{Move, Take, LoadAll, ConnectIfHeld, Push, Pull, at_side, Taken, LoadedAll, holds, Connected, PushedOn, PulledBy, PulledOff, Changes, Moves, MovesAll, WritesBy, ConnectedBy}
use Rattle.pair_runs.specs.Runs.{round}
use Rattle.pair_runs.specs.Sides.{SideState, fed, all_loaded}
use Rattle.pair_runs.specs.States.{State, Lanes, no_lanes, side_at, with_side, wire_at, with_wire, lane_at, with_lane, on_lane, writer, reader, connections}
use Rattle.pair_runs.specs.Taking.{Cut, behind, piece_size, cut_item, Taker, TakesIn, TakesAll, TakesNone}
use Rattle.pair_runs.proofs.Weights.{works_weigh, works_left, line_weighs, written_weighs, read_weighs, written_none}

-- ---- one after another

pub falls_then : (s t u : State) → Falls s t → Falls t u → Falls s u
falls_then s t u (inl e) (inl d) = inl (d ∙ e)
falls_then s t u (inl e) (inr l) = inr (omega (arith, ap left e, l))
falls_then s t u (inr l) (inl d) = inr (omega (arith, ap left d, l))
falls_then s t u (inr l) (inr m) = inr (omega (arith, l, m))

pub falls_left : (s t : State) → Falls s t → left t ≤ left s
falls_left s t (inl e) = omega (arith, ap left e)
falls_left s t (inr l) = omega (arith, l)

-- ---- by side

-- both sides' records weigh no more than they may
pub weighs : (s : State) (side : Side) → Kept None s → weight (side_at side s).book.trail ≤ MOST_WEIGHT
weighs s Near k = k.0.law.weighs
weighs s Far k = k.1.law.weighs

-- a side alone, with its wire
abbrev pub taker_left : Taker → ℕ
taker_left a = side_left a.side + wire_left a.wire

left_by : (side : Side) (s : State) (b : Taker) → (b ≡ record { side = side_at side s; wire = wire_at side s }) ⊎ (taker_left b < side_left (side_at side s) + wire_left (wire_at side s))
    → Falls s (with_side side b.side (with_wire side b.wire s))
left_by Near s b (inl e) = inl (ap (λ (it : Taker). record s { near = it.side; near_wire = it.wire }) e)
left_by Near s b (inr l) = inr (omega (arith, l))
left_by Far s b (inl e) = inl (ap (λ (it : Taker). record s { far = it.side; far_wire = it.wire }) e)
left_by Far s b (inr l) = inr (omega (arith, l))

pub side_falls : (side : Side) (s : State) (b : SideState) → (b ≡ side_at side s) ⊎ (side_left b < side_left (side_at side s)) → Falls s (with_side side b s)
side_falls Near s b (inl e) = inl (ap (λ (it : SideState). record s { near = it }) e)
side_falls Near s b (inr l) = inr (omega (arith, l))
side_falls Far s b (inl e) = inl (ap (λ (it : SideState). record s { far = it }) e)
side_falls Far s b (inr l) = inr (omega (arith, l))

-- ---- taken from a wire

behind_left : (bytes : List ℕ) (wire : List PeerIn) → wire_left (behind bytes wire) ≤ 1 + length bytes + wire_left wire
behind_left [] wire = omega arith
behind_left (byte ∷ bytes) wire = omega (arith, sum_by-cons item_left (items.Bytes (byte ∷ bytes)) wire)

-- bytes left over are fewer, where some may be taken
cut_left : (most : ℕ) (item : PeerIn) (wire : List PeerIn) → 0 < most → wire_left (cut_item most item wire).rest < wire_left (item ∷ wire)
cut_left most (items.Bytes []) wire l = omega (arith, sum_by-cons item_left (items.Bytes []) wire, behind_none (drop (piece_size most []) []) (omega (arith, length-drop (piece_size most []) (none ℕ))))
  where
    none : (X : Type 0) → List X
    none X = []

    behind_none : (bytes : List ℕ) → length bytes ≤ 0 → wire_left (behind bytes wire) ≤ wire_left wire
    behind_none [] d = omega arith
    behind_none (byte ∷ bytes) d = absurd (omega (arith, d))
cut_left most (items.Bytes (byte ∷ bytes)) wire l =
    omega (arith, sum_by-cons item_left (items.Bytes (byte ∷ bytes)) wire, behind_left (drop (piece_size most (byte ∷ bytes)) (byte ∷ bytes)) wire, length-drop (piece_size most (byte ∷ bytes)) (byte ∷ bytes), l)
cut_left most (items.Handle handle) wire l = omega (arith, sum_by-cons item_left (items.Handle handle) wire)
cut_left most (items.Note note) wire l = omega (arith, sum_by-cons item_left (items.Note note) wire)
cut_left most (items.Pipe item) wire l = omega (arith, sum_by-cons item_left (items.Pipe item) wire)

-- records grow
takes_weigh : (count most : ℕ) (a : SideState) (wire : List PeerIn) (b : Taker) → TakesIn count most a wire b None → weight a.book.trail ≤ weight b.side.book.trail
takes_weigh zero most a wire b h = omega (arith, ap (λ (it : Taker). weight it.side.book.trail) h.0)
takes_weigh (suc count) most a [] b h = absurd h
takes_weigh (suc count) most a (item ∷ wire) b h = elim h.2 [
  | inl fails ↦ absurd (let never : None ≡ Some fails.fault = fails.stops in cc)
  | inr goes ↦ omega (arith, works_weigh false (fed (cut_item most item wire).item a) goes.mid goes.works, takes_weigh count (most - (cut_item most item wire).cost) goes.mid (cut_item most item wire).rest b goes.more)
]

less : (b next : Taker) (n : ℕ) → (b ≡ next) ⊎ (taker_left b < taker_left next) → taker_left next < n → taker_left b < n
less b next n (inl e) l = omega (arith, ap taker_left e, l)
less b next n (inr m) l = omega (arith, m, l)

-- an item that is taken leaves less
takes_less : (count most : ℕ) (a : SideState) (item : PeerIn) (wire : List PeerIn) (b : Taker) → TakesIn (suc count) most a (item ∷ wire) b None → weight b.side.book.trail ≤ MOST_WEIGHT
    → ((next : Taker) → (n : ℕ) → TakesIn count n next.side next.wire b None → (b ≡ next) ⊎ (taker_left b < taker_left next)) → taker_left b < side_left a + wire_left (item ∷ wire)
takes_less count most a item wire b h w others = elim h.2 [
  | inl fails ↦ absurd (let never : None ≡ Some fails.fault = fails.stops in cc)
  | inr goes ↦
      let it : Cut = cut_item most item wire in
      let weighs : weight goes.mid.book.trail ≤ weight b.side.book.trail = takes_weigh count (most - it.cost) goes.mid it.rest b goes.more in
      let side : side_left goes.mid ≤ side_left (fed it.item a) = works_left false (fed it.item a) goes.mid goes.works (omega (arith, weighs, w)) in
      less b (record { side = goes.mid; wire = it.rest }) (side_left a + wire_left (item ∷ wire)) (others (record { side = goes.mid; wire = it.rest }) (most - it.cost) goes.more)
      (omega (arith, side, cut_left most item wire h.0))
]

takes_left : (count most : ℕ) (a : SideState) (wire : List PeerIn) (b : Taker) → TakesIn count most a wire b None → weight b.side.book.trail ≤ MOST_WEIGHT
    → (b ≡ record { side = a; wire = wire }) ⊎ (taker_left b < side_left a + wire_left wire)
takes_left zero most a wire b h w = inl h.0
takes_left (suc count) most a [] b h w = absurd h
takes_left (suc count) most a (item ∷ wire) b h w = inr (takes_less count most a item wire b h w (λ next n more. takes_left count n next.side next.wire b more w))

-- where nothing was taken nothing could be
pub takes_quiet : (count most : ℕ) (a : SideState) (wire : List PeerIn) (b : Taker) → TakesIn count most a wire b None → weight b.side.book.trail ≤ MOST_WEIGHT → b ≡ record { side = a; wire = wire } → TakesNone most (record { side = a; wire = wire })
takes_quiet zero most a wire b h w e = h.2
takes_quiet (suc count) most a [] b h w e = absurd h
takes_quiet (suc count) most a (item ∷ wire) b h w e =
    let l = takes_less count most a item wire b h w (λ next n more. takes_left count n next.side next.wire b more w) in
    absurd (omega (arith, l, ap taker_left e))

taker_weighs : (side : Side) (b : Taker) (s : State) → Kept None (with_side side b.side (with_wire side b.wire s)) → weight b.side.book.trail ≤ MOST_WEIGHT
taker_weighs Near b s k = k.0.law.weighs
taker_weighs Far b s k = k.1.law.weighs

taken_falls : (side : Side) (most : ℕ) (s t : State) → Taken side most s t None → Kept None t → Falls s t
taken_falls side most s t (b, (fault, all, is, stop)) k = go fault all stop
  where
    go : (fault : Option ProxyFault) → TakesAll most (record { side = side_at side s; wire = wire_at side s }) b fault → None ≡ at_side side fault → Falls s t
    go (Some fault) all d = absurd cc
    go None all d =
        subst (λ (u : State). Falls s u) (sym is)
        (left_by side s b (takes_left all.count most (side_at side s) (wire_at side s) b all.row (taker_weighs side b s (subst (λ (u : State). Kept None u) is k))))

-- ---- loaded

loads_left : (count : ℕ) (a b : SideState) → LoadsAllIn count a b None → weight b.book.trail ≤ MOST_WEIGHT → (weight a.book.trail ≤ weight b.book.trail) × (side_left b ≤ side_left a)
loads_left zero a b h w = (omega (arith, ap (λ (it : SideState). weight it.book.trail) h.1), omega (arith, ap side_left h.1))
loads_left (suc count) a b h w = elim h.1 [
  | inl fails ↦ absurd (let never : None ≡ Some fails.fault = fails.stops in cc)
  | inr goes ↦
      let rest = loads_left count goes.mid b goes.more w in
      let side : side_left goes.mid ≤ side_left (all_loaded a) = works_left false (all_loaded a) goes.mid goes.works (omega (arith, rest.0, w)) in
      (omega (arith, rest.0, works_weigh false (all_loaded a) goes.mid goes.works), omega (arith, rest.1, side))
]

some_copies : (copies : List ℕ) → copies ≢ [] → copies_left copies ≡ 1
some_copies [] n = absurd (n refl)
some_copies (words ∷ copies) n = refl

loads_fall : (count : ℕ) (a b : SideState) → LoadsAllIn count a b None → weight b.book.trail ≤ MOST_WEIGHT → (b ≡ a) ⊎ (side_left b < side_left a)
loads_fall zero a b h w = inl h.1
loads_fall (suc count) a b h w = elim h.1 [
  | inl fails ↦ absurd (let never : None ≡ Some fails.fault = fails.stops in cc)
  | inr goes ↦
      let rest = loads_left count goes.mid b goes.more w in
      let side : side_left goes.mid ≤ side_left (all_loaded a) = works_left false (all_loaded a) goes.mid goes.works (omega (arith, rest.0, w)) in
      inr (omega (arith, rest.1, side, some_copies a.copies h.0))
]

-- where all are loaded none is awaited
pub loaded_none : (count : ℕ) (a b : SideState) → LoadsAllIn count a b None → b.copies ≡ []
loaded_none zero a b h = ap (λ (it : SideState). it.copies) h.1 ∙ h.0
loaded_none (suc count) a b h = elim h.1 [
  | inl fails ↦ absurd (let never : None ≡ Some fails.fault = fails.stops in cc)
  | inr goes ↦ loaded_none count goes.mid b goes.more
]

pub with_side_weighs : (side : Side) (b : SideState) (s : State) → Kept None (with_side side b s) → weight b.book.trail ≤ MOST_WEIGHT
with_side_weighs Near b s k = k.0.law.weighs
with_side_weighs Far b s k = k.1.law.weighs

loaded_falls : (side : Side) (s t : State) → LoadedAll side s t None → Kept None t → Falls s t
loaded_falls side s t (b, (fault, all, is, stop)) k = go fault all stop
  where
    go : (fault : Option ProxyFault) → LoadsAll (side_at side s) b fault → None ≡ at_side side fault → Falls s t
    go (Some fault) all d = absurd cc
    go None all d =
        subst (λ (u : State). Falls s u) (sym is)
        (side_falls side s b (loads_fall all.count (side_at side s) b all.row (with_side_weighs side b s (subst (λ (u : State). Kept None u) is k))))

-- ---- a connection

connected_falls : (makes : Bool) (s t : State) → Connected makes s t None → Kept None t → Falls s t
connected_falls makes s t h k = go (is_none s.line && makes) h
  where
    go : (b : Bool) → ConnectedBy b s t None → Falls s t
    go false d = inl d.0
    go true d =
        let c : ℕ = suc (connections s) in
        let u : State = record s { near = with_line c s.near; far = with_line c s.far; line = Some no_lanes } in
        let kept : Kept None u = subst (λ (v : State). Kept None v) d.1 k in
        subst (λ (v : State). Falls s v) (sym d.1)
        (inr (omega (arith, line_weighs c s.near, line_weighs c s.far, kept.0.law.weighs, kept.1.law.weighs)))

-- ---- the line

-- a state with a lane as it was is that state
lane_same : (dir : Direction) (s : State) (lanes : Lanes) (change : List ℕ → List ℕ) → s.line ≡ Some lanes → change (lane_at dir lanes) ≡ lane_at dir lanes → on_lane dir change s ≡ s
lane_same dir s lanes change up e =
    ap (λ (line : Option Lanes). record s { line = option_map (λ it. with_lane dir (change (lane_at dir it)) it) line }) up
    ∙ ap (λ (bytes : List ℕ). record s { line = Some (with_lane dir bytes lanes) }) e
    ∙ ap (λ (it : Lanes). record s { line = Some it }) (put_back dir)
    ∙ ap (λ (line : Option Lanes). record s { line = line }) (sym up)
  where
    put_back : (dir : Direction) → with_lane dir (lane_at dir lanes) lanes ≡ lanes
    put_back Up = refl
    put_back Down = refl

same_line : (side : Side) (b : SideState) (s : State) → (with_side side b s).line ≡ s.line
same_line Near b s = refl
same_line Far b s = refl

side_same : (side : Side) (s : State) → with_side side (side_at side s) s ≡ s
side_same Near s = refl
side_same Far s = refl

lane_weighs : (dir : Direction) (change : List ℕ → List ℕ) (side : Side) (b : SideState) (s : State) → Kept None (on_lane dir change (with_side side b s)) → weight b.book.trail ≤ MOST_WEIGHT
lane_weighs dir change Near b s k = k.0.law.weighs
lane_weighs dir change Far b s k = k.1.law.weighs

-- a lane and a side as they were
nothing_falls : (dir : Direction) (side : Side) (s : State) (b : SideState) (lanes : Lanes) (change : List ℕ → List ℕ) → s.line ≡ Some lanes → b ≡ side_at side s → change (lane_at dir lanes) ≡ lane_at dir lanes
    → on_lane dir change (with_side side b s) ≡ s
nothing_falls dir side s b lanes change up e d =
    lane_same dir (with_side side b s) lanes change (same_line side b s ∙ up) d ∙ ap (λ (it : SideState). with_side side it s) e ∙ side_same side s

side_less : (dir : Direction) (side : Side) (s : State) (b : SideState) (change : List ℕ → List ℕ) → side_left b < side_left (side_at side s) → left (on_lane dir change (with_side side b s)) < left s
side_less dir Near s b change l = omega (arith, l)
side_less dir Far s b change l = omega (arith, l)

none_or : (bytes : List ℕ) → (bytes ≡ []) ⊎ (0 < length bytes)
none_or [] = inl refl
none_or (byte ∷ bytes) = inr (omega arith)

pushed_falls : (dir : Direction) (most : ℕ) (s t : State) (line : Option Lanes) → s.line ≡ line → PushedOn line dir most s t None → Kept None t → Falls s t
pushed_falls dir most s t None up h k = inl h.0
pushed_falls dir most s t (Some lanes) up (bytes, (b, (fault, writes, is, stop))) k = go fault writes stop
  where
    change : List ℕ → List ℕ
    change lane = lane ++ bytes

    wrote : Writes most bytes (side_at (writer dir) s) b → (bytes ≡ []) ⊎ (0 < length bytes) → Falls s (on_lane dir change (with_side (writer dir) b s))
    wrote w (inl e) =
        inl (nothing_falls dir (writer dir) s b lanes change up
        (w.is ∙ ap (λ (bs : List ℕ). written bs (side_at (writer dir) s)) e ∙ written_none (side_at (writer dir) s))
        (ap (λ (bs : List ℕ). lane_at dir lanes ++ bs) e ∙ append-nil (lane_at dir lanes)))
    wrote w (inr l) =
        let most_weight : weight b.book.trail ≤ MOST_WEIGHT = lane_weighs dir change (writer dir) b s (subst (λ (u : State). Kept None u) is k) in
        let heavier : weight b.book.trail ≡ weight (side_at (writer dir) s).book.trail + length bytes =
        ap (λ (it : SideState). weight it.book.trail) w.is ∙ written_weighs bytes (side_at (writer dir) s) w.up in
        let copies : copies_left b.copies ≡ copies_left (side_at (writer dir) s).copies = ap (λ (it : SideState). copies_left it.copies) w.is in
        inr (side_less dir (writer dir) s b change (omega (arith, most_weight, heavier, copies, l)))

    go : (fault : Option ProxyFault) → WritesBy fault most bytes (side_at (writer dir) s) b → None ≡ at_side (writer dir) fault → Falls s t
    go (Some fault) w d = absurd cc
    go None w d = subst (λ (u : State). Falls s u) (sym is) (wrote w (none_or bytes))

pulled_falls : (dir : Direction) (bytes : List ℕ) (s t : State) (lanes : Lanes) → s.line ≡ Some lanes → PulledBy None dir bytes s t → Kept None t → Falls s t
pulled_falls dir [] s t lanes up (b, reads, is) k =
    inl (is ∙ nothing_falls dir (reader dir) s b lanes (λ lane. drop 0 lane) up reads refl)
pulled_falls dir (byte ∷ bytes) s t lanes up (b, reads, is) k =
    let change : List ℕ → List ℕ = λ lane. drop (length (byte ∷ bytes)) lane in
    let a : SideState = side_at (reader dir) s in
    let most_weight : weight b.book.trail ≤ MOST_WEIGHT = lane_weighs dir change (reader dir) b s (subst (λ (u : State). Kept None u) is k) in
    let behind : side_left b ≤ side_left (read (byte ∷ bytes) a) = works_left true (read (byte ∷ bytes) a) b reads.1 most_weight in
    let grown : weight (read (byte ∷ bytes) a).book.trail ≤ weight b.book.trail = omega (arith, works_weigh true (read (byte ∷ bytes) a) b reads.1) in
    let heavier : weight (read (byte ∷ bytes) a).book.trail ≡ weight a.book.trail + length (byte ∷ bytes) = read_weighs (byte ∷ bytes) a reads.0 in
    subst (λ (u : State). Falls s u) (sym is) (inr (side_less dir (reader dir) s b change (omega (arith, most_weight, grown, behind, heavier))))

pulls_fall : (dir : Direction) (most : ℕ) (s t : State) (line : Option Lanes) → s.line ≡ line → PulledOff line dir most s t None → Kept None t → Falls s t
pulls_fall dir most s t None up h k = inl h.0
pulls_fall dir most s t (Some lanes) up (fault, pulled, stop) k = go fault pulled stop
  where
    go : (fault : Option ProxyFault) → PulledBy fault dir (take most (lane_at dir lanes)) s t → None ≡ at_side (reader dir) fault → Falls s t
    go (Some fault) p d = absurd cc
    go None p d = pulled_falls dir (take most (lane_at dir lanes)) s t lanes up p k

-- ---- the moves of a round

-- a move that a round has
pub data InRound (most : ℕ) (move : Move) : Type 0 where
  Takes : (side : Side) → move ≡ Take side most → InRound most move
  Loads : (side : Side) → move ≡ LoadAll side → InRound most move
  Connects : move ≡ ConnectIfHeld → InRound most move
  Pushes : (dir : Direction) → move ≡ Push dir most → InRound most move
  Pulls : (dir : Direction) → move ≡ Pull dir most → InRound most move

pub move_falls : (most : ℕ) (move : Move) (s t : State) → InRound most move → Moves move s t None → Falls s t
move_falls most move s t (Takes side e) m = taken_falls side most s t (subst (λ (it : Move). Changes it s t None) e m.changes) m.kept
move_falls most move s t (Loads side e) m = loaded_falls side s t (subst (λ (it : Move). Changes it s t None) e m.changes) m.kept
move_falls most move s t (Connects e) m = connected_falls (holds s.near || holds s.far) s t (subst (λ (it : Move). Changes it s t None) e m.changes) m.kept
move_falls most move s t (Pushes dir e) m = pushed_falls dir most s t s.line refl (subst (λ (it : Move). Changes it s t None) e m.changes) m.kept
move_falls most move s t (Pulls dir e) m = pulls_fall dir most s t s.line refl (subst (λ (it : Move). Changes it s t None) e m.changes) m.kept

pub round_has : (most : ℕ) → AllByRecursion (InRound most) (round most)
round_has most =
    (Takes Near refl, (Takes Far refl, (Loads Near refl, (Loads Far refl, (Connects refl, (Pushes Up refl, (Pulls Up refl, (Pushes Down refl, (Pulls Down refl, tt)))))))))

pub moves_fall : (most : ℕ) (moves : List Move) (s t : State) → AllByRecursion (InRound most) moves → MovesAll moves s t None → Falls s t
moves_fall most [] s t h m = inl m.0
moves_fall most (move ∷ moves) s t h m = elim m [
  | inl fails ↦ absurd (let never : None ≡ Some fails.0 = fails.2 in cc)
  | inr goes ↦ falls_then s goes.0 t (move_falls most move s goes.0 h.0 goes.1) (moves_fall most moves goes.0 t h.1 goes.2)
]

pub round_falls : RoundFalls
round_falls most s t m = moves_fall most (round most) s t (round_has most) m

-- where a row of moves changes nothing, its first one doesn't, nor do the others
pub quiet_first : (most : ℕ) (move : Move) (moves : List Move) (s : State) → InRound most move → AllByRecursion (InRound most) moves → MovesAll (move ∷ moves) s s None
    → Moves move s s None × MovesAll moves s s None
quiet_first most move moves s h hs m = elim m [
  | inl fails ↦ absurd (let never : None ≡ Some fails.0 = fails.2 in cc)
  | inr goes ↦ by_falls goes.0 goes.1 goes.2 (move_falls most move s goes.0 h goes.1)
]
  where
    by_falls : (between : State) → Moves move s between None → MovesAll moves between s None → Falls s between → Moves move s s None × MovesAll moves s s None
    by_falls between first rest (inl e) = (subst (λ (u : State). Moves move s u None) e first, subst (λ (u : State). MovesAll moves u s None) e rest)
    by_falls between first rest (inr l) = absurd (omega (arith, l, falls_left between s (moves_fall most moves between s hs rest)))
