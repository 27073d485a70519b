-- Rows of moves one behind the other, and what a round changes.
use Rattle.std.proofs.Common.{◌≡◌, ◌≢◌, ℕ, zero, suc, ◌+◌, ◌<◌, ◌≤◌, Bool, true, false, not, is_none, ◌&&◌, ◌||◌, List, [], ◌∷◌, ◌++◌, take, drop, length, Option, Some, None, Result, Ok, Err, refl, sym, ap, subst, ◌∙◌, arith, inl, inr}
use Rattle.std.specs.Prelude.{IsTrue, ◌↔◌}
use Rattle.std.specs.List.{AllByRecursion}
use Rattle.wp_outside.specs.declared.kinds.Direction.{Direction}
use Rattle.wp_outside.specs.declared.kinds.Direction.TheVariants.{Up, Down}
use Rattle.wp_outside.specs.declared.kinds.Side.{Side}
use Rattle.wp_outside.specs.declared.kinds.Side.TheVariants.{Near, Far}
use Rattle.wp_outside.specs.Lines as outside
use Rattle.half_model.specs.declared.items.PeerIn.{PeerIn}
use Rattle.side_model.specs.Books.{Book, closed, weight, MOST_WEIGHT}
use Rattle.side_model.specs.declared.fault.ProxyFault.{ProxyFault}
use Rattle.pair_runs.specs.Loading.{LoadsAll}
use Rattle.pair_runs.specs.Measure.{copies_left, wire_left, left, Falls}
use Rattle.pair_runs.specs.Moves.{Move, Take, LoadAll, ConnectIfHeld, Push, Pull, Changes, Moves, MovesAll, LoadedAll, at_side, Connected, ConnectedBy, PushedOn, PulledOff, PulledBy, WritesBy, holds}
use Rattle.pair_runs.specs.Runs.{round, Rounds, Settles}
use Rattle.pair_runs.specs.Sides.{SideState}
use Rattle.pair_runs.specs.States.{State, Fault, Lanes, side_at, with_side, lane_at, on_lane, writer, reader}
use Rattle.pair_runs.proofs.Falling.{InRound, Takes, Loads, Connects, Pushes, Pulls, moves_fall, round_falls, falls_left, quiet_first, loaded_none}
use Rattle.script_replay.specs.Going.{IfStops, Went, GoesBy, Goes, GoesAside}
use Rattle.script_replay.specs.Settling.{bring, carry, ChangedIf, ChangedAside, Leads}
use Rattle.script_replay.specs.Standing.{IsReady, state_of}
use Rattle.script_replay.specs.declared.failures.Stop.{Stop}
use Rattle.script_replay.specs.declared.failures.Stop.TheVariants as stops
use Rattle.script_replay.specs.declared.run.Run.{Run}

-- ---- rows of moves

pub moves_then : (one other : List Move) (s t u : State) (stop : Option Fault) → MovesAll one s t None → MovesAll other t u stop → MovesAll (one ++ other) s u stop
moves_then [] other s t u stop m n = subst (λ (it : State). MovesAll other it u stop) m.0 n
moves_then (move ∷ one) other s t u stop (inl fails) n = absurd (let never : None ≡ Some fails.0 = fails.2 in cc)
moves_then (move ∷ one) other s t u stop (inr goes) n = inr (goes.0, goes.1, moves_then one other goes.0 t u stop goes.2 n)

pub moves_stop : (one other : List Move) (s t : State) (it : Fault) → MovesAll one s t (Some it) → MovesAll (one ++ other) s t (Some it)
moves_stop [] other s t it m = absurd (let never : Some it ≡ None = m.1 in cc)
moves_stop (move ∷ one) other s t it (inl fails) = inl fails
moves_stop (move ∷ one) other s t it (inr goes) = inr (goes.0, goes.1, moves_stop one other goes.0 t it goes.2)

went_then : (one other : List Move) (old middle new : Run) (before between after : ℕ → outside.Line) (stop : Option Fault) → Goes one old middle before between None → Goes other middle new between after stop → Goes (one ++ other) old new before after stop
went_then one other old middle new before between after stop g h = λ ready.
    let first = g ready in
    let second = h first.stays in
    record { did = moves_then one other (state_of old before) (state_of middle between) (state_of new after) stop first.did second.did; stays = second.stays }

-- what is said of a call, where other calls come to the same
pub stops_same : {X : Type 0} (result : Result X Stop) (P Q : Option Fault → Type 0) → ((stop : Option Fault) → P stop → Q stop) → IfStops result P → IfStops result Q
stops_same (Ok done) P Q f h = f None h
stops_same (Err (stops.Failed it)) P Q f h = f (Some _) h
stops_same (Err stops.Memory) P Q f h = tt

pub goes_then : {X : Type 0} (result : Result X Stop) (one other : List Move) (old middle new : Run) (before between after : ℕ → outside.Line) → Goes one old middle before between None → IfStops result (Goes other middle new between after) → IfStops result (Goes (one ++ other) old new before after)
goes_then result one other old middle new before between after g h =
    stops_same result (Goes other middle new between after) (Goes (one ++ other) old new before after) (λ stop. went_then one other old middle new before between after stop g) h

pub aside_then : {X : Type 0} (result : Result X Stop) (one other : List Move) (old middle new : Run) → GoesAside one old middle None → IfStops result (GoesAside other middle new) → IfStops result (GoesAside (one ++ other) old new)
aside_then result one other old middle new g h =
    stops_same result (GoesAside other middle new) (GoesAside (one ++ other) old new) (λ stop k line. went_then one other old middle new line line line stop (g line) (k line)) h

-- a call that doesn't come to its end
pub goes_stop : (X Y : Type 0) (stop : Stop) (one other : List Move) (old new : Run) (before after : ℕ → outside.Line) → IfStops {X = X} (Err stop) (Goes one old new before after) → IfStops {X = Y} (Err stop) (Goes (one ++ other) old new before after)
goes_stop X Y (stops.Failed it) one other old new before after h = λ ready. let w = h ready in record { did = moves_stop one other (state_of old before) (state_of new after) _ w.did; stays = w.stays }
goes_stop X Y stops.Memory one other old new before after h = tt

pub aside_stop : (X Y : Type 0) (stop : Stop) (one other : List Move) (old new : Run) → IfStops {X = X} (Err stop) (GoesAside one old new) → IfStops {X = Y} (Err stop) (GoesAside (one ++ other) old new)
aside_stop X Y (stops.Failed it) one other old new h = λ line ready. let w = h line ready in record { did = moves_stop one other (state_of old line) (state_of new line) _ w.did; stays = w.stays }
aside_stop X Y stops.Memory one other old new h = tt

-- where a move leaves the link alone, it does at this one
pub line_in : {X : Type 0} (result : Result X Stop) (moves : List Move) (old new : Run) (line : ℕ → outside.Line) → IfStops result (GoesAside moves old new) → IfStops result (Goes moves old new line line)
line_in result moves old new line h = stops_same result (GoesAside moves old new) (Goes moves old new line line) (λ stop k. k line) h

-- ---- whether anything changes

less_changed : (s m t : State) → Falls s m → Falls m t → m ≢ s → t ≢ s
less_changed s m t (inl e) g n = absurd (n e)
less_changed s m t (inr l) g n = λ e. omega (arith, l, falls_left m t g, ap left e)

changed_or : (a b : Bool) (s m t : State) → Falls s m → Falls m t → ChangedIf a s m → ChangedIf b m t → ChangedIf (a || b) s t
changed_or true b s m t f g h k = less_changed s m t f g h
changed_or false true s m t f g h k = λ e. k (e ∙ sym h)
changed_or false false s m t f g h k = k ∙ h

pub changed_then : (most : ℕ) (a b : Bool) (one other : List Move) (old middle new : Run) → AllByRecursion (InRound most) one → AllByRecursion (InRound most) other → GoesAside one old middle None → GoesAside other middle new None
    → ChangedAside old middle a → ChangedAside middle new b → ChangedAside old new (a || b)
changed_then most a b one other old middle new in_one in_other g h first second = λ line ready.
    let w = g line ready in
    let v = h line w.stays in
    changed_or a b (state_of old line) (state_of middle line) (state_of new line)
    (moves_fall most one (state_of old line) (state_of middle line) in_one w.did) (moves_fall most other (state_of middle line) (state_of new line) in_other v.did)
    (first line ready) (second line w.stays)

pub in_take : (side : Side) (most : ℕ) → AllByRecursion (InRound most) (Take side most ∷ [])
in_take side most = (Takes side refl, tt)

pub in_load : (side : Side) (most : ℕ) → AllByRecursion (InRound most) (LoadAll side ∷ [])
in_load side most = (Loads side refl, tt)

pub in_takes : (most : ℕ) → AllByRecursion (InRound most) (Take Near most ∷ Take Far most ∷ [])
in_takes most = (Takes Near refl, (Takes Far refl, tt))

pub in_loads : (most : ℕ) → AllByRecursion (InRound most) (LoadAll Near ∷ LoadAll Far ∷ [])
in_loads most = (Loads Near refl, (Loads Far refl, tt))

in_bring : (most : ℕ) → AllByRecursion (InRound most) (bring most)
in_bring most = (Takes Near refl, (Takes Far refl, (Loads Near refl, (Loads Far refl, tt))))

in_carry : (most : ℕ) → AllByRecursion (InRound most) (carry most)
in_carry most = (Connects refl, (Pushes Up refl, (Pulls Up refl, (Pushes Down refl, (Pulls Down refl, tt)))))

-- ---- wires stay where bytes go over the line

abbrev SameWires : State → State → Type 0
SameWires s t = (t.near_wire ≡ s.near_wire) × (t.far_wire ≡ s.far_wire)

abbrev LeavesWires : Move → Type 0
LeavesWires move = (s t : State) → Changes move s t None → SameWires s t

lane_wires : (dir : Direction) (side : Side) (change : List ℕ → List ℕ) (b : SideState) (s t : State) → t ≡ on_lane dir change (with_side side b s) → SameWires s t
lane_wires dir Near change b s t e = (ap (λ (it : State). it.near_wire) e, ap (λ (it : State). it.far_wire) e)
lane_wires dir Far change b s t e = (ap (λ (it : State). it.near_wire) e, ap (λ (it : State). it.far_wire) e)

same_wires : (s t : State) → t ≡ s → SameWires s t
same_wires s t e = (ap (λ (it : State). it.near_wire) e, ap (λ (it : State). it.far_wire) e)

connect_wires : LeavesWires ConnectIfHeld
connect_wires s t h = go (is_none s.line && (holds s.near || holds s.far)) h
  where
    go : (b : Bool) → ConnectedBy b s t None → SameWires s t
    go true d = (ap (λ (it : State). it.near_wire) d.1, ap (λ (it : State). it.far_wire) d.1)
    go false d = same_wires s t d.0

push_wires : (dir : Direction) (most : ℕ) → LeavesWires (Push dir most)
push_wires dir most s t h = go s.line h
  where
    go : (line : Option Lanes) → PushedOn line dir most s t None → SameWires s t
    go None d = same_wires s t d.0
    go (Some lanes) (bytes, (b, (fault, writes, is, stop))) = lane_wires dir (writer dir) (λ lane. lane ++ bytes) b s t is

pull_wires : (dir : Direction) (most : ℕ) → LeavesWires (Pull dir most)
pull_wires dir most s t h = go s.line h
  where
    by : (fault : Option ProxyFault) (bytes : List ℕ) → PulledBy fault dir bytes s t → SameWires s t
    by None bytes (b, reads, is) = lane_wires dir (reader dir) (λ lane. drop (length bytes) lane) b s t is
    by (Some fault) bytes (b, (pulled, reads, is)) = lane_wires dir (reader dir) (λ lane. drop (length pulled) lane) b s t is

    go : (line : Option Lanes) → PulledOff line dir most s t None → SameWires s t
    go None d = same_wires s t d.0
    go (Some lanes) (fault, pulled, stop) = by fault (take most (lane_at dir lanes)) pulled

moves_wires : (moves : List Move) (s t : State) → AllByRecursion LeavesWires moves → MovesAll moves s t None → SameWires s t
moves_wires [] s t h m = same_wires s t m.0
moves_wires (move ∷ moves) s t h (inl fails) = absurd (let never : None ≡ Some fails.0 = fails.2 in cc)
moves_wires (move ∷ moves) s t h (inr goes) =
    let first = h.0 s goes.0 goes.1.changes in
    let rest = moves_wires moves goes.0 t h.1 goes.2 in
    (rest.0 ∙ first.0, rest.1 ∙ first.1)

carry_wires : (most : ℕ) (s t : State) → MovesAll (carry most) s t None → SameWires s t
carry_wires most s t m = moves_wires (carry most) s t (connect_wires, (push_wires Up most, (pull_wires Up most, (push_wires Down most, (pull_wires Down most, tt))))) m

-- ---- where nothing was brought, no copy is awaited

side_with : (side : Side) (b : SideState) (s : State) → side_at side (with_side side b s) ≡ b
side_with Near b s = refl
side_with Far b s = refl

no_copies : (side : Side) (s : State) → LoadedAll side s s None → (side_at side s).copies ≡ []
no_copies side s (b, (fault, all, is, stop)) = go fault all stop
  where
    go : (fault : Option ProxyFault) → LoadsAll (side_at side s) b fault → None ≡ at_side side fault → (side_at side s).copies ≡ []
    go (Some fault) all d = absurd cc
    go None all d =
        ap (λ (u : State). (side_at side u).copies) is ∙ ap (λ (it : SideState). it.copies) (side_with side b s)
        ∙ loaded_none all.count (side_at side s) b all.row

nothing_brought : (most : ℕ) (s : State) → MovesAll (bring most) s s None → (s.near.copies ≡ []) × (s.far.copies ≡ [])
nothing_brought most s m =
    let h0 = in_bring most in let h1 = h0.1 in let h2 = h1.1 in let h3 = h2.1 in
    let m1 = quiet_first most (Take Near most) (Take Far most ∷ LoadAll Near ∷ LoadAll Far ∷ []) s h0.0 h1 m in
    let m2 = quiet_first most (Take Far most) (LoadAll Near ∷ LoadAll Far ∷ []) s h1.0 h2 m1.1 in
    let m3 = quiet_first most (LoadAll Near) (LoadAll Far ∷ []) s h2.0 h3 m2.1 in
    let m4 = quiet_first most (LoadAll Far) [] s h3.0 h3.1 m3.1 in
    (no_copies Near s m3.0.changes, no_copies Far s m4.0.changes)

-- ---- a round

abbrev pub SameWeights : State → State → Type 0
SameWeights s t = (weight t.near.book.trail ≡ weight s.near.book.trail) × (weight t.far.book.trail ≡ weight s.far.book.trail)

pub weight_closed : (book : Book) → weight (closed book).trail ≡ weight book.trail
unfolding weight
weight_closed book = refl

-- what a test of both weights tells, where they were these before
pub same_weights : (old new : Run) (before after : ℕ → outside.Line) (near far : ℕ) (weighs : Bool) → near ≡ weight old.near.trail.book.trail → far ≡ weight old.far.trail.book.trail
    → (IsTrue weighs ↔ ((weight new.near.trail.book.trail ≡ near) × (weight new.far.trail.book.trail ≡ far))) → weighs ≡ true → SameWeights (state_of old before) (state_of new after)
same_weights old new before after near far weighs n f told is =
    let h = told.0 is in
    (weight_closed new.near.trail.book ∙ h.0 ∙ n ∙ sym (weight_closed old.near.trail.book), weight_closed new.far.trail.book ∙ h.1 ∙ f ∙ sym (weight_closed old.far.trail.book))

pub only_weights : (old new : Run) (before after : ℕ → outside.Line) (near far : ℕ) (weighs : Bool) → near ≡ weight old.near.trail.book.trail → far ≡ weight old.far.trail.book.trail
    → (IsTrue weighs ↔ ((weight new.near.trail.book.trail ≡ near) × (weight new.far.trail.book.trail ≡ far))) → SameWeights (state_of old before) (state_of new after) → weighs ≡ true
only_weights old new before after near far weighs n f told same =
    told.1 (sym (weight_closed new.near.trail.book) ∙ same.0 ∙ weight_closed old.near.trail.book ∙ sym n, sym (weight_closed new.far.trail.book) ∙ same.1 ∙ weight_closed old.far.trail.book ∙ sym f)

no_less : (most : ℕ) (s t : State) → MovesAll (bring most) s s None → MovesAll (carry most) s t None → SameWeights s t → left t < left s → ⊥
no_less most s t m n same l =
    let none = nothing_brought most s m in
    let wires = carry_wires most s t n in
    omega (arith, l, same.0, same.1, ap copies_left none.0, ap copies_left none.1, ap wire_left wires.0, ap wire_left wires.1)

pub round_changed : (most : ℕ) (brought weighs : Bool) (s m t : State) → MovesAll (bring most) s m None → MovesAll (carry most) m t None → ChangedIf brought s m → (weighs ≡ true → SameWeights s t) → (SameWeights s t → weighs ≡ true) → ChangedIf (brought || not weighs) s t
round_changed most true weighs s m t first second changed same only =
    less_changed s m t (moves_fall most (bring most) s m (in_bring most) first) (moves_fall most (carry most) m t (in_carry most) second) changed
round_changed most false false s m t first second changed same only = λ e.
    absurd (let never : false ≡ true = only (ap (λ (u : State). weight u.near.book.trail) e, ap (λ (u : State). weight u.far.book.trail) e) in cc)
round_changed most false true s m t first second changed same only =
    go (moves_fall most (carry most) m t (in_carry most) second)
  where
    here : MovesAll (bring most) s s None
    here = subst (λ (u : State). MovesAll (bring most) s u None) changed first

    there : MovesAll (carry most) s t None
    there = subst (λ (u : State). MovesAll (carry most) u t None) changed second

    go : Falls m t → t ≡ s
    go (inl e) = e ∙ changed
    go (inr l) = absurd (no_less most s t here there (same refl) (omega (arith, l, ap left changed)))

-- where something was brought
pub brought_changed : (most : ℕ) (s m t : State) → MovesAll (bring most) s m None → MovesAll (carry most) m t None → m ≢ s → t ≢ s
brought_changed most s m t first second changed =
    less_changed s m t (moves_fall most (bring most) s m (in_bring most) first) (moves_fall most (carry most) m t (in_carry most) second) changed

pub round_less : (most : ℕ) (s t : State) → MovesAll (round most) s t None → t ≢ s → left t < left s
round_less most s t m n = go (round_falls most s t m)
  where
    go : Falls s t → left t < left s
    go (inl e) = absurd (n e)
    go (inr l) = l

-- ---- rounds

pub leads_first : (most : ℕ) (s : State) → Leads most s s
leads_first most s = λ t stop h. h

pub leads_more : (most : ℕ) (s now next : State) → Leads most s now → MovesAll (round most) now next None → next ≢ now → Leads most s next
leads_more most s now next leads m n = λ t stop h. leads t stop (record { count = suc h.count; rounds = (next, m, n, h.rounds) })

pub settles_here : (most : ℕ) (s now t : State) → Leads most s now → MovesAll (round most) now t None → t ≡ now → Settles most s t None
settles_here most s now t leads m e = leads t None (record { count = 0; rounds = (m, λ none. e) })

pub settles_fault : (most : ℕ) (s now t : State) (it : Fault) → Leads most s now → MovesAll (round most) now t (Some it) → Settles most s t (Some it)
settles_fault most s now t it leads m = leads t (Some it) (record { count = 0; rounds = (m, λ none. absurd (let never : Some it ≡ None = none in cc)) })

pub settle_stops : (X Y : Type 0) (stop : Stop) (most : ℕ) (first now new : Run) (before between after : ℕ → outside.Line) → Leads most (state_of first before) (state_of now between) → IsReady now between → IfStops {X = X} (Err stop) (Goes (round most) now new between after)
    → IfStops {X = Y} (Err stop) (GoesBy (Settles most) first new before after)
settle_stops X Y (stops.Failed it) most first now new before between after leads ready h = λ _. let w = h ready in record { did = settles_fault most (state_of first before) (state_of now between) (state_of new after) _ leads w.did; stays = w.stays }
settle_stops X Y stops.Memory most first now new before between after leads ready h = tt
