-- What the fault of a side tells, move by move, of both sides.
use Rattle.std.proofs.Common.{◌≡◌, ℕ, suc, ◌<◌, ◌≤◌, max, List, [], ◌∷◌, ◌++◌, take, drop, length, Bool, true, false, is_none, ◌&&◌, ◌||◌, Option, Some, None, refl, sym, ap, subst, arith, inl, inr}
use Rattle.std.proofs.lemmas.List.{append-nil}
use Rattle.std.proofs.lemmas.List.Concat.{flat_map-append}
use Rattle.wp_outside.specs.declared.kinds.Direction.{Direction}
use Rattle.wp_outside.specs.declared.kinds.Side.{Side}
use Rattle.wp_outside.specs.declared.kinds.Side.TheVariants.{Near, Far}
use Rattle.half_model.specs.declared.items.PeerIn.{PeerIn}
use Rattle.pair_model.specs.Steps.{on_last, with_written, with_read}
use Rattle.side_model.specs.declared.fault.ProxyFault.{ProxyFault}
use Rattle.side_model.specs.Books.{Book}
use Rattle.side_model.specs.Calls.{MOST_CONNECTIONS}
use Rattle.pair_runs.specs.Faults.{Caused}
use Rattle.pair_runs.specs.Linking.{new_line, with_line, Reads, read}
use Rattle.pair_runs.specs.Loading.{Loads}
use Rattle.pair_runs.specs.Moves.{Move, Put, Take, Load, LoadAll, Connect, ConnectIfHeld, Break, Push, Pull, Spoil, Close, at_side, Loaded, LoadedThen, holds, LineInPart, ConnectFails, ConnectBy, ConnectedBy, Connected, WritesBy, PushedOn, PulledBy, PulledOff, Changes, spoiled}
use Rattle.pair_runs.specs.Putting.{items_of_move, spread_item, spread, TakenOf}
use Rattle.pair_runs.specs.Sides.{SideState, rows_of, last_number}
use Rattle.pair_runs.specs.States.{State, Lanes, Fault, side_at, with_side, wire_at, with_wire, lane_at, on_lane, writer, reader, connections}
use Rattle.pair_runs.specs.Whys.{Told, RefusesLine}
use Rattle.pair_runs.proofs.Feeding.{FedAt, works_fed, rows_fed, put_more}
use Rattle.pair_runs.proofs.Showing.{last_push}
use Rattle.pair_runs.proofs.Causing.{FedBy, takes_caused, loads_caused, all_caused, closed_caused, wrote_caused, read_caused, line_caused, caused_more}

-- ---- both sides

abbrev pub its : Side → List PeerIn → List PeerIn → List PeerIn
its Near near far = near
its Far near far = far

-- what holds of both, or why the one met its fault
abbrev pub BothFed : Option Fault → List PeerIn → List PeerIn → State → Type 0
BothFed None near far s = FedAt Near near s.near s.near_wire × FedAt Far far s.far s.far_wire
BothFed (Some it) near far s = Told it.side it.fault (side_at it.side s).book → Caused it.side (its it.side near far) (side_at it.side s).book (connections s) it.fault

-- one side, with its wire, has changed
one_fed : (side : Side) (stop : Option ProxyFault) (near far : List PeerIn) (b : SideState) (wire : List PeerIn) (s : State) → FedAt Near near s.near s.near_wire × FedAt Far far s.far s.far_wire
    → ((put : List PeerIn) (made : ℕ) → FedAt side put (side_at side s) (wire_at side s) → FedBy side put made stop b wire) → BothFed (at_side side stop) near far (with_side side b (with_wire side wire s))
one_fed Near None near far b wire s h change = (change near 0 h.0, h.1)
one_fed Near (Some fault) near far b wire s h change = change near (connections (with_side Near b (with_wire Near wire s))) h.0
one_fed Far None near far b wire s h change = (h.0, change far 0 h.1)
one_fed Far (Some fault) near far b wire s h change = change far (connections (with_side Far b (with_wire Far wire s))) h.1

same_wire : (side : Side) (b : SideState) (s : State) → with_side side b s ≡ with_side side b (with_wire side (wire_at side s) s)
same_wire Near b s = refl
same_wire Far b s = refl

side_fed : (side : Side) (stop : Option ProxyFault) (near far : List PeerIn) (b : SideState) (s : State) → FedAt Near near s.near s.near_wire × FedAt Far far s.far s.far_wire
    → ((put : List PeerIn) (made : ℕ) → FedAt side put (side_at side s) (wire_at side s) → FedBy side put made stop b (wire_at side s)) → BothFed (at_side side stop) near far (with_side side b s)
side_fed side stop near far b s h change = subst (λ (u : State). BothFed (at_side side stop) near far u) (sym (same_wire side b s)) (one_fed side stop near far b (wire_at side s) s h change)

-- the line plays no part
side_on : (side : Side) (dir : Direction) (change : List ℕ → List ℕ) (s : State) → side_at side (on_lane dir change s) ≡ side_at side s
side_on Near dir change s = refl
side_on Far dir change s = refl

on_line : (stop : Option Fault) (near far : List PeerIn) (dir : Direction) (change : List ℕ → List ℕ) (s : State) → BothFed stop near far s → BothFed stop near far (on_lane dir change s)
on_line None near far dir change s h = h
on_line (Some it) near far dir change s h = by_side it.side h
  where
    by_side : (side : Side) → (Told side it.fault (side_at side s).book → Caused side (its side near far) (side_at side s).book (connections s) it.fault)
        → Told side it.fault (side_at side (on_lane dir change s)).book → Caused side (its side near far) (side_at side (on_lane dir change s)).book (connections s) it.fault
    by_side Near k = k
    by_side Far k = k

pub by_both : (near far : List PeerIn) {s t : State} {stop it : Option Fault} → t ≡ s → stop ≡ it → BothFed it near far s → BothFed stop near far t
by_both near far {s} {t} {stop} {it} e d h = subst (λ (x : Option Fault). BothFed x near far t) (sym d) (subst (λ (u : State). BothFed it near far u) (sym e) h)

-- ---- each move but what a peer puts

abbrev pub Fed : List PeerIn → List PeerIn → State → Type 0
Fed near far s = FedAt Near near s.near s.near_wire × FedAt Far far s.far s.far_wire

loaded_fed : (words : ℕ) (near far : List PeerIn) (s t : State) (stop : Option Fault) → Fed near far s → Loaded words s t stop → BothFed stop near far t
loaded_fed words near far s t stop h (a, (over, (fault, loads, others))) = go fault loads others
  where
    go : (fault : Option ProxyFault) → Loads words s.near a over fault → LoadedThen a over fault s t stop → BothFed stop near far t
    go (Some it) l o = by_both near far o.0 o.1 (side_fed Near (Some it) near far a s h (λ put made k. loads_caused Near put made l.count words over s.near a s.near_wire (Some it) l.row k))
    go None l (b, (rest, (more, all, is, stops))) =
        let first : Fed near far (record s { near = a }) = side_fed Near None near far a s h (λ put made k. loads_caused Near put made l.count words over s.near a s.near_wire None l.row k) in
        by_both near far is stops (side_fed Far more near far b (record s { near = a }) first (λ put made k. loads_caused Far put made all.count over rest s.far b s.far_wire more all.row k))

-- the number of the last connection
last_max : (a b : ℕ) → (a ≤ max a b) × (b ≤ max a b)
last_max a b = (omega arith, omega arith)

connected_fed : (makes : Bool) (near far : List PeerIn) (s t : State) (stop : Option Fault) → Fed near far s → Connected makes s t stop → BothFed stop near far t
connected_fed makes near far s t stop h c = go (is_none s.line && makes) c
  where
    line_number : (a : SideState) → last_number (rows_of (with_line (suc (connections s)) a)) ≡ suc (connections s)
    line_number a = last_push (rows_of a) (new_line (suc (connections s)))

    by_fail : (side : Side) (fault : ProxyFault) → RefusesLine (suc (connections s)) fault (side_at side s).book.trail → ConnectFails side (suc (connections s)) s t → Caused side (its side near far) (side_at side t).book (connections t) fault
    by_fail Near fault refuses (b, part, is) =
        subst (λ (u : State). Caused Near near u.near.book (connections u) fault) (sym is)
        (line_caused Near near (connections (record s { near = b })) (suc (connections s)) fault s.near b refuses part (few part))
      where
        few : LineInPart (suc (connections s)) s.near b → MOST_CONNECTIONS < suc (connections s) → MOST_CONNECTIONS ≤ connections (record s { near = b })
        few (inl old) many = omega (arith, many, ap (λ (book : Book). last_number book.trail.lines.rows) old, last_max (last_number (rows_of b)) (last_number (rows_of s.far)), last_max (last_number (rows_of s.near)) (last_number (rows_of s.far)))
        few (inr new) many = omega (arith, many, ap (λ (book : Book). last_number book.trail.lines.rows) new, line_number s.near, last_max (last_number (rows_of b)) (last_number (rows_of s.far)))
    by_fail Far fault refuses (b, part, is) =
        subst (λ (u : State). Caused Far far u.far.book (connections u) fault) (sym is)
        (line_caused Far far (connections (record s { near = with_line (suc (connections s)) s.near; far = b })) (suc (connections s)) fault s.far b refuses part
        (λ many. omega (arith, many, line_number s.near, last_max (last_number (rows_of (with_line (suc (connections s)) s.near))) (last_number (rows_of b)))))

    by_stop : (stop : Option Fault) → ConnectBy stop s t → BothFed stop near far t
    by_stop None d =
        subst (λ (u : State). Fed near far u) (sym d.1)
        (rows_fed Near near s.near s.near_wire (λ rows. rows ++ new_line (suc (connections s)) ∷ []) h.0, rows_fed Far far s.far s.far_wire (λ rows. rows ++ new_line (suc (connections s)) ∷ []) h.1)
    by_stop (Some it) d = λ told. by_fail it.side it.fault d.0 d.1

    go : (b : Bool) → ConnectedBy b s t stop → BothFed stop near far t
    go true d = by_stop stop d
    go false d = by_both near far d.0 d.1 h

pushed_fed : (dir : Direction) (most : ℕ) (near far : List PeerIn) (s t : State) (stop : Option Fault) (line : Option Lanes) → Fed near far s → PushedOn line dir most s t stop → BothFed stop near far t
pushed_fed dir most near far s t stop None h p = by_both near far p.0 p.1 h
pushed_fed dir most near far s t stop (Some lanes) h (bytes, (b, (fault, writes, is, stops))) =
    by_both near far is stops (on_line (at_side (writer dir) fault) near far dir (λ lane. lane ++ bytes) (with_side (writer dir) b s)
    (side_fed (writer dir) fault near far b s h (λ put made k. go fault writes put made k)))
  where
    go : (fault : Option ProxyFault) → WritesBy fault most bytes (side_at (writer dir) s) b → (put : List PeerIn) (made : ℕ) → FedAt (writer dir) put (side_at (writer dir) s) (wire_at (writer dir) s) → FedBy (writer dir) put made fault b (wire_at (writer dir) s)
    go None w put made k =
        subst (λ (it : SideState). FedAt (writer dir) put it (wire_at (writer dir) s)) (sym w.is) (rows_fed (writer dir) put (side_at (writer dir) s) (wire_at (writer dir) s) (on_last (with_written bytes)) k)
    go (Some it) w put made k = λ told. wrote_caused (writer dir) put made it b.book w.1

reads_fed : (side : Side) (put : List PeerIn) (bytes : List ℕ) (a b : SideState) (wire : List PeerIn) → Reads bytes a b → FedAt side put a wire → FedAt side put b wire
reads_fed side put [] a b wire r h = subst (λ (it : SideState). FedAt side put it wire) (sym r) h
reads_fed side put (byte ∷ bytes) a b wire r h = works_fed true side put (read (byte ∷ bytes) a) b wire r.1 (rows_fed side put a wire (on_last (with_read (byte ∷ bytes))) h)

pulled_fed : (dir : Direction) (most : ℕ) (near far : List PeerIn) (s t : State) (stop : Option Fault) (line : Option Lanes) → Fed near far s → PulledOff line dir most s t stop → BothFed stop near far t
pulled_fed dir most near far s t stop None h p = by_both near far p.0 p.1 h
pulled_fed dir most near far s t stop (Some lanes) h (fault, pulled, stops) = go fault pulled stops
  where
    go : (fault : Option ProxyFault) → PulledBy fault dir (take most (lane_at dir lanes)) s t → stop ≡ at_side (reader dir) fault → BothFed stop near far t
    go None (b, reads, is) e =
        by_both near far is e (on_line None near far dir (λ lane. drop (length (take most (lane_at dir lanes))) lane) (with_side (reader dir) b s)
        (side_fed (reader dir) None near far b s h (λ put made k. reads_fed (reader dir) put (take most (lane_at dir lanes)) (side_at (reader dir) s) b (wire_at (reader dir) s) reads k)))
    go (Some it) (b, (got, reads, is)) e =
        by_both near far is e (on_line (at_side (reader dir) (Some it)) near far dir (λ lane. drop (length got) lane) (with_side (reader dir) b s)
        (side_fed (reader dir) (Some it) near far b s h (λ put made k. read_caused (reader dir) put made (take most (lane_at dir lanes)) it got (side_at (reader dir) s) b (wire_at (reader dir) s) reads k)))

-- ---- what a move puts

-- nothing more is put
pub plain : (stop : Option Fault) (near far : List PeerIn) (t : State) → BothFed stop near far t → BothFed stop (near ++ []) (far ++ []) t
plain stop near far t h = subst (λ (xs : List PeerIn). BothFed stop xs (far ++ []) t) (sym (append-nil near)) (subst (λ (xs : List PeerIn). BothFed stop near xs t) (sym (append-nil far)) h)

wire_more : (side : Side) (put more : List PeerIn) (it : SideState) (wire : List PeerIn) → FedAt side put it wire → FedAt side (put ++ more) it (wire ++ more)
wire_more side put more it wire h =
    subst (λ (others : List PeerIn). TakenOf side (put ++ more) it.book it.inside.inlet it.inside.objects others) (sym (flat_map-append spread_item wire more)) (put_more side put more it.book it.inside.inlet it.inside.objects (spread wire) h)

put_fed : (side : Side) (put : List PeerIn) (near far : List PeerIn) (s : State) → Fed near far s → Fed (near ++ items_of_move Near (Put side put)) (far ++ items_of_move Far (Put side put)) (with_wire side (wire_at side s ++ put) s)
put_fed Near put near far s h = (wire_more Near near put s.near s.near_wire h.0, subst (λ (xs : List PeerIn). FedAt Far xs s.far s.far_wire) (sym (append-nil far)) h.1)
put_fed Far put near far s h = (subst (λ (xs : List PeerIn). FedAt Near xs s.near s.near_wire) (sym (append-nil near)) h.0, wire_more Far far put s.far s.far_wire h.1)

pub move_fed : (move : Move) (near far : List PeerIn) (s t : State) (stop : Option Fault) → Fed near far s → Changes move s t stop → BothFed stop (near ++ items_of_move Near move) (far ++ items_of_move Far move) t
move_fed (Put side put) near far s t stop h c = by_both (near ++ items_of_move Near (Put side put)) (far ++ items_of_move Far (Put side put)) c.0 c.1 (put_fed side put near far s h)
move_fed (Take side most) near far s t stop h (b, (fault, all, is, stops)) =
    plain stop near far t (by_both near far is stops (one_fed side fault near far b.side b.wire s h (λ put made k. takes_caused side put made all.count most (side_at side s) (wire_at side s) b fault all.row k)))
move_fed (Load words) near far s t stop h c = plain stop near far t (loaded_fed words near far s t stop h c)
move_fed (LoadAll side) near far s t stop h (b, (fault, all, is, stops)) =
    plain stop near far t (by_both near far is stops (side_fed side fault near far b s h (λ put made k. all_caused side put made all.count (side_at side s) b (wire_at side s) fault all.row k)))
move_fed Connect near far s t stop h c = plain stop near far t (connected_fed true near far s t stop h c)
move_fed ConnectIfHeld near far s t stop h c = plain stop near far t (connected_fed (holds s.near || holds s.far) near far s t stop h c)
move_fed Break near far s t stop h c = plain stop near far t (by_both near far c.0 c.1 h)
move_fed (Push dir most) near far s t stop h c = plain stop near far t (pushed_fed dir most near far s t stop s.line h c)
move_fed (Pull dir most) near far s t stop h c = plain stop near far t (pulled_fed dir most near far s t stop s.line h c)
move_fed (Spoil dir offset byte) near far s t stop h c = plain stop near far t (by_both near far c.0 c.1 (on_line None near far dir (spoiled offset byte) s h))
move_fed (Close side) near far s t stop h (b, (fault, closes, is, stops)) =
    plain stop near far t (by_both near far is stops (side_fed side fault near far b s h (λ put made k. closed_caused side put made (side_at side s).inside.asked (side_at side s) b (wire_at side s) fault closes k)))

pub fed_more : (it : Fault) (near far more other : List PeerIn) (t : State) → BothFed (Some it) near far t → BothFed (Some it) (near ++ more) (far ++ other) t
fed_more it near far more other t h = by_side it.side h
  where
    by_side : (side : Side) → (Told side it.fault (side_at side t).book → Caused side (its side near far) (side_at side t).book (connections t) it.fault)
        → Told side it.fault (side_at side t).book → Caused side (its side (near ++ more) (far ++ other)) (side_at side t).book (connections t) it.fault
    by_side Near k = λ told. caused_more Near near (connections t) more t.near.book it.fault (k told)
    by_side Far k = λ told. caused_more Far far (connections t) other t.far.book it.fault (k told)
