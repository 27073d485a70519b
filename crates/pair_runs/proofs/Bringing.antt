-- That what each side took, and what waits, are the bytes that its peer put; and so what is received.
use Rattle.std.proofs.Common.{◌≡◌, ℕ, zero, suc, ◌-◌, List, [], ◌∷◌, ◌++◌, take, drop, length, Bool, true, false, is_none, ◌&&◌, ◌||◌, Option, Some, None, refl, sym, ap, subst, ◌∙◌, append_assoc, inl, inr}
use Rattle.std.proofs.lemmas.List.{append-nil}
use Rattle.std.proofs.lemmas.List.Concat.{flat_map-append}
use Rattle.std.specs.Prelude.{flat_map}
use Rattle.std.specs.List.{AllByRecursion}
use Rattle.wp_outside.specs.declared.kinds.Direction.{Direction}
use Rattle.wp_outside.specs.declared.kinds.Side.{Side}
use Rattle.wp_outside.specs.declared.kinds.Side.TheVariants.{Near, Far}
use Rattle.wl_wire.specs.Wire.{joined, IsMessage}
use Rattle.half_model.specs.declared.items.PeerIn.{PeerIn}
use Rattle.script_lang.specs.Puts.{if_peer}
use Rattle.half_model.specs.declared.items.PeerIn.TheVariants as items
use Rattle.side_model.specs.declared.fault.ProxyFault.{ProxyFault}
use Rattle.pair_runs.specs.Headline.{Brings, waiting}
use Rattle.pair_runs.specs.Linking.{Reads, read}
use Rattle.pair_runs.specs.Loading.{LoadsIn, LoadsAllIn, Loads}
use Rattle.pair_runs.specs.Moves.{Move, Put, Take, Load, LoadAll, Connect, ConnectIfHeld, Break, Push, Pull, Spoil, Close, at_side, Taken, Loaded, LoadedThen, LoadedAll, holds, LineInPart, ConnectFails, ConnectBy, ConnectedBy, Connected, WritesBy, PushedOn, PulledBy, PulledOff, ClosedBy, Closed, Changes, MovesAll, spoiled}
use Rattle.pair_runs.specs.Runs.{bytes_of, bytes_in}
use Rattle.pair_runs.specs.Sides.{SideState, fed, asked, all_loaded}
use Rattle.pair_runs.specs.States.{State, Lanes, Fault, side_at, with_side, wire_at, with_wire, lane_at, on_lane, writer, reader, connections}
use Rattle.pair_runs.specs.Taking.{Cut, behind, piece_size, cut_item, Taker, TakesIn}
use Rattle.pair_runs.specs.Working.{Works, InPart}
use Rattle.pair_runs.proofs.Composing.{joined_then, all_then}

-- ---- one side

abbrev pub BringsAt : List ℕ → SideState → List PeerIn → Type 0
BringsAt put it wire = Brings put it.book.trail.taken (waiting it wire)

-- where it has failed, only what it took is spoken of
abbrev pub BringsPart : List ℕ → SideState → Type 0
BringsPart put it = (rest : List ℕ) × Brings put it.book.trail.taken rest

pub as_part : (put : List ℕ) (it : SideState) (wire : List PeerIn) → BringsAt put it wire → BringsPart put it
as_part put it wire h = (waiting it wire, h)

pub brings_works : (hears : Bool) (put : List ℕ) (a b : SideState) (wire : List PeerIn) → Works hears a b → BringsAt put a wire → BringsAt put b wire
brings_works hears put a b wire w h = record {
  whole = subst (λ (taken : List (List ℕ)). AllByRecursion IsMessage taken) (sym w.trail.taken) (all_then IsMessage a.book.trail.taken w.took h.whole w.inside.messages);
  bytes =
      ap (λ (taken : List (List ℕ)). joined taken ++ waiting b wire) w.trail.taken
      ∙ ap (λ (front : List ℕ). front ++ waiting b wire) (joined_then a.book.trail.taken w.took)
      ∙ append_assoc (joined a.book.trail.taken) (joined w.took) (waiting b wire)
      ∙ ap (λ (rest : List ℕ). joined a.book.trail.taken ++ rest) (sym (append_assoc (joined w.took) b.inside.inlet.bytes (bytes_in wire)) ∙ ap (λ (front : List ℕ). front ++ bytes_in wire) (sym w.inside.inlet.bytes))
      ∙ h.bytes;
}

pub brings_part : (put : List ℕ) (a b : SideState) (wire : List PeerIn) → InPart a b → BringsAt put a wire → BringsPart put b
brings_part put a b wire w h = (
  w.bytes.rest ++ bytes_in wire,
  record {
    whole = subst (λ (taken : List (List ℕ)). AllByRecursion IsMessage taken) (sym w.trail.taken) (all_then IsMessage a.book.trail.taken w.took h.whole w.messages);
    bytes =
        ap (λ (taken : List (List ℕ)). joined taken ++ (w.bytes.rest ++ bytes_in wire)) w.trail.taken
        ∙ ap (λ (front : List ℕ). front ++ (w.bytes.rest ++ bytes_in wire)) (joined_then a.book.trail.taken w.took)
        ∙ append_assoc (joined a.book.trail.taken) (joined w.took) (w.bytes.rest ++ bytes_in wire)
        ∙ ap (λ (rest : List ℕ). joined a.book.trail.taken ++ rest) (sym (append_assoc (joined w.took) w.bytes.rest (bytes_in wire)) ∙ ap (λ (front : List ℕ). front ++ bytes_in wire) w.bytes.is)
        ∙ h.bytes;
  },
)

-- ---- from the wire

bytes_behind : (bytes : List ℕ) (wire : List PeerIn) → bytes_in (behind bytes wire) ≡ bytes ++ bytes_in wire
bytes_behind [] wire = refl
bytes_behind (byte ∷ bytes) wire = refl

take_drop : (n : ℕ) (xs : List ℕ) → take n xs ++ drop n xs ≡ xs
take_drop zero xs = refl
take_drop (suc n) [] = refl
take_drop (suc n) (x ∷ xs) = ap (λ (rest : List ℕ). x ∷ rest) (take_drop n xs)

fed_waits : (most : ℕ) (item : PeerIn) (wire : List PeerIn) (a : SideState) → waiting (fed (cut_item most item wire).item a) (cut_item most item wire).rest ≡ waiting a (item ∷ wire)
fed_waits most (items.Bytes bytes) wire a =
    let n : ℕ = piece_size most bytes in
    ap (λ (rest : List ℕ). (a.inside.inlet.bytes ++ take n bytes) ++ rest) (bytes_behind (drop n bytes) wire)
    ∙ append_assoc a.inside.inlet.bytes (take n bytes) (drop n bytes ++ bytes_in wire)
    ∙ ap (λ (rest : List ℕ). a.inside.inlet.bytes ++ rest) (sym (append_assoc (take n bytes) (drop n bytes) (bytes_in wire)) ∙ ap (λ (front : List ℕ). front ++ bytes_in wire) (take_drop n bytes))
fed_waits most (items.Handle handle) wire a = refl
fed_waits most (items.Note note) wire a = refl
fed_waits most (items.Pipe item) wire a = refl

brings_fed : (put : List ℕ) (most : ℕ) (item : PeerIn) (wire : List PeerIn) (a : SideState) → BringsAt put a (item ∷ wire) → BringsAt put (fed (cut_item most item wire).item a) (cut_item most item wire).rest
brings_fed put most item wire a h = record { whole = h.whole; bytes = ap (λ (rest : List ℕ). joined a.book.trail.taken ++ rest) (fed_waits most item wire a) ∙ h.bytes }

-- what a side brings, by whether it has failed
abbrev pub BringsBy : Option ProxyFault → List ℕ → SideState → List PeerIn → Type 0
BringsBy None put it wire = BringsAt put it wire
BringsBy (Some fault) put it wire = BringsPart put it

takes_bring : (count most : ℕ) (put : List ℕ) (a : SideState) (wire : List PeerIn) (b : Taker) (stop : Option ProxyFault) → TakesIn count most a wire b stop → BringsAt put a wire → BringsBy stop put b.side b.wire
takes_bring zero most put a wire b stop t h =
    subst (λ (it : Option ProxyFault). BringsBy it put b.side b.wire) (sym t.1) (subst (λ (it : Taker). BringsAt put it.side it.wire) (sym t.0) h)
takes_bring (suc count) most put a [] b stop t h = absurd t
takes_bring (suc count) most put a (item ∷ wire) b stop t h = elim t.2 [
  | inl fails ↦
      let it : Cut = cut_item most item wire in
      subst (λ (s : Option ProxyFault). BringsBy s put b.side b.wire) (sym fails.stops) (brings_part put (fed it.item a) b.side it.rest fails.part.part (brings_fed put most item wire a h))
  | inr goes ↦
      let it : Cut = cut_item most item wire in
      takes_bring count (most - it.cost) put goes.mid it.rest b stop goes.more (brings_works false put (fed it.item a) goes.mid it.rest goes.works (brings_fed put most item wire a h))
]

-- ---- words loaded

loads_bring : (count words over : ℕ) (put : List ℕ) (a b : SideState) (wire : List PeerIn) (stop : Option ProxyFault) → LoadsIn count words a b over stop → BringsAt put a wire → BringsBy stop put b wire
loads_bring zero words over put a b wire stop l h = subst (λ (s : Option ProxyFault). BringsBy s put b wire) (sym l.0) (elim l.1 [
  | inl none ↦ subst (λ (it : SideState). BringsAt put it wire) (sym none.1) h
  | inr last ↦ subst (λ (it : SideState). BringsAt put it wire) (sym last.1) h
])
loads_bring (suc count) words over put a b wire stop l h = elim l.2 [
  | inl fails ↦ subst (λ (s : Option ProxyFault). BringsBy s put b wire) (sym fails.stops) (brings_part put a b wire fails.part.part h)
  | inr goes ↦ loads_bring count _ over put goes.1.mid b wire stop goes.1.more (brings_works false put (all_loaded a) goes.1.mid wire goes.1.works h)
]

all_bring : (count : ℕ) (put : List ℕ) (a b : SideState) (wire : List PeerIn) (stop : Option ProxyFault) → LoadsAllIn count a b stop → BringsAt put a wire → BringsBy stop put b wire
all_bring zero put a b wire stop l h = subst (λ (s : Option ProxyFault). BringsBy s put b wire) (sym l.2) (subst (λ (it : SideState). BringsAt put it wire) (sym l.1) h)
all_bring (suc count) put a b wire stop l h = elim l.1 [
  | inl fails ↦ subst (λ (s : Option ProxyFault). BringsBy s put b wire) (sym fails.stops) (brings_part put a b wire fails.part.part h)
  | inr goes ↦ all_bring count put goes.mid b wire stop goes.more (brings_works false put (all_loaded a) goes.mid wire goes.works h)
]

closed_bring : (said : Bool) (put : List ℕ) (a b : SideState) (wire : List PeerIn) (stop : Option ProxyFault) → ClosedBy said stop a b → BringsAt put a wire → BringsBy stop put b wire
closed_bring true put a b wire None c h = subst (λ (it : SideState). BringsAt put it wire) (sym c) h
closed_bring true put a b wire (Some fault) c h = absurd c
closed_bring false put a b wire None c h = brings_works false put (asked a) b wire c h
closed_bring false put a b wire (Some fault) c h = brings_part put (asked a) b wire c.part h

-- ---- both sides

pub record Both (near far : List ℕ) (s : State) : Type 0 where
  pub near_brings : BringsAt near s.near s.near_wire
  pub far_brings : BringsAt far s.far s.far_wire

pub record BothPart (near far : List ℕ) (s : State) : Type 0 where
  pub near_part : BringsPart near s.near
  pub far_part : BringsPart far s.far

abbrev pub BothBy : Option Fault → List ℕ → List ℕ → State → Type 0
BothBy None near far s = Both near far s
BothBy (Some fault) near far s = BothPart near far s

pub both_part : (near far : List ℕ) (s : State) → Both near far s → BothPart near far s
both_part near far s h = record { near_part = as_part near s.near s.near_wire h.near_brings; far_part = as_part far s.far s.far_wire h.far_brings }

-- one side, with its wire, has changed
one_brings : (side : Side) (stop : Option ProxyFault) (near far : List ℕ) (b : SideState) (wire : List PeerIn) (s : State) → Both near far s → ((put : List ℕ) → BringsAt put (side_at side s) (wire_at side s) → BringsBy stop put b wire)
    → BothBy (at_side side stop) near far (with_side side b (with_wire side wire s))
one_brings Near None near far b wire s h change = record { near_brings = change near h.near_brings; far_brings = h.far_brings }
one_brings Near (Some fault) near far b wire s h change = record { near_part = change near h.near_brings; far_part = as_part far s.far s.far_wire h.far_brings }
one_brings Far None near far b wire s h change = record { near_brings = h.near_brings; far_brings = change far h.far_brings }
one_brings Far (Some fault) near far b wire s h change = record { near_part = as_part near s.near s.near_wire h.near_brings; far_part = change far h.far_brings }

same_wire : (side : Side) (b : SideState) (s : State) → with_side side b s ≡ with_side side b (with_wire side (wire_at side s) s)
same_wire Near b s = refl
same_wire Far b s = refl

-- the line plays no part
on_line : (stop : Option Fault) (near far : List ℕ) (dir : Direction) (change : List ℕ → List ℕ) (s : State) → BothBy stop near far s → BothBy stop near far (on_lane dir change s)
on_line None near far dir change s h = record { near_brings = h.near_brings; far_brings = h.far_brings }
on_line (Some fault) near far dir change s h = record { near_part = h.near_part; far_part = h.far_part }

side_brings : (side : Side) (stop : Option ProxyFault) (near far : List ℕ) (b : SideState) (s : State) → Both near far s → ((put : List ℕ) → BringsAt put (side_at side s) (wire_at side s) → BringsBy stop put b (wire_at side s))
    → BothBy (at_side side stop) near far (with_side side b s)
side_brings side stop near far b s h change = subst (λ (u : State). BothBy (at_side side stop) near far u) (sym (same_wire side b s)) (one_brings side stop near far b (wire_at side s) s h change)

-- ---- each move but what a peer puts

by_both : (near far : List ℕ) {s t : State} {stop it : Option Fault} → t ≡ s → stop ≡ it → BothBy it near far s → BothBy stop near far t
by_both near far {s} {t} {stop} {it} e d h = subst (λ (x : Option Fault). BothBy x near far t) (sym d) (subst (λ (u : State). BothBy it near far u) (sym e) h)

loaded_brings : (words : ℕ) (near far : List ℕ) (s t : State) (stop : Option Fault) → Both near far s → Loaded words s t stop → BothBy stop near far t
loaded_brings words near far s t stop h (a, (over, (fault, loads, others))) = go fault loads others
  where
    go : (fault : Option ProxyFault) → Loads words s.near a over fault → LoadedThen a over fault s t stop → BothBy stop near far t
    go (Some it) l o = by_both near far o.0 o.1 (side_brings Near (Some it) near far a s h (λ put k. loads_bring l.count words over put s.near a s.near_wire (Some it) l.row k))
    go None l (b, (rest, (more, all, is, stops))) =
        let first : Both near far (record s { near = a }) = side_brings Near None near far a s h (λ put k. loads_bring l.count words over put s.near a s.near_wire None l.row k) in
        by_both near far is stops (side_brings Far more near far b (record s { near = a }) first (λ put k. loads_bring all.count over rest put s.far b s.far_wire more all.row k))

line_part : (connection : ℕ) (put : List ℕ) (a b : SideState) (wire : List PeerIn) → LineInPart connection a b → BringsAt put a wire → BringsPart put b
line_part connection put a b wire part h = elim part [
  | inl old ↦ (waiting a wire, subst (λ (taken : List (List ℕ)). Brings put taken (waiting a wire)) (sym (ap (λ book. book.trail.taken) old)) h)
  | inr new ↦ (waiting a wire, subst (λ (taken : List (List ℕ)). Brings put taken (waiting a wire)) (sym (ap (λ book. book.trail.taken) new)) h)
]

connected_brings : (makes : Bool) (near far : List ℕ) (s t : State) (stop : Option Fault) → Both near far s → Connected makes s t stop → BothBy stop near far t
connected_brings makes near far s t stop h c = go (is_none s.line && makes) c
  where
    by_fail : (side : Side) → ConnectFails side (suc (connections s)) s t → BothPart near far t
    by_fail Near (b, part, is) = subst (λ (u : State). BothPart near far u) (sym is) (record { near_part = line_part (suc (connections s)) near s.near b s.near_wire part h.near_brings; far_part = as_part far s.far s.far_wire h.far_brings })
    by_fail Far (b, part, is) = subst (λ (u : State). BothPart near far u) (sym is) (record { near_part = as_part near s.near s.near_wire h.near_brings; far_part = line_part (suc (connections s)) far s.far b s.far_wire part h.far_brings })

    by_stop : (stop : Option Fault) → ConnectBy stop s t → BothBy stop near far t
    by_stop None d = subst (λ (u : State). Both near far u) (sym d.1) (record { near_brings = h.near_brings; far_brings = h.far_brings })
    by_stop (Some it) d = by_fail it.side d.1

    go : (b : Bool) → ConnectedBy b s t stop → BothBy stop near far t
    go true d = by_stop stop d
    go false d = by_both near far d.0 d.1 h

pushed_brings : (dir : Direction) (most : ℕ) (near far : List ℕ) (s t : State) (stop : Option Fault) (line : Option Lanes) → Both near far s → PushedOn line dir most s t stop → BothBy stop near far t
pushed_brings dir most near far s t stop None h p = by_both near far p.0 p.1 h
pushed_brings dir most near far s t stop (Some lanes) h (bytes, (b, (fault, writes, is, stops))) =
    by_both near far is stops (on_line (at_side (writer dir) fault) near far dir (λ lane. lane ++ bytes) (with_side (writer dir) b s)
    (side_brings (writer dir) fault near far b s h (λ put k. go fault writes put k)))
  where
    go : (fault : Option ProxyFault) → WritesBy fault most bytes (side_at (writer dir) s) b → (put : List ℕ) → BringsAt put (side_at (writer dir) s) (wire_at (writer dir) s) → BringsBy fault put b (wire_at (writer dir) s)
    go None w put k = subst (λ (it : SideState). BringsAt put it (wire_at (writer dir) s)) (sym w.is) (record { whole = k.whole; bytes = k.bytes })
    go (Some it) w put k = as_part put b (wire_at (writer dir) s) (subst (λ (it : SideState). BringsAt put it (wire_at (writer dir) s)) (sym w.0.is) (record { whole = k.whole; bytes = k.bytes }))

reads_bring : (put : List ℕ) (bytes : List ℕ) (a b : SideState) (wire : List PeerIn) → Reads bytes a b → BringsAt put a wire → BringsAt put b wire
reads_bring put [] a b wire r h = subst (λ (it : SideState). BringsAt put it wire) (sym r) h
reads_bring put (byte ∷ bytes) a b wire r h = brings_works true put (read (byte ∷ bytes) a) b wire r.1 (record { whole = h.whole; bytes = h.bytes })

pulled_brings : (dir : Direction) (most : ℕ) (near far : List ℕ) (s t : State) (stop : Option Fault) (line : Option Lanes) → Both near far s → PulledOff line dir most s t stop → BothBy stop near far t
pulled_brings dir most near far s t stop None h p = by_both near far p.0 p.1 h
pulled_brings dir most near far s t stop (Some lanes) h (fault, pulled, stops) = go fault pulled stops
  where
    go : (fault : Option ProxyFault) → PulledBy fault dir (take most (lane_at dir lanes)) s t → stop ≡ at_side (reader dir) fault → BothBy stop near far t
    go None (b, reads, is) e =
        by_both near far is e (on_line None near far dir (λ lane. drop (length (take most (lane_at dir lanes))) lane) (with_side (reader dir) b s)
        (side_brings (reader dir) None near far b s h (λ put k. reads_bring put (take most (lane_at dir lanes)) (side_at (reader dir) s) b (wire_at (reader dir) s) reads k)))
    go (Some it) (b, (got, reads, is)) e =
        by_both near far is e (on_line (at_side (reader dir) (Some it)) near far dir (λ lane. drop (length got) lane) (with_side (reader dir) b s)
        (side_brings (reader dir) (Some it) near far b s h (λ put k. brings_part put (read reads.got (side_at (reader dir) s)) b (wire_at (reader dir) s) reads.part (record { whole = k.whole; bytes = k.bytes }))))

-- ---- what a move puts

abbrev pub put_in_move : Side → Move → List ℕ
put_in_move peer (Put side put) = if_peer peer side (bytes_in put)
put_in_move peer move = []

abbrev pub put_in : Side → List Move → List ℕ
put_in peer moves = flat_map (put_in_move peer) moves

-- nothing more is put
plain : (stop : Option Fault) (near far : List ℕ) (t : State) → BothBy stop near far t → BothBy stop (near ++ []) (far ++ []) t
plain stop near far t h = subst (λ (xs : List ℕ). BothBy stop xs (far ++ []) t) (sym (append-nil near)) (subst (λ (xs : List ℕ). BothBy stop near xs t) (sym (append-nil far)) h)

wire_more : (put : List ℕ) (taken : List (List ℕ)) (inside : List ℕ) (wire more : List PeerIn) → Brings put taken (inside ++ bytes_in wire) → Brings (put ++ bytes_in more) taken (inside ++ bytes_in (wire ++ more))
wire_more put taken inside wire more h = record {
  whole = h.whole;
  bytes =
      ap (λ (bytes : List ℕ). joined taken ++ (inside ++ bytes)) (flat_map-append bytes_of wire more)
      ∙ ap (λ (rest : List ℕ). joined taken ++ rest) (sym (append_assoc inside (bytes_in wire) (bytes_in more)))
      ∙ sym (append_assoc (joined taken) (inside ++ bytes_in wire) (bytes_in more))
      ∙ ap (λ (front : List ℕ). front ++ bytes_in more) h.bytes;
}

put_brings : (side : Side) (put : List PeerIn) (near far : List ℕ) (s : State) → Both near far s → Both (near ++ put_in_move Near (Put side put)) (far ++ put_in_move Far (Put side put)) (with_wire side (wire_at side s ++ put) s)
put_brings Near put near far s h = record {
  near_brings = wire_more near s.near.book.trail.taken s.near.inside.inlet.bytes s.near_wire put h.near_brings;
  far_brings = subst (λ (xs : List ℕ). BringsAt xs s.far s.far_wire) (sym (append-nil far)) h.far_brings;
}
put_brings Far put near far s h = record {
  near_brings = subst (λ (xs : List ℕ). BringsAt xs s.near s.near_wire) (sym (append-nil near)) h.near_brings;
  far_brings = wire_more far s.far.book.trail.taken s.far.inside.inlet.bytes s.far_wire put h.far_brings;
}

taken_brings : (side : Side) (most : ℕ) (near far : List ℕ) (s t : State) (stop : Option Fault) → Both near far s → Taken side most s t stop → BothBy stop near far t
taken_brings side most near far s t stop h (b, (fault, all, is, stops)) =
    by_both near far is stops (one_brings side fault near far b.side b.wire s h (λ put k. takes_bring all.count most put (side_at side s) (wire_at side s) b fault all.row k))

all_loaded_brings : (side : Side) (near far : List ℕ) (s t : State) (stop : Option Fault) → Both near far s → LoadedAll side s t stop → BothBy stop near far t
all_loaded_brings side near far s t stop h (b, (fault, all, is, stops)) =
    by_both near far is stops (side_brings side fault near far b s h (λ put k. all_bring all.count put (side_at side s) b (wire_at side s) fault all.row k))

closes_bring : (side : Side) (near far : List ℕ) (s t : State) (stop : Option Fault) → Both near far s → Closed side s t stop → BothBy stop near far t
closes_bring side near far s t stop h (b, (fault, closes, is, stops)) =
    by_both near far is stops (side_brings side fault near far b s h (λ put k. closed_bring (side_at side s).inside.asked put (side_at side s) b (wire_at side s) fault closes k))

move_brings : (move : Move) (near far : List ℕ) (s t : State) (stop : Option Fault) → Both near far s → Changes move s t stop → BothBy stop (near ++ put_in_move Near move) (far ++ put_in_move Far move) t
move_brings (Put side put) near far s t stop h c = by_both (near ++ put_in_move Near (Put side put)) (far ++ put_in_move Far (Put side put)) c.0 c.1 (put_brings side put near far s h)
move_brings (Take side most) near far s t stop h c = plain stop near far t (taken_brings side most near far s t stop h c)
move_brings (Load words) near far s t stop h c = plain stop near far t (loaded_brings words near far s t stop h c)
move_brings (LoadAll side) near far s t stop h c = plain stop near far t (all_loaded_brings side near far s t stop h c)
move_brings Connect near far s t stop h c = plain stop near far t (connected_brings true near far s t stop h c)
move_brings ConnectIfHeld near far s t stop h c = plain stop near far t (connected_brings (holds s.near || holds s.far) near far s t stop h c)
move_brings Break near far s t stop h c = plain stop near far t (by_both near far c.0 c.1 (record { near_brings = h.near_brings; far_brings = h.far_brings }))
move_brings (Push dir most) near far s t stop h c = plain stop near far t (pushed_brings dir most near far s t stop s.line h c)
move_brings (Pull dir most) near far s t stop h c = plain stop near far t (pulled_brings dir most near far s t stop s.line h c)
move_brings (Spoil dir offset byte) near far s t stop h c = plain stop near far t (by_both near far c.0 c.1 (on_line None near far dir (spoiled offset byte) s h))
move_brings (Close side) near far s t stop h c = plain stop near far t (closes_bring side near far s t stop h c)

-- ---- many moves

part_more : (put more : List ℕ) (it : SideState) → BringsPart put it → BringsPart (put ++ more) it
part_more put more it h = (h.0 ++ more, record { whole = h.1.whole; bytes = sym (append_assoc (joined it.book.trail.taken) h.0 more) ∙ ap (λ (front : List ℕ). front ++ more) h.1.bytes })

pub both_more : (near far more other : List ℕ) (t : State) → BothPart near far t → BothPart (near ++ more) (far ++ other) t
both_more near far more other t h = record { near_part = part_more near more t.near h.near_part; far_part = part_more far other t.far h.far_part }

pub regroup : (stop : Option Fault) (near far a b c d : List ℕ) (t : State) → BothBy stop ((near ++ a) ++ b) ((far ++ c) ++ d) t → BothBy stop (near ++ (a ++ b)) (far ++ (c ++ d)) t
regroup stop near far a b c d t h =
    subst (λ (xs : List ℕ). BothBy stop xs (far ++ (c ++ d)) t) (append_assoc near a b) (subst (λ (xs : List ℕ). BothBy stop ((near ++ a) ++ b) xs t) (append_assoc far c d) h)

pub moves_bring : (moves : List Move) (near far : List ℕ) (s t : State) (stop : Option Fault) → Both near far s → MovesAll moves s t stop → BothBy stop (near ++ put_in Near moves) (far ++ put_in Far moves) t
moves_bring [] near far s t stop h m = plain stop near far t (by_both near far m.0 m.1 h)
moves_bring (move ∷ moves) near far s t stop h m = elim m [
  | inl fails ↦
      regroup stop near far (put_in_move Near move) (put_in Near moves) (put_in_move Far move) (put_in Far moves) t
      (subst (λ (it : Option Fault). BothBy it ((near ++ put_in_move Near move) ++ put_in Near moves) ((far ++ put_in_move Far move) ++ put_in Far moves) t) (sym fails.2)
      (both_more (near ++ put_in_move Near move) (far ++ put_in_move Far move) (put_in Near moves) (put_in Far moves) t (move_brings move near far s t (Some fails.0) h fails.1.changes)))
  | inr goes ↦
      regroup stop near far (put_in_move Near move) (put_in Near moves) (put_in_move Far move) (put_in Far moves) t
      (moves_bring moves (near ++ put_in_move Near move) (far ++ put_in_move Far move) goes.0 t stop (move_brings move near far s goes.0 None h goes.1.changes) goes.2)
]
