-- That the lines of both sides stay tied to what waits on the line, move by move.
use Rattle.std.proofs.Common.{◌≡◌, ◌≢◌, ℕ, zero, suc, ◌-◌, ◌<◌, List, [], ◌∷◌, ◌++◌, take, drop, length, Bool, true, false, is_none, ◌&&◌, ◌||◌, Option, Some, None, option_map, refl, sym, ap, subst, ◌∙◌, arith, append_assoc, inl, inr}
use Rattle.std.proofs.lemmas.List.{append-nil}
use Rattle.std.specs.List.{AllByRecursion}
use Rattle.wp_outside.specs.declared.kinds.Direction.{Direction}
use Rattle.wp_outside.specs.declared.kinds.Direction.TheVariants.{Up, Down}
use Rattle.wp_outside.specs.declared.kinds.Side.{Side}
use Rattle.wp_outside.specs.declared.kinds.Side.TheVariants.{Near, Far}
use Rattle.half_model.specs.declared.items.PeerIn.{PeerIn}
use Rattle.pair_model.specs.Lines.{Line, Rising, Agrees, written_on, read_on}
use Rattle.pair_model.specs.Steps.{on_last, with_written, with_read}
use Rattle.side_model.specs.declared.fault.ProxyFault.{ProxyFault}
use Rattle.side_model.specs.Books.{Book, Lined}
use Rattle.pair_runs.specs.Agreeing.{TiedBy, Spares, MovesTie}
use Rattle.pair_runs.specs.Kept.{Kept}
use Rattle.pair_runs.specs.Linking.{new_line, with_line, read, ReadsInPart}
use Rattle.pair_runs.specs.Loading.{LoadsIn, LoadsAllIn}
use Rattle.pair_runs.specs.Moves.{Move, Put, Take, Load, LoadAll, Connect, ConnectIfHeld, Break, Push, Pull, Spoil, Close, at_side, Taken, Loaded, LoadedThen, LoadedAll, holds, ConnectFails, ConnectBy, ConnectedBy, Connected, WritesBy, PushedOn, PulledBy, PulledOff, ClosedBy, Closed, Changes}
use Rattle.pair_runs.specs.Quiet.{Carries, TiedLines, Tied}
use Rattle.pair_runs.specs.Sides.{SideState, rows_of, last_number, fed, asked, all_loaded}
use Rattle.pair_runs.specs.States.{State, Lanes, Fault, no_lanes, first_state, side_at, with_side, wire_at, with_wire, lane_at, with_lane, on_lane, writer, reader, connections}
use Rattle.pair_runs.specs.Taking.{cut_item, Taker, TakesIn}
use Rattle.pair_runs.specs.Working.{Works, InPart}
use Rattle.pair_runs.proofs.Lines.{HasLast, has_last, all_below, last_changed, read_written, written_read, written_there, read_there, swapped, written_agrees, read_agrees, line_agrees, new_read, new_written, none_read}
use Rattle.pair_runs.proofs.Showing.{last_push}

-- ---- where no line changes

pub works_rows : (hears : Bool) (a b : SideState) → Works hears a b → rows_of b ≡ rows_of a
works_rows hears a b w = ap (λ (lines : Lined). lines.rows) w.trail.lines

pub part_rows : (a b : SideState) → InPart a b → rows_of b ≡ rows_of a
part_rows a b w = ap (λ (lines : Lined). lines.rows) w.trail.lines

takes_rows : (count most : ℕ) (a : SideState) (wire : List PeerIn) (b : Taker) (stop : Option ProxyFault) → TakesIn count most a wire b stop → rows_of b.side ≡ rows_of a
takes_rows zero most a wire b stop h = ap (λ (it : Taker). rows_of it.side) h.0
takes_rows (suc count) most a [] b stop h = absurd h
takes_rows (suc count) most a (item ∷ wire) b stop h = elim h.2 [
  | inl fails ↦ part_rows (fed (cut_item most item wire).item a) b.side fails.part.part
  | inr goes ↦ takes_rows count (most - (cut_item most item wire).cost) goes.mid (cut_item most item wire).rest b stop goes.more ∙ works_rows false (fed (cut_item most item wire).item a) goes.mid goes.works
]

loads_rows : (count words : ℕ) (a b : SideState) (over : ℕ) (stop : Option ProxyFault) → LoadsIn count words a b over stop → rows_of b ≡ rows_of a
loads_rows zero words a b over stop h = elim h.1 [
  | inl none ↦ ap rows_of none.1
  | inr last ↦ ap rows_of last.1
]
loads_rows (suc count) words a b over stop h = elim h.2 [
  | inl fails ↦ part_rows a b fails.part.part
  | inr goes ↦ loads_rows count _ goes.1.mid b over stop goes.1.more ∙ works_rows false (all_loaded a) goes.1.mid goes.1.works
]

all_rows : (count : ℕ) (a b : SideState) (stop : Option ProxyFault) → LoadsAllIn count a b stop → rows_of b ≡ rows_of a
all_rows zero a b stop h = ap rows_of h.1
all_rows (suc count) a b stop h = elim h.1 [
  | inl fails ↦ part_rows a b fails.part.part
  | inr goes ↦ all_rows count goes.mid b stop goes.more ∙ works_rows false (all_loaded a) goes.mid goes.works
]

closed_rows : (said : Bool) (stop : Option ProxyFault) (a b : SideState) → ClosedBy said stop a b → rows_of b ≡ rows_of a
closed_rows true None a b h = ap rows_of h
closed_rows true (Some fault) a b h = absurd h
closed_rows false None a b h = works_rows false (asked a) b h
closed_rows false (Some fault) a b h = part_rows (asked a) b h.part

tied_lines : (near far other_near other_far : List Line) (line other : Option Lanes) → other_near ≡ near → other_far ≡ far → other ≡ line → TiedLines near far line → TiedLines other_near other_far other
tied_lines near far other_near other_far line other n f l t =
    subst (λ (x : List Line). TiedLines x other_far other) (sym n)
    (subst (λ (x : List Line). TiedLines near x other) (sym f) (subst (λ (x : Option Lanes). TiedLines near far x) (sym l) t))

-- a state whose lines are as before
tied_same : (s t : State) (stop : Option Fault) → rows_of t.near ≡ rows_of s.near → rows_of t.far ≡ rows_of s.far → t.line ≡ s.line → Tied s → TiedBy stop t
tied_same s t None n f l tied = tied_lines (rows_of s.near) (rows_of s.far) (rows_of t.near) (rows_of t.far) s.line t.line n f l tied
tied_same s t (Some fault) n f l tied = (tied_lines (rows_of s.near) (rows_of s.far) (rows_of t.near) (rows_of t.far) s.line t.line n f l tied).agrees

-- where one side changes, and its lines don't
side_tied : (side : Side) (b : SideState) (wire : List PeerIn) (s t : State) (stop : Option Fault) → rows_of b ≡ rows_of (side_at side s) → t ≡ with_side side b (with_wire side wire s) → Tied s → TiedBy stop t
side_tied Near b wire s t stop e is tied = subst (λ (u : State). TiedBy stop u) (sym is) (tied_same s (record s { near = b; near_wire = wire }) stop e refl refl tied)
side_tied Far b wire s t stop e is tied = subst (λ (u : State). TiedBy stop u) (sym is) (tied_same s (record s { far = b; far_wire = wire }) stop refl e refl tied)

same_wire : (side : Side) (b : SideState) (s : State) → with_side side b s ≡ with_side side b (with_wire side (wire_at side s) s)
same_wire Near b s = refl
same_wire Far b s = refl

-- ---- a connection

rising : (side : Side) (s : State) → Kept None s → Rising 1 (rows_of (side_at side s))
rising Near s k = k.0.law.wire.numbers
rising Far s k = k.1.law.wire.numbers

below_next : (side : Side) (s : State) → Kept None s → AllByRecursion (λ l. l.connection < suc (connections s)) (rows_of (side_at side s))
below_next Near s k = all_below 1 (rows_of s.near) (suc (connections s)) (rising Near s k) (omega arith)
below_next Far s k = all_below 1 (rows_of s.far) (suc (connections s)) (rising Far s k) (omega arith)

record NewLine (s : State) : Type 0 where
  near : Agrees (rows_of (with_line (suc (connections s)) s.near)) (rows_of s.far)
  both : Agrees (rows_of (with_line (suc (connections s)) s.near)) (rows_of (with_line (suc (connections s)) s.far))

new_agrees : (s : State) → Kept None s → Tied s → NewLine s
new_agrees s k tied =
    let c : ℕ = suc (connections s) in
    let near : Agrees (rows_of s.near ++ new_line c ∷ []) (rows_of s.far) =
    line_agrees c (rows_of s.near) (rows_of s.far) (below_next Near s k) (none_read c (rows_of s.far) (below_next Far s k)) tied.agrees in
    record {
      near = near;
      both = swapped (line_agrees c (rows_of s.far) (rows_of s.near ++ new_line c ∷ []) (below_next Far s k) (new_read c (rows_of s.near) (below_next Near s k)) (swapped near));
    }

new_tied : (s : State) → Kept None s → Tied s → TiedLines (rows_of (with_line (suc (connections s)) s.near)) (rows_of (with_line (suc (connections s)) s.far)) (Some no_lanes)
new_tied s k tied =
    let c : ℕ = suc (connections s) in
    let near : List Line = rows_of s.near ++ new_line c ∷ [] in
    let far : List Line = rows_of s.far ++ new_line c ∷ [] in
    let number : last_number near ≡ c = last_push (rows_of s.near) (new_line c) in
    record {
      agrees = (new_agrees s k tied).both;
      number = number ∙ sym (last_push (rows_of s.far) (new_line c));
      carries = record {
        up = append-nil (read_on (last_number near) far) ∙ subst (λ (n : ℕ). read_on n far ≡ written_on n near) (sym number) (new_read c (rows_of s.far) (below_next Far s k) ∙ sym (new_written c (rows_of s.near) (below_next Near s k)));
        down = append-nil (read_on (last_number near) near) ∙ subst (λ (n : ℕ). read_on n near ≡ written_on n far) (sym number) (new_read c (rows_of s.near) (below_next Near s k) ∙ sym (new_written c (rows_of s.far) (below_next Far s k)));
      };
    }

book_rows : (a b : SideState) → b.book ≡ a.book → rows_of b ≡ rows_of a
book_rows a b e = ap (λ (book : Book). book.trail.lines.rows) e

connect_fails : (side : Side) (s t : State) → Kept None s → Tied s → ConnectFails side (suc (connections s)) s t → Agrees (rows_of t.near) (rows_of t.far)
connect_fails Near s t k tied (b, part, is) =
    subst (λ (u : State). Agrees (rows_of u.near) (rows_of u.far)) (sym is)
    (elim part [
      | inl old ↦ subst (λ (rows : List Line). Agrees rows (rows_of s.far)) (sym (book_rows s.near b old)) tied.agrees
      | inr new ↦ subst (λ (rows : List Line). Agrees rows (rows_of s.far)) (sym (book_rows (with_line (suc (connections s)) s.near) b new)) (new_agrees s k tied).near
    ])
connect_fails Far s t k tied (b, part, is) =
    subst (λ (u : State). Agrees (rows_of u.near) (rows_of u.far)) (sym is)
    (elim part [
      | inl old ↦ subst (λ (rows : List Line). Agrees (rows_of (with_line (suc (connections s)) s.near)) rows) (sym (book_rows s.far b old)) (new_agrees s k tied).near
      | inr new ↦ subst (λ (rows : List Line). Agrees (rows_of (with_line (suc (connections s)) s.near)) rows) (sym (book_rows (with_line (suc (connections s)) s.far) b new)) (new_agrees s k tied).both
    ])

connected_ties : (makes : Bool) (s t : State) (stop : Option Fault) → Kept None s → Tied s → Connected makes s t stop → TiedBy stop t
connected_ties makes s t stop k tied h = go (is_none s.line && makes) h
  where
    by_stop : (stop : Option Fault) → ConnectBy stop s t → TiedBy stop t
    by_stop None d = subst (λ (u : State). Tied u) (sym d.1) (new_tied s k tied)
    by_stop (Some it) d = connect_fails it.side s t k tied d.1

    go : (b : Bool) → ConnectedBy b s t stop → TiedBy stop t
    go true d = by_stop stop d
    go false d = subst (λ (it : Option Fault). TiedBy it t) (sym d.1) (subst (λ (u : State). Tied u) (sym d.0) tied)

-- ---- bytes onto the line

keeps_written : (bytes : List ℕ) (line : Line) → (with_written bytes line).connection ≡ line.connection
keeps_written bytes line = refl

keeps_read : (bytes : List ℕ) (line : Line) → (with_read bytes line).connection ≡ line.connection
keeps_read bytes line = refl

-- the near side writes, and what it wrote waits
push_near : (bytes : List ℕ) (near far : List Line) (lanes : Lanes) → HasLast near → TiedLines near far (Some lanes) → TiedLines (on_last (with_written bytes) near) far (Some (record lanes { up = lanes.up ++ bytes }))
push_near bytes near far lanes h tied =
    let c : ℕ = last_number near in
    let same : last_number (on_last (with_written bytes) near) ≡ c = last_changed (with_written bytes) (keeps_written bytes) near in
    record {
      agrees = written_agrees bytes near far tied.agrees;
      number = same ∙ tied.number;
      carries = subst (λ (n : ℕ). Carries n (on_last (with_written bytes) near) far (record lanes { up = lanes.up ++ bytes })) (sym same) (record {
        up = sym (append_assoc (read_on c far) lanes.up bytes) ∙ ap (λ (front : List ℕ). front ++ bytes) tied.carries.up ∙ sym (written_there bytes near h);
        down = ap (λ (front : List ℕ). front ++ lanes.down) (read_written bytes c near) ∙ tied.carries.down;
      });
    }

-- the same seen from the other side
abbrev turned : Lanes → Lanes
turned lanes = record { up = lanes.down; down = lanes.up }

turn_tied : (near far : List Line) (lanes : Lanes) → TiedLines near far (Some lanes) → TiedLines far near (Some (turned lanes))
turn_tied near far lanes tied = record {
  agrees = swapped tied.agrees;
  number = sym tied.number;
  carries = subst (λ (n : ℕ). Carries n far near (turned lanes)) tied.number (record { up = tied.carries.down; down = tied.carries.up });
}

push_far : (bytes : List ℕ) (near far : List Line) (lanes : Lanes) → HasLast far → TiedLines near far (Some lanes) → TiedLines near (on_last (with_written bytes) far) (Some (record lanes { down = lanes.down ++ bytes }))
push_far bytes near far lanes h tied = turn_tied (on_last (with_written bytes) far) near _ (push_near bytes far near (turned lanes) h (turn_tied near far lanes tied))

-- ---- bytes off the line

-- the far side reads the first of what waits
pull_far : (got rest : List ℕ) (near far : List Line) (lanes : Lanes) → Rising 1 far → HasLast far → lanes.up ≡ got ++ rest → TiedLines near far (Some lanes) → TiedLines near (on_last (with_read got) far) (Some (record lanes { up = rest }))
pull_far got rest near far lanes r h e tied =
    let c : ℕ = last_number near in
    let same : last_number (on_last (with_read got) far) ≡ last_number far = last_changed (with_read got) (keeps_read got) far in
    let waits : read_on c far ++ (got ++ rest) ≡ written_on c near = ap (λ (bytes : List ℕ). read_on c far ++ bytes) (sym e) ∙ tied.carries.up in
    let there : read_on c (on_last (with_read got) far) ≡ read_on c far ++ got = subst (λ (n : ℕ). read_on n (on_last (with_read got) far) ≡ read_on n far ++ got) (sym tied.number) (read_there got far h) in
    record {
      agrees = read_agrees got rest near far r tied.agrees (subst (λ (n : ℕ). read_on n far ++ (got ++ rest) ≡ written_on n near) tied.number waits);
      number = tied.number ∙ sym same;
      carries = record {
        up = ap (λ (front : List ℕ). front ++ rest) there ∙ append_assoc (read_on c far) got rest ∙ waits;
        down = tied.carries.down ∙ sym (written_read got c far);
      };
    }

pull_near : (got rest : List ℕ) (near far : List Line) (lanes : Lanes) → Rising 1 near → HasLast near → lanes.down ≡ got ++ rest → TiedLines near far (Some lanes) → TiedLines (on_last (with_read got) near) far (Some (record lanes { down = rest }))
pull_near got rest near far lanes r h e tied = turn_tied far (on_last (with_read got) near) _ (pull_far got rest far near (turned lanes) r h e (turn_tied near far lanes tied))

has_some : (rows : List Line) → Rising 1 rows → rows ≢ [] → HasLast rows
has_some [] r n = absurd (n refl)
has_some (line ∷ rows) r n = (has_last 1 line rows r).0

-- ---- the moves of the line

on_up : (line : Option Lanes) (s : State) → s.line ≡ line → Tied s → TiedLines (rows_of s.near) (rows_of s.far) line
on_up line s e tied = subst (λ (it : Option Lanes). TiedLines (rows_of s.near) (rows_of s.far) it) e tied

-- a state by its parts
tied_at : (s : State) (near far : SideState) (lanes it : Lanes) (dir : Direction) (change : List ℕ → List ℕ) → s.line ≡ Some lanes → with_lane dir (change (lane_at dir lanes)) lanes ≡ it
    → TiedLines (rows_of near) (rows_of far) (Some it) → TiedLines (rows_of near) (rows_of far) (on_lane dir change s).line
tied_at s near far lanes it dir change up e tied =
    subst (λ (line : Option Lanes). TiedLines (rows_of near) (rows_of far) line) (sym (ap (λ (line : Option Lanes). option_map (λ x. with_lane dir (change (lane_at dir x)) x) line) up ∙ ap (λ (x : Lanes). Some x) e)) tied

pushed_ties : (dir : Direction) (bytes : List ℕ) (s : State) (b : SideState) (lanes : Lanes) → s.line ≡ Some lanes → Kept None s → Tied s → rows_of (side_at (writer dir) s) ≢ [] → rows_of b ≡ on_last (with_written bytes) (rows_of (side_at (writer dir) s))
    → Tied (on_lane dir (λ lane. lane ++ bytes) (with_side (writer dir) b s))
pushed_ties Up bytes s b lanes up k tied some e =
    tied_at s b s.far lanes (record lanes { up = lanes.up ++ bytes }) Up (λ lane. lane ++ bytes) up refl
    (subst (λ (rows : List Line). TiedLines rows (rows_of s.far) (Some (record lanes { up = lanes.up ++ bytes }))) (sym e)
    (push_near bytes (rows_of s.near) (rows_of s.far) lanes (has_some (rows_of s.near) (rising Near s k) some) (on_up (Some lanes) s up tied)))
pushed_ties Down bytes s b lanes up k tied some e =
    tied_at s s.near b lanes (record lanes { down = lanes.down ++ bytes }) Down (λ lane. lane ++ bytes) up refl
    (subst (λ (rows : List Line). TiedLines (rows_of s.near) rows (Some (record lanes { down = lanes.down ++ bytes }))) (sym e)
    (push_far bytes (rows_of s.near) (rows_of s.far) lanes (has_some (rows_of s.far) (rising Far s k) some) (on_up (Some lanes) s up tied)))

pulled_ties : (dir : Direction) (got rest : List ℕ) (change : List ℕ → List ℕ) (s : State) (b : SideState) (lanes : Lanes) → s.line ≡ Some lanes → Kept None s → Tied s → rows_of (side_at (reader dir) s) ≢ [] → lane_at dir lanes ≡ got ++ rest → change (lane_at dir lanes) ≡ rest
    → rows_of b ≡ on_last (with_read got) (rows_of (side_at (reader dir) s))
    → Tied (on_lane dir change (with_side (reader dir) b s))
pulled_ties Up got rest change s b lanes up k tied some split left e =
    tied_at s s.near b lanes (record lanes { up = rest }) Up change up (ap (λ (bytes : List ℕ). record lanes { up = bytes }) left)
    (subst (λ (rows : List Line). TiedLines (rows_of s.near) rows (Some (record lanes { up = rest }))) (sym e)
    (pull_far got rest (rows_of s.near) (rows_of s.far) lanes (rising Far s k) (has_some (rows_of s.far) (rising Far s k) some) split (on_up (Some lanes) s up tied)))
pulled_ties Down got rest change s b lanes up k tied some split left e =
    tied_at s b s.far lanes (record lanes { down = rest }) Down change up (ap (λ (bytes : List ℕ). record lanes { down = bytes }) left)
    (subst (λ (rows : List Line). TiedLines rows (rows_of s.far) (Some (record lanes { down = rest }))) (sym e)
    (pull_near got rest (rows_of s.near) (rows_of s.far) lanes (rising Near s k) (has_some (rows_of s.near) (rising Near s k) some) split (on_up (Some lanes) s up tied)))

-- ---- in part

tied_agrees : (s : State) → Tied s → Agrees (rows_of s.near) (rows_of s.far)
tied_agrees s tied = tied.agrees

side_agrees : (side : Side) (b : SideState) (s : State) → Agrees (rows_of (with_side side b s).near) (rows_of (with_side side b s).far) → (dir : Direction) (change : List ℕ → List ℕ)
    → Agrees (rows_of (on_lane dir change (with_side side b s)).near) (rows_of (on_lane dir change (with_side side b s)).far)
side_agrees side b s a dir change = a

written_part : (side : Side) (bytes : List ℕ) (s : State) (b : SideState) → Tied s → rows_of b ≡ on_last (with_written bytes) (rows_of (side_at side s)) → Agrees (rows_of (with_side side b s).near) (rows_of (with_side side b s).far)
written_part Near bytes s b tied e = subst (λ (rows : List Line). Agrees rows (rows_of s.far)) (sym e) (written_agrees bytes (rows_of s.near) (rows_of s.far) tied.agrees)
written_part Far bytes s b tied e = subst (λ (rows : List Line). Agrees (rows_of s.near) rows) (sym e) (swapped (written_agrees bytes (rows_of s.far) (rows_of s.near) (swapped tied.agrees)))

read_part : (dir : Direction) (got rest : List ℕ) (s : State) (b : SideState) (lanes : Lanes) → s.line ≡ Some lanes → Kept None s → Tied s → lane_at dir lanes ≡ got ++ rest → rows_of b ≡ on_last (with_read got) (rows_of (side_at (reader dir) s))
    → Agrees (rows_of (with_side (reader dir) b s).near) (rows_of (with_side (reader dir) b s).far)
read_part Up got rest s b lanes up k tied split e =
    let t : TiedLines (rows_of s.near) (rows_of s.far) (Some lanes) = on_up (Some lanes) s up tied in
    subst (λ (rows : List Line). Agrees (rows_of s.near) rows) (sym e)
    (read_agrees got rest (rows_of s.near) (rows_of s.far) (rising Far s k) t.agrees
    (subst (λ (n : ℕ). read_on n (rows_of s.far) ++ (got ++ rest) ≡ written_on n (rows_of s.near)) t.number (ap (λ (bytes : List ℕ). read_on (last_number (rows_of s.near)) (rows_of s.far) ++ bytes) (sym split) ∙ t.carries.up)))
read_part Down got rest s b lanes up k tied split e =
    let t : TiedLines (rows_of s.near) (rows_of s.far) (Some lanes) = on_up (Some lanes) s up tied in
    subst (λ (rows : List Line). Agrees rows (rows_of s.far)) (sym e)
    (swapped (read_agrees got rest (rows_of s.far) (rows_of s.near) (rising Near s k) (swapped t.agrees)
    (ap (λ (bytes : List ℕ). read_on (last_number (rows_of s.near)) (rows_of s.near) ++ bytes) (sym split) ∙ t.carries.down)))

-- ---- each move

taken_ties : (side : Side) (most : ℕ) (s t : State) (stop : Option Fault) → Tied s → Taken side most s t stop → TiedBy stop t
taken_ties side most s t stop tied (b, (fault, all, is, stops)) =
    side_tied side b.side b.wire s t stop (takes_rows all.count most (side_at side s) (wire_at side s) b fault all.row) is tied

loaded_ties : (words : ℕ) (s t : State) (stop : Option Fault) → Tied s → Loaded words s t stop → TiedBy stop t
loaded_ties words s t stop tied (near, (over, (fault, loads, others))) = go fault others
  where
    first : rows_of near ≡ rows_of s.near
    first = loads_rows loads.count words s.near near over fault loads.row

    go : (it : Option ProxyFault) → LoadedThen near over it s t stop → TiedBy stop t
    go (Some it) h = subst (λ (u : State). TiedBy stop u) (sym h.0) (tied_same s (record s { near = near }) stop first refl refl tied)
    go None (far, (rest, (more, all, is, stops))) =
        subst (λ (u : State). TiedBy stop u) (sym is)
        (tied_same s (record s { near = near; far = far }) stop first (loads_rows all.count over s.far far rest more all.row) refl tied)

loaded_all_ties : (side : Side) (s t : State) (stop : Option Fault) → Tied s → LoadedAll side s t stop → TiedBy stop t
loaded_all_ties side s t stop tied (b, (fault, all, is, stops)) =
    side_tied side b (wire_at side s) s t stop (all_rows all.count (side_at side s) b fault all.row) (is ∙ same_wire side b s) tied

closed_ties : (side : Side) (s t : State) (stop : Option Fault) → Tied s → Closed side s t stop → TiedBy stop t
closed_ties side s t stop tied (b, (fault, closes, is, stops)) =
    side_tied side b (wire_at side s) s t stop (closed_rows (side_at side s).inside.asked fault (side_at side s) b closes) (is ∙ same_wire side b s) tied

push_ties : (dir : Direction) (most : ℕ) (s t : State) (stop : Option Fault) (line : Option Lanes) → s.line ≡ line → Kept None s → Tied s → PushedOn line dir most s t stop → TiedBy stop t
push_ties dir most s t stop None up k tied h = subst (λ (it : Option Fault). TiedBy it t) (sym h.1) (subst (λ (u : State). Tied u) (sym h.0) tied)
push_ties dir most s t stop (Some lanes) up k tied (bytes, (b, (fault, writes, is, stops))) = go fault writes stops
  where
    go : (fault : Option ProxyFault) → WritesBy fault most bytes (side_at (writer dir) s) b → stop ≡ at_side (writer dir) fault → TiedBy stop t
    go None w e =
        subst (λ (it : Option Fault). TiedBy it t) (sym e)
        (subst (λ (u : State). Tied u) (sym is) (pushed_ties dir bytes s b lanes up k tied w.up (ap rows_of w.is)))
    go (Some it) w e =
        subst (λ (it : Option Fault). TiedBy it t) (sym e)
        (subst (λ (u : State). Agrees (rows_of u.near) (rows_of u.far)) (sym is)
        (side_agrees (writer dir) b s (written_part (writer dir) bytes s b tied (ap rows_of w.0.is)) dir (λ lane. lane ++ bytes)))

take_split : (most : ℕ) (xs : List ℕ) → xs ≡ take most xs ++ drop (length (take most xs)) xs
take_split zero xs = refl
take_split (suc most) [] = refl
take_split (suc most) (x ∷ xs) = ap (λ (rest : List ℕ). x ∷ rest) (take_split most xs)

take_drop : (n : ℕ) (xs : List ℕ) → take n xs ++ drop n xs ≡ xs
take_drop zero xs = refl
take_drop (suc n) [] = refl
take_drop (suc n) (x ∷ xs) = ap (λ (rest : List ℕ). x ∷ rest) (take_drop n xs)

pull_whole : (dir : Direction) (bytes : List ℕ) (s t : State) (lanes : Lanes) → s.line ≡ Some lanes → Kept None s → Tied s → lane_at dir lanes ≡ bytes ++ drop (length bytes) (lane_at dir lanes) → PulledBy None dir bytes s t → Tied t
pull_whole dir [] s t lanes up k tied split (b, reads, is) =
    subst (λ (u : State). Tied u) (sym is) (same dir reads)
  where
    back : (dir : Direction) → with_lane dir (lane_at dir lanes) lanes ≡ lanes
    back Up = refl
    back Down = refl

    same : (dir : Direction) → b ≡ side_at (reader dir) s → Tied (on_lane dir (λ lane. drop 0 lane) (with_side (reader dir) b s))
    same Up e = tied_at s s.near b lanes lanes Up (λ lane. drop 0 lane) up (back Up) (subst (λ (it : SideState). TiedLines (rows_of s.near) (rows_of it) (Some lanes)) (sym e) (on_up (Some lanes) s up tied))
    same Down e = tied_at s b s.far lanes lanes Down (λ lane. drop 0 lane) up (back Down) (subst (λ (it : SideState). TiedLines (rows_of it) (rows_of s.far) (Some lanes)) (sym e) (on_up (Some lanes) s up tied))
pull_whole dir (byte ∷ bytes) s t lanes up k tied split (b, reads, is) =
    subst (λ (u : State). Tied u) (sym is)
    (pulled_ties dir (byte ∷ bytes) (drop (length (byte ∷ bytes)) (lane_at dir lanes)) (λ lane. drop (length (byte ∷ bytes)) lane) s b lanes up k tied reads.0 split refl
    (works_rows true (read (byte ∷ bytes) (side_at (reader dir) s)) b reads.1))

pull_part : (dir : Direction) (most : ℕ) (fault : ProxyFault) (pulled : List ℕ) (s : State) (b : SideState) (lanes : Lanes) → s.line ≡ Some lanes → Kept None s → Tied s → ReadsInPart (take most (lane_at dir lanes)) fault pulled (side_at (reader dir) s) b
    → Agrees (rows_of (with_side (reader dir) b s).near) (rows_of (with_side (reader dir) b s).far)
pull_part dir most fault pulled s b lanes up k tied r =
    let lane : List ℕ = lane_at dir lanes in
    let bytes : List ℕ = take most lane in
    let whole : lane ≡ bytes ++ drop (length bytes) lane = take_split most lane in
    let front : bytes ≡ pulled ++ drop (length pulled) bytes = front_split bytes pulled r.front in
    let split : lane ≡ r.got ++ (r.refused ++ (drop (length pulled) bytes ++ drop (length bytes) lane)) =
    whole ∙ ap (λ (xs : List ℕ). xs ++ drop (length bytes) lane) (front ∙ ap (λ (xs : List ℕ). xs ++ drop (length pulled) bytes) r.split)
    ∙ append_assoc (r.got ++ r.refused) (drop (length pulled) bytes) (drop (length bytes) lane)
    ∙ append_assoc r.got r.refused (drop (length pulled) bytes ++ drop (length bytes) lane) in
    read_part dir r.got (r.refused ++ (drop (length pulled) bytes ++ drop (length bytes) lane)) s b lanes up k tied split (part_rows (read r.got (side_at (reader dir) s)) b r.part)
  where
    front_split : (bytes pulled : List ℕ) → pulled ≡ take (length pulled) bytes → bytes ≡ pulled ++ drop (length pulled) bytes
    front_split bytes pulled e = sym (take_drop (length pulled) bytes) ∙ ap (λ (xs : List ℕ). xs ++ drop (length pulled) bytes) (sym e)

pull_ties : (dir : Direction) (most : ℕ) (s t : State) (stop : Option Fault) (line : Option Lanes) → s.line ≡ line → Kept None s → Tied s → PulledOff line dir most s t stop → TiedBy stop t
pull_ties dir most s t stop None up k tied h = subst (λ (it : Option Fault). TiedBy it t) (sym h.1) (subst (λ (u : State). Tied u) (sym h.0) tied)
pull_ties dir most s t stop (Some lanes) up k tied (fault, pulled, stops) = go fault pulled stops
  where
    go : (fault : Option ProxyFault) → PulledBy fault dir (take most (lane_at dir lanes)) s t → stop ≡ at_side (reader dir) fault → TiedBy stop t
    go None p e = subst (λ (it : Option Fault). TiedBy it t) (sym e) (pull_whole dir (take most (lane_at dir lanes)) s t lanes up k tied (take_split most (lane_at dir lanes)) p)
    go (Some it) (b, (got, reads, is)) e =
        subst (λ (it : Option Fault). TiedBy it t) (sym e)
        (subst (λ (u : State). Agrees (rows_of u.near) (rows_of u.far)) (sym is)
        (side_agrees (reader dir) b s (pull_part dir most it got s b lanes up k tied reads) dir (λ lane. drop (length got) lane)))

broken : (s : State) → Tied s → Tied (record s { line = None })
broken s tied = record { agrees = tied.agrees; number = tied.number; carries = tt }

move_ties : (move : Move) (s t : State) (stop : Option Fault) → Spares move → Kept None s → Tied s → Changes move s t stop → TiedBy stop t
move_ties (Put side put) s t stop spares k tied h =
    subst (λ (it : Option Fault). TiedBy it t) (sym h.1) (subst (λ (u : State). Tied u) (sym h.0) (put_ties side))
  where
    put_ties : (side : Side) → Tied (with_wire side (wire_at side s ++ put) s)
    put_ties Near = tied
    put_ties Far = tied
move_ties (Take side most) s t stop spares k tied h = taken_ties side most s t stop tied h
move_ties (Load words) s t stop spares k tied h = loaded_ties words s t stop tied h
move_ties (LoadAll side) s t stop spares k tied h = loaded_all_ties side s t stop tied h
move_ties Connect s t stop spares k tied h = connected_ties true s t stop k tied h
move_ties ConnectIfHeld s t stop spares k tied h = connected_ties (holds s.near || holds s.far) s t stop k tied h
move_ties Break s t stop spares k tied h = subst (λ (it : Option Fault). TiedBy it t) (sym h.1) (subst (λ (u : State). Tied u) (sym h.0) (broken s tied))
move_ties (Push dir most) s t stop spares k tied h = push_ties dir most s t stop s.line refl k tied h
move_ties (Pull dir most) s t stop spares k tied h = pull_ties dir most s t stop s.line refl k tied h
move_ties (Spoil dir offset byte) s t stop spares k tied h = absurd spares
move_ties (Close side) s t stop spares k tied h = closed_ties side s t stop tied h

first_tied : Tied first_state
first_tied = record { agrees = record { up = λ c. record { rest = []; is = refl }; down = λ c. record { rest = []; is = refl } }; number = refl; carries = tt }

pub moves_tie : MovesTie
moves_tie = record { first = first_tied; moves = λ move s t stop spares k tied m. move_ties move s t stop spares k tied m.changes }
