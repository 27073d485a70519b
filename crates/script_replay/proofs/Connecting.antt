-- A connection that is made, ends or has a byte replaced, as a move of the run.
use Rattle.std.proofs.Common.{◌≡◌, ℕ, suc, ◌+◌, ◌<◌, ◌≤◌, nat_lt, Bool, true, false, is_none, ◌&&◌, ◌||◌, List, [], ◌∷◌, ◌++◌, length, slice_set, Option, Some, None, option_map, Result, Ok, Err, refl, sym, ap, subst, ◌∙◌, arith, inl, inr, if◌then◌else◌}
use Rattle.std.proofs.lemmas.Bool.{lt-ltb, le-ltb, ltb-true, ltb-false}
use Rattle.std.specs.Prelude.{IsTrue, ◌↔◌}
use Rattle.std.specs.Bool.{MatchBool}
use Rattle.wp_outside.specs.declared.kinds.Direction.{Direction}
use Rattle.wp_outside.specs.declared.kinds.Direction.TheVariants.{Up, Down}
use Rattle.wp_outside.specs.declared.kinds.Side.{Side}
use Rattle.wp_outside.specs.declared.kinds.Side.TheVariants.{Near, Far}
use Rattle.wp_outside.specs.Lines as outside
use Rattle.wp_outside.specs.Lines.{opened_line, fresh_line, cut_line, spoiled_at, lane_of, Became, Same}
use Rattle.half_model.specs.declared.items.PeerIn.{PeerIn}
use Rattle.pair_model.specs.Lines.{Line, written_on, read_on}
use Rattle.side_model.specs.Books.{Book, TrailRecord}
use Rattle.side_model.specs.Calls.{MOST_CONNECTIONS}
use Rattle.side_model.specs.declared.fault.ProxyFault.{ProxyFault}
use Rattle.pair_runs.specs.Kept.{HasFailed}
use Rattle.pair_runs.specs.Linking.{new_line, with_line}
use Rattle.pair_runs.specs.Moves.{Connect, ConnectIfHeld, Break, Spoil, MovesAll, holds, LineInPart, ConnectBy, Connected, ConnectedBy, spoiled}
use Rattle.pair_runs.specs.Sides.{SideState, rows_of, last_number}
use Rattle.pair_runs.specs.States.{State, Fault, Lanes, no_lanes, lane_at, with_lane, on_lane, connections}
use Rattle.pair_runs.specs.Whys.{RefusesLine}
use Rattle.pair_runs.proofs.Showing.{last_push}
use Rattle.script_sides.specs.Answering.{Stops}
use Rattle.script_sides.specs.Linked.{IsUp}
use Rattle.script_sides.specs.Ready as sides
use Rattle.script_sides.specs.Ready.{ReadyGoesOn}
use Rattle.script_sides.specs.Sided as sided
use Rattle.script_sides.specs.Sided.{SideRun}
use Rattle.script_replay.specs.Going.{fault_in, IfStops, Went, Goes}
use Rattle.script_replay.specs.Standing.{ReadyAt, IsReadyAside, IsReady, state_of, line_at}
use Rattle.script_replay.specs.Telling.{lanes_of, TellsLine}
use Rattle.script_replay.specs.declared.failures.Stop.{Stop}
use Rattle.script_replay.specs.declared.failures.Stop.TheVariants as stops
use Rattle.script_replay.specs.declared.run.Run.{Run}
use Rattle.script_replay.proofs.Keeping.{goes_on, kept_aside, tells_same, tells_failed, one_move, one_fault}
use Rattle.script_replay.proofs.Telling.{half_opened, with_new, with_same, opened_tells, cut_tells, spoiled_tells}

-- ---- a state by its parts

pub state_is : (a b : State) → a.near ≡ b.near → a.far ≡ b.far → a.near_wire ≡ b.near_wire → a.far_wire ≡ b.far_wire → a.line ≡ b.line → a ≡ b
state_is a b near far near_wire far_wire line =
    ap (λ (it : SideState). record a { near = it }) near
    ∙ ap (λ (it : SideState). record a { near = b.near; far = it }) far
    ∙ ap (λ (wire : List PeerIn). record a { near = b.near; far = b.far; near_wire = wire }) near_wire
    ∙ ap (λ (wire : List PeerIn). record b { far_wire = wire; line = a.line }) far_wire
    ∙ ap (λ (it : Option Lanes). record b { line = it }) line

-- ---- numbers

connections_are : (run : Run) (line : ℕ → outside.Line) → IsReadyAside run → connections (state_of run line) ≡ run.last
connections_are run line r = omega (arith, r.near.number, r.far.number)

next_is : (run : Run) (line : ℕ → outside.Line) → IsReadyAside run → suc (connections (state_of run line)) ≡ run.last + 1
next_is run line r = omega (arith, connections_are run line r)

pub line_down : (up : Bool) (line : outside.Line) → up ≡ false → line_at up line ≡ None
line_down true line e = absurd cc
line_down false line e = refl

connects : (makes : Bool) (s t : State) (stop : Option Fault) → makes ≡ true → s.line ≡ None → ConnectBy stop s t → Connected makes s t stop
connects makes s t stop m e h =
    subst (λ (b : Bool). Connected b s t stop) (sym m) (subst (λ (line : Option Lanes). ConnectedBy (is_none line && true) s t stop) (sym e) h)

-- ---- made

new_number : (c : ℕ) (a b : SideState) → b ≡ with_line c a → last_number (rows_of b) ≡ c
new_number c a b e = ap (λ (it : SideState). last_number (rows_of it)) e ∙ last_push (rows_of a) (new_line c)

up_at : (side : Side) (c last : ℕ) (up : Bool) (old new : SideRun) → ReadyAt side old last up → sided.state_of new ≡ with_line c (sided.state_of old) → IsUp old new → ReadyAt side new c true
up_at side c last up old new r e u = record {
  ready = u.ready;
  side_is = u.side ∙ r.side_is;
  number = new_number c (sided.state_of old) (sided.state_of new) e;
  is_up = u.up;
}

abbrev pub made : Run → SideRun → SideRun → Run
made old near far = record { near = near; far = far; last = old.last + 1; up = true }

connected_ready : (old : Run) (near far : SideRun) (before after : ℕ → outside.Line) → IsReady old before → sided.state_of near ≡ with_line (old.last + 1) (sided.state_of old.near) → sided.state_of far ≡ with_line (old.last + 1) (sided.state_of old.far) → IsUp old.near near → IsUp old.far far
    → old.last + 1 ≤ MOST_CONNECTIONS → Became before after (old.last + 1) (λ _. opened_line) → before (old.last + 1) ≡ fresh_line → IsReady (made old near far) after
connected_ready old near far before after r en ef un uf most b fresh = record {
  aside = record { near = up_at Near (old.last + 1) old.last old.up old.near near r.aside.near en un; far = up_at Far (old.last + 1) old.last old.up old.far far r.aside.far ef uf };
  few = most;
  some = λ e. omega arith;
  holds = λ e. ap (λ (it : outside.Line). it.is_up) b.here;
  fresh = λ n above. ap (λ (it : outside.Line). it.was_opened) (b.others n (λ e. omega (arith, above, e))) ∙ r.fresh n (omega (arith, above));
  tells = tells_same (rows_of (sided.state_of old.near) ++ new_line (old.last + 1) ∷ []) (rows_of (sided.state_of old.far) ++ new_line (old.last + 1) ∷ []) (rows_of (sided.state_of near)) (rows_of (sided.state_of far)) after (ap rows_of en) (ap rows_of ef)
      (opened_tells (rows_of (sided.state_of old.near)) (rows_of (sided.state_of old.far)) before after (old.last + 1) b fresh r.tells);
}

pub connect_made : ReadyGoesOn → (old : Run) (near far : SideRun) (before after : ℕ → outside.Line) → old.up ≡ false → IsReady old before → sided.state_of near ≡ with_line (old.last + 1) (sided.state_of old.near) → sided.state_of far ≡ with_line (old.last + 1) (sided.state_of old.far)
    → IsUp old.near near → IsUp old.far far → near.peer.wire ≡ old.near.peer.wire → far.peer.wire ≡ old.far.peer.wire → old.last + 1 ≤ MOST_CONNECTIONS → Became before after (old.last + 1) (λ _. opened_line) → before (old.last + 1) ≡ fresh_line
    → Went (MovesAll (Connect ∷ [])) old (made old near far) before after None
connect_made law old near far before after down r en ef un uf wn wf most b fresh =
    let s : State = state_of old before in
    let t : State = state_of (made old near far) after in
    let ready : IsReady (made old near far) after = connected_ready old near far before after r en ef un uf most b fresh in
    let next : suc (connections s) ≡ old.last + 1 = next_is old before r.aside in
    record {
      did = one_move Connect s t (record {
        changes = connects true s t None refl (line_down old.up (before old.last) down) (
          omega (arith, most, connections_are old before r.aside),
          state_is t (record s { near = with_line (suc (connections s)) s.near; far = with_line (suc (connections s)) s.far; line = Some no_lanes })
              (en ∙ ap (λ (c : ℕ). with_line c (sided.state_of old.near)) (sym next)) (ef ∙ ap (λ (c : ℕ). with_line c (sided.state_of old.far)) (sym next)) wn wf
              (ap (λ (it : outside.Line). Some (lanes_of it)) b.here),
        );
        kept = kept_aside law (made old near far) after ready.aside;
      });
      stays = ready;
    }

-- ---- in part

book_rows : (a b : SideState) → b.book ≡ a.book → rows_of b ≡ rows_of a
book_rows a b e = ap (λ (book : Book). book.trail.lines.rows) e

part_tells : (c : ℕ) (a b : SideState) → LineInPart c a b → (n : ℕ) → (written_on n (rows_of b) ≡ written_on n (rows_of a)) × (read_on n (rows_of b) ≡ read_on n (rows_of a))
part_tells c a b (inl e) n = (ap (λ (rows : List Line). written_on n rows) (book_rows a b e), ap (λ (rows : List Line). read_on n rows) (book_rows a b e))
part_tells c a b (inr e) n =
    let rows : rows_of b ≡ rows_of a ++ new_line c ∷ [] = book_rows (with_line c a) b e in
    (ap (λ (rows : List Line). written_on n rows) rows ∙ (with_new c (rows_of a) n).0, ap (λ (rows : List Line). read_on n rows) rows ∙ (with_new c (rows_of a) n).1)

line_tells : (c : ℕ) (a b : SideState) → b ≡ with_line c a → (n : ℕ) → (written_on n (rows_of b) ≡ written_on n (rows_of a)) × (read_on n (rows_of b) ≡ read_on n (rows_of a))
line_tells c a b e n = part_tells c a b (inr (ap (λ (it : SideState). it.book) e)) n

refused : (run : Run) (line : ℕ → outside.Line) (fault : ProxyFault) (trail : TrailRecord) → IsReadyAside run → RefusesLine (run.last + 1) fault trail → RefusesLine (suc (connections (state_of run line))) fault trail
refused run line fault trail r refuses = subst (λ (c : ℕ). RefusesLine c fault trail) (sym (next_is run line r)) refuses

not_up : (up : Bool) (last : ℕ) (s : State) → up ≡ false → up ≡ true → last ≡ connections s
not_up up last s down e = absurd (let never : false ≡ true = sym down ∙ e in cc)

-- the near side meets a fault
pub connect_near : ReadyGoesOn → (old : Run) (near : SideRun) (line : ℕ → outside.Line) (fault : ProxyFault) → old.up ≡ false → IsReady old line → LineInPart (old.last + 1) (sided.state_of old.near) (sided.state_of near) → RefusesLine (old.last + 1) fault (sided.state_of old.near).book.trail
    → Stops old.near near fault → near.peer.wire ≡ old.near.peer.wire → Went (MovesAll (Connect ∷ [])) old (record old { near = near }) line line (Some (record { side = Near; fault = fault }))
connect_near law old near line fault down r part refuses stops wire =
    let s : State = state_of old line in
    let t : State = state_of (record old { near = near }) line in
    record {
      did = one_fault Connect s t (record { side = Near; fault = fault }) (record {
        changes = connects true s t (Some (record { side = Near; fault = fault })) refl (line_down old.up (line old.last) down) (
          refused old line fault (sided.state_of old.near).book.trail r.aside refuses,
          (sided.state_of near, subst (λ (c : ℕ). LineInPart c (sided.state_of old.near) (sided.state_of near)) (sym (next_is old line r.aside)) part, ap (λ (it : List PeerIn). record s { near = sided.state_of near; near_wire = it }) wire),
        );
        kept = (subst (λ (side : Side). HasFailed side (sided.state_of near) fault) r.aside.near.side_is stops.failed, goes_on law Far old.far old.last old.up r.aside.far);
      });
      stays = record {
        tells = tells_failed (record { side = Near; fault = fault }) t line
            (half_opened (rows_of s.near) (rows_of s.far) (rows_of t.near) (rows_of t.far) line (part_tells (old.last + 1) (sided.state_of old.near) (sided.state_of near) part) (with_same (rows_of s.far)) r.tells);
        last = not_up old.up old.last t down;
      };
    }

-- or the far side
pub connect_far : ReadyGoesOn → (old : Run) (near far : SideRun) (line : ℕ → outside.Line) (fault : ProxyFault) → old.up ≡ false → IsReady old line → sided.state_of near ≡ with_line (old.last + 1) (sided.state_of old.near) → IsUp old.near near
    → LineInPart (old.last + 1) (sided.state_of old.far) (sided.state_of far) → RefusesLine (old.last + 1) fault (sided.state_of old.far).book.trail → Stops old.far far fault → near.peer.wire ≡ old.near.peer.wire → far.peer.wire ≡ old.far.peer.wire
    → Went (MovesAll (Connect ∷ [])) old (record old { near = near; far = far }) line line (Some (record { side = Far; fault = fault }))
connect_far law old near far line fault down r en un part refuses stops wn wf =
    let s : State = state_of old line in
    let t : State = state_of (record old { near = near; far = far }) line in
    let next : suc (connections s) ≡ old.last + 1 = next_is old line r.aside in
    record {
      did = one_fault Connect s t (record { side = Far; fault = fault }) (record {
        changes = connects true s t (Some (record { side = Far; fault = fault })) refl (line_down old.up (line old.last) down) (
          refused old line fault (sided.state_of old.far).book.trail r.aside refuses,
          (
            sided.state_of far,
            subst (λ (c : ℕ). LineInPart c (sided.state_of old.far) (sided.state_of far)) (sym next) part,
            state_is t (record s { near = with_line (suc (connections s)) s.near; far = sided.state_of far }) (en ∙ ap (λ (c : ℕ). with_line c (sided.state_of old.near)) (sym next)) refl wn wf refl,
          ),
        );
        kept = (goes_on law Near near (old.last + 1) true (up_at Near (old.last + 1) old.last old.up old.near near r.aside.near en un), subst (λ (side : Side). HasFailed side (sided.state_of far) fault) r.aside.far.side_is stops.failed);
      });
      stays = record {
        tells = tells_failed (record { side = Far; fault = fault }) t line
            (half_opened (rows_of s.near) (rows_of s.far) (rows_of t.near) (rows_of t.far) line (line_tells (old.last + 1) (sided.state_of old.near) (sided.state_of near) en) (part_tells (old.last + 1) (sided.state_of old.far) (sided.state_of far) part) r.tells);
        last = not_up old.up old.last t down;
      };
    }

-- ---- not made

is_up : (up : Bool) (line : outside.Line) (makes : Bool) (s : State) → up ≡ true → ConnectedBy (is_none (line_at up line) && makes) s s None
is_up true line makes s e = (refl, refl)
is_up false line makes s e = absurd cc

-- one is up already
pub connect_again : ReadyGoesOn → (old : Run) (line : ℕ → outside.Line) → old.up ≡ true → IsReady old line → Went (MovesAll (Connect ∷ [])) old old line line None
connect_again law old line up r = record {
  did = one_move Connect (state_of old line) (state_of old line) (record { changes = is_up old.up (line old.last) true (state_of old line) up; kept = kept_aside law old line r.aside });
  stays = r;
}

-- a fact of the fault that a call met, from another one
pub stops_map : (X : Type 0) (result : Result X Stop) (P Q : Option Fault → Type 0) → ((stop : Option Fault) → P stop → Q stop) → IfStops result P → IfStops result Q
stops_map X (Ok done) P Q f h = f None h
stops_map X (Err (stops.Failed it)) P Q f h = f (Some (fault_in it)) h
stops_map X (Err stops.Memory) P Q f h = tt

-- a connection that is made where a frame is kept
held_moves : (s t : State) (stop : Option Fault) → (holds s.near || holds s.far) ≡ true → MovesAll (Connect ∷ []) s t stop → MovesAll (ConnectIfHeld ∷ []) s t stop
held_moves s t stop e (inl fails) = inl (fails.0, record { changes = subst (λ (makes : Bool). Connected makes s t (Some fails.0)) (sym e) fails.1.changes; kept = fails.1.kept }, fails.2)
held_moves s t stop e (inr goes) = inr (goes.0, record { changes = subst (λ (makes : Bool). Connected makes s goes.0 None) (sym e) goes.1.changes; kept = goes.1.kept }, goes.2)

pub held_connects : (old new : Run) (before after : ℕ → outside.Line) (stop : Option Fault) → (holds (sided.state_of old.near) || holds (sided.state_of old.far)) ≡ true → Goes (Connect ∷ []) old new before after stop → Goes (ConnectIfHeld ∷ []) old new before after stop
held_connects old new before after stop e h ready = record { did = held_moves (state_of old before) (state_of new after) stop e (h ready).did; stays = (h ready).stays }

none_held : (b : Bool) (s : State) → ConnectedBy (b && false) s s None
none_held true s = (refl, refl)
none_held false s = (refl, refl)

pub not_held : ReadyGoesOn → (old : Run) (line : ℕ → outside.Line) → (holds (sided.state_of old.near) || holds (sided.state_of old.far)) ≡ false → IsReady old line → Went (MovesAll (ConnectIfHeld ∷ [])) old old line line None
not_held law old line e r = record {
  did = one_move ConnectIfHeld (state_of old line) (state_of old line) (record {
    changes = subst (λ (makes : Bool). Connected makes (state_of old line) (state_of old line) None) (sym e) (none_held (is_none (state_of old line).line) (state_of old line));
    kept = kept_aside law old line r.aside;
  });
  stays = r;
}

-- ---- it ends

down_at : (side : Side) (last : ℕ) (up : Bool) (old new : SideRun) → ReadyAt side old last up → sides.IsReady new → sided.state_of new ≡ sided.state_of old → new.peer ≡ old.peer → sided.is_up new ≡ false → ReadyAt side new last false
down_at side last up old new r ready e peer down = record {
  ready = ready;
  side_is = ap (λ p. p.side) peer ∙ r.side_is;
  number = ap (λ (it : SideState). last_number (rows_of it)) e ∙ r.number;
  is_up = down;
}

abbrev pub ended : Run → SideRun → SideRun → Run
ended old near far = record old { near = near; far = far; up = false }

pub cut_moves : ReadyGoesOn → (old : Run) (near far : SideRun) (before after : ℕ → outside.Line) → IsReady old before → sides.IsReady near → sides.IsReady far → sided.state_of near ≡ sided.state_of old.near → sided.state_of far ≡ sided.state_of old.far → near.peer ≡ old.near.peer → far.peer ≡ old.far.peer
    → sided.is_up near ≡ false → sided.is_up far ≡ false → Became before after old.last cut_line → Went (MovesAll (Break ∷ [])) old (ended old near far) before after None
cut_moves law old near far before after r rn rf en ef pn pf dn df b =
    let s : State = state_of old before in
    let t : State = state_of (ended old near far) after in
    let ready : IsReady (ended old near far) after = record {
      aside = record { near = down_at Near old.last old.up old.near near r.aside.near rn en pn dn; far = down_at Far old.last old.up old.far far r.aside.far rf ef pf df };
      few = r.few;
      some = λ e. absurd cc;
      holds = λ e. absurd cc;
      fresh = λ n above. ap (λ (it : outside.Line). it.was_opened) (b.others n (λ e. omega (arith, above, e))) ∙ r.fresh n above;
      tells = tells_same (rows_of s.near) (rows_of s.far) (rows_of t.near) (rows_of t.far) after (ap rows_of en) (ap rows_of ef) (cut_tells (rows_of s.near) (rows_of s.far) before after old.last b r.tells);
    } in
    record {
      did = one_move Break s t (record {
        changes = (state_is t (record s { line = None }) en ef (ap (λ p. p.wire) pn) (ap (λ p. p.wire) pf) refl, refl);
        kept = kept_aside law (ended old near far) after ready.aside;
      });
      stays = ready;
    }

pub cut_none : ReadyGoesOn → (old : Run) (line : ℕ → outside.Line) → old.up ≡ false → IsReady old line → Went (MovesAll (Break ∷ [])) old old line line None
cut_none law old line down r = record {
  did = one_move Break (state_of old line) (state_of old line) (record {
    changes = (ap (λ (it : Option Lanes). record (state_of old line) { line = it }) (line_down old.up (line old.last) down), refl);
    kept = kept_aside law old line r.aside;
  });
  stays = r;
}

-- ---- a byte is replaced

spoils : (b : Bool) (offset byte : ℕ) (lane : List ℕ) → nat_lt offset (length lane) ≡ b → spoiled offset byte lane ≡ (if b then slice_set lane offset byte else lane)
spoils b offset byte lane e = ap (λ (it : Bool). if it then slice_set lane offset byte else lane) e

spoiled_line : (dir : Direction) (up : Bool) (offset byte : ℕ) (line other : outside.Line) → offset < length (lane_of dir line).waiting → other ≡ spoiled_at dir offset byte line
    → line_at up other ≡ option_map (λ (lanes : Lanes). with_lane dir (spoiled offset byte (lane_at dir lanes)) lanes) (line_at up line)
spoiled_line Up true offset byte line other l e =
    ap (λ (it : outside.Line). Some (lanes_of it)) e ∙ ap (λ (bytes : List ℕ). Some (record (lanes_of line) { up = bytes })) (sym (spoils true offset byte line.up.waiting (lt-ltb offset (length line.up.waiting) l)))
spoiled_line Down true offset byte line other l e =
    ap (λ (it : outside.Line). Some (lanes_of it)) e ∙ ap (λ (bytes : List ℕ). Some (record (lanes_of line) { down = bytes })) (sym (spoils true offset byte line.down.waiting (lt-ltb offset (length line.down.waiting) l)))
spoiled_line Up false offset byte line other l e = refl
spoiled_line Down false offset byte line other l e = refl

unspoiled_line : (dir : Direction) (up : Bool) (offset byte : ℕ) (line other : outside.Line) → (up ≡ true → length (lane_of dir line).waiting ≤ offset) → other ≡ line
    → line_at up other ≡ option_map (λ (lanes : Lanes). with_lane dir (spoiled offset byte (lane_at dir lanes)) lanes) (line_at up line)
unspoiled_line Up true offset byte line other l e =
    ap (λ (it : outside.Line). Some (lanes_of it)) e ∙ ap (λ (bytes : List ℕ). Some (record (lanes_of line) { up = bytes })) (sym (spoils false offset byte line.up.waiting (le-ltb offset (length line.up.waiting) (l refl))))
unspoiled_line Down true offset byte line other l e =
    ap (λ (it : outside.Line). Some (lanes_of it)) e ∙ ap (λ (bytes : List ℕ). Some (record (lanes_of line) { down = bytes })) (sym (spoils false offset byte line.down.waiting (le-ltb offset (length line.down.waiting) (l refl))))
unspoiled_line Up false offset byte line other l e = refl
unspoiled_line Down false offset byte line other l e = refl

keeps_up : (dir : Direction) (offset byte : ℕ) (line : outside.Line) → (spoiled_at dir offset byte line).is_up ≡ line.is_up
keeps_up Up offset byte line = refl
keeps_up Down offset byte line = refl

pub spoil_moves : ReadyGoesOn → (dir : Direction) (offset byte : ℕ) (old : Run) (before after : ℕ → outside.Line) → IsReady old before → offset < length (lane_of dir (before old.last)).waiting → Became before after old.last (spoiled_at dir offset byte)
    → Went (MovesAll (Spoil dir offset byte ∷ [])) old old before after None
spoil_moves law dir offset byte old before after r l b =
    let s : State = state_of old before in
    let t : State = state_of old after in
    record {
      did = one_move (Spoil dir offset byte) s t (record {
        changes = (state_is t (on_lane dir (spoiled offset byte) s) refl refl refl refl (spoiled_line dir old.up offset byte (before old.last) (after old.last) l b.here), refl);
        kept = kept_aside law old after r.aside;
      });
      stays = record {
        aside = r.aside;
        few = r.few;
        some = r.some;
        holds = λ e. ap (λ (it : outside.Line). it.is_up) b.here ∙ keeps_up dir offset byte (before old.last) ∙ r.holds e;
        fresh = λ n above. ap (λ (it : outside.Line). it.was_opened) (b.others n (λ e. omega (arith, above, e))) ∙ r.fresh n above;
        tells = spoiled_tells dir offset byte (rows_of s.near) (rows_of s.far) before after old.last b r.tells;
      };
    }

pub spoil_none : ReadyGoesOn → (dir : Direction) (offset byte : ℕ) (old : Run) (before after : ℕ → outside.Line) → IsReady old before → (old.up ≡ true → length (lane_of dir (before old.last)).waiting ≤ offset) → Same before after
    → Went (MovesAll (Spoil dir offset byte ∷ [])) old old before after None
spoil_none law dir offset byte old before after r l same =
    let s : State = state_of old before in
    let t : State = state_of old after in
    record {
      did = one_move (Spoil dir offset byte) s t (record {
        changes = (state_is t (on_lane dir (spoiled offset byte) s) refl refl refl refl (unspoiled_line dir old.up offset byte (before old.last) (after old.last) l (same old.last)), refl);
        kept = kept_aside law old after r.aside;
      });
      stays = record {
        aside = r.aside;
        few = r.few;
        some = r.some;
        holds = λ e. ap (λ (it : outside.Line). it.is_up) (same old.last) ∙ r.holds e;
        fresh = λ n above. ap (λ (it : outside.Line). it.was_opened) (same n) ∙ r.fresh n above;
        tells = λ n. subst (λ (it : outside.Line). TellsLine n (rows_of s.near) (rows_of s.far) [] [] it) (sym (same n)) (r.tells n);
      };
    }

not_less : (a b : ℕ) → (a < b → ⊥) → b ≤ a
not_less a b n = go (nat_lt a b) refl
  where
    go : (it : Bool) → nat_lt a b ≡ it → b ≤ a
    go true e = absurd (n (ltb-true a b e))
    go false e = ltb-false a b e

pub spoil_by : ReadyGoesOn → (dir : Direction) (offset byte : ℕ) (old : Run) (before after : ℕ → outside.Line) → IsReady old before → (b : Bool) → (IsTrue b ↔ (offset < length (lane_of dir (before old.last)).waiting)) → MatchBool b (Became before after old.last (spoiled_at dir offset byte)) (Same before after)
    → Went (MovesAll (Spoil dir offset byte ∷ [])) old old before after None
spoil_by law dir offset byte old before after r true answer change = spoil_moves law dir offset byte old before after r (answer.0 refl) change
spoil_by law dir offset byte old before after r false answer change = spoil_none law dir offset byte old before after r (λ e. not_less offset (length (lane_of dir (before old.last)).waiting) (λ l. absurd (let never : false ≡ true = answer.1 l in cc))) change
