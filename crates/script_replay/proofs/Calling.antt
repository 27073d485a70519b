-- Each call of a side that leaves the link alone, as a move of the run.
use Rattle.std.proofs.Common.{◌≡◌, ◌≢◌, ℕ, zero, suc, ◌-◌, ◌<◌, ◌≤◌, Bool, true, false, List, [], ◌∷◌, Option, Some, None, refl, sym, ap, subst, ◌∙◌, arith, inl, inr}
use Rattle.wp_outside.specs.declared.kinds.Side.{Side}
use Rattle.wp_outside.specs.declared.kinds.Side.TheVariants.{Near, Far}
use Rattle.wp_outside.specs.Lines as outside
use Rattle.half_model.specs.declared.items.PeerIn.{PeerIn}
use Rattle.side_model.specs.Books.{weight, MOST_WEIGHT}
use Rattle.side_model.specs.declared.fault.ProxyFault.{ProxyFault}
use Rattle.pair_runs.specs.Kept.{GoesOn}
use Rattle.pair_runs.specs.Loading.{LoadsIn, Loads, LoadsAllIn, LoadsAll}
use Rattle.pair_runs.specs.Moves.{Move, Take, Load, LoadAll, Close, Changes, LoadedThen, ClosedBy, at_side}
use Rattle.pair_runs.specs.Sides.{SideState, rows_of, fed, asked, all_loaded, wants}
use Rattle.pair_runs.specs.States.{State, Fault, connections}
use Rattle.pair_runs.specs.Taking.{cut_item, Taker, TakesIn, TakesAll, TakesNone}
use Rattle.pair_runs.proofs.Falling.{takes_quiet, loaded_none}
use Rattle.pair_runs.proofs.Tying.{works_rows, part_rows}
use Rattle.script_sides.specs.Answering.{Stays, Stops}
use Rattle.script_sides.specs.Ready.{ReadyGoesOn}
use Rattle.script_sides.specs.Sided as sided
use Rattle.script_sides.specs.Sided.{SideRun}
use Rattle.script_sides.specs.Takings.{TookSome}
use Rattle.script_replay.specs.Going.{GoesAside}
use Rattle.script_replay.specs.Settling.{ChangedIf, ChangedAside}
use Rattle.script_replay.specs.Standing.{IsReadyAside, IsReady, state_of}
use Rattle.script_replay.specs.declared.run.Run.{Run}
use Rattle.script_replay.proofs.Keeping.{run_at, with_run, ready_with, aside_with, kept_aside, kept_failed, tells_failed, tells_with, last_with, one_move, one_fault, LeavesBy, side_moves}

-- ---- lines stay

takes_rows : (count most : ℕ) (a : SideState) (wire : List PeerIn) (b : Taker) (stop : Option ProxyFault) → TakesIn count most a wire b stop → rows_of b.side ≡ rows_of a
takes_rows zero most a wire b stop h = ap (λ (it : Taker). rows_of it.side) h.0
takes_rows (suc count) most a [] b stop h = absurd h
takes_rows (suc count) most a (item ∷ wire) b stop h = elim h.2 [
  | inl fails ↦ part_rows (fed (cut_item most item wire).item a) b.side fails.part.part
  | inr goes ↦ takes_rows count (most - (cut_item most item wire).cost) goes.mid (cut_item most item wire).rest b stop goes.more ∙ works_rows false (fed (cut_item most item wire).item a) goes.mid goes.works
]

pub take_rows : (most : ℕ) (old new : SideRun) (stop : Option ProxyFault) → TakesAll most (sided.taker_of old) (sided.taker_of new) stop → rows_of (sided.state_of new) ≡ rows_of (sided.state_of old)
take_rows most old new stop all = takes_rows all.count most (sided.state_of old) old.peer.wire (sided.taker_of new) stop all.row

loads_rows : (count words : ℕ) (a b : SideState) (over : ℕ) (stop : Option ProxyFault) → LoadsIn count words a b over stop → rows_of b ≡ rows_of a
loads_rows zero words a b over stop h = elim h.1 [
  | inl none ↦ ap rows_of none.1
  | inr last ↦ ap rows_of last.1
]
loads_rows (suc count) words a b over stop h = elim h.2 [
  | inl fails ↦ part_rows a b fails.part.part
  | inr goes ↦ loads_rows count _ goes.1.mid b over stop goes.1.more ∙ works_rows false (all_loaded a) goes.1.mid goes.1.works
]

pub load_rows : (words : ℕ) (a b : SideState) (over : ℕ) (stop : Option ProxyFault) → Loads words a b over stop → rows_of b ≡ rows_of a
load_rows words a b over stop loads = loads_rows loads.count words a b over stop loads.row

all_rows : (count : ℕ) (a b : SideState) (stop : Option ProxyFault) → LoadsAllIn count a b stop → rows_of b ≡ rows_of a
all_rows zero a b stop h = ap rows_of h.1
all_rows (suc count) a b stop h = elim h.1 [
  | inl fails ↦ part_rows a b fails.part.part
  | inr goes ↦ all_rows count goes.mid b stop goes.more ∙ works_rows false (all_loaded a) goes.mid goes.works
]

pub load_all_rows : (a b : SideState) (stop : Option ProxyFault) → LoadsAll a b stop → rows_of b ≡ rows_of a
load_all_rows a b stop all = all_rows all.count a b stop all.row

pub close_rows : (said : Bool) (stop : Option ProxyFault) (a b : SideState) → ClosedBy said stop a b → rows_of b ≡ rows_of a
close_rows true None a b h = ap rows_of h
close_rows true (Some fault) a b h = absurd h
close_rows false None a b h = works_rows false (asked a) b h
close_rows false (Some fault) a b h = part_rows (asked a) b h.part

-- ---- what changes

pub take_changes : (side : Side) (most : ℕ) (old : Run) (new : SideRun) (stop : Option ProxyFault) → TakesAll most (sided.taker_of (run_at side old)) (sided.taker_of new) stop
    → (line : ℕ → outside.Line) → Changes (Take side most) (state_of old line) (state_of (with_run side new old) line) (at_side side stop)
take_changes Near most old new stop all line = (sided.taker_of new, (stop, all, refl, refl))
take_changes Far most old new stop all line = (sided.taker_of new, (stop, all, refl, refl))

pub load_all_changes : (side : Side) (old : Run) (new : SideRun) (stop : Option ProxyFault) → LoadsAll (sided.state_of (run_at side old)) (sided.state_of new) stop → new.peer.wire ≡ (run_at side old).peer.wire
    → (line : ℕ → outside.Line) → Changes (LoadAll side) (state_of old line) (state_of (with_run side new old) line) (at_side side stop)
load_all_changes Near old new stop all e line = (sided.state_of new, (stop, all, ap (λ (wire : List PeerIn). record (state_of old line) { near = sided.state_of new; near_wire = wire }) e, refl))
load_all_changes Far old new stop all e line = (sided.state_of new, (stop, all, ap (λ (wire : List PeerIn). record (state_of old line) { far = sided.state_of new; far_wire = wire }) e, refl))

pub close_changes : (side : Side) (old : Run) (new : SideRun) (stop : Option ProxyFault) → ClosedBy (sided.state_of (run_at side old)).inside.asked stop (sided.state_of (run_at side old)) (sided.state_of new) → new.peer.wire ≡ (run_at side old).peer.wire
    → (line : ℕ → outside.Line) → Changes (Close side) (state_of old line) (state_of (with_run side new old) line) (at_side side stop)
close_changes Near old new stop closes e line = (sided.state_of new, (stop, closes, ap (λ (wire : List PeerIn). record (state_of old line) { near = sided.state_of new; near_wire = wire }) e, refl))
close_changes Far old new stop closes e line = (sided.state_of new, (stop, closes, ap (λ (wire : List PeerIn). record (state_of old line) { far = sided.state_of new; far_wire = wire }) e, refl))

-- ---- whether anything changes

some_taken : (most : ℕ) (a : Taker) → TookSome most a → TakesNone most a → ⊥
some_taken most a some (inl e) = omega (arith, some.some, e)
some_taken most a some (inr (inl e)) = some.front e
some_taken most a some (inr (inr e)) = absurd (let never : true ≡ false = sym some.wants ∙ e in cc)

at_taker : (side : Side) (old : Run) (new : SideRun) (line : ℕ → outside.Line) → state_of (with_run side new old) line ≡ state_of old line → sided.taker_of new ≡ sided.taker_of (run_at side old)
at_taker Near old new line e = ap (λ (s : State). record { side = s.near; wire = s.near_wire }) e
at_taker Far old new line e = ap (λ (s : State). record { side = s.far; wire = s.far_wire }) e

same_taker : (side : Side) (old : Run) (new : SideRun) (line : ℕ → outside.Line) → sided.taker_of new ≡ sided.taker_of (run_at side old) → state_of (with_run side new old) line ≡ state_of old line
same_taker Near old new line e = ap (λ (it : Taker). record (state_of old line) { near = it.side; near_wire = it.wire }) e
same_taker Far old new line e = ap (λ (it : Taker). record (state_of old line) { far = it.side; far_wire = it.wire }) e

pub take_changed : (side : Side) (most : ℕ) (old : Run) (new : SideRun) (took : Bool) → TakesAll most (sided.taker_of (run_at side old)) (sided.taker_of new) None → weight (sided.state_of new).book.trail ≤ MOST_WEIGHT
    → (took ≡ false → sided.taker_of new ≡ sided.taker_of (run_at side old)) → (took ≡ true → TookSome most (sided.taker_of (run_at side old))) → ChangedAside old (with_run side new old) took
take_changed side most old new false all weighs none some = λ line ready. same_taker side old new line (none refl)
take_changed side most old new true all weighs none some = λ line ready e.
    some_taken most (sided.taker_of (run_at side old)) (some refl)
    (takes_quiet all.count most (sided.state_of (run_at side old)) (run_at side old).peer.wire (sided.taker_of new) all.row weighs (at_taker side old new line e))

pub load_all_changed : (side : Side) (old : Run) (new : SideRun) (loaded : Bool) → LoadsAll (sided.state_of (run_at side old)) (sided.state_of new) None → new.peer.wire ≡ (run_at side old).peer.wire
    → (loaded ≡ false → sided.state_of new ≡ sided.state_of (run_at side old)) → (loaded ≡ true → (sided.state_of (run_at side old)).copies ≢ []) → ChangedAside old (with_run side new old) loaded
load_all_changed side old new false all e none some = λ line ready.
    same_taker side old new line (ap (λ (it : SideState). record { side = it; wire = new.peer.wire }) (none refl) ∙ ap (λ (wire : List PeerIn). record { side = sided.state_of (run_at side old); wire = wire }) e)
load_all_changed side old new true all e none some = λ line ready same.
    some refl (sym (ap (λ (it : Taker). it.side.copies) (at_taker side old new line same)) ∙ loaded_none all.count (sided.state_of (run_at side old)) (sided.state_of new) all.row)

-- ---- each call as a move, of the side that is called

pub take_goes : ReadyGoesOn → (which side : Side) (most : ℕ) (old : Run) (new : SideRun) (stop : Option ProxyFault) → which ≡ side → TakesAll most (sided.taker_of (run_at side old)) (sided.taker_of new) stop → LeavesBy stop (run_at side old) new
    → GoesAside (Take which most ∷ []) old (with_run side new old) (at_side side stop)
take_goes law which side most old new stop e all leaves =
    subst (λ (it : Side). GoesAside (Take it most ∷ []) old (with_run side new old) (at_side side stop)) (sym e)
    (side_moves law side old new (Take side most) stop (take_changes side most old new stop all) leaves (take_rows most (run_at side old) new stop all))

pub take_told : ReadyGoesOn → (side : Side) (most : ℕ) (old : Run) (new : SideRun) (took : Bool) → TakesAll most (sided.taker_of (run_at side old)) (sided.taker_of new) None → Stays (run_at side old) new
    → (took ≡ false → sided.taker_of new ≡ sided.taker_of (run_at side old)) → (took ≡ true → TookSome most (sided.taker_of (run_at side old))) → ChangedAside old (with_run side new old) took
take_told law side most old new took all leaves none some =
    take_changed side most old new took all (law new leaves.ready).law.weighs none some

pub take_ready : (side : Side) (most : ℕ) (old : Run) (new : SideRun) → TakesAll most (sided.taker_of (run_at side old)) (sided.taker_of new) None → IsReadyAside old → Stays (run_at side old) new → IsReadyAside (with_run side new old)
take_ready side most old new all ready leaves = aside_with side old new ready leaves (take_rows most (run_at side old) new None all)

pub load_all_goes : ReadyGoesOn → (which side : Side) (old : Run) (new : SideRun) (stop : Option ProxyFault) → which ≡ side → LoadsAll (sided.state_of (run_at side old)) (sided.state_of new) stop → LeavesBy stop (run_at side old) new → new.peer.wire ≡ (run_at side old).peer.wire
    → GoesAside (LoadAll which ∷ []) old (with_run side new old) (at_side side stop)
load_all_goes law which side old new stop e all leaves wire =
    subst (λ (it : Side). GoesAside (LoadAll it ∷ []) old (with_run side new old) (at_side side stop)) (sym e)
    (side_moves law side old new (LoadAll side) stop (load_all_changes side old new stop all wire) leaves (load_all_rows (sided.state_of (run_at side old)) (sided.state_of new) stop all))

pub load_all_ready : (side : Side) (old : Run) (new : SideRun) → LoadsAll (sided.state_of (run_at side old)) (sided.state_of new) None → IsReadyAside old → Stays (run_at side old) new → IsReadyAside (with_run side new old)
load_all_ready side old new all ready leaves = aside_with side old new ready leaves (load_all_rows (sided.state_of (run_at side old)) (sided.state_of new) None all)

pub close_goes : ReadyGoesOn → (which side : Side) (old : Run) (new : SideRun) (stop : Option ProxyFault) → which ≡ side → ClosedBy (sided.state_of (run_at side old)).inside.asked stop (sided.state_of (run_at side old)) (sided.state_of new) → LeavesBy stop (run_at side old) new
    → new.peer.wire ≡ (run_at side old).peer.wire → GoesAside (Close which ∷ []) old (with_run side new old) (at_side side stop)
close_goes law which side old new stop e closes leaves wire =
    subst (λ (it : Side). GoesAside (Close it ∷ []) old (with_run side new old) (at_side side stop)) (sym e)
    (side_moves law side old new (Close side) stop (close_changes side old new stop closes wire) leaves
    (close_rows (sided.state_of (run_at side old)).inside.asked stop (sided.state_of (run_at side old)) (sided.state_of new) closes))

-- ---- words of both sides, the near side's first

-- the far side's call behind one of the near side
then_far : ReadyGoesOn → (old mid : Run) (new : SideRun) (move : Move) (stop : Option ProxyFault) → ((line : ℕ → outside.Line) → Changes move (state_of old line) (state_of (with_run Far new mid) line) (at_side Far stop))
    → ((line : ℕ → outside.Line) → IsReady old line → IsReady mid line) → LeavesBy stop mid.far new → rows_of (sided.state_of new) ≡ rows_of (sided.state_of mid.far)
    → GoesAside (move ∷ []) old (with_run Far new mid) (at_side Far stop)
then_far law old mid new move None changes goes leaves e = λ line ready.
    let between = goes line ready in
    record {
      did = one_move move (state_of old line) (state_of (with_run Far new mid) line) (record { changes = changes line; kept = kept_aside law (with_run Far new mid) line (aside_with Far mid new between.aside leaves e) });
      stays = ready_with Far mid new line between leaves e;
    }
then_far law old mid new move (Some fault) changes goes leaves e = λ line ready.
    let between = goes line ready in
    record {
      did = one_fault move (state_of old line) (state_of (with_run Far new mid) line) (record { side = Far; fault = fault }) (record { changes = changes line; kept = kept_failed law Far mid new fault line between.aside leaves });
      stays = record {
        tells = tells_failed (record { side = Far; fault = fault }) (state_of (with_run Far new mid) line) line (tells_with Far mid new line e between.tells);
        last = last_with Far mid new line between.aside e;
      };
    }

pub load_stops : ReadyGoesOn → (words : ℕ) (old : Run) (near : SideRun) (fault : ProxyFault) → Loads words (sided.state_of old.near) (sided.state_of near) 0 (Some fault) → Stops old.near near fault → near.peer.wire ≡ old.near.peer.wire
    → GoesAside (Load words ∷ []) old (with_run Near near old) (Some (record { side = Near; fault = fault }))
load_stops law words old near fault loads leaves e =
    side_moves law Near old near (Load words) (Some fault)
    (λ line. (sided.state_of near, (0, (Some fault, loads, (ap (λ (wire : List PeerIn). record (state_of old line) { near = sided.state_of near; near_wire = wire }) e, refl)))))
    leaves (load_rows words (sided.state_of old.near) (sided.state_of near) 0 (Some fault) loads)

pub load_goes : ReadyGoesOn → (words over rest : ℕ) (old : Run) (near far : SideRun) (stop : Option ProxyFault) → Loads words (sided.state_of old.near) (sided.state_of near) over None → Loads over (sided.state_of old.far) (sided.state_of far) rest stop
    → Stays old.near near → LeavesBy stop old.far far → near.peer.wire ≡ old.near.peer.wire → far.peer.wire ≡ old.far.peer.wire
    → GoesAside (Load words ∷ []) old (with_run Far far (with_run Near near old)) (at_side Far stop)
load_goes law words over rest old near far stop first second stays leaves e f =
    then_far law old (with_run Near near old) far (Load words) stop changes
    (λ line ready. ready_with Near old near line ready stays (load_rows words (sided.state_of old.near) (sided.state_of near) over None first))
    leaves (load_rows over (sided.state_of old.far) (sided.state_of far) rest stop second)
  where
    is : (line : ℕ → outside.Line) → state_of (with_run Far far (with_run Near near old)) line ≡ record (state_of old line) { near = sided.state_of near; far = sided.state_of far }
    is line =
        ap (λ (wire : List PeerIn). record (state_of old line) { near = sided.state_of near; far = sided.state_of far; near_wire = wire; far_wire = far.peer.wire }) e
        ∙ ap (λ (wire : List PeerIn). record (state_of old line) { near = sided.state_of near; far = sided.state_of far; far_wire = wire }) f

    changes : (line : ℕ → outside.Line) → Changes (Load words) (state_of old line) (state_of (with_run Far far (with_run Near near old)) line) (at_side Far stop)
    changes line = (sided.state_of near, (over, (None, first, (sided.state_of far, (rest, (stop, second, is line, refl))))))
