-- What both sides of a replay keep behind a call of one of them that leaves the link alone.
use Rattle.std.proofs.Common.{◌≡◌, ◌≢◌, ℕ, Bool, true, false, List, [], ◌∷◌, Option, Some, None, Result, Err, refl, sym, ap, subst, ◌∙◌, arith, inl, inr}
use Rattle.wp_outside.specs.declared.kinds.Side.{Side}
use Rattle.wp_outside.specs.declared.kinds.Side.TheVariants.{Near, Far}
use Rattle.wp_outside.specs.Lines as outside
use Rattle.pair_model.specs.Lines.{Line}
use Rattle.side_model.specs.declared.fault.ProxyFault.{ProxyFault}
use Rattle.side_model.specs.declared.fault.ProxyFault.TheVariants as faults
use Rattle.pair_runs.specs.Kept.{Kept, KeptAt, GoesOn, HasFailed}
use Rattle.pair_runs.specs.Moves.{Move, Moves, MovesAll, Changes, at_side}
use Rattle.pair_runs.specs.Sides.{rows_of, last_number}
use Rattle.pair_runs.specs.States.{State, Fault, connections}
use Rattle.script_sides.specs.Answering.{Stays, Stops}
use Rattle.script_sides.specs.Ready.{ReadyGoesOn}
use Rattle.script_sides.specs.Sided as sided
use Rattle.script_sides.specs.Sided.{SideRun}
use Rattle.script_replay.specs.Going.{stop_by, IfStops, Went, GoesAside}
use Rattle.script_replay.specs.Standing.{ReadyAt, IsReadyAside, IsReady, state_of}
use Rattle.script_replay.specs.Telling.{TellsLine, Tells, TellsFailed, refused_by}
use Rattle.script_replay.specs.declared.failures.Stop.{Stop}
use Rattle.script_replay.specs.declared.failures.Stop.TheVariants as stops
use Rattle.script_replay.specs.declared.run.Run.{Run}

-- ---- by side

abbrev pub run_at : Side → Run → SideRun
run_at Near run = run.near
run_at Far run = run.far

abbrev pub with_run : Side → SideRun → Run → Run
with_run Near it run = record run { near = it }
with_run Far it run = record run { far = it }

-- ---- a side goes on

pub ready_at : (side : Side) (old new : SideRun) (last : ℕ) (up : Bool) → ReadyAt side old last up → Stays old new → rows_of (sided.state_of new) ≡ rows_of (sided.state_of old) → ReadyAt side new last up
ready_at side old new last up r s e = record {
  ready = s.ready;
  side_is = s.side ∙ r.side_is;
  number = ap last_number e ∙ r.number;
  is_up = s.up ∙ r.is_up;
}

pub tells_same : (near far other_near other_far : List Line) (line : ℕ → outside.Line) → other_near ≡ near → other_far ≡ far → Tells near far line → Tells other_near other_far line
tells_same near far other_near other_far line n f t =
    subst (λ (rows : List Line). Tells rows other_far line) (sym n) (subst (λ (rows : List Line). Tells near rows line) (sym f) t)

pub ready_with : (side : Side) (old : Run) (new : SideRun) (line : ℕ → outside.Line) → IsReady old line → Stays (run_at side old) new → rows_of (sided.state_of new) ≡ rows_of (sided.state_of (run_at side old)) → IsReady (with_run side new old) line
ready_with Near old new line r s e = record {
  aside = record { near = ready_at Near old.near new old.last old.up r.aside.near s e; far = r.aside.far };
  few = r.few;
  some = r.some;
  holds = r.holds;
  fresh = r.fresh;
  tells = tells_same (rows_of (sided.state_of old.near)) (rows_of (sided.state_of old.far)) (rows_of (sided.state_of new)) (rows_of (sided.state_of old.far)) line e refl r.tells;
}
ready_with Far old new line r s e = record {
  aside = record { near = r.aside.near; far = ready_at Far old.far new old.last old.up r.aside.far s e };
  few = r.few;
  some = r.some;
  holds = r.holds;
  fresh = r.fresh;
  tells = tells_same (rows_of (sided.state_of old.near)) (rows_of (sided.state_of old.far)) (rows_of (sided.state_of old.near)) (rows_of (sided.state_of new)) line refl e r.tells;
}

pub aside_with : (side : Side) (old : Run) (new : SideRun) → IsReadyAside old → Stays (run_at side old) new → rows_of (sided.state_of new) ≡ rows_of (sided.state_of (run_at side old)) → IsReadyAside (with_run side new old)
aside_with Near old new r s e = record { near = ready_at Near old.near new old.last old.up r.near s e; far = r.far }
aside_with Far old new r s e = record { near = r.near; far = ready_at Far old.far new old.last old.up r.far s e }

-- ---- the records

pub goes_on : ReadyGoesOn → (side : Side) (it : SideRun) (last : ℕ) (up : Bool) → ReadyAt side it last up → GoesOn side (sided.state_of it)
goes_on law side it last up r = subst (λ (s : Side). GoesOn s (sided.state_of it)) r.side_is (law it r.ready)

pub kept_aside : ReadyGoesOn → (run : Run) (line : ℕ → outside.Line) → IsReadyAside run → Kept None (state_of run line)
kept_aside law run line r = (goes_on law Near run.near run.last run.up r.near, goes_on law Far run.far run.last run.up r.far)

pub kept_failed : ReadyGoesOn → (side : Side) (old : Run) (new : SideRun) (fault : ProxyFault) (line : ℕ → outside.Line) → IsReadyAside old → Stops (run_at side old) new fault → KeptAt side fault (state_of (with_run side new old) line)
kept_failed law Near old new fault line r s =
    (subst (λ (side : Side). HasFailed side (sided.state_of new) fault) r.near.side_is s.failed, goes_on law Far old.far old.last old.up r.far)
kept_failed law Far old new fault line r s =
    (goes_on law Near old.near old.last old.up r.near, subst (λ (side : Side). HasFailed side (sided.state_of new) fault) r.far.side_is s.failed)

-- ---- what the store tells behind a fault

nothing_refused : (side : Side) (b : Bool) (connection : ℕ) (near far : List Line) (line : outside.Line) → TellsLine connection near far [] [] line → TellsLine connection near far (refused_by Far side b []) (refused_by Near side b []) line
nothing_refused Near true connection near far line t = t
nothing_refused Near false connection near far line t = t
nothing_refused Far true connection near far line t = t
nothing_refused Far false connection near far line t = t

pub tells_failed : (it : Fault) (s : State) (line : ℕ → outside.Line) → Tells (rows_of s.near) (rows_of s.far) line → TellsFailed it s line
tells_failed it s line t = record {
  piece = [];
  few = omega arith;
  because = λ some. absurd (some refl);
  tells = λ connection. nothing_refused it.side _ connection (rows_of s.near) (rows_of s.far) (line connection) (t connection);
}

pub tells_with : (side : Side) (old : Run) (new : SideRun) (line : ℕ → outside.Line) → rows_of (sided.state_of new) ≡ rows_of (sided.state_of (run_at side old)) → Tells (rows_of (sided.state_of old.near)) (rows_of (sided.state_of old.far)) line
    → Tells (rows_of (sided.state_of (with_run side new old).near)) (rows_of (sided.state_of (with_run side new old).far)) line
tells_with Near old new line e t = tells_same (rows_of (sided.state_of old.near)) (rows_of (sided.state_of old.far)) (rows_of (sided.state_of new)) (rows_of (sided.state_of old.far)) line e refl t
tells_with Far old new line e t = tells_same (rows_of (sided.state_of old.near)) (rows_of (sided.state_of old.far)) (rows_of (sided.state_of old.near)) (rows_of (sided.state_of new)) line refl e t

-- the connection that is up is the last one
pub last_with : (side : Side) (old : Run) (new : SideRun) (line : ℕ → outside.Line) → IsReadyAside old → rows_of (sided.state_of new) ≡ rows_of (sided.state_of (run_at side old))
    → (with_run side new old).up ≡ true → (with_run side new old).last ≡ connections (state_of (with_run side new old) line)
last_with Near old new line r e up = omega (arith, ap last_number e, r.near.number, r.far.number)
last_with Far old new line r e up = omega (arith, ap last_number e, r.near.number, r.far.number)

-- ---- one move

pub one_move : (move : Move) (s t : State) → Moves move s t None → MovesAll (move ∷ []) s t None
one_move move s t m = inr (t, m, (refl, refl))

pub one_fault : (move : Move) (s t : State) (it : Fault) → Moves move s t (Some it) → MovesAll (move ∷ []) s t (Some it)
one_fault move s t it m = inl (it, m, refl)

-- a side as a call leaves it
abbrev pub LeavesBy : Option ProxyFault → SideRun → SideRun → Type 0
LeavesBy None old new = Stays old new
LeavesBy (Some fault) old new = Stops old new fault

-- a call of one side that leaves its lines is a move
pub side_moves : ReadyGoesOn → (side : Side) (old : Run) (new : SideRun) (move : Move) (stop : Option ProxyFault) → ((line : ℕ → outside.Line) → Changes move (state_of old line) (state_of (with_run side new old) line) (at_side side stop))
    → LeavesBy stop (run_at side old) new → rows_of (sided.state_of new) ≡ rows_of (sided.state_of (run_at side old)) → GoesAside (move ∷ []) old (with_run side new old) (at_side side stop)
side_moves law side old new move None changes leaves e = λ line ready. record {
  did = one_move move (state_of old line) (state_of (with_run side new old) line) (record { changes = changes line; kept = kept_aside law (with_run side new old) line (aside_with side old new ready.aside leaves e) });
  stays = ready_with side old new line ready leaves e;
}
side_moves law side old new move (Some fault) changes leaves e = λ line ready. record {
  did = one_fault move (state_of old line) (state_of (with_run side new old) line) (record { side = side; fault = fault }) (record { changes = changes line; kept = kept_failed law side old new fault line ready.aside leaves });
  stays = record {
    tells = tells_failed (record { side = side; fault = fault }) (state_of (with_run side new old) line) line (tells_with side old new line e ready.tells);
    last = last_with side old new line ready.aside e;
  };
}

-- ---- why a call stops

pub stopped : (X : Type 0) (side : Side) (fault : ProxyFault) (stop : Stop) (P : Option Fault → Type 0) → stop ≡ stop_by side fault → (fault ≢ faults.Memory → P (Some (record { side = side; fault = fault }))) → IfStops {X = X} (Err stop) P
stopped X side (faults.Frame connection place cause) stop P e h = subst (λ (it : Stop). IfStops {X = X} (Err it) P) (sym e) (h (λ d. cc))
stopped X side (faults.Peer index cause) stop P e h = subst (λ (it : Stop). IfStops {X = X} (Err it) P) (sym e) (h (λ d. cc))
stopped X side (faults.Limit which) stop P e h = subst (λ (it : Stop). IfStops {X = X} (Err it) P) (sym e) (h (λ d. cc))
stopped X side faults.Memory stop P e h = subst (λ (it : Stop). IfStops {X = X} (Err it) P) (sym e) tt
