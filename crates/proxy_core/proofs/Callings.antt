-- A call is its event from outside, and behind it all that is due.
use Rattle.std.proofs.Common.{◌≡◌, ℕ, ◌+◌, ◌<◌, ◌≤◌, ◌^◌, true, ◌&&◌, List, [], ◌∷◌, Option, Some, None, Result, Ok, Err, refl, sym, subst, ◌∙◌, arith, length-append, inl, inr, ◌⊎◌}
use Rattle.std.specs.Prelude.{is_none}
use Rattle.transfer_frames.specs.Grammar.{spelling}
use Rattle.half_model.specs.declared.items.PeerIn.{PeerIn}
use Rattle.half_model.specs.declared.items.PeerIn.TheVariants as inputs
use Rattle.half_model.specs.PipeTurn as pipes
use Rattle.half_model.specs.PipeTurn.{PipeTurn, pipe_turn}
use Rattle.pair_model.specs.RingState.{ring_made}
use Rattle.side_model.specs.declared.fault.ProxyFault.{ProxyFault}
use Rattle.side_model.specs.declared.fault.ProxyFault.TheVariants.{Memory}
use Rattle.side_model.specs.Calls.{Runs, barred, CallsBarred, CallsAfter, Calls}
use Rattle.side_model.specs.Due.{group, next, is_free}
use Rattle.side_model.specs.Events.{Event, Fed, Came, Asks, Rest}
use Rattle.side_model.specs.Shows.{wants_peer, is_open}
use Rattle.side_model.specs.Sound.{Admits}
use Rattle.side_model.specs.State.{Now}
use Rattle.side_model.specs.Steps.{step, fed_pipe}
use Rattle.side_model.proofs.Dues.{AllRest, all_rest}
use Rattle.side_model.proofs.Parts.{same_step}
use Rattle.proxy_core.specs.Doing.{NotBegan, Does}
use Rattle.proxy_core.specs.Keeping.{Keeps, AtRest, MOST_MADE}
use Rattle.proxy_core.proofs.Keepings.{keeps_outside}

-- ---- a call from its parts

-- the event happened
abbrev pub Begun : Event → Now → Now → Type 0
Begun event old begun = (barred event old ≡ None) × (begun ≡ step event old)

calls_after : (event : Event) (result : Result (Unit {0}) ProxyFault) (events : List Event) (old new : Now) → old.fault ≡ None → barred event old ≡ None → Runs event result events old new → Calls event result events old new
calls_after event result events old new f b r =
    let passed : CallsBarred (barred event old) event result events old new = subst (λ (o : Option ProxyFault). CallsBarred o event result events old new) (sym b) r in
    subst (λ (o : Option ProxyFault). CallsAfter o event result events old new) (sym f) passed

-- and nothing else was due
pub call_alone : (event : Event) (old new : Now) → old.fault ≡ None → Begun event old new → next new ≡ Rest → Calls event (Ok (tt {0})) [] old new
call_alone event old new f b r = calls_after event (Ok (tt {0})) [] old new f b.0 (b.1, r)

-- or it failed before it began
pub call_refused : (fault : ProxyFault) (event : Event) (old new : Now) → old.fault ≡ None → NotBegan event fault old new → Does event (Err fault) old new
call_refused fault event old new f h = by_cause h.because
  where
    by_cause : (barred event old ≡ Some fault) ⊎ ((barred event old ≡ None) × (fault ≡ Memory)) → Does event (Err fault) old new
    by_cause (inl b) =
        let passed : CallsBarred (barred event old) event (Err fault) [] old new =
        subst (λ (o : Option ProxyFault). CallsBarred o event (Err fault) [] old new) (sym b) (record { answers = refl; none = refl; halted = h.halted }) in
        ([], subst (λ (o : Option ProxyFault). CallsAfter o event (Err fault) [] old new) (sym f) passed)
    by_cause (inr b) = ([], calls_after event (Err fault) [] old new f b.0 (inr (record { memory = b.1; none = refl; halted = h.halted })))

-- ---- what holds behind the event

-- a proxy that takes from its peer has not failed
pub wants_runs : (s : Now) → wants_peer s ≡ true → s.fault ≡ None
wants_runs s e = go s.fault e
  where
    go : (fault : Option ProxyFault) → (is_none fault && (is_open s.kept.closing && is_free s.live.sending.owes s.kept.ring)) ≡ true → fault ≡ None
    go None d = refl
    go (Some fault) d = absurd cc

-- no group is due, and one more frame was made at most
pub record MakesOne (old s : Now) : Type 0 where
  pub groups : group s ≡ Rest
  pub made : ring_made s.kept.ring ≤ ring_made old.kept.ring + 1

pub came_one : (piece : List ℕ) (s : Now) → group s ≡ Rest → MakesOne s (step (Came piece) s)
unfolding step group
came_one piece s g = record { groups = g; made = omega arith }

pub asks_one : (reason : ℕ) (s : Now) → group s ≡ Rest → MakesOne s (step (Asks reason) s)
unfolding step group
asks_one reason s g = record { groups = g; made = omega arith }

pipe_one : (it : PipeTurn) (s : Now) → group s ≡ Rest → MakesOne s (fed_pipe it s)
unfolding group
pipe_one pipes.Barred s g = record { groups = g; made = omega arith }
pipe_one (pipes.Drops tables) s g = record { groups = g; made = omega arith }
pipe_one (pipes.Makes frame tables) s g = record { groups = g; made = omega (arith, length-append s.kept.ring.frames (spelling frame ∷ [])) }

pub fed_one : (item : PeerIn) (s : Now) → group s ≡ Rest → MakesOne s (step (Fed item) s)
unfolding step group
fed_one (inputs.Bytes bytes) s g = record { groups = g; made = omega arith }
fed_one (inputs.Handle handle) s g = record { groups = g; made = omega arith }
fed_one (inputs.Note note) s g = record { groups = g; made = omega arith }
fed_one (inputs.Pipe item) s g = pipe_one (pipe_turn s.live.tables s.live.taking item) s g

-- what is needed to do all that is due
pub record IsReady (s : Now) : Type 0 where
  pub running : s.fault ≡ None
  pub keeps : Keeps s
  pub groups : group s ≡ Rest
  pub few : ring_made s.kept.ring < MOST_MADE

pub begun_ready : (event : Event) (old begun : Now) → old.fault ≡ None → AtRest old → Admits event old → ring_made old.kept.ring < 2 ^ 59
    → (group old ≡ Rest → MakesOne old (step event old)) → Begun event old begun → IsReady begun
begun_ready event old begun f r a few one b =
    let h : AllRest old = all_rest old r.rests in
    let m : MakesOne old (step event old) = one h.groups in
    let after : IsReady (step event old) = record {
      running = (same_step event old).fault ∙ f;
      keeps = keeps_outside event old r a;
      groups = m.groups;
      few = omega (arith, m.made, few);
    } in
    subst (λ (s : Now). IsReady s) (sym b.1) after
