-- Where a run ends, by the lines of its script; and that there are runs.
use Rattle.std.proofs.Common.{◌≡◌, ℕ, ◌<◌, List, [], ◌∷◌, length, Bool, true, false, Option, Some, None, refl, sym, ap, ◌∙◌, arith, inl, inr, if◌then◌else◌}
use Rattle.wp_outside.specs.declared.kinds.Direction.TheVariants.{Up, Down}
use Rattle.wp_outside.specs.declared.kinds.Side.{Side}
use Rattle.wp_outside.specs.declared.kinds.Side.TheVariants.{Near, Far}
use Rattle.script_lang.specs.Puts.{is_stop, before_stop}
use Rattle.script_lang.specs.declared.steps.Step.{Step}
use Rattle.pair_runs.specs.Moves.{Move, Take, LoadAll, ConnectIfHeld, Push, Pull, Taken, LoadedAll, Changes, MovesAll}
use Rattle.pair_runs.specs.RunLaws.{DrainsWithoutStop, StopsAtStop, EmptyDrains}
use Rattle.pair_runs.specs.Runs.{Played, AreLines, Drained, Stopped, Fails, end_by, PlaysLine, Plays, round, MOST, size_after}
use Rattle.pair_runs.specs.Sides.{first_side}
use Rattle.pair_runs.specs.States.{State, Fault, first_state}
use Rattle.pair_runs.proofs.Keeping.{first_kept}

-- ---- at a `stop`, or without one

goes_on : (it : Step) (steps : List Step) → is_stop it.what ≡ false → before_stop (it ∷ steps) ≡ it ∷ before_stop steps
goes_on it steps e = ap (λ (b : Bool). if b then [] else it ∷ before_stop steps) e

stops_there : (it : Step) (steps : List Step) → is_stop it.what ≡ true → before_stop (it ∷ steps) ≡ []
stops_there it steps e = ap (λ (b : Bool). if b then [] else it ∷ before_stop steps) e

drains : (steps : List Step) (played : List Played) (most : ℕ) (s t : State) → AreLines steps played → Plays played most s t Drained → before_stop steps ≡ steps
drains [] [] most s t lines p = refl
drains [] (it ∷ played) most s t lines p = absurd lines
drains (step ∷ steps) [] most s t lines p = absurd lines
drains (step ∷ steps) (it ∷ played) most s t lines p = go (λ between more. drains steps played (size_after most it.what) between t lines.2 more) (is_stop it.what) refl p
  where
    go : ((between : State) → Plays played (size_after most it.what) between t Drained → before_stop steps ≡ steps) → (b : Bool) → is_stop it.what ≡ b
        → PlaysLine b it (λ between. Plays played (size_after most it.what) between t Drained) s t Drained → before_stop (step ∷ steps) ≡ step ∷ steps
    go others true e h = absurd (let never : Drained ≡ Stopped = h.1 in cc)
    go others false e (inl fails) = absurd (let never : Drained ≡ Fails fails.0 = fails.2 in cc)
    go others false e (inr goes) = goes_on step steps (sym (ap is_stop lines.0) ∙ e) ∙ ap (λ (rest : List Step). step ∷ rest) (others goes.0 goes.2)

pub drains_without_stop : DrainsWithoutStop
drains_without_stop steps played last r = drains steps played MOST first_state last r.lines r.plays

no_stop_at_end : (stop : Option Fault) → Stopped ≡ end_by stop → ⊥
no_stop_at_end None e = cc
no_stop_at_end (Some fault) e = cc

stops : (steps : List Step) (played : List Played) (most : ℕ) (s t : State) → AreLines steps played → Plays played most s t Stopped → length (before_stop steps) < length steps
stops [] [] most s t lines (stop, settled, is) = absurd (no_stop_at_end stop is)
stops [] (it ∷ played) most s t lines p = absurd lines
stops (step ∷ steps) [] most s t lines p = absurd lines
stops (step ∷ steps) (it ∷ played) most s t lines p = go (λ between more. stops steps played (size_after most it.what) between t lines.2 more) (is_stop it.what) refl p
  where
    go : ((between : State) → Plays played (size_after most it.what) between t Stopped → length (before_stop steps) < length steps) → (b : Bool) → is_stop it.what ≡ b
        → PlaysLine b it (λ between. Plays played (size_after most it.what) between t Stopped) s t Stopped → length (before_stop (step ∷ steps)) < length (step ∷ steps)
    go others true e h = omega (arith, ap length (stops_there step steps (sym (ap is_stop lines.0) ∙ e)))
    go others false e (inl fails) = absurd (let never : Stopped ≡ Fails fails.0 = fails.2 in cc)
    go others false e (inr goes) = omega (arith, ap length (goes_on step steps (sym (ap is_stop lines.0) ∙ e)), others goes.0 goes.2)

pub stops_at_stop : StopsAtStop
stops_at_stop steps played last r same = absurd (omega (arith, stops steps played MOST first_state last r.lines r.plays, ap length same))

-- ---- the empty script

takes_nothing : (side : Side) → Taken side MOST first_state first_state None
takes_nothing Near = (record { side = first_side Near; wire = [] }, (None, record { count = 0; row = (refl, refl, inr (inl refl)) }, refl, refl))
takes_nothing Far = (record { side = first_side Far; wire = [] }, (None, record { count = 0; row = (refl, refl, inr (inl refl)) }, refl, refl))

loads_nothing : (side : Side) → LoadedAll side first_state first_state None
loads_nothing Near = (first_side Near, (None, record { count = 0; row = (refl, refl, refl) }, refl, refl))
loads_nothing Far = (first_side Far, (None, record { count = 0; row = (refl, refl, refl) }, refl, refl))

then_move : (move : Move) (moves : List Move) → Changes move first_state first_state None → MovesAll moves first_state first_state None → MovesAll (move ∷ moves) first_state first_state None
then_move move moves c rest = inr (first_state, record { changes = c; kept = first_kept }, rest)

nothing_moves : MovesAll (round MOST) first_state first_state None
nothing_moves =
    then_move (Take Near MOST) (Take Far MOST ∷ LoadAll Near ∷ LoadAll Far ∷ ConnectIfHeld ∷ Push Up MOST ∷ Pull Up MOST ∷ Push Down MOST ∷ Pull Down MOST ∷ []) (takes_nothing Near)
    (then_move (Take Far MOST) (LoadAll Near ∷ LoadAll Far ∷ ConnectIfHeld ∷ Push Up MOST ∷ Pull Up MOST ∷ Push Down MOST ∷ Pull Down MOST ∷ []) (takes_nothing Far)
    (then_move (LoadAll Near) (LoadAll Far ∷ ConnectIfHeld ∷ Push Up MOST ∷ Pull Up MOST ∷ Push Down MOST ∷ Pull Down MOST ∷ []) (loads_nothing Near)
    (then_move (LoadAll Far) (ConnectIfHeld ∷ Push Up MOST ∷ Pull Up MOST ∷ Push Down MOST ∷ Pull Down MOST ∷ []) (loads_nothing Far)
    (then_move ConnectIfHeld (Push Up MOST ∷ Pull Up MOST ∷ Push Down MOST ∷ Pull Down MOST ∷ []) (refl, refl)
    (then_move (Push Up MOST) (Pull Up MOST ∷ Push Down MOST ∷ Pull Down MOST ∷ []) (refl, refl)
    (then_move (Pull Up MOST) (Push Down MOST ∷ Pull Down MOST ∷ []) (refl, refl)
    (then_move (Push Down MOST) (Pull Down MOST ∷ []) (refl, refl)
    (then_move (Pull Down MOST) [] (refl, refl) (refl, refl)))))))))

pub empty_drains : EmptyDrains
empty_drains = record { lines = tt; plays = (None, record { count = 0; rounds = (nothing_moves, λ e. refl) }, refl) }
