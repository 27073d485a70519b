-- What is kept through a run.
use Rattle.std.proofs.Common.{◌≡◌, ℕ, zero, suc, ◌<◌, List, [], ◌∷◌, Bool, true, false, Option, Some, None, refl, sym, subst, arith, inl, inr}
use Rattle.wp_outside.specs.declared.kinds.Side.{Side}
use Rattle.wp_outside.specs.declared.kinds.Side.TheVariants.{Near, Far}
use Rattle.script_lang.specs.Puts.{is_stop}
use Rattle.script_lang.specs.declared.steps.StepKind.{StepKind}
use Rattle.script_lang.specs.declared.steps.StepKind.TheVariants as line
use Rattle.side_model.specs.Trails.{no_records}
use Rattle.side_model.proofs.TrailParts.{keeps_at_first}
use Rattle.pair_runs.specs.Kept.{Kept, GoesOn}
use Rattle.pair_runs.specs.Moves.{Move, MovesAll}
use Rattle.pair_runs.specs.RunLaws.{fault_by, RunsKeep, SettlesQuietly, DrainsQuietly}
use Rattle.pair_runs.specs.Runs.{Played, Rounds, Settles, settles, moves_of, Does, DoesBy, End, Drained, Stopped, Fails, end_by, PlaysLine, Plays, round, MOST, size_after}
use Rattle.pair_runs.specs.Sides.{TOKEN, first_side}
use Rattle.pair_runs.specs.States.{State, Fault, first_state}
use Rattle.pair_runs.proofs.Showing.{kept_by_calls}

-- ---- at first

first_goes_on : (side : Side) → GoesOn side (first_side side)
unfolding TOKEN
first_goes_on side = kept_by_calls 0 (no_records side TOKEN) (record { goes_on = refl; keeps = keeps_at_first side TOKEN refl }) refl refl

pub first_kept : Kept None first_state
first_kept = (first_goes_on Near, first_goes_on Far)

-- ---- moves and lines

pub moves_keep : (moves : List Move) (s t : State) (stop : Option Fault) → Kept None s → MovesAll moves s t stop → Kept stop t
moves_keep [] s t stop k m = subst (λ (it : Option Fault). Kept it t) (sym m.1) (subst (λ (u : State). Kept None u) (sym m.0) k)
moves_keep (move ∷ moves) s t stop k m = elim m [
  | inl fails ↦ subst (λ (it : Option Fault). Kept it t) (sym fails.2) fails.1.kept
  | inr goes ↦ moves_keep moves goes.0 t stop goes.1.kept goes.2
]

pub rounds_keep : (count most : ℕ) (s t : State) (stop : Option Fault) → Kept None s → Rounds count most s t stop → Kept stop t
rounds_keep zero most s t stop k r = moves_keep (round most) s t stop k r.0
rounds_keep (suc count) most s t stop k r = rounds_keep count most r.0 t stop (moves_keep (round most) s r.0 None k r.1) r.3

pub does_keep : (it : Played) (s t : State) (stop : Option Fault) → Kept None s → Does it s t stop → Kept stop t
does_keep it s t stop k d = go (settles it.what) d
  where
    go : (b : Bool) → DoesBy b it s t stop → Kept stop t
    go true h = rounds_keep h.count MOST s t stop k h.rounds
    go false h = moves_keep (moves_of it.what it.puts) s t stop k h

ended_kept : (stop : Option Fault) (t : State) (end : End) → end ≡ end_by stop → Kept stop t → Kept (fault_by end) t
ended_kept None t end e k = subst (λ (it : End). Kept (fault_by it) t) (sym e) k
ended_kept (Some fault) t end e k = subst (λ (it : End). Kept (fault_by it) t) (sym e) k

plays_keep : (played : List Played) (most : ℕ) (s t : State) (end : End) → Kept None s → Plays played most s t end → Kept (fault_by end) t
plays_keep [] most s t end k (stop, settled, is) = ended_kept stop t end is (rounds_keep settled.count most s t stop k settled.rounds)
plays_keep (it ∷ played) most s t end k p = go (λ between kept more. plays_keep played (size_after most it.what) between t end kept more) (is_stop it.what) p
  where
    go : ((between : State) → Kept None between → Plays played (size_after most it.what) between t end → Kept (fault_by end) t) → (b : Bool) → PlaysLine b it (λ between. Plays played (size_after most it.what) between t end) s t end → Kept (fault_by end) t
    go others true h = subst (λ (it : End). Kept (fault_by it) t) (sym h.1) (subst (λ (u : State). Kept None u) (sym h.0) k)
    go others false (inl fails) = subst (λ (it : End). Kept (fault_by it) t) (sym fails.2) (does_keep it s t (Some fails.0) k fails.1)
    go others false (inr goes) = others goes.0 (does_keep it s goes.0 None k goes.1) goes.2

pub runs_keep : RunsKeep
runs_keep = record { first = first_kept; last = λ steps played last end r. plays_keep played MOST first_state last end first_kept r.plays }

-- ---- rounds end quietly

rounds_quiet : (count most : ℕ) (s t : State) → Rounds count most s t None → MovesAll (round most) t t None
rounds_quiet zero most s t r = subst (λ (u : State). MovesAll (round most) u t None) (sym (r.1 refl)) r.0
rounds_quiet (suc count) most s t r = rounds_quiet count most r.0 t r.3

pub settles_quietly : SettlesQuietly
settles_quietly most s t h = rounds_quiet h.count most s t h.rounds

size_some : (most : ℕ) (what : StepKind) → 0 < most → 0 < size_after most what
size_some most (line.Drain bytes) l = omega arith
size_some most _ l = l

plays_quiet : (played : List Played) (most : ℕ) (s t : State) → 0 < most → Plays played most s t Drained → (size : ℕ) × (0 < size) × MovesAll (round size) t t None
plays_quiet [] most s t l (stop, settled, is) = go stop settled is
  where
    go : (stop : Option Fault) → Settles most s t stop → Drained ≡ end_by stop → (size : ℕ) × (0 < size) × MovesAll (round size) t t None
    go (Some fault) h e = absurd cc
    go None h e = (most, l, settles_quietly most s t h)
plays_quiet (it ∷ played) most s t l p = go (λ between more. plays_quiet played (size_after most it.what) between t (size_some most it.what l) more) (is_stop it.what) p
  where
    go : ((between : State) → Plays played (size_after most it.what) between t Drained → (size : ℕ) × (0 < size) × MovesAll (round size) t t None) → (b : Bool) → PlaysLine b it (λ between. Plays played (size_after most it.what) between t Drained) s t Drained → (size : ℕ) × (0 < size) × MovesAll (round size) t t None
    go others true h = absurd (let never : Drained ≡ Stopped = h.1 in cc)
    go others false (inl fails) = absurd (let never : Drained ≡ Fails fails.0 = fails.2 in cc)
    go others false (inr goes) = others goes.0 goes.2

pub drains_quietly : DrainsQuietly
drains_quietly steps played last r = plays_quiet played MOST first_state last (omega arith) r.plays
