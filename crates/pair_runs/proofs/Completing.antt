-- That a run which drains has brought all that the peers put, unless a side was asked to close: what each side took, with what waits, are the bytes that its peer put; where a round changes nothing, no whole message waits.
use Rattle.std.proofs.Common.{◌≡◌, ℕ, zero, suc, List, [], ◌∷◌, ◌++◌, length, Bool, true, false, Option, Some, None, refl, sym, ap, subst, ◌∙◌, append_assoc, arith, inl, inr, ◌⊎◌, ⊎_elim, if◌then◌else◌}
use Rattle.std.proofs.lemmas.List.{append-nil}
use Rattle.std.specs.List.{AllByRecursion}
use Rattle.plain_lists.specs.Fronts.{IsFront}
use Rattle.wp_outside.specs.declared.kinds.Side.{Side}
use Rattle.wp_outside.specs.declared.kinds.Side.TheVariants.{Near, Far}
use Rattle.wl_wire.specs.Wire.{cut}
use Rattle.script_lang.specs.Puts.{is_stop, put_by, before_stop, put_by_all, puts}
use Rattle.script_lang.specs.declared.steps.Step.{Step}
use Rattle.script_lang.specs.declared.steps.StepKind.{StepKind}
use Rattle.pair_laws.specs.Everything.{HasAll}
use Rattle.pair_laws.proofs.Everything.{drained_has_everything}
use Rattle.pair_laws.proofs.Places.{front_all}
use Rattle.pair_runs.specs.Completing.{LeavesOpen, NeverAsked, DrainedBringsAll}
use Rattle.pair_runs.specs.Headline.{TakesFirst}
use Rattle.pair_runs.specs.Kept.{Kept, one_side}
use Rattle.pair_runs.specs.Quiet.{IsDone}
use Rattle.pair_runs.specs.Runs.{Played, Rounds, Drained, Stopped, Fails, end_by, PlaysLine, Plays, AreLines, Runs, round, MOST, size_after}
use Rattle.pair_runs.specs.States.{State, Fault, first_state, side_at}
use Rattle.pair_runs.proofs.Agreeing.{runs_agree}
use Rattle.pair_runs.proofs.Bringing.{Both, moves_bring}
use Rattle.pair_runs.proofs.Keeping.{runs_keep, drains_quietly}
use Rattle.pair_runs.proofs.Later.{Shut}
use Rattle.pair_runs.proofs.Ordering.{all_or_shut}
use Rattle.pair_runs.proofs.Quieting.{Quietly, quietly}
use Rattle.pair_runs.proofs.Receiving.{does_bring, runs_take_first}
use Rattle.pair_runs.proofs.Staying.{asked_at, plays_stay}

-- ---- what was taken and what waits, at the end

unput : (near far : List ℕ) (t : State) → Both (near ++ []) (far ++ []) t → Both near far t
unput near far t h = subst (λ (xs : List ℕ). Both xs far t) (append-nil near) (subst (λ (xs : List ℕ). Both (near ++ []) xs t) (append-nil far) h)

input : (near far : List ℕ) (t : State) → Both near far t → Both (near ++ []) (far ++ []) t
input near far t h = subst (λ (xs : List ℕ). Both xs (far ++ []) t) (sym (append-nil near)) (subst (λ (xs : List ℕ). Both near xs t) (sym (append-nil far)) h)

rounds_bring : (count most : ℕ) (near far : List ℕ) (s t : State) → Both near far s → Rounds count most s t None → Both near far t
rounds_bring zero most near far s t h r = unput near far t (moves_bring (round most) near far s t None h r.0)
rounds_bring (suc count) most near far s t h r = rounds_bring count most near far r.0 t (unput near far r.0 (moves_bring (round most) near far s r.0 None h r.1)) r.3

regroup : (near far a b c d : List ℕ) (t : State) → Both ((near ++ a) ++ b) ((far ++ c) ++ d) t → Both (near ++ (a ++ b)) (far ++ (c ++ d)) t
regroup near far a b c d t h =
    subst (λ (xs : List ℕ). Both xs (far ++ (c ++ d)) t) (append_assoc near a b) (subst (λ (xs : List ℕ). Both ((near ++ a) ++ b) xs t) (append_assoc far c d) h)

next_puts : (peer : Side) (it : Step) (steps : List Step) → is_stop it.what ≡ false → put_by_all peer (before_stop (it ∷ steps)) ≡ put_by peer it.what ++ put_by_all peer (before_stop steps)
next_puts peer it steps e = ap (λ (b : Bool). put_by_all peer (if b then [] else it ∷ before_stop steps)) e

plays_bring : (steps : List Step) (played : List Played) (most : ℕ) (near far : List ℕ) (s t : State) → AreLines steps played → Both near far s → Plays played most s t Drained → Both (near ++ puts Near steps) (far ++ puts Far steps) t
plays_bring [] [] most near far s t lines h (stop, settled, is) = go stop is settled.rounds
  where
    go : (stop : Option Fault) → Drained ≡ end_by stop → Rounds settled.count most s t stop → Both (near ++ []) (far ++ []) t
    go (Some fault) e r = absurd (let never : Drained ≡ Fails fault = e in cc)
    go None e r = input near far t (rounds_bring settled.count most near far s t h r)
plays_bring [] (it ∷ played) most near far s t lines h p = absurd lines
plays_bring (step ∷ steps) [] most near far s t lines h p = absurd lines
plays_bring (step ∷ steps) (it ∷ played) most near far s t lines h p =
    go (λ between both more. plays_bring steps played (size_after most it.what) (near ++ put_by Near it.what) (far ++ put_by Far it.what) between t lines.2 both more) (is_stop it.what) refl p
  where
    same : put_by Near step.what ++ put_by Far step.what ≡ put_by Near it.what ++ put_by Far it.what
    same = sym (ap (λ (what : StepKind). put_by Near what ++ put_by Far what) lines.0)

    all_puts : (peer : Side) → is_stop it.what ≡ false → put_by peer it.what ++ puts peer steps ≡ puts peer (step ∷ steps)
    all_puts peer e =
        ap (λ (what : StepKind). put_by peer what ++ puts peer steps) lines.0
        ∙ sym (next_puts peer step steps (sym (ap is_stop lines.0) ∙ e))

    grouped : is_stop it.what ≡ false → Both ((near ++ put_by Near it.what) ++ puts Near steps) ((far ++ put_by Far it.what) ++ puts Far steps) t → Both (near ++ puts Near (step ∷ steps)) (far ++ puts Far (step ∷ steps)) t
    grouped e b =
        subst (λ (xs : List ℕ). Both (near ++ xs) (far ++ puts Far (step ∷ steps)) t) (all_puts Near e)
        (subst (λ (xs : List ℕ). Both (near ++ (put_by Near it.what ++ puts Near steps)) (far ++ xs) t) (all_puts Far e)
        (regroup near far (put_by Near it.what) (puts Near steps) (put_by Far it.what) (puts Far steps) t b))

    go : ((between : State) → Both (near ++ put_by Near it.what) (far ++ put_by Far it.what) between → Plays played (size_after most it.what) between t Drained → Both ((near ++ put_by Near it.what) ++ puts Near steps) ((far ++ put_by Far it.what) ++ puts Far steps) t)
        → (b : Bool) → is_stop it.what ≡ b → PlaysLine b it (λ between. Plays played (size_after most it.what) between t Drained) s t Drained → Both (near ++ puts Near (step ∷ steps)) (far ++ puts Far (step ∷ steps)) t
    go others true e d = absurd (let never : Drained ≡ Stopped = d.1 in cc)
    go others false e (inl fails) = absurd (let never : Drained ≡ Fails fails.0 = fails.2 in cc)
    go others false e (inr goes) = grouped e (others goes.0 (does_bring it near far s goes.0 None (lines.1 ∙ same) h goes.1) goes.2)

-- ---- no line asks a side to close

lines_open : (side : Side) (steps : List Step) (played : List Played) → AreLines steps played → NeverAsked side steps → AllByRecursion (λ it. LeavesOpen side it.what) played
lines_open side [] [] lines opened = tt
lines_open side [] (it ∷ played) lines opened = absurd lines
lines_open side (step ∷ steps) [] lines opened = absurd lines
lines_open side (step ∷ steps) (it ∷ played) lines opened = (subst (LeavesOpen side) (sym lines.0) opened.0, lines_open side steps played lines.2 opened.1)

first_open : (side : Side) → asked_at side first_state ≡ false
first_open Near = refl
first_open Far = refl

never_asked : (side : Side) (steps : List Step) (played : List Played) (last : State) → Runs steps played last Drained → NeverAsked side steps → asked_at side last ≡ false
never_asked side steps played last r opened = plays_stay side played MOST first_state last (lines_open side steps played r.lines opened) r.plays ∙ first_open side

-- ---- all was taken

not_shut : (side : Side) (s : State) → asked_at side s ≡ false → Shut (side_at side s) → ⊥
not_shut side s opened shut = let never : true ≡ false = sym shut.said ∙ opened in cc

whole : (side : Side) (s : State) (put : List ℕ) → asked_at side s ≡ false → IsFront (side_at side s).book.trail.taken (cut put) → (length (side_at side s).book.trail.taken ≡ length (cut put)) ⊎ Shut (side_at side s) → (side_at side s).book.trail.taken ≡ cut put
whole side s put opened front all = ⊎_elim (λ same. front_all front (omega (arith, same))) (λ shut. absurd (not_shut side s opened shut)) all

begins : Both [] [] first_state
begins = record { near_brings = record { whole = tt; bytes = refl }; far_brings = record { whole = tt; bytes = refl } }

record TookAll (steps : List Step) (last : State) : Type 0 where
  near : NeverAsked Near steps → last.near.book.trail.taken ≡ cut (puts Near steps)
  far : NeverAsked Far steps → last.far.book.trail.taken ≡ cut (puts Far steps)

took_all : (steps : List Step) (played : List Played) (last : State) → Runs steps played last Drained → IsDone last → TookAll steps last
took_all steps played last r done =
    let quiet = drains_quietly steps played last r in
    let each : Quietly quiet.0 last = quietly quiet.0 last quiet.2 in
    let kept : Kept None last = runs_keep.last steps played last Drained r in
    let both : Both (puts Near steps) (puts Far steps) last = plays_bring steps played MOST [] [] first_state last r.lines begins r.plays in
    let first : TakesFirst steps last = runs_take_first steps played last Drained r in
    record {
      near = λ opened. whole Near last (puts Near steps) (never_asked Near steps played last r opened) first.near
          (all_or_shut Near quiet.0 last (puts Near steps) kept.0 kept quiet.1 each.near_takes done.near_copies done.drained.near_drained.known both.near_brings);
      far = λ opened. whole Far last (puts Far steps) (never_asked Far steps played last r opened) first.far
          (all_or_shut Far quiet.0 last (puts Far steps) kept.1 kept quiet.1 each.far_takes done.far_copies done.drained.far_drained.known both.far_brings);
    }

pub drained_brings_all : DrainedBringsAll
drained_brings_all steps played last r h =
    let done : IsDone last = runs_agree.done steps played last r h in
    let took : TookAll steps last = took_all steps played last r done in
    let all : HasAll (one_side last.near None) (one_side last.far None) done.pair = drained_has_everything (one_side last.near None) (one_side last.far None) done.pair done.drained in
    record {
      done = done;
      requests = took.near;
      events = took.far;
      up = all.up;
      down = all.down;
    }
