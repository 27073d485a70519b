-- That the orders of a run are allowed ones: at each line that moves all that waits, what stands in them then stands before all else.
use Rattle.std.proofs.Common.{◌≡◌, ℕ, zero, suc, ◌<◌, ◌≤◌, List, [], ◌∷◌, ◌++◌, take, length, Bool, true, false, Option, Some, None, refl, sym, ap, subst, ◌∙◌, append_assoc, arith, length-append, inl, inr, ◌⊎◌, ⊎_elim, if◌then◌else◌}
use Rattle.std.proofs.lemmas.List.{append-nil, take_all}
use Rattle.plain_lists.specs.Fronts.{IsFront}
use Rattle.wp_outside.specs.declared.kinds.Side.TheVariants.{Near, Far}
use Rattle.wl_tables.specs.declared.way.Way.{Way}
use Rattle.wl_tables.specs.declared.way.Way.TheVariants.{Request, Event}
use Rattle.wl_wire.specs.Wire.{cut}
use Rattle.wl_objects.specs.Registry.{first_state, visible}
use Rattle.script_lang.specs.Puts.{is_stop, put_by, before_stop, put_by_all}
use Rattle.script_lang.specs.declared.steps.Step.{Step}
use Rattle.script_lang.specs.declared.steps.StepKind.{StepKind}
use Rattle.pair_laws.specs.Pairs.{OneSide, IsPair}
use Rattle.pair_laws.specs.Passing.{of_way, passing_by}
use Rattle.pair_laws.specs.Received.{Prefixes}
use Rattle.pair_laws.proofs.Passing.{order_has_both}
use Rattle.pair_laws.proofs.Places.{front_all}
use Rattle.pair_laws.proofs.Receiving.{receives_prefixes}
use Rattle.pair_runs.specs.Agreeing.{IsSparing, SparesAll}
use Rattle.pair_runs.specs.Headline.{TakesFirst, fault_of, Receives}
use Rattle.pair_runs.specs.Kept.{Kept, one_side}
use Rattle.pair_runs.specs.Moves.{Move, MovesAll}
use Rattle.pair_runs.specs.Orders.{BothPart, Allowed, RunsAreAllowed}
use Rattle.pair_runs.specs.Quiet.{Tied, IsDone}
use Rattle.pair_runs.specs.RunLaws.{fault_by}
use Rattle.pair_runs.specs.Runs.{Played, Rounds, Settles, settles, moves_of, Does, DoesBy, End, end_by, PlaysLine, Plays, AreLines, Runs, round, MOST, size_after, bytes_in}
use Rattle.pair_runs.specs.States.{State, Fault, first_state as first_of_all}
use Rattle.pair_runs.proofs.Agreeing.{does_tie}
use Rattle.pair_runs.proofs.Bringing as bring
use Rattle.pair_runs.proofs.Bringing.{Both, BothBy, both_part}
use Rattle.pair_runs.proofs.Keeping.{first_kept, does_keep, settles_quietly}
use Rattle.pair_runs.proofs.Later.{Shut, Later, LaterPart, later_steps}
use Rattle.pair_runs.proofs.Ordering.{way_front, LaterOrders, later_orders, HasOrders, has_orders, all_or_shut}
use Rattle.pair_runs.proofs.Quieting.{Quietly, quietly, quiet_is_done}
use Rattle.pair_runs.proofs.Receiving.{settle_puts, does_bring, taken_first, runs_take_first, runs_receive}
use Rattle.pair_runs.proofs.Tying.{moves_tie}
use Rattle.pair_runs.proofs.Walking.{BothStep, move_step, nothing_step, then_both}

-- ---- later in a run

Steps_by : Option Fault → State → State → Type 0
Steps_by stop s t = BothStep Later LaterPart stop s t

nothing_later : (s : State) → Steps_by None s s
unfolding Steps_by
nothing_later s = nothing_step Later LaterPart later_steps s

later_then : (stop : Option Fault) (s t u : State) → Steps_by None s t → Steps_by stop t u → Steps_by stop s u
unfolding Steps_by
later_then stop s t u a b = then_both Later LaterPart later_steps stop s t u a b

later_by : (stop it : Option Fault) (s t u : State) → t ≡ u → stop ≡ it → Steps_by it s u → Steps_by stop s t
later_by stop it s t u e d a = subst (λ (x : Option Fault). Steps_by x s t) (sym d) (subst (λ (v : State). Steps_by it s v) (sym e) a)

moves_later : (moves : List Move) (s t : State) (stop : Option Fault) → MovesAll moves s t stop → Steps_by stop s t
unfolding Steps_by
moves_later [] s t stop m = later_by stop None s t s m.0 m.1 (nothing_later s)
moves_later (move ∷ moves) s t stop m = elim m [
  | inl fails ↦ later_by stop (Some fails.0) s t t refl fails.2 (move_step Later LaterPart later_steps move s t (Some fails.0) fails.1.changes)
  | inr goes ↦ later_then stop s goes.0 t (move_step Later LaterPart later_steps move s goes.0 None goes.1.changes) (moves_later moves goes.0 t stop goes.2)
]

rounds_later : (count most : ℕ) (s t : State) (stop : Option Fault) → Rounds count most s t stop → Steps_by stop s t
rounds_later zero most s t stop r = moves_later (round most) s t stop r.0
rounds_later (suc count) most s t stop r = later_then stop s r.0 t (moves_later (round most) s r.0 None r.1) (rounds_later count most r.0 t stop r.3)

does_later : (it : Played) (s t : State) (stop : Option Fault) → Does it s t stop → Steps_by stop s t
does_later it s t stop d = go (settles it.what) d
  where
    go : (b : Bool) → DoesBy b it s t stop → Steps_by stop s t
    go true h = rounds_later h.count MOST s t stop h.rounds
    go false h = moves_later (moves_of it.what it.puts) s t stop h

plays_later : (played : List Played) (most : ℕ) (s t : State) (end : End) → Plays played most s t end → Steps_by (fault_by end) s t
plays_later [] most s t end (stop, settled, is) = ended stop is (rounds_later settled.count most s t stop settled.rounds)
  where
    ended : (stop : Option Fault) → end ≡ end_by stop → Steps_by stop s t → Steps_by (fault_by end) s t
    ended None e a = subst (λ (it : End). Steps_by (fault_by it) s t) (sym e) a
    ended (Some fault) e a = subst (λ (it : End). Steps_by (fault_by it) s t) (sym e) a
plays_later (it ∷ played) most s t end p = go (λ between more. plays_later played (size_after most it.what) between t end more) (is_stop it.what) p
  where
    go : ((between : State) → Plays played (size_after most it.what) between t end → Steps_by (fault_by end) between t) → (b : Bool) → PlaysLine b it (λ between. Plays played (size_after most it.what) between t end) s t end → Steps_by (fault_by end) s t
    go others true h = later_by (fault_by end) None s t s h.0 (ap fault_by h.1) (nothing_later s)
    go others false (inl fails) = later_by (fault_by end) (Some fails.0) s t t refl (ap fault_by fails.2) (does_later it s t (Some fails.0) fails.1)
    go others false (inr goes) = later_then (fault_by end) s goes.0 t (does_later it s goes.0 None goes.1) (others goes.0 goes.2)

-- both sides, whether one has failed or not
record BothLater (s t : State) : Type 0 where
  near : LaterPart s.near t.near
  far : LaterPart s.far t.far

both_later : (stop : Option Fault) (s t : State) → Steps_by stop s t → BothLater s t
unfolding Steps_by
both_later None s t a = record { near = record { grown = a.0.grown; none = a.0.none }; far = record { grown = a.1.grown; none = a.1.none } }
both_later (Some fault) s t a = record { near = a.0; far = a.1 }

-- ---- how far a run came

-- a state in which nothing is left to move, when so much was put
record Quiet (near far : List ℕ) (q : State) : Type 0 where
  puts_are : Both near far q
  kept : Kept None q
  tied : Tied q
  most : ℕ
  some : 0 < most
  quiet : MovesAll (round most) q q None

-- the run ended before the line was done, or behind it
data Reached (near far : List ℕ) (t : State) : Type 0 where
  Before : bring.BothPart near far t → Reached near far t
  Behind : (q : State) → Quiet near far q → BothLater q t → Reached near far t

-- the first line moves all that waits
at_line : (it : Played) (others : State → Type 0) (near far : List ℕ) (s t : State) (end : End) → bytes_in it.puts ≡ put_by Near it.what ++ put_by Far it.what → settles it.what ≡ true → put_by Near it.what ≡ [] → put_by Far it.what ≡ [] → IsSparing it.what
    → Both near far s → Kept None s → Tied s → PlaysLine false it others s t end → ((between : State) → others between → BothLater between t) → Reached near far t
at_line it others near far s t end e settling near_none far_none spares h k tied (inl fails) later = Before (subst (λ (xs : List ℕ). bring.BothPart xs far t) (ap (λ (xs : List ℕ). near ++ xs) near_none ∙ append-nil near) (subst (λ (xs : List ℕ). bring.BothPart (near ++ put_by Near it.what) xs t) (ap (λ (xs : List ℕ). far ++ xs) far_none ∙ append-nil far) (does_bring it near far s t (Some fails.0) e h fails.1)))
at_line it others near far s t end e settling near_none far_none spares h k tied (inr goes) later =
    let q : State = goes.0 in
    let puts_then : Both near far q = subst (λ (xs : List ℕ). Both xs far q) (ap (λ (xs : List ℕ). near ++ xs) near_none ∙ append-nil near) (subst (λ (xs : List ℕ). Both (near ++ put_by Near it.what) xs q) (ap (λ (xs : List ℕ). far ++ xs) far_none ∙ append-nil far) (does_bring it near far s q None e h goes.1)) in
    let settled : Settles MOST s q None = subst (λ (b : Bool). DoesBy b it s q None) settling goes.1 in
    Behind q (record { puts_are = puts_then; kept = does_keep it s q None k goes.1; tied = does_tie it s q None spares k tied goes.1; most = MOST; some = omega arith; quiet = settles_quietly MOST s q settled }) (later q goes.2)

stop_none : (it : Step) (steps before after : List Step) (line : Step) → is_stop it.what ≡ true → before_stop (it ∷ steps) ≡ before ++ line ∷ after → ⊥
stop_none it steps [] after line e d = let none : [] ≡ line ∷ after = sym (ap (λ (b : Bool). if b then [] else it ∷ before_stop steps) e) ∙ d in cc
stop_none it steps (x ∷ before) after line e d = let none : [] ≡ x ∷ (before ++ line ∷ after) = sym (ap (λ (b : Bool). if b then [] else it ∷ before_stop steps) e) ∙ d in cc

not_stop : (it : Step) (steps : List Step) → is_stop it.what ≡ false → before_stop (it ∷ steps) ≡ it ∷ before_stop steps
not_stop it steps e = ap (λ (b : Bool). if b then [] else it ∷ before_stop steps) e

reached : (before after : List Step) (line : Step) (steps : List Step) (played : List Played) (most : ℕ) (near far : List ℕ) (s t : State) (end : End) → AreLines steps played → SparesAll played → before_stop steps ≡ before ++ line ∷ after → settles line.what ≡ true
    → Both near far s → Kept None s → Tied s → Plays played most s t end → Reached (near ++ put_by_all Near before) (far ++ put_by_all Far before) t
reached [] after line [] played most near far s t end lines spares split settling h k tied p = absurd (let none : [] ≡ line ∷ after = split in cc)
reached (x ∷ before) after line [] played most near far s t end lines spares split settling h k tied p = absurd (let none : [] ≡ x ∷ (before ++ line ∷ after) = split in cc)
reached before after line (step ∷ steps) [] most near far s t end lines spares split settling h k tied p = absurd lines
reached [] after line (step ∷ steps) (it ∷ played) most near far s t end lines spares split settling h k tied p = go (is_stop it.what) refl p
  where
    same : put_by Near step.what ++ put_by Far step.what ≡ put_by Near it.what ++ put_by Far it.what
    same = sym (ap (λ (what : StepKind). put_by Near what ++ put_by Far what) lines.0)

    go : (b : Bool) → is_stop it.what ≡ b → PlaysLine b it (λ between. Plays played (size_after most it.what) between t end) s t end → Reached (near ++ []) (far ++ []) t
    go true e d = absurd (stop_none step steps [] after line (sym (ap is_stop lines.0) ∙ e) split)
    go false e d =
        let first : step ∷ before_stop steps ≡ line ∷ after = sym (not_stop step steps (sym (ap is_stop lines.0) ∙ e)) ∙ split in
        let head : step ≡ line = cc in
        let here : settles it.what ≡ true = ap settles (lines.0 ∙ ap (λ (one : Step). one.what) head) ∙ settling in
        subst (λ (xs : List ℕ). Reached xs (far ++ []) t) (sym (append-nil near)) (subst (λ (xs : List ℕ). Reached near xs t) (sym (append-nil far))
        (at_line it (λ between. Plays played (size_after most it.what) between t end) near far s t end (lines.1 ∙ same) here (settle_puts Near it.what here) (settle_puts Far it.what here) spares.0 h k tied d
        (λ between more. both_later (fault_by end) between t (plays_later played (size_after most it.what) between t end more))))
reached (x ∷ before) after line (step ∷ steps) (it ∷ played) most near far s t end lines spares split settling h k tied p =
    go (λ between both kept ties rest more. reached before after line steps played (size_after most it.what) (near ++ put_by Near it.what) (far ++ put_by Far it.what) between t end lines.2 spares.1 rest settling both kept ties more) (is_stop it.what) refl p
  where
    same : put_by Near step.what ++ put_by Far step.what ≡ put_by Near it.what ++ put_by Far it.what
    same = sym (ap (λ (what : StepKind). put_by Near what ++ put_by Far what) lines.0)

    near_now : List ℕ
    near_now = near ++ put_by Near it.what

    far_now : List ℕ
    far_now = far ++ put_by Far it.what

    regrouped : step ≡ x → Reached (near_now ++ put_by_all Near before) (far_now ++ put_by_all Far before) t → Reached (near ++ (put_by Near x.what ++ put_by_all Near before)) (far ++ (put_by Far x.what ++ put_by_all Far before)) t
    regrouped head r =
        let what : it.what ≡ x.what = lines.0 ∙ ap (λ (one : Step). one.what) head in
        subst (λ (xs : List ℕ). Reached xs (far ++ (put_by Far x.what ++ put_by_all Far before)) t) (append_assoc near (put_by Near it.what) (put_by_all Near before) ∙ ap (λ (what : StepKind). near ++ (put_by Near what ++ put_by_all Near before)) what)
        (subst (λ (xs : List ℕ). Reached (near_now ++ put_by_all Near before) xs t) (append_assoc far (put_by Far it.what) (put_by_all Far before) ∙ ap (λ (what : StepKind). far ++ (put_by Far what ++ put_by_all Far before)) what) r)

    go : ((between : State) → Both near_now far_now between → Kept None between → Tied between → before_stop steps ≡ before ++ line ∷ after → Plays played (size_after most it.what) between t end → Reached (near_now ++ put_by_all Near before) (far_now ++ put_by_all Far before) t)
        → (b : Bool) → is_stop it.what ≡ b → PlaysLine b it (λ between. Plays played (size_after most it.what) between t end) s t end → Reached (near ++ (put_by Near x.what ++ put_by_all Near before)) (far ++ (put_by Far x.what ++ put_by_all Far before)) t
    go others true e d = absurd (stop_none step steps (x ∷ before) after line (sym (ap is_stop lines.0) ∙ e) split)
    go others false e d =
        let first : step ∷ before_stop steps ≡ x ∷ (before ++ line ∷ after) = sym (not_stop step steps (sym (ap is_stop lines.0) ∙ e)) ∙ split in
        let head : step ≡ x = cc in
        let rest : before_stop steps ≡ before ++ line ∷ after = cc in
        elim d [
          | inl fails ↦ regrouped head (Before (bring.both_more near_now far_now (put_by_all Near before) (put_by_all Far before) t (does_bring it near far s t (Some fails.0) (lines.1 ∙ same) h fails.1)))
          | inr goes ↦ regrouped head (others goes.0 (does_bring it near far s goes.0 None (lines.1 ∙ same) h goes.1) (does_keep it s goes.0 None k goes.1) (does_tie it s goes.0 None spares.0 k tied goes.1) rest goes.2)
        ]

-- ---- the orders where a run ended

take_front : {X : Type 0} (xs rest : List X) → take (length xs) (xs ++ rest) ≡ xs
take_front [] rest = refl
take_front {X} (x ∷ xs) rest = ap (λ (zs : List X). x ∷ zs) (take_front xs rest)

-- a front that is as long, or is the whole
first_ones : {X : Type 0} (xs ys : List X) (n : ℕ) → IsFront xs ys → length xs ≤ n → (length xs ≡ n) ⊎ (ys ≡ xs) → xs ≡ take n ys
first_ones {X} xs ys n f l (inl e) = sym (take_front xs f.rest) ∙ ap (λ (m : ℕ). take m (xs ++ f.rest)) e ∙ ap (λ (zs : List X). take n zs) f.is
first_ones {X} xs ys n f l (inr e) = sym (take_all n xs l) ∙ ap (λ (zs : List X). take n zs) (sym e)

-- what the orders of a pair have
record Ended (near far : OneSide) (pair : IsPair near far) : Type 0 where
  near_requests : of_way Request (passing_by Near near pair.one_law) ≡ near.book.trail.taken
  far_requests : IsFront (of_way Request (passing_by Far far pair.other_law)) near.book.trail.taken
  far_events : of_way Event (passing_by Far far pair.other_law) ≡ far.book.trail.taken
  near_events : IsFront (of_way Event (passing_by Near near pair.one_law)) (visible first_state (passing_by Far far pair.other_law))

front_as : {X : Type 0} {xs ys us : List X} → IsFront xs ys → us ≡ xs → IsFront us ys
front_as {X} {xs} {ys} {us} f e = subst (λ (zs : List X). IsFront zs ys) (sym e) f

ended_orders : (near far : OneSide) (pair : IsPair near far) → Ended near far pair
ended_orders near far pair =
    let prefixes : Prefixes near far pair = receives_prefixes near far pair in
    let nears = order_has_both Near near pair.one_law in
    let fars = order_has_both Far far pair.other_law in
    record {
      near_requests = nears.taken;
      far_requests = front_as prefixes.up_heard fars.heard;
      far_events = fars.taken;
      near_events = front_as prefixes.down_heard nears.heard;
    }

front_length : {X : Type 0} {xs ys : List X} → IsFront xs ys → length xs ≤ length ys
front_length {X} {xs} {ys} f = omega (arith, ap length f.is, length-append xs f.rest)

whole_front : {X : Type 0} (xs : List X) → IsFront xs xs
whole_front xs = record { rest = []; is = append-nil xs }

-- the run ended before: all that passed was put by then
before_parts : (near_put far_put : List ℕ) (t : State) (near far : OneSide) (pair : IsPair near far) → near.book ≡ t.near.book → far.book ≡ t.far.book → bring.BothPart near_put far_put t
    → BothPart (length (cut near_put)) (length (cut far_put)) (passing_by Near near pair.one_law) (passing_by Far far pair.other_law)
before_parts near_put far_put t near far pair en ef b =
    let e : Ended near far pair = ended_orders near far pair in
    let n : List (Way × List ℕ) = passing_by Near near pair.one_law in
    let f : List (Way × List ℕ) = passing_by Far far pair.other_law in
    let taken : length near.book.trail.taken ≤ length (cut near_put) = omega (arith, ap (λ book. length book.trail.taken) en, front_length (taken_first near_put t.near.book.trail.taken b.near_part.0 b.near_part.1)) in
    let other : length far.book.trail.taken ≤ length (cut far_put) = omega (arith, ap (λ book. length book.trail.taken) ef, front_length (taken_first far_put t.far.book.trail.taken b.far_part.0 b.far_part.1)) in
    record {
      far_parts = record {
        front = f;
        starts = whole_front f;
        requests_are = sym (take_all (length (cut near_put)) (of_way Request f) (omega (arith, taken, front_length e.far_requests)));
        events_are = sym (take_all (length (cut far_put)) (of_way Event f) (omega (arith, other, ap length e.far_events)));
      };
      near_parts = record {
        front = n;
        starts = whole_front n;
        requests_are = sym (take_all (length (cut near_put)) (of_way Request n) (omega (arith, taken, ap length e.near_requests)));
        events_are = sym (take_all (length (visible first_state f)) (of_way Event n) (front_length e.near_events));
      };
    }

-- the run went on behind a state where nothing was left to move
behind_parts : (near_put far_put : List ℕ) (q t : State) (near far : OneSide) (pair : IsPair near far) → near.book ≡ t.near.book → far.book ≡ t.far.book → Quiet near_put far_put q → BothLater q t
    → BothPart (length (cut near_put)) (length (cut far_put)) (passing_by Near near pair.one_law) (passing_by Far far pair.other_law)
behind_parts near_put far_put q t near far pair en ef quiet later =
    let done : IsDone q = quiet_is_done quiet.most q quiet.some quiet.kept quiet.tied quiet.quiet in
    let moves : Quietly quiet.most q = quietly quiet.most q quiet.quiet in
    let has : HasOrders (one_side q.near None) (one_side q.far None) done.pair = has_orders q done in
    let e : Ended near far pair = ended_orders near far pair in
    let on : LaterOrders (one_side q.near None) (one_side q.far None) done.pair near far pair =
    later_orders (one_side q.near None) (one_side q.far None) done.pair near far pair
    (subst (λ book. IsFront q.near.book.order book.order) (sym en) later.near.grown.order)
    (subst (λ book. IsFront q.near.book.trail.taken book.trail.taken) (sym en) later.near.grown.taken)
    (subst (λ book. IsFront q.near.book.trail.made book.trail.made) (sym en) later.near.grown.made)
    (subst (λ book. q.near.book.trail.accepted ≤ book.trail.accepted) (sym en) later.near.grown.accepted)
    (subst (λ book. IsFront q.far.book.order book.order) (sym ef) later.far.grown.order)
    (subst (λ book. IsFront q.far.book.trail.taken book.trail.taken) (sym ef) later.far.grown.taken)
    (subst (λ book. IsFront q.far.book.trail.made book.trail.made) (sym ef) later.far.grown.made)
    (subst (λ book. q.far.book.trail.accepted ≤ book.trail.accepted) (sym ef) later.far.grown.accepted) in
    let near_all : (length q.near.book.trail.taken ≡ length (cut near_put)) ⊎ Shut q.near =
    all_or_shut Near quiet.most q near_put quiet.kept.0 quiet.kept quiet.some moves.near_takes done.near_copies done.drained.near_drained.known quiet.puts_are.near_brings in
    let far_all : (length q.far.book.trail.taken ≡ length (cut far_put)) ⊎ Shut q.far =
    all_or_shut Far quiet.most q far_put quiet.kept.1 quiet.kept quiet.some moves.far_takes done.far_copies done.drained.far_drained.known quiet.puts_are.far_brings in
    let near_few : length q.near.book.trail.taken ≤ length (cut near_put) = front_length (taken_first near_put q.near.book.trail.taken _ quiet.puts_are.near_brings) in
    let far_few : length q.far.book.trail.taken ≤ length (cut far_put) = front_length (taken_first far_put q.far.book.trail.taken _ quiet.puts_are.far_brings) in
    let near_same : Shut q.near → near.book.trail.taken ≡ q.near.book.trail.taken = λ s. ap (λ book. book.trail.taken) en ∙ later.near.none s in
    let far_same : Shut q.far → far.book.trail.taken ≡ q.far.book.trail.taken = λ s. ap (λ book. book.trail.taken) ef ∙ later.far.none s in
    let nq : List (Way × List ℕ) = passing_by Near (one_side q.near None) done.pair.one_law in
    let fq : List (Way × List ℕ) = passing_by Far (one_side q.far None) done.pair.other_law in
    let n : List (Way × List ℕ) = passing_by Near near pair.one_law in
    let f : List (Way × List ℕ) = passing_by Far far pair.other_law in
    let far_requests : IsFront (of_way Request fq) (of_way Request f) = way_front Request on.far_order in
    record {
      far_parts = record {
        front = fq;
        starts = on.far_order;
        requests_are = first_ones (of_way Request fq) (of_way Request f) (length (cut near_put)) far_requests (omega (arith, ap length has.far_requests, near_few))
            (⊎_elim (λ all. inl (ap length has.far_requests ∙ all))
            (λ shut. inr (sym (front_all far_requests (omega (arith, front_length e.far_requests, ap length (near_same shut), ap length has.far_requests))))) near_all);
        events_are = first_ones (of_way Event fq) (of_way Event f) (length (cut far_put)) (way_front Event on.far_order) (omega (arith, ap length has.far_events, far_few))
            (⊎_elim (λ all. inl (ap length has.far_events ∙ all)) (λ shut. inr (e.far_events ∙ far_same shut ∙ sym has.far_events)) far_all);
      };
      near_parts = record {
        front = nq;
        starts = on.near_order;
        requests_are = first_ones (of_way Request nq) (of_way Request n) (length (cut near_put)) (way_front Request on.near_order) (omega (arith, ap length has.near_requests, near_few))
            (⊎_elim (λ all. inl (ap length has.near_requests ∙ all)) (λ shut. inr (e.near_requests ∙ near_same shut ∙ sym has.near_requests)) near_all);
        events_are = first_ones (of_way Event nq) (of_way Event n) (length (visible first_state fq)) (way_front Event on.near_order) (omega (arith, ap length has.near_events)) (inl (ap length has.near_events));
      };
    }

-- ---- all of it

begins : Both [] [] first_of_all
begins = record { near_brings = record { whole = tt; bytes = refl }; far_brings = record { whole = tt; bytes = refl } }

parts_by : (steps : List Step) (played : List Played) (last : State) (end : End) → Runs steps played last end → SparesAll played → (near far : OneSide) (pair : IsPair near far) → near.book ≡ last.near.book → far.book ≡ last.far.book
    → (before after : List Step) (it : Step) → before_stop steps ≡ before ++ it ∷ after → settles it.what ≡ true
    → BothPart (length (cut (put_by_all Near before))) (length (cut (put_by_all Far before))) (passing_by Near near pair.one_law) (passing_by Far far pair.other_law)
parts_by steps played last end r h near far pair en ef before after it split settling =
    go (reached before after it steps played MOST [] [] first_of_all last end r.lines h split settling begins first_kept moves_tie.first r.plays)
  where
    go : Reached (put_by_all Near before) (put_by_all Far before) last → BothPart (length (cut (put_by_all Near before))) (length (cut (put_by_all Far before))) (passing_by Near near pair.one_law) (passing_by Far far pair.other_law)
    go (Before b) = before_parts (put_by_all Near before) (put_by_all Far before) last near far pair en ef b
    go (Behind q quiet later) = behind_parts (put_by_all Near before) (put_by_all Far before) q last near far pair en ef quiet later

allowed_by : (steps : List Step) (played : List Played) (last : State) (end : End) → Runs steps played last end → SparesAll played → (near far : OneSide) (pair : IsPair near far) → near.book ≡ last.near.book → far.book ≡ last.far.book
    → Allowed steps (passing_by Near near pair.one_law) (passing_by Far far pair.other_law)
allowed_by steps played last end r h near far pair en ef =
    let e : Ended near far pair = ended_orders near far pair in
    let first : TakesFirst steps last = runs_take_first steps played last end r in
    record {
      near_requests = front_as first.near (e.near_requests ∙ ap (λ book. book.trail.taken) en);
      far_requests = subst (λ (xs : List (List ℕ)). IsFront (of_way Request (passing_by Far far pair.other_law)) xs) (sym e.near_requests) e.far_requests;
      far_events = front_as first.far (e.far_events ∙ ap (λ book. book.trail.taken) ef);
      near_events = e.near_events;
      parted = λ before after it split settling. parts_by steps played last end r h near far pair en ef before after it split settling;
    }

pub runs_are_allowed : RunsAreAllowed
runs_are_allowed steps played last end r h =
    let it : Receives steps last (fault_by end) = runs_receive steps played last end r h in
    (it, allowed_by steps played last end r h (one_side last.near (fault_of Near (fault_by end))) (one_side last.far (fault_of Far (fault_by end))) it.pair refl refl)
