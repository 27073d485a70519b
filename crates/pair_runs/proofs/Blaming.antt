-- That the fault of a run is caused, line by line.
use Rattle.std.proofs.Common.{◌≡◌, ℕ, zero, suc, List, [], ◌∷◌, ◌++◌, Bool, true, false, Option, Some, None, refl, sym, subst, append_assoc, inl, inr}
use Rattle.std.proofs.lemmas.List.{append-nil}
use Rattle.wp_outside.specs.declared.kinds.Side.{Side}
use Rattle.wp_outside.specs.declared.kinds.Side.TheVariants.{Near, Far}
use Rattle.half_model.specs.declared.items.PeerIn.{PeerIn}
use Rattle.wl_objects.specs.Entries.{first_objects}
use Rattle.half_model.specs.Inlet.{no_inlet}
use Rattle.side_model.specs.Books.{no_book}
use Rattle.pair_runs.proofs.Tracking.{passes_same}
use Rattle.script_lang.specs.Puts.{is_stop}
use Rattle.script_lang.specs.declared.steps.StepKind.{StepKind}
use Rattle.script_lang.specs.declared.steps.StepKind.TheVariants as line
use Rattle.pair_runs.specs.Faults.{Caused, FaultsAreCaused}
use Rattle.pair_runs.specs.Kept.{Kept, KeptAt}
use Rattle.pair_runs.specs.Moves.{Move, MovesAll}
use Rattle.pair_runs.specs.Putting.{items_of_move, items_of_moves, items_by, items_put, TakenOf}
use Rattle.pair_runs.specs.Runs.{Played, Rounds, settles, moves_of, Does, DoesBy, End, Drained, Stopped, Fails, end_by, PlaysLine, Plays, round, MOST, size_after}
use Rattle.pair_runs.specs.States.{State, Fault, first_state, side_at, connections}
use Rattle.pair_runs.specs.Whys.{Told}
use Rattle.pair_runs.proofs.Proceeding.{BothFed, Fed, its, by_both, plain, move_fed, fed_more}
use Rattle.pair_runs.proofs.Composing.{leaves_same}
use Rattle.pair_runs.proofs.Keeping.{runs_keep}

-- ---- a row of moves

regroup : (stop : Option Fault) (near far a b c d : List PeerIn) (t : State) → BothFed stop ((near ++ a) ++ b) ((far ++ c) ++ d) t → BothFed stop (near ++ (a ++ b)) (far ++ (c ++ d)) t
regroup stop near far a b c d t h =
    subst (λ (xs : List PeerIn). BothFed stop xs (far ++ (c ++ d)) t) (append_assoc near a b) (subst (λ (xs : List PeerIn). BothFed stop ((near ++ a) ++ b) xs t) (append_assoc far c d) h)

moves_fed : (moves : List Move) (near far : List PeerIn) (s t : State) (stop : Option Fault) → Fed near far s → MovesAll moves s t stop → BothFed stop (near ++ items_of_moves Near moves) (far ++ items_of_moves Far moves) t
moves_fed [] near far s t stop h m = plain stop near far t (by_both near far m.0 m.1 h)
moves_fed (move ∷ moves) near far s t stop h m = elim m [
  | inl fails ↦
      regroup stop near far (items_of_move Near move) (items_of_moves Near moves) (items_of_move Far move) (items_of_moves Far moves) t
      (subst (λ (it : Option Fault). BothFed it ((near ++ items_of_move Near move) ++ items_of_moves Near moves) ((far ++ items_of_move Far move) ++ items_of_moves Far moves) t) (sym fails.2)
      (fed_more fails.0 (near ++ items_of_move Near move) (far ++ items_of_move Far move) (items_of_moves Near moves) (items_of_moves Far moves) t (move_fed move near far s t (Some fails.0) h fails.1.changes)))
  | inr goes ↦
      regroup stop near far (items_of_move Near move) (items_of_moves Near moves) (items_of_move Far move) (items_of_moves Far moves) t
      (moves_fed moves (near ++ items_of_move Near move) (far ++ items_of_move Far move) goes.0 t stop (move_fed move near far s goes.0 None h goes.1.changes) goes.2)
]

-- ---- lines

unput : (stop : Option Fault) (near far : List PeerIn) (t : State) → BothFed stop (near ++ []) (far ++ []) t → BothFed stop near far t
unput stop near far t h = subst (λ (xs : List PeerIn). BothFed stop xs far t) (append-nil near) (subst (λ (xs : List PeerIn). BothFed stop (near ++ []) xs t) (append-nil far) h)

rounds_fed : (count most : ℕ) (near far : List PeerIn) (s t : State) (stop : Option Fault) → Fed near far s → Rounds count most s t stop → BothFed stop near far t
rounds_fed zero most near far s t stop h r = unput stop near far t (moves_fed (round most) near far s t stop h r.0)
rounds_fed (suc count) most near far s t stop h r = rounds_fed count most near far r.0 t stop (unput None near far r.0 (moves_fed (round most) near far s r.0 None h r.1)) r.3

-- a line that moves all that waits puts nothing
settle_items : (peer : Side) (what : StepKind) (put : List PeerIn) → settles what ≡ true → items_of_moves peer (moves_of what put) ≡ []
settle_items peer (line.Await whose count) put e = refl
settle_items peer line.Settle put e = refl
settle_items peer (line.Hex whose bytes) put e = absurd cc
settle_items peer (line.Say whose text) put e = absurd cc
settle_items peer (line.Give whose number) put e = absurd cc
settle_items peer (line.Put whose pipe bytes) put e = absurd cc
settle_items peer (line.End whose pipe) put e = absurd cc
settle_items peer (line.Shut whose number) put e = absurd cc
settle_items peer _ put e = refl

does_fed : (it : Played) (near far : List PeerIn) (s t : State) (stop : Option Fault) → Fed near far s → Does it s t stop → BothFed stop (near ++ items_by Near it) (far ++ items_by Far it) t
does_fed it near far s t stop h d = go (settles it.what) refl d
  where
    go : (b : Bool) → settles it.what ≡ b → DoesBy b it s t stop → BothFed stop (near ++ items_by Near it) (far ++ items_by Far it) t
    go true k m =
        subst (λ (xs : List PeerIn). BothFed stop (near ++ xs) (far ++ items_by Far it) t) (sym (settle_items Near it.what it.puts k))
        (subst (λ (xs : List PeerIn). BothFed stop (near ++ []) (far ++ xs) t) (sym (settle_items Far it.what it.puts k)) (plain stop near far t (rounds_fed m.count MOST near far s t stop h m.rounds)))
    go false k m = moves_fed (moves_of it.what it.puts) near far s t stop h m

-- ---- a script

-- what is known where a run ends
abbrev EndFed : End → List PeerIn → List PeerIn → State → Type 0
EndFed Drained near far t = Unit {0}
EndFed Stopped near far t = Unit {0}
EndFed (Fails it) near far t = BothFed (Some it) near far t

end_fed : (stop : Option Fault) (near far : List PeerIn) (t : State) → BothFed stop near far t → EndFed (end_by stop) near far t
end_fed None near far t h = tt
end_fed (Some it) near far t h = h

plays_fed : (played : List Played) (most : ℕ) (near far : List PeerIn) (s t : State) (end : End) → Fed near far s → Plays played most s t end → EndFed end (near ++ items_put Near played) (far ++ items_put Far played) t
plays_fed [] most near far s t end h (stop, settled, is) =
    subst (λ (e : End). EndFed e (near ++ []) (far ++ []) t) (sym is) (end_fed stop (near ++ []) (far ++ []) t (plain stop near far t (rounds_fed settled.count most near far s t stop h settled.rounds)))
plays_fed (it ∷ played) most near far s t end h p =
    go (λ between both more. plays_fed played (size_after most it.what) (near ++ items_by Near it) (far ++ items_by Far it) between t end both more) (is_stop it.what) p
  where
    all : (end : End) → EndFed end ((near ++ items_by Near it) ++ items_put Near played) ((far ++ items_by Far it) ++ items_put Far played) t → EndFed end (near ++ items_put Near (it ∷ played)) (far ++ items_put Far (it ∷ played)) t
    all Drained h = tt
    all Stopped h = tt
    all (Fails fault) h = regroup (Some fault) near far (items_by Near it) (items_put Near played) (items_by Far it) (items_put Far played) t h

    go : ((between : State) → Fed (near ++ items_by Near it) (far ++ items_by Far it) between → Plays played (size_after most it.what) between t end → EndFed end ((near ++ items_by Near it) ++ items_put Near played) ((far ++ items_by Far it) ++ items_put Far played) t)
        → (b : Bool) → PlaysLine b it (λ between. Plays played (size_after most it.what) between t end) s t end → EndFed end (near ++ items_put Near (it ∷ played)) (far ++ items_put Far (it ∷ played)) t
    go others true d = subst (λ (e : End). EndFed e (near ++ items_put Near (it ∷ played)) (far ++ items_put Far (it ∷ played)) t) (sym d.1) tt
    go others false (inl fails) =
        subst (λ (e : End). EndFed e (near ++ items_put Near (it ∷ played)) (far ++ items_put Far (it ∷ played)) t) (sym fails.2)
        (all (Fails fails.0) (fed_more fails.0 (near ++ items_by Near it) (far ++ items_by Far it) (items_put Near played) (items_put Far played) t (does_fed it near far s t (Some fails.0) h fails.1)))
    go others false (inr goes) = all end (others goes.0 (does_fed it near far s goes.0 None h goes.1) goes.2)

-- the law of the side that failed
told_by : (it : Fault) (t : State) → Kept (Some it) t → Told it.side it.fault (side_at it.side t).book
told_by it t k = by_side it.side k
  where
    by_side : (side : Side) → KeptAt side it.fault t → Told side it.fault (side_at side t).book
    by_side Near k = k.0
    by_side Far k = k.1

its_put : (side : Side) (played : List Played) → its side ([] ++ items_put Near played) ([] ++ items_put Far played) ≡ items_put side played
its_put Near played = refl
its_put Far played = refl

first_fed : (side : Side) → TakenOf side [] (no_book side) no_inlet first_objects []
first_fed side = record { side_is = refl; ins = []; split = refl; whole = tt; left = leaves_same no_inlet; passes = passes_same side first_objects [] }

pub faults_are_caused : FaultsAreCaused
faults_are_caused steps played last it r =
    let caused = plays_fed played MOST [] [] first_state last (Fails it) (first_fed Near, first_fed Far) r.plays (told_by it last (runs_keep.last steps played last (Fails it) r)) in
    subst (λ (put : List PeerIn). Caused it.side put (side_at it.side last).book (connections last) it.fault) (its_put it.side played) caused
