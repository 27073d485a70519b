-- That both sides of a run agree while no byte of the line is replaced.
use Rattle.std.proofs.Common.{◌≡◌, ℕ, zero, suc, List, [], ◌∷◌, Bool, true, false, Option, Some, None, sym, subst, inl, inr}
use Rattle.std.specs.List.{AllByRecursion}
use Rattle.half_model.specs.declared.items.PeerIn.{PeerIn}
use Rattle.script_lang.specs.Puts.{is_stop}
use Rattle.script_lang.specs.declared.steps.StepKind.{StepKind}
use Rattle.script_lang.specs.declared.steps.StepKind.TheVariants as line
use Rattle.pair_model.specs.Lines.{Agrees}
use Rattle.pair_runs.specs.Agreeing.{TiedBy, Spares, IsSparing, SparesAll, RunsAgree}
use Rattle.pair_runs.specs.Kept.{Kept}
use Rattle.pair_runs.specs.Moves.{Move, MovesAll}
use Rattle.pair_runs.specs.Quiet.{Tied}
use Rattle.pair_runs.specs.RunLaws.{fault_by}
use Rattle.pair_runs.specs.Runs.{Played, Rounds, settles, moves_of, Does, DoesBy, End, Drained, end_by, PlaysLine, Plays, round, MOST, size_after}
use Rattle.pair_runs.specs.Sides.{rows_of}
use Rattle.pair_runs.specs.States.{State, Fault, first_state}
use Rattle.pair_runs.proofs.Keeping.{first_kept, moves_keep, does_keep, drains_quietly, runs_keep}
use Rattle.pair_runs.proofs.Quieting.{quiet_is_done}
use Rattle.pair_runs.proofs.Tying.{moves_tie}

agrees_by : (stop : Option Fault) (s : State) → TiedBy stop s → Agrees (rows_of s.near) (rows_of s.far)
agrees_by None s tied = tied.agrees
agrees_by (Some fault) s tied = tied

all_tie : (moves : List Move) (s t : State) (stop : Option Fault) → AllByRecursion Spares moves → Kept None s → Tied s → MovesAll moves s t stop → TiedBy stop t
all_tie [] s t stop h k tied m = subst (λ (it : Option Fault). TiedBy it t) (sym m.1) (subst (λ (u : State). Tied u) (sym m.0) tied)
all_tie (move ∷ moves) s t stop h k tied m = elim m [
  | inl fails ↦ subst (λ (it : Option Fault). TiedBy it t) (sym fails.2) (moves_tie.moves move s t (Some fails.0) h.0 k tied fails.1)
  | inr goes ↦ all_tie moves goes.0 t stop h.1 goes.1.kept (moves_tie.moves move s goes.0 None h.0 k tied goes.1) goes.2
]

round_spares : (most : ℕ) → AllByRecursion Spares (round most)
round_spares most = (tt, (tt, (tt, (tt, (tt, (tt, (tt, (tt, (tt, tt)))))))))

rounds_tie : (count most : ℕ) (s t : State) (stop : Option Fault) → Kept None s → Tied s → Rounds count most s t stop → TiedBy stop t
rounds_tie zero most s t stop k tied r = all_tie (round most) s t stop (round_spares most) k tied r.0
rounds_tie (suc count) most s t stop k tied r =
    rounds_tie count most r.0 t stop (moves_keep (round most) s r.0 None k r.1) (all_tie (round most) s r.0 None (round_spares most) k tied r.1) r.3

line_spares : (what : StepKind) (puts : List PeerIn) → IsSparing what → AllByRecursion Spares (moves_of what puts)
line_spares (line.Hex peer bytes) puts h = (tt, tt)
line_spares (line.Say peer text) puts h = (tt, tt)
line_spares (line.File peer number size) puts h = tt
line_spares (line.Grow peer number size) puts h = tt
line_spares (line.Fill peer number first count value) puts h = tt
line_spares (line.Pipe peer number) puts h = tt
line_spares (line.Give peer number) puts h = (tt, tt)
line_spares (line.Put peer pipe bytes) puts h = (tt, tt)
line_spares (line.End peer pipe) puts h = (tt, tt)
line_spares (line.Shut peer number) puts h = (tt, tt)
line_spares (line.Await peer count) puts h = tt
line_spares (line.Take peer bytes) puts h = (tt, tt)
line_spares (line.Load words) puts h = (tt, tt)
line_spares line.Connect puts h = (tt, tt)
line_spares line.Break puts h = (tt, tt)
line_spares (line.Send dir bytes) puts h = (tt, tt)
line_spares (line.Recv dir bytes) puts h = (tt, tt)
line_spares (line.Both dir bytes) puts h = (tt, (tt, tt))
line_spares (line.Spoil dir offset byte) puts h = absurd h
line_spares (line.Cut dir bytes) puts h = tt
line_spares (line.Close peer) puts h = (tt, tt)
line_spares line.Settle puts h = tt
line_spares (line.Drain bytes) puts h = tt
line_spares line.Stop puts h = tt

pub does_tie : (it : Played) (s t : State) (stop : Option Fault) → IsSparing it.what → Kept None s → Tied s → Does it s t stop → TiedBy stop t
does_tie it s t stop h k tied d = go (settles it.what) d
  where
    go : (b : Bool) → DoesBy b it s t stop → TiedBy stop t
    go true d = rounds_tie d.count MOST s t stop k tied d.rounds
    go false d = all_tie (moves_of it.what it.puts) s t stop (line_spares it.what it.puts h) k tied d

ended_tied : (stop : Option Fault) (t : State) (end : End) → end ≡ end_by stop → TiedBy stop t → TiedBy (fault_by end) t
ended_tied None t end e k = subst (λ (it : End). TiedBy (fault_by it) t) (sym e) k
ended_tied (Some fault) t end e k = subst (λ (it : End). TiedBy (fault_by it) t) (sym e) k

plays_tie : (played : List Played) (most : ℕ) (s t : State) (end : End) → SparesAll played → Kept None s → Tied s → Plays played most s t end → TiedBy (fault_by end) t
plays_tie [] most s t end h k tied (stop, settled, is) = ended_tied stop t end is (rounds_tie settled.count most s t stop k tied settled.rounds)
plays_tie (it ∷ played) most s t end h k tied p = go (λ between kept ties more. plays_tie played (size_after most it.what) between t end h.1 kept ties more) (is_stop it.what) p
  where
    go : ((between : State) → Kept None between → Tied between → Plays played (size_after most it.what) between t end → TiedBy (fault_by end) t) → (b : Bool) → PlaysLine b it (λ between. Plays played (size_after most it.what) between t end) s t end → TiedBy (fault_by end) t
    go others true d = subst (λ (it : End). TiedBy (fault_by it) t) (sym d.1) (subst (λ (u : State). Tied u) (sym d.0) tied)
    go others false (inl fails) = subst (λ (it : End). TiedBy (fault_by it) t) (sym fails.2) (does_tie it s t (Some fails.0) h.0 k tied fails.1)
    go others false (inr goes) = others goes.0 (does_keep it s goes.0 None k goes.1) (does_tie it s goes.0 None h.0 k tied goes.1) goes.2

pub runs_agree : RunsAgree
runs_agree = record {
  agree = λ steps played last end r h. agrees_by (fault_by end) last (plays_tie played MOST first_state last end h first_kept moves_tie.first r.plays);
  done = λ steps played last r h.
      let quiet = drains_quietly steps played last r in
      quiet_is_done quiet.0 last quiet.1 (runs_keep.last steps played last Drained r) (plays_tie played MOST first_state last Drained h first_kept moves_tie.first r.plays) quiet.2;
}
