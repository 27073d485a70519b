-- That what a replay answers is the last state of a run of its script.
use Rattle.std.proofs.Common.{◌≡◌, ℕ, suc, ◌-◌, max, Bool, true, false, List, [], ◌∷◌, length, map, Option, Some, None, refl, sym, ap, subst, ◌∙◌, arith}
use Rattle.std.specs.List.{slice_get}
use Rattle.wp_outside.specs.declared.kinds.Side.{Side}
use Rattle.wp_outside.specs.declared.kinds.Side.TheVariants.{Near, Far}
use Rattle.wp_outside.specs.Lines as outside
use Rattle.wp_outside.specs.Lines.{fresh_line}
use Rattle.proxy_trail.specs.declared.pair.PairEnd.{PairEnd}
use Rattle.proxy_trail.specs.declared.pair.PairRecord.{PairRecord}
use Rattle.script_lang.specs.declared.steps.Step.{Step}
use Rattle.side_model.specs.Trails.{TrailState}
use Rattle.trail_records.specs.Rows.{line_of}
use Rattle.trail_records.specs.declared.lines.LineRecord.{LineRecord}
use Rattle.pair_runs.specs.RunLaws.{fault_by}
use Rattle.pair_runs.specs.Runs.{Plays, MOST}
use Rattle.pair_runs.specs.Sides.{side_seen, rows_of, last_number}
use Rattle.pair_runs.specs.States.{State, Fault, first_state, connections}
use Rattle.script_sides.specs.Ready as sides
use Rattle.script_sides.specs.Sided as sided
use Rattle.script_sides.specs.Sided.{SideRun, first_run}
use Rattle.script_replay.specs.Going.{Stays}
use Rattle.script_replay.specs.Outcome.{WaitsOn, Told, Replays, IsKept}
use Rattle.script_replay.specs.Playing.{PlaysTo}
use Rattle.script_replay.specs.Standing.{ReadyAt, IsReady, IsEmpty, state_of, line_at}
use Rattle.script_replay.specs.Telling.{lanes_of, TellsLine}
use Rattle.script_replay.specs.declared.run.Run.{Run}
use Rattle.script_replay.proofs.Keeping.{tells_same}

-- ---- what both sides and the store show

told_of : (stop : Option Fault) (run : Run) (line : ℕ → outside.Line) → Stays stop run line → Told stop (state_of run line) line
told_of None run line stays = stays.tells
told_of (Some it) run line stays = stays.tells

-- the connection that is up is the last one
last_of : (stop : Option Fault) (run : Run) (line : ℕ → outside.Line) → Stays stop run line → run.up ≡ true → run.last ≡ connections (state_of run line)
last_of None run line stays up = omega (arith, stays.aside.near.number, stays.aside.far.number)
last_of (Some it) run line stays up = stays.last up

waits_of : (up : Bool) (last number : ℕ) (line : ℕ → outside.Line) → (up ≡ true → last ≡ number) → WaitsOn (line_at up (line last)) (line number)
waits_of true last number line same = ap (λ (n : ℕ). lanes_of (line n)) (same refl)
waits_of false last number line same = tt

-- ---- the answer

pub replays : (steps : List Step) (first run : Run) (before after : ℕ → outside.Line) (ended : PairEnd) (it : PairRecord) → state_of first before ≡ first_state → PlaysTo steps first run before after ended → IsKept run ended it → Replays steps after it
replays steps first run before after ended it begins h kept =
    let last : State = state_of run after in
    record {
      played = h.plays.played;
      last = last;
      end = h.end;
      runs = record { lines = h.plays.lines; plays = subst (λ (s : State). Plays h.plays.played MOST s last h.end) begins h.plays.plays };
      end_is = kept.end_is ∙ h.end_is;
      near = record { half = sided.half_loaded run.near.half; is = ap (λ (trail : TrailState). side_seen (sided.half_loaded run.near.half) trail) (sym kept.near) };
      far = record { half = sided.half_loaded run.far.half; is = ap (λ (trail : TrailState). side_seen (sided.half_loaded run.far.half) trail) (sym kept.far) };
      connections_are = kept.connections_are;
      waits = waits_of run.up run.last it.connections after (λ up. last_of (fault_by h.end) run after h.stays up ∙ sym kept.connections_are);
      told = told_of (fault_by h.end) run after h.stays;
    }

-- ---- the beginning

-- a replay in which nothing has happened
abbrev begun : SideRun → SideRun → Run
begun near far = record { near = near; far = far; last = 0; up = false }

pub begins_first : (near far : SideRun) → near ≡ first_run Near → far ≡ first_run Far → (line : ℕ → outside.Line) → state_of (begun near far) line ≡ first_state
begins_first near far en ef line =
    ap (λ (it : SideRun). state_of (begun it far) line) en ∙ ap (λ (it : SideRun). state_of (begun (first_run Near) it) line) ef

first_at : (side : Side) (it : SideRun) → it ≡ first_run side → sides.IsReady it → ReadyAt side it 0 false
first_at side it e ready = record {
  ready = ready;
  side_is = ap (λ (run : SideRun). run.peer.side) e;
  number = ap (λ (run : SideRun). last_number (rows_of (sided.state_of run))) e;
  is_up = ap (λ (run : SideRun). sided.is_up run) e;
}

no_rows : (side : Side) (it : SideRun) → it ≡ first_run side → rows_of (sided.state_of it) ≡ []
no_rows side it e = ap (λ (run : SideRun). rows_of (sided.state_of run)) e

nothing_told : (connection : ℕ) (line : outside.Line) → line ≡ fresh_line → TellsLine connection [] [] [] [] line
nothing_told connection line e = subst (λ (it : outside.Line). TellsLine connection [] [] [] [] it) (sym e) (record {
  up = record { pushed = refl; pulled = refl };
  down = record { pushed = refl; pulled = refl };
})

pub begins_ready : (near far : SideRun) → near ≡ first_run Near → far ≡ first_run Far → sides.IsReady near → sides.IsReady far → (line : ℕ → outside.Line) → IsEmpty line → IsReady (begun near far) line
begins_ready near far en ef rn rf line empty = record {
  aside = record { near = first_at Near near en rn; far = first_at Far far ef rf };
  few = omega arith;
  some = λ e. absurd cc;
  holds = λ e. absurd cc;
  fresh = λ connection above. ap (λ (it : outside.Line). it.was_opened) (empty connection);
  tells = tells_same [] [] (rows_of (sided.state_of near)) (rows_of (sided.state_of far)) line (no_rows Near near en) (no_rows Far far ef) (λ connection. nothing_told connection (line connection) (empty connection));
}

-- ---- the last line

same_line : (one other : LineRecord) → Some one ≡ Some other → one ≡ other
same_line one other e = cc

pub last_row : (line : LineRecord) (lines : List LineRecord) → Some line ≡ slice_get lines (length lines - 1) → line.connection ≡ last_number (map line_of lines)
last_row line [] e = absurd (let never : ⊥ = cc in never)
last_row line (one ∷ []) e = ap (λ (it : LineRecord). it.connection) (same_line line one e)
last_row line (one ∷ next ∷ lines) e =
    let n : length (one ∷ next ∷ lines) - 1 ≡ suc (length lines) = omega arith in
    let m : length (next ∷ lines) - 1 ≡ length lines = omega arith in
    last_row line (next ∷ lines)
    (e ∙ ap (λ (k : ℕ). slice_get (one ∷ next ∷ lines) k) n ∙ sym (ap (λ (k : ℕ). slice_get (next ∷ lines) k) m))
