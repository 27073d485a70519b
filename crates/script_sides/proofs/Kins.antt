-- What the calls of a proxy with its records leave as it was: its side, its token, the number of its last connection, and whether one is up.
use Rattle.std.proofs.Common.{◌≡◌, ℕ, List, [], ◌∷◌, ◌++◌, Option, Some, None, Ok, Err, refl, ap, subst, ◌∙◌, inl, inr}
use Rattle.std.specs.Prelude.{is_some}
use Rattle.half_model.specs.declared.items.PeerIn.{PeerIn}
use Rattle.half_model.specs.declared.items.PeerIn.TheVariants as inputs
use Rattle.half_model.specs.declared.items.PeerOut.{PeerOut}
use Rattle.half_model.specs.PipeTurn as pipes
use Rattle.half_model.specs.PipeTurn.{PipeTurn, pipe_turn}
use Rattle.half_model.specs.Turn as turns
use Rattle.half_model.specs.Turn.{Turn, turn, MadeGroup, group_due}
use Rattle.pair_model.specs.Lines.{Line}
use Rattle.pair_model.specs.Steps.{on_last, with_written, with_read, here_fed}
use Rattle.pair_runs.specs.Linking.{new_line}
use Rattle.pair_runs.specs.Sides.{last_number}
use Rattle.pair_runs.specs.WorkLaws.{RunsOn}
use Rattle.pair_runs.proofs.Calling.{Ran, ran_by, fed_here}
use Rattle.proxy_trail.proofs.Calling.{up_changed, up_part}
use Rattle.side_model.specs.declared.fault.ProxyFault.{ProxyFault}
use Rattle.side_model.specs.Calls.{Part}
use Rattle.side_model.specs.Events.{Event, Fed, Came, Gave}
use Rattle.side_model.specs.State.{Now, Closing, Open, Asked, Made}
use Rattle.side_model.specs.Steps.{step, fed_pipe, gone, took, grouped, ended}
use Rattle.side_model.specs.Trails.{TrailState, TrailAfter, TrailCalls, FailsNow, FailsSo, HeavyAtOnce, HeavyThen, Failed, FailedAtOnce, NoMemory, NotLent, LendsAfter, Lends}
use Rattle.side_model.proofs.Dues.{DueIn, InHear, InGroup, InTreat, InEnd, InChoose, due_in, frame_due, group_is_due, turn_due, end_is_due, choice_due}
use Rattle.side_model.proofs.Parts.{SameProxy, same_then, same_step, same_part}
use Rattle.side_model.proofs.TrailParts.{ran, same_ran}

pub record Kin (s t : Now) : Type 0 where
  pub side : t.side ≡ s.side
  pub token : t.token ≡ s.token
  pub last : t.kept.last ≡ s.kept.last
  pub up : is_some t.live.here ≡ is_some s.live.here

pub kin_then : (s t u : Now) → Kin s t → Kin t u → Kin s u
kin_then s t u h k = record { side = k.side ∙ h.side; token = k.token ∙ h.token; last = k.last ∙ h.last; up = k.up ∙ h.up }

-- ---- the events that are due inside

took_last : (it : Turn) (s : Now) → (took it s).kept.last ≡ s.kept.last
took_last turns.Idle s = refl
took_last (turns.Refuses fault) s = refl
took_last (turns.Takes it) s = refl

grouped_last : (found : Option MadeGroup) (s : Now) → (grouped found s).kept.last ≡ s.kept.last
grouped_last None s = refl
grouped_last (Some it) s = refl

ended_last : (closing : Closing) (s : Now) → (ended closing s).kept.last ≡ s.kept.last
ended_last Open s = refl
ended_last (Asked reason) s = refl
ended_last Made s = refl

due_last : (event : Event) (s : Now) → DueIn s event → (step event s).kept.last ≡ s.kept.last
unfolding step
due_last event s (InHear h) = ap (λ (v : Event). (step v s).kept.last) (frame_due s event h).is
due_last event s (InGroup a h) = ap (λ (v : Event). (step v s).kept.last) (group_is_due s event h).is ∙ grouped_last (group_due s.live.sending.owes s.kept.jobs) s
due_last event s (InTreat a b h) = ap (λ (v : Event). (step v s).kept.last) (turn_due s event h).is ∙ took_last (turn s.live.tables s.live.sending) s
due_last event s (InEnd a b c h) = ap (λ (v : Event). (step v s).kept.last) (end_is_due s event h).is ∙ ended_last s.kept.closing s
due_last event s (InChoose a b c d h) = ap (λ (v : Event). (step v s).kept.last) (choice_due s event h).is

part_last : (s t : Now) (events : List Event) → Part s events t → t.kept.last ≡ s.kept.last
part_last s t [] p = ap (λ (u : Now). u.kept.last) p
part_last s t (x ∷ xs) p = part_last (step x s) t xs p.1 ∙ due_last x s (due_in s x p.0)

pub part_kin : (s t : Now) (events : List Event) → Part s events t → Kin s t
part_kin s t events p =
    let same : SameProxy s t = same_part s t events p in
    record { side = same.side; token = same.token; last = part_last s t events p; up = up_part s t events p }

-- ---- the events from outside

pipe_last : (it : PipeTurn) (s : Now) → (fed_pipe it s).kept.last ≡ s.kept.last
pipe_last pipes.Barred s = refl
pipe_last (pipes.Drops tables) s = refl
pipe_last (pipes.Makes frame tables) s = refl

fed_last : (item : PeerIn) (s : Now) → (step (Fed item) s).kept.last ≡ s.kept.last
unfolding step
fed_last (inputs.Bytes piece) s = refl
fed_last (inputs.Handle handle) s = refl
fed_last (inputs.Note note) s = refl
fed_last (inputs.Pipe item) s = pipe_last (pipe_turn s.live.tables s.live.taking item) s

pub fed_kin : (item : PeerIn) (s : Now) → Kin s (step (Fed item) s)
fed_kin item s =
    let same : SameProxy s (step (Fed item) s) = same_step (Fed item) s in
    record { side = same.side; token = same.token; last = fed_last item s; up = ap is_some (fed_here item s) }

pub handed_kin : (event : Event) (s : Now) → (step event s).live ≡ s.live → (step event s).kept.last ≡ s.kept.last → Kin s (step event s)
handed_kin event s live last =
    let same : SameProxy s (step event s) = same_step event s in
    record { side = same.side; token = same.token; last = last; up = ap (λ it. is_some it.here) live }

pub came_kin : (piece : List ℕ) (s : Now) → Kin s (step (Came piece) s)
unfolding step
came_kin piece s = record { side = refl; token = refl; last = refl; up = up_changed (here_fed piece) s.live.here }

gone_here : (items : List PeerOut) (s : Now) → is_some (gone items s.live).here ≡ is_some s.live.here
gone_here [] s = refl
gone_here (item ∷ items) s = refl

pub gave_kin : (s : Now) → Kin s (step Gave s)
unfolding step
gave_kin s = record { side = refl; token = refl; last = refl; up = gone_here s.live.items s }

-- ---- calls

pub call_kin : (event : Event) (old new : TrailState) → RunsOn old → Kin old.now (step event old.now) → TrailCalls event (Ok tt) old new → Kin old.now new.now
call_kin event old new r first calls =
    let run : Ran event old new = ran_by event old new r calls in
    let k : Kin old.now run.last = kin_then old.now (step event old.now) run.last first (part_kin (step event old.now) run.last run.events run.row.0) in
    record {
      side = ap (λ (s : Now). s.side) run.now ∙ k.side;
      token = ap (λ (s : Now). s.token) run.now ∙ k.token;
      last = ap (λ (s : Now). s.kept.last) run.now ∙ k.last;
      up = ap (λ (s : Now). is_some s.live.here) run.now ∙ k.up;
    }

-- a call that fails leaves it the same proxy
pub record Same (s t : Now) : Type 0 where
  pub side : t.side ≡ s.side
  pub token : t.token ≡ s.token

so_same : (event : Event) (fault : ProxyFault) (old new : TrailState) → old.now.fault ≡ None → FailsSo event fault old new → Same old.now new.now
so_same event fault old new none (HeavyAtOnce e d) = record { side = ap (λ (s : Now). s.side) d.now; token = ap (λ (s : Now). s.token) d.now }
so_same event fault old new none (HeavyThen e d) = elim (ran event d.answer d.events old.now d.last none d.calls) [
  | inl begun ↦ let same = same_ran begun in record { side = ap (λ (s : Now). s.side) d.now ∙ same.0; token = ap (λ (s : Now). s.token) d.now ∙ same.1 }
  | inr not ↦ record { side = ap (λ (s : Now). s.side) d.now ∙ not.side; token = ap (λ (s : Now). s.token) d.now ∙ not.token }
]
so_same event fault old new none (Failed d) =
    let same : SameProxy old.now d.stops.last = same_then (same_step event old.now) (same_part (step event old.now) d.stops.last d.events d.stops.part) in
    record { side = ap (λ (s : Now). s.side) d.now ∙ d.stops.halted.side ∙ same.side; token = ap (λ (s : Now). s.token) d.now ∙ d.stops.halted.token ∙ same.token }
so_same event fault old new none (FailedAtOnce d) = record { side = d.side; token = d.token }
so_same event fault old new none (NoMemory d) = elim (ran event d.answer d.events old.now d.last none d.calls) [
  | inl begun ↦ let same = same_ran begun in record { side = ap (λ (s : Now). s.side) d.now ∙ same.0; token = ap (λ (s : Now). s.token) d.now ∙ same.1 }
  | inr not ↦ record { side = ap (λ (s : Now). s.side) d.now ∙ not.side; token = ap (λ (s : Now). s.token) d.now ∙ not.token }
]

pub record Fell (fault : ProxyFault) (old new : TrailState) : Type 0 where
  pub told : new.fault ≡ Some fault
  pub side : new.now.side ≡ old.now.side
  pub token : new.now.token ≡ old.now.token

pub call_fell : (event : Event) (fault : ProxyFault) (old new : TrailState) → RunsOn old → TrailCalls event (Err fault) old new → Fell fault old new
call_fell event fault old new r calls =
    let d : FailsNow event fault old new = subst (λ (it : Option ProxyFault). TrailAfter it event (Err fault) old new) r.goes_on calls in
    let same : Same old.now new.now = so_same event fault old new (r.keeps.runs r.goes_on).fault d.so in
    record { told = d.fault_is; side = same.side; token = same.token }

pub lend_fell : (fault : ProxyFault) (old new : TrailState) → RunsOn old → Lends (Err fault) old new → Fell fault old new
lend_fell fault old new r lends =
    let d : NotLent fault old new = subst (λ (it : Option ProxyFault). LendsAfter it (Err fault) old new) r.goes_on lends in
    record { told = d.fault_is; side = ap (λ (s : Now). s.side) d.now; token = ap (λ (s : Now). s.token) d.now }

-- ---- the number of the last connection

last_on : (change : Line → Line) → ((line : Line) → (change line).connection ≡ line.connection) → (rows : List Line) → last_number (on_last change rows) ≡ last_number rows
last_on change same [] = refl
last_on change same (line ∷ []) = same line
last_on change same (line ∷ next ∷ []) = same next
last_on change same (line ∷ next ∷ third ∷ rows) = last_on change same (next ∷ third ∷ rows)

pub last_read : (piece : List ℕ) (rows : List Line) → last_number (on_last (with_read piece) rows) ≡ last_number rows
last_read piece rows = last_on (with_read piece) (λ line. refl) rows

pub last_written : (piece : List ℕ) (rows : List Line) → last_number (on_last (with_written piece) rows) ≡ last_number rows
last_written piece rows = last_on (with_written piece) (λ line. refl) rows

pub last_up : (connection : ℕ) (rows : List Line) → last_number (rows ++ new_line connection ∷ []) ≡ connection
last_up connection [] = refl
last_up connection (line ∷ []) = refl
last_up connection (line ∷ next ∷ rows) = last_up connection (next ∷ rows)
