-- What a stage answers is what the stage before it is to answer: the same turn, of a half in which only what waits and what is known of shared memory changed.
use Rattle.std.proofs.Common.{◌≡◌, ℕ, Bool, true, false, List, Option, Some, None, Result, Ok, Err, refl, sym, ap, ◌∙◌, if◌then◌else◌}
use Rattle.handle_table.specs.Table.{Table}
use Rattle.handle_table.specs.declared.handles.Handle.{Handle}
use Rattle.pipe_relay.specs.Pipes.{PipesState}
use Rattle.pool_words.specs.Views.{EyeState}
use Rattle.shm_pools.specs.declared.notes.Note.{Note}
use Rattle.transfer_frames.specs.declared.frame.Frame.{Frame}
use Rattle.wl_objects.specs.Registry.{ObjectsState}
use Rattle.half_model.specs.declared.causes.HalfFault.{HalfFault}
use Rattle.half_model.specs.declared.causes.HalfFault.TheVariants as faults
use Rattle.half_model.specs.declared.causes.PeerCause.TheVariants.{NoteMissing}
use Rattle.half_model.specs.Filling.{covers, parts_of, pieces_of}
use Rattle.half_model.specs.Group.{Owed}
use Rattle.half_model.specs.Inlet.{eyes_in}
use Rattle.half_model.specs.Jobs.{Job, Done, jobs_of}
use Rattle.half_model.specs.Planning.{ByCause, passed_with, with_pipe}
use Rattle.half_model.specs.Shm.{Passing}
use Rattle.half_model.specs.Showing.{Filling}
use Rattle.half_model.specs.Tables.{Tables}
use Rattle.half_model.specs.Turn.{Sending, Turn, Refuses, Takes, Treated, unless_refused, treated_by, MadeGroup, group_due}
use Rattle.owed_groups.specs.JobSteps.{eyes_words}
use Rattle.owed_groups.specs.Owing.{IsOwing, owed_with}
use Rattle.owed_groups.specs.declared.owing.Owing.{Owing}
use Rattle.send_half.specs.SendState.{SendState, tables_of, taken_by, message_taken, with_group, grouped, with_done, after_done}
use Rattle.send_half.specs.Stages.{plan_done, turn_done}
use Rattle.send_half.specs.Treating.{Goes, Refused, Stays, Took}

-- ---- one stage before another

pub refused_from : (fault : HalfFault) (next next' : Turn) (o o' : ObjectsState) (h : Table) (p : PipesState) (after : Tables)
    → next ≡ next' → Refused fault next (tables_of o h p) after → Refused fault next' (tables_of o' h p) after
refused_from (faults.Peer index cause) next next' o o' h p after e r = record { refuses = sym e ∙ r.refuses; handles = r.handles; pipes = r.pipes }
refused_from (faults.Limit which) next next' o o' h p after e r = record { refuses = sym e ∙ r.refuses; handles = r.handles; pipes = r.pipes }
refused_from faults.Memory next next' o o' h p after e r = tt

pub stays_from : (old : SendState) (u : Sending) (new : SendState) → Stays (record old { sending = u }) new → Stays old new
stays_from old u new s = record { side = s.side; jobs = s.jobs; frames = s.frames; receipts = s.receipts; noted = s.noted; fault = s.fault }

pub took_from : (next next' : Turn) (after : Tables) (old : SendState) (u : Sending) (new : SendState)
    → next ≡ next' → Took next after (record old { sending = u }) new → Took next' after old new
took_from next next' after old u new e t = record { it = t.it; takes = sym e ∙ t.takes; half = t.half; shared = t.shared }

pub goes_from : (result : Result Unit HalfFault) (next next' : Turn) (o o' : ObjectsState) (h : Table) (p : PipesState) (after : Tables)
    (old : SendState) (u : Sending) (new : SendState) → next ≡ next'
    → Goes result next (tables_of o h p) after (record old { sending = u }) new → Goes result next' (tables_of o' h p) after old new
goes_from (Ok unit) next next' o o' h p after old u new e g = took_from next next' after old u new e g
goes_from (Err fault) next next' o o' h p after old u new e g = (refused_from fault next next' o o' h p after e g.0, stays_from old u new g.1)

-- ---- a message whose deed is done

unless_covered : ℕ → Bool → Treated → Turn
unless_covered index b treated = unless_refused index (if b then None else Some (ByCause NoteMissing)) treated

pub not_covered : (tables : Tables) (s : Sending) (m : List ℕ) (handle : Option Handle) (passing : Option Passing) (note : Option Note) (before : List Frame)
    (filling : Filling) (shown : Option (List ℕ)) → covers filling.runs (eyes_words (eyes_in filling.file.number note)) ≡ false
    → turn_done tables s m handle passing note before filling shown ≡ Refuses (faults.Peer s.taken NoteMissing)
unfolding turn_done unless_covered
not_covered tables s m handle passing note before filling shown e =
    ap (λ b. unless_covered s.taken b (treated_by s m handle s.inlet (plan_done tables s handle passing before filling shown) (eyes_in filling.file.number note))) e

pub is_covered : (tables : Tables) (s : Sending) (m : List ℕ) (handle : Option Handle) (passing : Option Passing) (note : Option Note) (before : List Frame)
    (filling : Filling) (shown : Option (List ℕ)) → covers filling.runs (eyes_words (eyes_in filling.file.number note)) ≡ true
    → turn_done tables s m handle passing note before filling shown
    ≡ Takes (treated_by s m handle s.inlet (plan_done tables s handle passing before filling shown) (eyes_in filling.file.number note))
unfolding turn_done unless_covered
is_covered tables s m handle passing note before filling shown e =
    ap (λ b. unless_covered s.taken b (treated_by s m handle s.inlet (plan_done tables s handle passing before filling shown) (eyes_in filling.file.number note))) e

pub half_done : (tables : Tables) (s : SendState) (m : List ℕ) (handle : Option Handle) (passing : Option Passing) (before : List Frame) (filling : Filling)
    (shown : Option (List ℕ)) (eyes : List EyeState) (owed : Owed) (jobs : List Job) → owed ≡ owed_with before filling shown eyes
    → jobs ≡ jobs_of s.sending.next_job eyes (parts_of filling.file.number (eyes_words eyes) (pieces_of filling.runs))
    → message_taken m owed jobs s ≡ taken_by (treated_by s.sending m handle s.sending.inlet (plan_done tables s.sending handle passing before filling shown) eyes) s
half_done tables s m handle passing before filling shown eyes owed jobs owed_is jobs_are =
    ap (λ (o : Owed). message_taken m o jobs s) owed_is
    ∙ ap (λ (js : List Job). message_taken m (owed_with before filling shown eyes) js s) jobs_are

-- a message whose blocks are covered is taken
pub took_done : (objects : ObjectsState) (h h' : Table) (p p' : PipesState) (old new : SendState) (m : List ℕ) (handle : Option Handle) (passing : Option Passing)
    (note : Option Note) (before : List Frame) (filling : Filling) (shown : Option (List ℕ)) (it : Owing)
    → IsOwing old.sending.next_job before filling shown (eyes_in filling.file.number note) it
    → h' ≡ passed_with handle h → p' ≡ with_pipe passing p → new ≡ message_taken m it.owed it.copies old
    → Took (turn_done (tables_of objects h p) old.sending m handle passing note before filling shown) (tables_of objects h' p') old new
took_done objects h h' p p' old new m handle passing note before filling shown it owes h_is p_is is = record {
  it =
      treated_by old.sending m handle old.sending.inlet (plan_done (tables_of objects h p) old.sending handle passing before filling shown)
      (eyes_in filling.file.number note);
  takes = is_covered (tables_of objects h p) old.sending m handle passing note before filling shown owes.covered;
  half = is ∙ half_done (tables_of objects h p) old m handle passing before filling shown (eyes_in filling.file.number note) it.owed it.copies owes.owed owes.copies;
  shared = ap (λ (x : Table). tables_of objects x p') h_is ∙ ap (λ (x : PipesState). tables_of objects (passed_with handle h) x) p_is;
}

-- ---- what waits behind the turn of the front

pub front_from : (result : Result Unit HalfFault) (next next' : Turn) (tables after : Tables) (old : SendState) (u : Sending) (new : SendState) → next ≡ next'
    → Goes result next tables after (record old { sending = u }) new → Goes result next' tables after old new
front_from result next next' tables after old u new e g = goes_from result next next' tables.objects tables.objects tables.handles tables.pipes after old u new e g

-- ---- what a group leaves

group_keeps_fault : (made : Option MadeGroup) (s : SendState) → (with_group made s).fault ≡ s.fault
group_keeps_fault None s = refl
group_keeps_fault (Some made) s = refl

group_keeps_side : (made : Option MadeGroup) (s : SendState) → (with_group made s).side ≡ s.side
group_keeps_side None s = refl
group_keeps_side (Some made) s = refl

pub grouped_keeps_fault : (s : SendState) → (grouped s).fault ≡ s.fault
grouped_keeps_fault s = group_keeps_fault (group_due s.sending.owes s.jobs) s

pub grouped_keeps_side : (s : SendState) → (grouped s).side ≡ s.side
grouped_keeps_side s = group_keeps_side (group_due s.sending.owes s.jobs) s

pub after_keeps_fault : (done : Done) (old new : SendState) → new ≡ after_done done old → old.fault ≡ None → new.fault ≡ None
after_keeps_fault done old new e none = ap (λ (s : SendState). s.fault) e ∙ grouped_keeps_fault (with_done done old) ∙ none

pub after_keeps_side : (done : Done) (old new : SendState) → new ≡ after_done done old → new.side ≡ old.side
after_keeps_side done old new e = ap (λ (s : SendState). s.side) e ∙ grouped_keeps_side (with_done done old)
