-- What a message that is taken leaves of what waits inside, and of its copies.
use Rattle.std.proofs.Common.{◌≡◌, ℕ, ◌+◌, List, [], ◌∷◌, map, Option, Some, None, Result, Ok, Err, refl, subst, arith}
use Rattle.std.specs.Prelude.{sum_by, slice_index_or}
use Rattle.std.proofs.lemmas.List.Sums.{sum_by-cons}
use Rattle.wp_outside.specs.declared.kinds.HandleKind.{HandleKind}
use Rattle.wl_wire.specs.declared.faults.ObjectFault.{ObjectFault}
use Rattle.wl_wire.specs.declared.faults.WireFault.{WireFault}
use Rattle.wl_wire.specs.Wire.{first}
use Rattle.wl_objects.specs.Tracking.{Admission, step}
use Rattle.wl_tables.specs.Ways.{own_way}
use Rattle.handle_table.specs.declared.handles.Handle.{Handle}
use Rattle.pool_words.specs.Views.{EyeState}
use Rattle.half_model.specs.declared.deeds.Deed.{Deed}
use Rattle.half_model.specs.Deeds.{deed_of}
use Rattle.half_model.specs.Filling.{Part, parts_of}
use Rattle.half_model.specs.Group.{Owed, owed_by}
use Rattle.half_model.specs.Inlet.{inlet_after, handle_for, note_for, eyes_in}
use Rattle.half_model.specs.Jobs.{Job, job_of, jobs_of, no_eye}
use Rattle.half_model.specs.Planning.{Plan, Refusal, plan_passed, kind_carried}
use Rattle.half_model.specs.Tables.{Tables}
use Rattle.half_model.specs.Turn.{Sending, Turn, Idle, Refuses, Takes, Treated, unless_refused, treated_by, turn_planned, turn_step, turn_front, turn_unless, turn}
use Rattle.pair_runs.specs.Sides.{loaded_in}

-- ---- copies

-- nothing of them is loaded yet
fresh : (half next : ℕ) (eyes : List EyeState) (parts : List Part) → sum_by (loaded_in half) (jobs_of next eyes parts) ≡ 0
fresh half next eyes [] = refl
fresh half next eyes (part ∷ parts) =
    let job : Job = job_of next part (slice_index_or eyes part.segment no_eye) in
    omega (arith, sum_by-cons (loaded_in half) job (jobs_of (next + 1) eyes parts), fresh half (next + 1) eyes parts)

-- ---- the message that is taken

pub record LeftBy (tables : Tables) (s : Sending) (t : Treated) : Type 0 where
  pub done : Admission
  pub steps : step (own_way tables.handles.side) tables.objects.tracked t.message ≡ Ok done
  pub inlet : t.sending.inlet ≡ inlet_after (kind_carried (own_way tables.handles.side) done.passed) (deed_of (own_way tables.handles.side) done.passed) t.message s.inlet
  pub fresh : (half : ℕ) → sum_by (loaded_in half) t.jobs ≡ 0

abbrev pub Left : Tables → Sending → Turn → Type 0
Left tables s Idle = Unit {0}
Left tables s (Refuses fault) = Unit {0}
Left tables s (Takes t) = LeftBy tables s t

left_refused : (tables : Tables) (s : Sending) (index : ℕ) (refusal : Option Refusal) (t : Treated) → LeftBy tables s t → Left tables s (unless_refused index refusal t)
left_refused tables s index None t h = h
left_refused tables s index (Some refusal) t h = tt

-- a message that tracking lets pass
module _ (tables : Tables) (s : Sending) (message : List ℕ) (done : Admission) (steps : step (own_way tables.handles.side) tables.objects.tracked message ≡ Ok done) where
  abbrev kind : Option HandleKind
  kind = kind_carried (own_way tables.handles.side) done.passed

  abbrev deed : Deed
  deed = deed_of (own_way tables.handles.side) done.passed

  left_treated : (handle : Option Handle) (it : Plan) (eyes : List EyeState) → LeftBy tables s (treated_by s message handle (inlet_after kind deed message s.inlet) it eyes)
  left_treated handle it eyes = record {
    done = done;
    steps = steps;
    inlet = refl;
    fresh = λ half. fresh half s.next_job eyes (parts_of (owed_by it (map (λ eye. eye.words) eyes)).file (owed_by it (map (λ eye. eye.words) eyes)).segments (owed_by it (map (λ eye. eye.words) eyes)).pieces);
  }

  left_planned : (handle : Option Handle) (planned : Result Plan Refusal) → Left tables s (turn_planned s message handle (inlet_after kind deed message s.inlet) deed planned)
  left_planned handle (Ok it) = left_refused tables s s.taken _ _ (left_treated handle it (eyes_in it.filling.file.number (note_for deed message s.inlet)))
  left_planned handle (Err refusal) = tt

left_step : (tables : Tables) (s : Sending) (message : List ℕ) (told : Result Admission ObjectFault) → step (own_way tables.handles.side) tables.objects.tracked message ≡ told → Left tables s (turn_step tables s message told)
left_step tables s message (Ok done) e =
    let kind = kind_carried (own_way tables.handles.side) done.passed in
    left_planned tables s message done e (handle_for kind message s.inlet) (plan_passed tables s.shm message (handle_for kind message s.inlet) done)
left_step tables s message (Err fault) e = tt

left_front : (tables : Tables) (s : Sending) (front : Result (Option (List ℕ)) WireFault) → Left tables s (turn_front tables s front)
left_front tables s (Ok None) = tt
left_front tables s (Ok (Some message)) = left_step tables s message (step (own_way tables.handles.side) tables.objects.tracked message) refl
left_front tables s (Err fault) = tt

left_unless : (tables : Tables) (s : Sending) (owes : Option Owed) (it : Turn) → Left tables s it → Left tables s (turn_unless owes it)
left_unless tables s None it h = h
left_unless tables s (Some owed) it h = tt

pub left_by : (tables : Tables) (s : Sending) (t : Treated) → turn tables s ≡ Takes t → LeftBy tables s t
unfolding turn
left_by tables s t e = subst (λ (it : Turn). Left tables s it) e (left_unless tables s s.owes (turn_front tables s (first s.inlet.bytes)) (left_front tables s (first s.inlet.bytes)))
