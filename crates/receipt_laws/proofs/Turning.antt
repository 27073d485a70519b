-- What holds of each message that is taken: it is shown of the one form that a taken message has.
use Rattle.std.proofs.Common.{◌≡◌, ℕ, List, map, Option, Some, None, Result, Ok, Err, refl, ap}
use Rattle.wl_wire.specs.declared.faults.ObjectFault.{ObjectFault}
use Rattle.wl_wire.specs.declared.faults.WireFault.{WireFault}
use Rattle.wl_wire.specs.Wire.{first}
use Rattle.wl_objects.specs.Tracking.{Admission, step}
use Rattle.wl_tables.specs.Ways.{own_way}
use Rattle.wp_outside.specs.declared.kinds.HandleKind.{HandleKind}
use Rattle.half_model.specs.declared.deeds.Deed.{Deed}
use Rattle.half_model.specs.Deeds.{deed_of}
use Rattle.half_model.specs.Group.{Owed, note_refusal}
use Rattle.half_model.specs.Inlet.{handle_for, note_for, inlet_after, eyes_in}
use Rattle.half_model.specs.Planning.{Plan, Refusal, kind_carried, plan_passed}
use Rattle.half_model.specs.Tables.{Tables}
use Rattle.half_model.specs.Turn.{Sending, Treated, Turn, Idle, Refuses, Takes, unless_refused, treated_by, turn_planned, turn_step, turn_front, turn_unless, turn}

abbrev pub OnTaken : (Treated → Type 0) → Turn → Type 0
OnTaken P Idle = Unit {0}
OnTaken P (Refuses fault) = Unit {0}
OnTaken P (Takes it) = P it

-- a message that is taken, with a plan
abbrev pub taken_by : Sending → List ℕ → Option HandleKind → Deed → Plan → Treated
taken_by s message kind deed it =
    treated_by s message (handle_for kind message s.inlet) (inlet_after kind deed message s.inlet) it (eyes_in it.filling.file.number (note_for deed message s.inlet))

module _ (P : Treated → Type 0) (tables : Tables) (s : Sending) (each : (message : List ℕ) (kind : Option HandleKind) (deed : Deed) (it : Plan) → P (taken_by s message kind deed it)) where
  by_refusal : (refusal : Option Refusal) (it : Treated) → P it → OnTaken P (unless_refused s.taken refusal it)
  by_refusal None it h = h
  by_refusal (Some refusal) it h = tt

  by_plan : (message : List ℕ) (kind : Option HandleKind) (deed : Deed) (planned : Result Plan Refusal)
      → OnTaken P (turn_planned s message (handle_for kind message s.inlet) (inlet_after kind deed message s.inlet) deed planned)
  by_plan message kind deed (Ok it) =
      by_refusal (note_refusal it (map (λ eye. eye.words) (eyes_in it.filling.file.number (note_for deed message s.inlet)))) (taken_by s message kind deed it) (each message kind deed it)
  by_plan message kind deed (Err refusal) = tt

  by_step : (message : List ℕ) (told : Result Admission ObjectFault) → OnTaken P (turn_step tables s message told)
  by_step message (Ok done) =
      let kind = kind_carried (own_way tables.handles.side) done.passed in
      by_plan message kind (deed_of (own_way tables.handles.side) done.passed) (plan_passed tables s.shm message (handle_for kind message s.inlet) done)
  by_step message (Err fault) = tt

  by_front : (front : Result (Option (List ℕ)) WireFault) → OnTaken P (turn_front tables s front)
  by_front (Ok None) = tt
  by_front (Ok (Some message)) = by_step message (step (own_way tables.handles.side) tables.objects.tracked message)
  by_front (Err fault) = tt

  by_owes : (owes : Option Owed) → OnTaken P (turn_unless owes (turn_front tables s (first s.inlet.bytes)))
  by_owes None = by_front (first s.inlet.bytes)
  by_owes (Some owed) = tt

  pub each_taken : OnTaken P (turn tables s)
  unfolding turn
  each_taken = by_owes s.owes

-- nothing is taken while a message is owed
pub owing_idle : (tables : Tables) (s : Sending) (owes : Option Owed) → s.owes ≡ owes → (owes ≡ None → ⊥) → turn tables s ≡ Idle
unfolding turn
owing_idle tables s None e some = absurd (some refl)
owing_idle tables s (Some owed) e some = ap (λ (it : Option Owed). turn_unless it (turn_front tables s (first s.inlet.bytes))) e
