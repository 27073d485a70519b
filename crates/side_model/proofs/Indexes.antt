-- A message of the peer that is refused has the index behind those that were taken.
use Rattle.std.proofs.Common.{◌≡◌, ℕ, List, map, Option, Some, None, Result, Ok, Err, refl, subst}
use Rattle.handle_table.specs.declared.handles.Handle.{Handle}
use Rattle.pool_words.specs.Views.{EyeState}
use Rattle.wl_objects.specs.Tracking.{Admission}
use Rattle.wl_objects.specs.Tracking as tracking
use Rattle.wl_wire.specs.declared.faults.ObjectFault.{ObjectFault}
use Rattle.wl_wire.specs.declared.faults.WireFault.{WireFault}
use Rattle.wl_wire.specs.Wire.{first}
use Rattle.half_model.specs.declared.causes.HalfFault.{HalfFault}
use Rattle.half_model.specs.declared.causes.HalfFault.TheVariants as halves
use Rattle.half_model.specs.declared.deeds.Deed.{Deed}
use Rattle.half_model.specs.Deeds.{deed_of}
use Rattle.half_model.specs.Group.{Owed, note_refusal}
use Rattle.half_model.specs.Inlet.{Inlet, handle_for, note_for, inlet_after, eyes_in}
use Rattle.half_model.specs.Planning.{Plan, Refusal, ByCause, ByLimit, NoRid, kind_carried, plan_passed}
use Rattle.wl_tables.specs.Ways.{own_way}
use Rattle.half_model.specs.Tables.{Tables}
use Rattle.half_model.specs.Turn as turns
use Rattle.half_model.specs.Turn.{Turn, turn, turn_unless, turn_front, turn_step, turn_planned, unless_refused, treated_by, Sending, Treated}

-- where so many were taken
abbrev pub HasIndex : ℕ → HalfFault → Type 0
HasIndex taken (halves.Peer index cause) = index ≡ taken
HasIndex taken (halves.Limit which) = Unit {0}
HasIndex taken halves.Memory = Unit {0}

by_refusal : (taken : ℕ) (refusal : Refusal) → HasIndex taken (turns.fault_of taken refusal)
by_refusal taken (ByCause cause) = refl
by_refusal taken (ByLimit which) = tt
by_refusal taken NoRid = tt

same_fault : (one other : HalfFault) → turns.Refuses one ≡ turns.Refuses other → one ≡ other
same_fault one other e = cc

refused_by : (taken : ℕ) (one other : HalfFault) → HasIndex taken one → turns.Refuses one ≡ turns.Refuses other → HasIndex taken other
refused_by taken one other h e = subst (λ (x : HalfFault). HasIndex taken x) (same_fault one other e) h

eyes_refused : (taken : ℕ) (refusal : Option Refusal) (treated : Treated) (fault : HalfFault) → unless_refused taken refusal treated ≡ turns.Refuses fault → HasIndex taken fault
eyes_refused taken None treated fault e = absurd cc
eyes_refused taken (Some refusal) treated fault e = refused_by taken (turns.fault_of taken refusal) fault (by_refusal taken refusal) e

plan_refused : (s : Sending) (message : List ℕ) (handle : Option Handle) (inlet : Inlet) (deed : Deed) (plan : Result Plan Refusal) (fault : HalfFault)
    → turn_planned s message handle inlet deed plan ≡ turns.Refuses fault → HasIndex s.taken fault
plan_refused s message handle inlet deed (Ok plan) fault e =
    let eyes : List EyeState = eyes_in plan.filling.file.number (note_for deed message s.inlet) in
    eyes_refused s.taken (note_refusal plan (map (λ eye. eye.words) eyes)) (treated_by s message handle inlet plan eyes) fault e
plan_refused s message handle inlet deed (Err refusal) fault e = refused_by s.taken (turns.fault_of s.taken refusal) fault (by_refusal s.taken refusal) e

step_refused : (tables : Tables) (s : Sending) (message : List ℕ) (done : Result Admission ObjectFault) (fault : HalfFault) → turn_step tables s message done ≡ turns.Refuses fault → HasIndex s.taken fault
step_refused tables s message (Ok done) fault e =
    let way = own_way tables.handles.side in
    let kind = kind_carried way done.passed in
    let deed : Deed = deed_of way done.passed in
    plan_refused s message (handle_for kind message s.inlet) (inlet_after kind deed message s.inlet) deed (plan_passed tables s.shm message (handle_for kind message s.inlet) done) fault e
step_refused tables s message (Err cause) fault e = refused_by s.taken _ fault refl e

front_refused : (tables : Tables) (s : Sending) (read : Result (Option (List ℕ)) WireFault) (fault : HalfFault) → turn_front tables s read ≡ turns.Refuses fault → HasIndex s.taken fault
front_refused tables s (Ok None) fault e = absurd cc
front_refused tables s (Ok (Some message)) fault e = step_refused tables s message (tracking.step (own_way tables.handles.side) tables.objects.tracked message) fault e
front_refused tables s (Err cause) fault e = refused_by s.taken _ fault refl e

unless_owed : (owes : Option Owed) (it : Turn) (fault : HalfFault) → turn_unless owes it ≡ turns.Refuses fault → it ≡ turns.Refuses fault
unless_owed None it fault e = e
unless_owed (Some owed) it fault e = absurd cc

pub refused_index : (tables : Tables) (s : Sending) (fault : HalfFault) → turn tables s ≡ turns.Refuses fault → HasIndex s.taken fault
unfolding turn
refused_index tables s fault e = front_refused tables s (first s.inlet.bytes) fault (unless_owed s.owes (turn_front tables s (first s.inlet.bytes)) fault e)
