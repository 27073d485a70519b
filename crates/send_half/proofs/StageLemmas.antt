-- The stages together are the turn of a sending half: what the front of the bytes comes to is what the message comes to that was taken out of them.
use Rattle.std.proofs.Common.{◌≡◌, List, ℕ, Option, Some, None, Result, Ok, Err, refl, ap, ◌∙◌}
use Rattle.wl_wire.specs.declared.faults.ObjectFault.{ObjectFault}
use Rattle.wl_tables.specs.Ways.{own_way}
use Rattle.wl_objects.specs.Tracking.{Admission}
use Rattle.handle_table.specs.declared.handles.Handle.{Handle}
use Rattle.shm_pools.specs.declared.notes.Note.{Note}
use Rattle.wp_outside.specs.declared.kinds.HandleKind.{HandleKind}
use Rattle.half_model.specs.declared.deeds.Deed.{Deed}
use Rattle.half_model.specs.declared.deeds.Deed.TheVariants as deeds
use Rattle.half_model.specs.Deeds.{deed_of}
use Rattle.half_model.specs.Inlet.{Inlet, handle_for, note_for, inlet_after, eyes_in}
use Rattle.half_model.specs.Planning.{Plan, Refusal, unless, passing_then, found_then, plan_passing, plan_with, tell_in, seen_in, handle_refusal, kind_carried, limit_refusal}
use Rattle.half_model.specs.Shm.{Passing, passing_of}
use Rattle.half_model.specs.Tables.{Tables}
use Rattle.half_model.specs.Turn.{Sending, Turn, turn_planned, turn_step, turn_eyes}
use Rattle.send_half.specs.Stages.{handle_in, without_handle, note_in, without_note, with_inlet, turn_checked, turn_noted, turn_passing, turn_found, turn_handled, turn_kind, turn_passed, turn_taken, taken_out}
use Rattle.send_half.specs.Treating.{front_taken}

-- ---- what a message uses

inlet_is : (kind : Option HandleKind) (deed : Deed) (m : List ℕ) (inlet : Inlet)
    → inlet_after kind deed m inlet ≡ without_note deed (without_handle kind (front_taken (Some m) inlet))
inlet_is None deed m inlet = by deed
  where
    by : (deed : Deed) → inlet_after None deed m inlet ≡ without_note deed (front_taken (Some m) inlet)
    by (deeds.MakePool pool size) = refl
    by (deeds.Resize size) = refl
    by (deeds.MakeBuffer buffer shape) = refl
    by (deeds.MakeSurface surface) = refl
    by deeds.EndSurface = refl
    by (deeds.Attach buffer) = refl
    by (deeds.DamageSurface rect) = refl
    by (deeds.DamageBuffer rect) = refl
    by (deeds.Scale scale) = refl
    by (deeds.Transform transform) = refl
    by deeds.Commit = refl
    by (deeds.Keymap size) = refl
    by deeds.Other = refl
inlet_is (Some kind) deed m inlet = by deed
  where
    by : (deed : Deed) → inlet_after (Some kind) deed m inlet ≡ without_note deed (without_handle (Some kind) (front_taken (Some m) inlet))
    by (deeds.MakePool pool size) = refl
    by (deeds.Resize size) = refl
    by (deeds.MakeBuffer buffer shape) = refl
    by (deeds.MakeSurface surface) = refl
    by deeds.EndSurface = refl
    by (deeds.Attach buffer) = refl
    by (deeds.DamageSurface rect) = refl
    by (deeds.DamageBuffer rect) = refl
    by (deeds.Scale scale) = refl
    by (deeds.Transform transform) = refl
    by deeds.Commit = refl
    by (deeds.Keymap size) = refl
    by deeds.Other = refl

note_is : (kind : Option HandleKind) (deed : Deed) (m : List ℕ) (inlet : Inlet)
    → note_for deed m inlet ≡ note_in deed (without_handle kind (front_taken (Some m) inlet))
note_is None deed m inlet = by deed
  where
    by : (deed : Deed) → note_for deed m inlet ≡ note_in deed (front_taken (Some m) inlet)
    by (deeds.MakePool pool size) = refl
    by (deeds.Resize size) = refl
    by (deeds.MakeBuffer buffer shape) = refl
    by (deeds.MakeSurface surface) = refl
    by deeds.EndSurface = refl
    by (deeds.Attach buffer) = refl
    by (deeds.DamageSurface rect) = refl
    by (deeds.DamageBuffer rect) = refl
    by (deeds.Scale scale) = refl
    by (deeds.Transform transform) = refl
    by deeds.Commit = refl
    by (deeds.Keymap size) = refl
    by deeds.Other = refl
note_is (Some kind) deed m inlet = by deed
  where
    by : (deed : Deed) → note_for deed m inlet ≡ note_in deed (without_handle (Some kind) (front_taken (Some m) inlet))
    by (deeds.MakePool pool size) = refl
    by (deeds.Resize size) = refl
    by (deeds.MakeBuffer buffer shape) = refl
    by (deeds.MakeSurface surface) = refl
    by deeds.EndSurface = refl
    by (deeds.Attach buffer) = refl
    by (deeds.DamageSurface rect) = refl
    by (deeds.DamageBuffer rect) = refl
    by (deeds.Scale scale) = refl
    by (deeds.Transform transform) = refl
    by deeds.Commit = refl
    by (deeds.Keymap size) = refl
    by deeds.Other = refl

handle_is : (kind : Option HandleKind) (m : List ℕ) (inlet : Inlet) → handle_for kind m inlet ≡ handle_in kind (front_taken (Some m) inlet)
handle_is None m inlet = refl
handle_is (Some kind) m inlet = refl

-- ---- the stages

-- a message that is planned, with what it uses
abbrev planned : Sending → List ℕ → Option Handle → Inlet → Option Note → Plan → Turn
planned s m handle inlet note it = turn_eyes s m handle inlet it (eyes_in it.filling.file.number note)

limited : (tables : Tables) (s : Sending) (m : List ℕ) (done : Admission) (kind : Option HandleKind) (handle : Option Handle) (passing : Option Passing)
    (limit : Option Refusal) (it : Plan)
    → turn_planned s m handle (inlet_after kind (deed_of (own_way tables.handles.side) done.passed) m s.inlet) (deed_of (own_way tables.handles.side) done.passed) (unless limit (Ok it))
    ≡ turn_checked (with_inlet (without_handle kind (front_taken (Some m) s.inlet)) s) limit
    (turn_noted (with_inlet (without_handle kind (front_taken (Some m) s.inlet)) s) m handle (deed_of (own_way tables.handles.side) done.passed) it)
limited tables s m done kind handle passing None it =
    let deed : Deed = deed_of (own_way tables.handles.side) done.passed in
    ap (λ (note : Option Note). planned s m handle (inlet_after kind deed m s.inlet) note it) (note_is kind deed m s.inlet)
    ∙ ap (λ (inlet : Inlet). planned s m handle inlet (note_in deed (without_handle kind (front_taken (Some m) s.inlet))) it) (inlet_is kind deed m s.inlet)
limited tables s m done kind handle passing (Some refusal) it = refl

passing_is : (tables : Tables) (s : Sending) (m : List ℕ) (done : Admission) (kind : Option HandleKind) (handle : Option Handle) (passing : Option Passing)
    → turn_planned s m handle (inlet_after kind (deed_of (own_way tables.handles.side) done.passed) m s.inlet) (deed_of (own_way tables.handles.side) done.passed)
    (plan_passing tables s.shm m handle done passing)
    ≡ turn_passing tables (with_inlet (without_handle kind (front_taken (Some m) s.inlet)) s) m done handle passing
unfolding turn_passing
passing_is tables s m done kind handle passing =
    let tell = tell_in tables s.shm m done passing in
    limited tables s m done kind handle passing (limit_refusal tell s.shm.told)
    (plan_with tables s.shm m handle done passing tell (seen_in tables m done))

found_is : (tables : Tables) (s : Sending) (m : List ℕ) (done : Admission) (kind : Option HandleKind) (handle : Handle) (passing : Option Passing)
    → turn_planned s m (Some handle) (inlet_after kind (deed_of (own_way tables.handles.side) done.passed) m s.inlet) (deed_of (own_way tables.handles.side) done.passed)
    (found_then passing (plan_passing tables s.shm m (Some handle) done))
    ≡ turn_found tables (with_inlet (without_handle kind (front_taken (Some m) s.inlet)) s) m done handle passing
found_is tables s m done kind handle None = refl
found_is tables s m done kind handle (Some it) = passing_is tables s m done kind (Some handle) (Some it)

handled_is : (tables : Tables) (s : Sending) (m : List ℕ) (done : Admission) (kind : Option HandleKind) (handle : Option Handle)
    → turn_planned s m handle (inlet_after kind (deed_of (own_way tables.handles.side) done.passed) m s.inlet) (deed_of (own_way tables.handles.side) done.passed)
    (passing_then tables.handles handle (plan_passing tables s.shm m handle done))
    ≡ turn_handled tables (with_inlet (without_handle kind (front_taken (Some m) s.inlet)) s) m done handle
handled_is tables s m done kind None = passing_is tables s m done kind None None
handled_is tables s m done kind (Some handle) = found_is tables s m done kind handle (passing_of tables.handles handle)

checked_is : (tables : Tables) (s : Sending) (m : List ℕ) (done : Admission) (kind : Option HandleKind) (handle : Option Handle) (refusal : Option Refusal)
    → turn_planned s m handle (inlet_after kind (deed_of (own_way tables.handles.side) done.passed) m s.inlet) (deed_of (own_way tables.handles.side) done.passed)
    (unless refusal (passing_then tables.handles handle (plan_passing tables s.shm m handle done)))
    ≡ turn_checked (taken_out m s) refusal (turn_handled tables (with_inlet (without_handle kind (front_taken (Some m) s.inlet)) s) m done handle)
checked_is tables s m done kind handle None = handled_is tables s m done kind handle
checked_is tables s m done kind handle (Some refusal) = refl

kind_is : (tables : Tables) (s : Sending) (m : List ℕ) (done : Admission) (kind : Option HandleKind)
    → turn_planned s m (handle_for kind m s.inlet) (inlet_after kind (deed_of (own_way tables.handles.side) done.passed) m s.inlet) (deed_of (own_way tables.handles.side) done.passed)
    (unless (handle_refusal tables.handles.side kind (handle_for kind m s.inlet))
    (passing_then tables.handles (handle_for kind m s.inlet) (plan_passing tables s.shm m (handle_for kind m s.inlet) done)))
    ≡ turn_kind tables (taken_out m s) m done kind
kind_is tables s m done None = checked_is tables s m done None None (handle_refusal tables.handles.side None None)
kind_is tables s m done (Some kind) =
    checked_is tables s m done (Some kind) (handle_for (Some kind) m s.inlet) (handle_refusal tables.handles.side (Some kind) (handle_for (Some kind) m s.inlet))

-- what the front of the bytes comes to
pub stages_are : (tables : Tables) (s : Sending) (m : List ℕ) (found : Result Admission ObjectFault)
    → turn_step tables s m found ≡ turn_taken tables (taken_out m s) m found
unfolding turn_passed
stages_are tables s m (Ok done) = kind_is tables s m done (kind_carried (own_way tables.handles.side) done.passed)
stages_are tables s m (Err fault) = refl
