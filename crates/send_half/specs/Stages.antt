-- What the front of the bytes comes to, stage by stage: each stage speaks of what the stage before
-- it left. All of them together are the turn of a sending half. This project's own.
use Rattle.std.specs.Prelude.{ℕ, List, Option, Some, None, Result, Ok, Err}
use Rattle.wl_wire.specs.declared.faults.ObjectFault.{ObjectFault}
use Rattle.wl_tables.specs.Ways.{own_way}
use Rattle.wl_objects.specs.declared.passed.Passed.{Passed}
use Rattle.wl_objects.specs.Entries.{Tracked}
use Rattle.wl_objects.specs.Tracking.{Admission}
use Rattle.handle_table.specs.declared.handles.Handle.{Handle}
use Rattle.shm_pools.specs.declared.notes.Note.{Note}
use Rattle.wp_outside.specs.declared.kinds.HandleKind.{HandleKind}
use Rattle.transfer_frames.specs.declared.frame.Frame.{Frame}
use Rattle.half_model.specs.declared.causes.HalfFault.TheVariants as faults
use Rattle.half_model.specs.declared.causes.PeerCause.TheVariants.{Object}
use Rattle.half_model.specs.declared.deeds.Deed.{Deed}
use Rattle.half_model.specs.declared.deeds.Deed.TheVariants.{Commit, Keymap}
use Rattle.half_model.specs.Deeds.{deed_of}
use Rattle.half_model.specs.Inlet.{Inlet, ready, without_ready, eyes_in}
use Rattle.half_model.specs.Planning.{Plan, Refusal, handle_refusal, kind_carried, limit_refusal}
use Rattle.half_model.specs.Planning.{plan_with, tell_in, seen_in, passed_with, with_pipe}
use Rattle.half_model.specs.Shm.{Passing, passing_of}
use Rattle.half_model.specs.Showing.{Filling}
use Rattle.half_model.specs.Tables.{Tables}
use Rattle.half_model.specs.Turn.{Sending, Turn, Refuses, fault_of, turn_eyes}
use Rattle.send_half.specs.Treating.{front_taken}

-- ---- what a message uses, where it was taken out of the bytes

abbrev pub handle_in : Option HandleKind → Inlet → Option Handle
handle_in None inlet = None
handle_in (Some kind) inlet = ready inlet.taken inlet.handles

abbrev pub without_handle : Option HandleKind → Inlet → Inlet
without_handle None inlet = inlet
without_handle (Some kind) inlet =
    record inlet { handles = without_ready inlet.taken inlet.handles }

abbrev pub note_in : Deed → Inlet → Option Note
note_in Commit inlet = ready inlet.taken inlet.notes
note_in (Keymap size) inlet = ready inlet.taken inlet.notes
note_in deed inlet = None

abbrev pub used_note : Inlet → Inlet
used_note inlet = record inlet { notes = without_ready inlet.taken inlet.notes }

abbrev pub without_note : Deed → Inlet → Inlet
without_note Commit inlet = used_note inlet
without_note (Keymap size) inlet = used_note inlet
without_note deed inlet = inlet

abbrev pub with_inlet : Inlet → Sending → Sending
with_inlet inlet s = record s { inlet = inlet }

-- ---- the stages, the last one first

-- refused for this, or what comes next
abbrev pub turn_checked : Sending → Option Refusal → Turn → Turn
turn_checked s None next = next
turn_checked s (Some refusal) next = Refuses (fault_of s.taken refusal)

-- the plan of a message whose deed is done: its frames before the blocks, these blocks, and what is
-- shown of it
abbrev pub plan_done : Tables → Sending → Option Handle → Option Passing → List Frame → Filling
    → Option (List ℕ) → Plan
plan_done tables s handle passing before filling shown = record {
  tables = record {
    objects = tables.objects;
    handles = passed_with handle tables.handles;
    pipes = with_pipe passing tables.pipes;
  };
  shm = s.shm;
  before = before;
  filling = filling;
  shown = shown;
}

-- a message whose deed is done, with its note
unfoldable pub turn_done : Tables → Sending → List ℕ → Option Handle → Option Passing → Option Note
    → List Frame → Filling → Option (List ℕ) → Turn
turn_done tables s message handle passing note before filling shown =
    turn_eyes s message handle s.inlet (plan_done tables s handle passing before filling shown)
    (eyes_in filling.file.number note)

-- a message that is planned, with its note
abbrev pub turn_noted : Sending → List ℕ → Option Handle → Deed → Plan → Turn
turn_noted s message handle deed it =
    turn_eyes s message handle (without_note deed s.inlet) it
    (eyes_in it.filling.file.number (note_in deed s.inlet))

-- a message whose handle has a rid
unfoldable pub turn_passing : Tables → Sending → List ℕ → Admission → Option Handle
    → Option Passing → Turn
turn_passing tables s message done handle passing =
    let tell = tell_in tables s.shm message done passing in
    turn_checked s (limit_refusal tell s.shm.told)
    (turn_noted s message handle (deed_of (own_way tables.handles.side) done.passed)
    (plan_with tables s.shm message handle done passing tell (seen_in tables message done)))

abbrev pub turn_found : Tables → Sending → List ℕ → Admission → Handle → Option Passing → Turn
turn_found tables s message done handle None = Refuses faults.Memory
turn_found tables s message done handle (Some it) =
    turn_passing tables s message done (Some handle) (Some it)

-- a message with its handle, which passed the tests
abbrev pub turn_handled : Tables → Sending → List ℕ → Admission → Option Handle → Turn
turn_handled tables s message done None = turn_passing tables s message done None None
turn_handled tables s message done (Some handle) =
    turn_found tables s message done handle (passing_of tables.handles handle)

-- a message that tracking let pass, with the kind of the handle that its row wants
abbrev pub turn_kind : Tables → Sending → List ℕ → Admission → Option HandleKind → Turn
turn_kind tables s message done kind =
    turn_checked s (handle_refusal tables.handles.side kind (handle_in kind s.inlet))
    (turn_handled tables (with_inlet (without_handle kind s.inlet) s) message done
    (handle_in kind s.inlet))

unfoldable pub turn_passed : Tables → Sending → List ℕ → Admission → Turn
turn_passed tables s message done =
    turn_kind tables s message done (kind_carried (own_way tables.handles.side) done.passed)

-- a message that was taken out of the bytes
abbrev pub turn_taken : Tables → Sending → List ℕ → Result Admission ObjectFault → Turn
turn_taken tables s message (Ok done) = turn_passed tables s message done
turn_taken tables s message (Err fault) = Refuses (faults.Peer s.taken (Object fault))

-- the half without the message at the front of the bytes
abbrev pub taken_out : List ℕ → Sending → Sending
taken_out message s = with_inlet (front_taken (Some message) s.inlet) s

-- a message that tracking let pass, with the objects behind it
abbrev pub admission : Passed → Tracked → Admission
admission passed objects = record { passed = passed; objects = objects }
