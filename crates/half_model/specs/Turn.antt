-- What the bytes, handles and notes that wait in a sending half come to next: a message that is
-- taken, with the copies that it waits for, or the fault of a message that is refused. This
-- project's own; the causes of a bad size are those of the Wayland wire format.
use Rattle.std.specs.Prelude.{ℕ, ◌+◌, Bool, true, false, if◌then◌else◌, List, length, map, Option}
use Rattle.std.specs.Prelude.{Some, None, Result, Ok, Err}
use Rattle.wl_wire.specs.declared.faults.ObjectFault.TheVariants.{Wire}
use Rattle.wl_wire.specs.declared.faults.ObjectFault.{ObjectFault}
use Rattle.wl_wire.specs.declared.faults.WireFault.{WireFault}
use Rattle.wl_wire.specs.Wire.{first}
use Rattle.wl_objects.specs.Tracking.{Admission, step}
use Rattle.handle_table.specs.declared.handles.Handle.{Handle}
use Rattle.pool_words.specs.Views.{EyeState}
use Rattle.transfer_frames.specs.declared.frame.Frame.{Frame}
use Rattle.half_model.specs.declared.causes.HalfFault.{HalfFault}
use Rattle.half_model.specs.declared.causes.HalfFault.TheVariants as faults
use Rattle.half_model.specs.declared.causes.PeerCause.TheVariants.{Object}
use Rattle.half_model.specs.declared.deeds.Deed.{Deed}
use Rattle.half_model.specs.declared.items.FileReceipt.{FileReceipt}
use Rattle.half_model.specs.declared.notes.CopyRecord.{CopyRecord}
use Rattle.half_model.specs.Deeds.{deed_of}
use Rattle.half_model.specs.Filling.{parts_of, words_bytes}
use Rattle.half_model.specs.Group.{Owed, owed_by, frames_of, words_in, note_refusal}
use Rattle.half_model.specs.Inlet.{Inlet, no_inlet, handle_for, note_for, inlet_after, eyes_in}
use Rattle.half_model.specs.Jobs.{Job, jobs_of, all_back, copies_of, receipts_of}
use Rattle.half_model.specs.Planning.{Plan, Refusal, ByCause, ByLimit, NoRid, kind_carried}
use Rattle.half_model.specs.Planning.{plan_passed}
use Rattle.half_model.specs.Shm.{ShmState, no_shm}
use Rattle.wl_tables.specs.Ways.{own_way}
use Rattle.half_model.specs.Tables.{Tables}

-- A sending half, but for the tables that it shares with the taking half and for its jobs: what
-- waits, what it knows of shared memory, how many messages it took, the number of its next job, and
-- what it owes for the last message.
pub record Sending : Type 0 where
  pub inlet : Inlet
  pub shm : ShmState
  pub taken : ℕ
  pub next_job : ℕ
  pub owes : Option Owed

abbrev pub no_sending : Sending
no_sending = record { inlet = no_inlet; shm = no_shm; taken = 0; next_job = 0; owes = None }

-- a message that is taken: what it used, and what it leaves
pub record Treated : Type 0 where
  pub message : List ℕ
  pub handle : Option Handle
  -- the words of each eye of the file whose blocks it fills
  pub segments : List ℕ
  pub tables : Tables
  pub sending : Sending
  pub jobs : List Job

-- nothing is to be treated, the peer's message is refused, or one is taken
pub data Turn : Type 0 where
  Idle : Turn
  Refuses : HalfFault → Turn
  Takes : Treated → Turn

-- the fault of a refused message
abbrev pub fault_of : ℕ → Refusal → HalfFault
fault_of index (ByCause cause) = faults.Peer index cause
fault_of index (ByLimit which) = faults.Limit which
fault_of index NoRid = faults.Memory

-- a message is refused, or taken
abbrev pub unless_refused : ℕ → Option Refusal → Treated → Turn
unless_refused index None treated = Takes treated
unless_refused index (Some refusal) treated = Refuses (fault_of index refusal)

-- a message with its handle, its plan and the eyes of the file whose blocks it fills
abbrev pub treated_by : Sending → List ℕ → Option Handle → Inlet → Plan → List EyeState → Treated
treated_by s message handle inlet it eyes =
    let segments = map (λ eye. eye.words) eyes in
    let owed = owed_by it segments in
    let jobs = jobs_of s.next_job eyes (parts_of owed.file owed.segments owed.pieces) in
    record {
      message = message;
      handle = handle;
      segments = segments;
      tables = it.tables;
      sending = record {
        inlet = inlet;
        shm = it.shm;
        taken = s.taken + 1;
        next_job = s.next_job + length jobs;
        owes = Some owed;
      };
      jobs = jobs;
    }

abbrev pub turn_eyes : Sending → List ℕ → Option Handle → Inlet → Plan → List EyeState → Turn
turn_eyes s message handle inlet it eyes =
    unless_refused s.taken (note_refusal it (map (λ eye. eye.words) eyes))
    (treated_by s message handle inlet it eyes)

-- a message that was planned, with its handle and its deed
abbrev pub turn_planned : Sending → List ℕ → Option Handle → Inlet → Deed → Result Plan Refusal
    → Turn
turn_planned s message handle inlet deed (Ok it) =
    turn_eyes s message handle inlet it
    (eyes_in it.filling.file.number (note_for deed message s.inlet))
turn_planned s message handle inlet deed (Err refusal) = Refuses (fault_of s.taken refusal)

-- a message that tracking lets pass, or not
abbrev pub turn_step : Tables → Sending → List ℕ → Result Admission ObjectFault → Turn
turn_step tables s message (Ok done) =
    let way = own_way tables.handles.side in
    let kind = kind_carried way done.passed in
    let deed = deed_of way done.passed in
    let handle = handle_for kind message s.inlet in
    turn_planned s message handle (inlet_after kind deed message s.inlet) deed
    (plan_passed tables s.shm message handle done)
turn_step tables s message (Err fault) = Refuses (faults.Peer s.taken (Object fault))

-- what stands at the front of the bytes
abbrev pub turn_front : Tables → Sending → Result (Option (List ℕ)) WireFault → Turn
turn_front tables s (Ok None) = Idle
turn_front tables s (Ok (Some message)) =
    turn_step tables s message (step (own_way tables.handles.side) tables.objects.tracked message)
turn_front tables s (Err fault) = Refuses (faults.Peer s.taken (Object (Wire fault)))

-- nothing while the group of the last message is owed
abbrev pub turn_unless : Option Owed → Turn → Turn
turn_unless None turn = turn
turn_unless (Some owed) turn = Idle

unfoldable pub turn : Tables → Sending → Turn
turn tables s = turn_unless s.owes (turn_front tables s (first s.inlet.bytes))

-- ---- the group of the last message

-- what is made once all copies are back
pub record MadeGroup : Type 0 where
  pub frames : List Frame
  pub copies : List CopyRecord
  pub receipts : List FileReceipt

abbrev pub made_of : Owed → List Job → MadeGroup
made_of owed jobs = record {
  frames = frames_of owed (words_bytes (words_in (copies_of jobs)));
  copies = copies_of jobs;
  receipts = receipts_of jobs;
}

-- the group that is due
abbrev pub group_due : Option Owed → List Job → Option MadeGroup
group_due None jobs = None
group_due (Some owed) jobs = if all_back jobs then Some (made_of owed jobs) else None

abbrev pub settled : Sending → Sending
settled s = record s { owes = None }

-- whether a whole message, or a size at fault, stands at the front of the bytes that wait
abbrev pub stands_in : Result (Option (List ℕ)) WireFault → Bool
stands_in (Ok None) = false
stands_in (Ok (Some message)) = true
stands_in (Err fault) = true

abbrev pub waits_in : Sending → Bool
waits_in s = stands_in (first s.inlet.bytes)
