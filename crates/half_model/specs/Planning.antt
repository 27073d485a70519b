-- What taking a message of a side's own peer comes to: the cause to refuse it, or the frames that
-- go before its blocks, the blocks that it fills, and what it leaves. The messages are Wayland's;
-- handles, frames and limits are this project's own.
use Rattle.std.specs.Prelude.{ℕ, ◌+◌, ◌-◌, nat_lt, max, Bool, ◌&&◌, if◌then◌else◌, List, [], ◌∷◌}
use Rattle.std.specs.Prelude.{◌++◌, Option, Some, None, Result, Ok, Err}
use Rattle.wp_outside.specs.declared.kinds.HandleKind.{HandleKind}
use Rattle.wp_outside.specs.declared.kinds.HandleKind.TheVariants.{PipeWrite}
use Rattle.wp_outside.specs.declared.kinds.Side.{Side}
use Rattle.wp_outside.specs.declared.kinds.Side.TheVariants.{Near, Far}
use Rattle.wl_wire.specs.declared.faults.ObjectFault.{ObjectFault}
use Rattle.wl_wire.specs.Wire.{object_of}
use Rattle.wl_tables.specs.Messages.{handle_kind}
use Rattle.wl_tables.specs.declared.way.Way.{Way}
use Rattle.wl_objects.specs.declared.passed.Passed.{Passed}
use Rattle.wl_objects.specs.Entries.{Tracked}
use Rattle.wl_objects.specs.Registry.{ObjectsState, View, view}
use Rattle.wl_objects.specs.Tracking.{Admission, step}
use Rattle.wl_tables.specs.Ways.{is_event}
use Rattle.handle_table.specs.declared.handles.Handle.{Handle}
use Rattle.handle_table.specs.Table.{Table, after_pass, is_kind}
use Rattle.transfer_frames.specs.declared.frame.Frame.{Frame}
use Rattle.transfer_frames.specs.declared.frame.Frame.TheVariants.{Inject, OpenFile, ExtendFile}
use Rattle.transfer_frames.specs.declared.frame.Frame.TheVariants.{OpenPipe}
use Rattle.half_model.specs.declared.causes.Limit.{Limit}
use Rattle.half_model.specs.declared.causes.Limit.TheVariants as limits
use Rattle.half_model.specs.declared.causes.PeerCause.{PeerCause}
use Rattle.half_model.specs.declared.causes.PeerCause.TheVariants.{Object, HandleMissing}
use Rattle.half_model.specs.declared.causes.PeerCause.TheVariants.{HandleKind as WrongHandle}
use Rattle.half_model.specs.Deeds.{deed_of}
use Rattle.pipe_relay.specs.Pipes.{PipesState, with_own}
use Rattle.half_model.specs.Shm.{ShmState, Passing, Tell, passing_of, told_at, told_by, grows}
use Rattle.half_model.specs.Shm.{after_tell}
use Rattle.half_model.specs.Showing.{Filling, filling_of, after_deed}
use Rattle.half_model.specs.Sides.{is_own}
use Rattle.wl_tables.specs.Ways.{own_way}
use Rattle.mirror_pools.specs.Sizes.{ToldSizes, MOST_FILE, MOST_FILES, total}
use Rattle.half_model.specs.Tables.{Tables}

-- why a message is refused: by the peer's cause, by a limit, or since no rid is left, which is want
-- of memory
pub data Refusal : Type 0 where
  ByCause : PeerCause → Refusal
  ByLimit : Limit → Refusal
  NoRid : Refusal

-- goes on where nothing is refused
abbrev pub unless : {X : Type 0} → Option Refusal → Result X Refusal → Result X Refusal
unless None next = next
unless (Some refusal) next = Err refusal

-- goes on where tracking lets a message pass
abbrev pub tracked_then : {X : Type 0} → Result Admission ObjectFault
    → (Admission → Result X Refusal) → Result X Refusal
tracked_then (Ok done) next = next done
tracked_then (Err fault) next = Err (ByCause (Object fault))

-- ---- the handle

-- the kind of the handle that a message carries, by its row of the protocol's table
abbrev pub kind_carried : Way → Passed → Option HandleKind
kind_carried way it = handle_kind it.interface (is_event way) it.opcode

-- the message has just the handle that its row wants: of that kind, and the peer's own
abbrev pub handle_refusal : Side → Option HandleKind → Option Handle → Option Refusal
handle_refusal side None None = None
handle_refusal side None (Some handle) = Some (ByCause WrongHandle)
handle_refusal side (Some kind) None = Some (ByCause HandleMissing)
handle_refusal side (Some kind) (Some handle) =
    if is_kind handle.kind kind && is_own side handle.number then None
    else Some (ByCause WrongHandle)

abbrev pub passed_with : Option Handle → Table → Table
passed_with None handles = handles
passed_with (Some handle) handles = after_pass handles handle

abbrev pub found_then : {X : Type 0} → Option Passing → (Option Passing → Result X Refusal)
    → Result X Refusal
found_then None next = Err NoRid
found_then (Some it) next = next (Some it)

-- goes on with the rid of the handle, if there is a handle
abbrev pub passing_then : {X : Type 0} → Table → Option Handle → (Option Passing → Result X Refusal)
    → Result X Refusal
passing_then handles None next = next None
passing_then handles (Some handle) next = found_then (passing_of handles handle) next

-- ---- the limits

-- the sum of the told sizes, with a size that was said in the place of the one before where it is
-- greater
abbrev pub sum_with : Tell → ToldSizes → ℕ
sum_with tell told =
    total told - told_at tell.file.rid told + max (told_at tell.file.rid told) tell.size

abbrev pub limit_refusal : Option Tell → ToldSizes → Option Refusal
limit_refusal None told = None
limit_refusal (Some tell) told =
    if nat_lt MOST_FILE (max (told_at tell.file.rid told) tell.size)
    then Some (ByLimit limits.File) else
    if nat_lt MOST_FILES (sum_with tell told) then Some (ByLimit limits.Files) else None

-- ---- the frames before the filled blocks

-- a file that is passed for the first time is opened, and one that was passed before grows where
-- its told size does
abbrev pub size_frame : Tell → Frame
size_frame tell =
    if tell.is_new then OpenFile tell.file.rid tell.size else ExtendFile tell.file.rid tell.size

abbrev pub sized_by : Option Tell → ToldSizes → List Frame
sized_by None told = []
sized_by (Some tell) told = if grows tell told then size_frame tell ∷ [] else []

-- a pipe's end that is passed for the first time
abbrev pub is_new_pipe : Passing → Bool
is_new_pipe it = is_kind it.handle.kind PipeWrite && it.is_new

abbrev pub pipe_opened : Option Passing → List Frame
pipe_opened None = []
pipe_opened (Some it) = if is_new_pipe it then OpenPipe it.rid ∷ [] else []

abbrev pub with_pipe : Option Passing → PipesState → PipesState
with_pipe None pipes = pipes
with_pipe (Some it) pipes = if is_new_pipe it then with_own it.rid pipes else pipes

abbrev pub injected : Option Passing → List Frame
injected None = []
injected (Some it) = Inject (it.rid ∷ []) ∷ []

-- ---- what is shown

-- the far side shows the compositor's events as the registry view has them
abbrev pub seen_from : Side → ObjectsState → List ℕ → View
seen_from Near objects message = record { shown = Some message; hidden = objects.hidden }
seen_from Far objects message = view objects message

-- ---- all of it

-- what a message comes to that is not refused
pub record Plan : Type 0 where
  -- what it leaves
  pub tables : Tables
  pub shm : ShmState
  -- the frames before its filled blocks, these blocks, and the message as the other side is to have
  -- it, if it is
  pub before : List Frame
  pub filling : Filling
  pub shown : Option (List ℕ)

abbrev pub objects_after : Tracked → View → ObjectsState
objects_after tracked seen = record { tracked = tracked; hidden = seen.hidden }

abbrev pub tables_after : Tables → ObjectsState → Option Handle → Option Passing → Tables
tables_after tables objects handle passing =
    record {
      objects = objects;
      handles = passed_with handle tables.handles;
      pipes = with_pipe passing tables.pipes;
    }

-- a message that tracking lets pass, with the size that it tells
abbrev pub plan_with : Tables → ShmState → List ℕ → Option Handle → Admission → Option Passing
    → Option Tell → View → Plan
plan_with tables shm message handle done passing tell seen =
    let way = own_way tables.handles.side in
    let deed = deed_of way done.passed in
    let told = record shm { told = after_tell tell shm.told } in
    record {
      tables = tables_after tables (objects_after done.objects seen) handle passing;
      shm = after_deed done.objects (object_of message) deed passing told;
      before = pipe_opened passing ++ (sized_by tell shm.told ++ injected passing);
      filling = filling_of done.objects (object_of message) deed passing told;
      shown = seen.shown;
    }

abbrev pub tell_in : Tables → ShmState → List ℕ → Admission → Option Passing → Option Tell
tell_in tables shm message done passing =
    told_by shm (object_of message) (deed_of (own_way tables.handles.side) done.passed) passing

abbrev pub seen_in : Tables → List ℕ → Admission → View
seen_in tables message done =
    seen_from tables.handles.side
    (record { tracked = done.objects; hidden = tables.objects.hidden }) message

-- the causes in their order: tracking, the handle, the limits
abbrev pub plan_passing : Tables → ShmState → List ℕ → Option Handle → Admission → Option Passing
    → Result Plan Refusal
plan_passing tables shm message handle done passing =
    let tell = tell_in tables shm message done passing in
    unless (limit_refusal tell shm.told)
    (Ok (plan_with tables shm message handle done passing tell (seen_in tables message done)))

abbrev pub plan_passed : Tables → ShmState → List ℕ → Option Handle → Admission
    → Result Plan Refusal
plan_passed tables shm message handle done =
    unless (handle_refusal tables.handles.side
    (kind_carried (own_way tables.handles.side) done.passed) handle)
    (passing_then tables.handles handle (plan_passing tables shm message handle done))

abbrev pub plan : Tables → ShmState → List ℕ → Option Handle → Result Plan Refusal
plan tables shm message handle =
    tracked_then (step (own_way tables.handles.side) tables.objects.tracked message)
    (plan_passed tables shm message handle)
