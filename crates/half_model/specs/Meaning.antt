-- What the frames of the other side mean, said three times without the tables of a half: the
-- messages with their rids in the order of passing, the bytes of one mirror, and the bytes of one
-- pipe. The messages are Wayland's; rids, mirrors and frames are this project's own.
use Rattle.std.specs.Prelude.{ℕ, ◌+◌, ◌-◌, Bool, true, false, if◌then◌else◌, ℤ, List, [], ◌∷◌, ◌++◌}
use Rattle.std.specs.Prelude.{Option, Some, None, Result}
use Rattle.std.specs.Prelude.{Ok, Err}
use Rattle.std.specs.Ordering.{int_eq}
use Rattle.wp_outside.specs.declared.kinds.HandleKind.{HandleKind}
use Rattle.wp_outside.specs.declared.kinds.Side.{Side}
use Rattle.wl_wire.specs.declared.faults.ObjectFault.{ObjectFault}
use Rattle.wl_wire.specs.Wire.{cut}
use Rattle.wl_tables.specs.declared.way.Way.{Way}
use Rattle.wl_objects.specs.Entries.{Tracked, first_objects}
use Rattle.wl_objects.specs.Tracking.{Admission, step}
use Rattle.transfer_frames.specs.declared.frame.Frame.{Frame}
use Rattle.transfer_frames.specs.declared.frame.Frame.TheVariants.{Protocol, Inject}
use Rattle.transfer_frames.specs.declared.frame.Frame.TheVariants.{PipeTransfer}
use Rattle.transfer_frames.specs.declared.frame.Frame.TheVariants.{PipeShutR, PipeShutW}
use Rattle.half_model.specs.Log.{Mark, Taken, Heard}
use Rattle.half_model.specs.Planning.{kind_carried}
use Rattle.half_model.specs.Sides.{other_way}
use Rattle.wl_tables.specs.Ways.{own_way}
use Rattle.half_model.specs.Story.{Sent}

-- ---- messages

-- the objects, the rids that wait, and the messages that were given, each with the rid that it took
pub record Carried : Type 0 where
  pub tracked : Tracked
  pub waiting : List ℤ
  pub given : List Sent

abbrev pub none_carried : Carried
none_carried = record { tracked = first_objects; waiting = []; given = [] }

-- a message with the oldest rid, if one waits
abbrev pub carried_with : List ℤ → List ℕ → Carried → Carried
carried_with [] message c = record c { given = c.given ++ (message, None) ∷ [] }
carried_with (rid ∷ rids) message c =
    record { tracked = c.tracked; waiting = rids; given = c.given ++ (message, Some rid) ∷ [] }

abbrev pub carried_by_kind : Option HandleKind → List ℕ → Carried → Carried
carried_by_kind None message c = carried_with [] message c
carried_by_kind (Some kind) message c = carried_with c.waiting message c

-- a message that passes tracking
abbrev pub carried_step : Way → Result Admission ObjectFault → List ℕ → Carried → Carried
carried_step way (Err fault) message c = c
carried_step way (Ok done) message c =
    carried_by_kind (kind_carried way done.passed) message (record c { tracked = done.objects })

abbrev pub carry_messages : Way → List (List ℕ) → Carried → Carried
carry_messages way [] c = c
carry_messages way (message ∷ messages) c =
    carry_messages way messages (carried_step way (step way c.tracked message) message c)

-- a frame: INJECT gives rids to wait, PROTOCOL messages
abbrev pub carry_frame : Way → Frame → Carried → Carried
carry_frame way (Protocol bytes) c = carry_messages way (cut bytes) c
carry_frame way (Inject rids) c = record c { waiting = c.waiting ++ rids }
carry_frame way frame c = c

-- a message that the side itself takes changes the objects alone
abbrev pub carry_own : Result Admission ObjectFault → Carried → Carried
carry_own (Err fault) c = c
carry_own (Ok done) c = record c { tracked = done.objects }

abbrev pub carry : Side → Mark → Carried → Carried
carry side (Taken message handle segments) c = carry_own (step (own_way side) c.tracked message) c
carry side (Heard frame) c = carry_frame (other_way side) frame c
carry side mark c = c

abbrev pub carry_all : Side → List Mark → Carried → Carried
carry_all side [] c = c
carry_all side (mark ∷ marks) c = carry_all side marks (carry side mark c)

-- ---- pipes

-- what came of a pipe: its bytes, whether its writer closed it, and whether its reader did
pub record Flow : Type 0 where
  pub bytes : List ℕ
  pub ended : Bool
  pub shut : Bool

abbrev pub no_flow : Flow
no_flow = record { bytes = []; ended = false; shut = false }

abbrev pub flow_step : ℤ → Frame → Flow → Flow
flow_step rid (PipeTransfer other piece) flow =
    if int_eq other rid then record flow { bytes = flow.bytes ++ piece } else flow
flow_step rid (PipeShutW other) flow =
    if int_eq other rid then record flow { ended = true } else flow
flow_step rid (PipeShutR other) flow =
    if int_eq other rid then record flow { shut = true } else flow
flow_step rid frame flow = flow

abbrev pub flow_from : ℤ → List Frame → Flow → Flow
flow_from rid [] flow = flow
flow_from rid (frame ∷ frames) flow = flow_from rid frames (flow_step rid frame flow)

-- the pipe of a rid behind these frames
abbrev pub flow : ℤ → List Frame → Flow
flow rid frames = flow_from rid frames no_flow
