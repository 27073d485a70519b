-- How a proxy hears a frame that it has taken out of the bytes read; the link is this project's own.
use Rattle.std.specs.Prelude.{◌≡◌, ℕ, ◌+◌, ◌<◌, ◌||◌, min, Bool, ◌++◌, drop, length, Option, Some, None, option_map}
use Rattle.std.specs.Prelude.{Result, Ok, Err, ◌⊎◌}
use Rattle.transfer_frames.specs.declared.cause.FrameCause.{FrameCause}
use Rattle.transfer_frames.specs.declared.cause.FrameCause.TheVariants.{RestartMissing}
use Rattle.transfer_frames.specs.declared.frame.Frame.{Frame}
use Rattle.transfer_frames.specs.declared.frame.FrameRole.{FrameRole}
use Rattle.transfer_frames.specs.Front.{front}
use Rattle.transfer_frames.specs.Grammar.{role, spelling, IsFrame}
use Rattle.half_model.specs.declared.notes.Noted.TheVariants as notes
use Rattle.half_model.specs.Content.{content_fault, heard, Hearing}
use Rattle.pair_model.specs.LinkFaults.{link_fault}
use Rattle.pair_model.specs.Refusals.{first_cause}
use Rattle.pair_model.specs.Rows.{first_count, received_in}
use Rattle.pair_model.specs.Steps.{Here, next_after, MOST_PLACE}
use Rattle.side_model.specs.declared.fault.ProxyFault.{ProxyFault}
use Rattle.side_model.specs.declared.fault.ProxyFault.TheVariants as faults
use Rattle.side_model.specs.Calls.{Halted}
use Rattle.pair_model.specs.RingState.{ring_made}
use Rattle.side_model.specs.Due.{judge_in, hear, group}
use Rattle.side_model.specs.Events.{Halt, Rest}
use Rattle.side_model.specs.State.{Now, KeptPart, LivePart}
use Rattle.side_model.specs.Steps.{with_here, with_kept, with_live, kept_heard, noted}
use Rattle.proxy_core.specs.Doing.{Goes}
use Rattle.proxy_core.specs.Keeping.{Keeps}
use Rattle.proxy_core.specs.declared.link.Place.{Place}
use Rattle.proxy_core.specs.declared.link.Came.{Came}

-- why a frame is refused, if it is
abbrev pub cause_here : Now → Frame → Option Here → Option FrameCause
cause_here s frame None = None
cause_here s frame (Some here) = first_cause
    (link_fault (judge_in s.token s.kept.ring s.kept.accepted s.kept.heard_close here) here.answer
    (role frame))
    (content_fault s.live.tables s.live.taking frame)

abbrev pub cause_of : Now → Frame → Option FrameCause
cause_of s frame = cause_here s frame s.live.here

-- the frame leaves the bytes read
abbrev pub without_frame : Frame → Here → Here
without_frame frame here = record here {
  unread = drop (length (spelling frame)) here.unread;
  place = min (here.place + length (spelling frame)) MOST_PLACE;
}

abbrev pub popped : Frame → Now → Now
popped frame s = with_here (without_frame frame) s

-- and then it is heard
abbrev pub answered : Frame → Here → Here
answered frame here = record here {
  answer = first_count here.answer (received_in (role frame));
  next = next_after (role frame) here.next;
}

abbrev pub live_behind : Frame → Hearing → LivePart → LivePart
live_behind frame it live = record live {
  here = option_map (answered frame) live.here;
  tables = it.tables;
  taking = it.taking;
  items = live.items ++ it.given;
}

abbrev pub heard_behind : Frame → Now → Now
heard_behind frame s = with_kept (kept_heard frame)
    (with_live (live_behind frame (heard s.live.tables s.live.taking frame)) s)

-- the fault of a frame that is refused there
abbrev pub fault_at : Place → FrameCause → ProxyFault
fault_at at cause = faults.Frame at.connection at.place cause

-- it stood on the connection that is up
abbrev pub IsUp : ℕ → Option Here → Type 0
IsUp connection here = option_map (λ (h : Here). h.connection) here ≡ Some connection

-- a frame that has this cause is refused with its place; memory may be wanted at any time
pub record Refuses (cause : Option FrameCause) (at : Place) (fault : ProxyFault) (old new : Now)
    : Type 0 where
  pub because : ((it : FrameCause) × (cause ≡ Some it)
      × (fault ≡ fault_at at it)) ⊎ (fault ≡ faults.Memory)
  pub halted : Halted fault old new

abbrev pub Hears : Result Unit ProxyFault → Frame → Place → Now → Now → Type 0
Hears (Ok done) frame at old new = (cause_of old frame ≡ None) × (new ≡ heard_behind frame old)
Hears (Err fault) frame at old new = Refuses (cause_of old frame) at fault old new

-- how many bytes are read and not heard
abbrev pub unread_here : Option Here → ℕ
unread_here None = 0
unread_here (Some here) = length here.unread

abbrev pub unread_left : Now → ℕ
unread_left s = unread_here s.live.here

-- a whole frame was taken out of the bytes read
pub record IsOut (came : Came) (old new : Now) : Type 0 where
  pub here : Here
  pub is_here : old.live.here ≡ Some here
  pub stands : front here.unread ≡ Ok (Some came.frame)
  pub is_frame : IsFrame came.frame
  pub connection : came.at.connection ≡ here.connection
  pub place : came.at.place ≡ here.place
  pub new_is : new ≡ popped came.frame old
  pub less : unread_left new < unread_left old

-- none stands there, one was taken out, or what stands there is at fault
abbrev pub Takes : Result (Option Came) ProxyFault → Now → Now → Type 0
Takes (Ok None) old new = (hear old ≡ Rest) × (new ≡ old)
Takes (Ok (Some came)) old new = IsOut came old new
Takes (Err fault) old new =
    ((hear old ≡ Halt fault) ⊎ (fault ≡ faults.Memory)) × Halted fault old new

-- whether the connection that is up lets a frame of this part pass
abbrev pub link_cause : Now → FrameRole → Option Here → Option FrameCause
link_cause s part None = Some RestartMissing
link_cause s part (Some here) =
    link_fault (judge_in s.token s.kept.ring s.kept.accepted s.kept.heard_close here) here.answer part

abbrev pub MayHear : FrameRole → Now → Type 0
MayHear part s = link_cause s part s.live.here ≡ None

-- a counted frame more is accepted, and noted with its messages
abbrev pub counted : Bool → KeptPart → KeptPart
counted closes kept =
    record kept { accepted = kept.accepted + 1; heard_close = kept.heard_close || closes }

abbrev pub noted_with : Option ℕ → KeptPart → KeptPart
noted_with None kept = kept
noted_with (Some messages) kept = noted (notes.Received messages) kept

abbrev pub CountsIn : Result Unit ProxyFault → Option ℕ → Bool → Now → Now → Type 0
CountsIn (Ok done) messages closes old new =
    new ≡ with_kept (λ kept. counted closes (noted_with messages kept)) old
CountsIn (Err fault) messages closes old new = (fault ≡ faults.Memory) × Halted fault old new

-- all frames that have come are heard
pub record HearsAll (old new : Now) : Type 0 where
  pub goes : Goes old new
  pub keeps : Keeps new
  pub hears : hear new ≡ Rest
  pub groups : group new ≡ Rest
  pub made : ring_made new.kept.ring ≡ ring_made old.kept.ring
