-- What is due next at a proxy, in this order: to hear the frames that have come, to make the group
-- of the last message, to treat what its peer put on its wire, to end, and to choose the next
-- front; this project's own.
use Rattle.std.specs.Prelude.{ℕ, ◌&&◌, nat_le, nat_lt, is_none, not, if◌then◌else◌, Bool, List}
use Rattle.std.specs.Prelude.{Option, Some, None, Result, Ok, Err}
use Rattle.transfer_frames.specs.declared.cause.FrameCause.{FrameCause}
use Rattle.transfer_frames.specs.declared.frame.Frame.{Frame}
use Rattle.transfer_frames.specs.Front.{front}
use Rattle.transfer_frames.specs.Grammar.{role}
use Rattle.half_model.specs.declared.causes.HalfFault.{HalfFault}
use Rattle.half_model.specs.declared.causes.HalfFault.TheVariants as halves
use Rattle.half_model.specs.Content.{Taking, content_fault}
use Rattle.half_model.specs.Group.{Owed}
use Rattle.half_model.specs.Tables.{Tables}
use Rattle.half_model.specs.Turn as turns
use Rattle.half_model.specs.Turn.{Turn, turn, MadeGroup, group_due, waits_in}
use Rattle.pair_model.specs.LinkFaults.{Judge, link_fault}
use Rattle.pair_model.specs.Refusals.{first_cause}
use Rattle.pair_model.specs.RingState.{RingState, ring_made, ring_room, ring_held, ring_at}
use Rattle.pair_model.specs.Steps.{Here, Pick, Nothing, Tell, Send, picks}
use Rattle.side_model.specs.declared.fault.ProxyFault.{ProxyFault}
use Rattle.side_model.specs.declared.fault.ProxyFault.TheVariants as faults
use Rattle.side_model.specs.Events.{Heard, Took, Grouped, Ended, Chose, Next, Do, Halt, Rest}
use Rattle.side_model.specs.Events.{or_next}
use Rattle.side_model.specs.State.{Now, Closing, Asked}

-- ---- to hear

-- what the next frame read is judged by
abbrev pub judge_in : List ℕ → RingState → ℕ → Bool → Here → Judge
judge_in token ring accepted heard_close here = record {
  token = token;
  connection = here.connection;
  acknowledged = ring.acknowledged;
  made = ring_made ring;
  whole = here.whole;
  accepted = accepted;
  closed = heard_close;
}

-- what stands at the front of the bytes read is refused
abbrev pub refused : Here → FrameCause → Next
refused here cause = Halt (faults.Frame here.connection here.place cause)

-- a whole frame is heard, or refused
abbrev pub hear_frame : Here → Frame → Option FrameCause → Next
hear_frame here frame None = Do (Heard frame)
hear_frame here frame (Some cause) = refused here cause

abbrev pub hear_front : Judge → Tables → Taking → Here → Result (Option Frame) FrameCause → Next
hear_front judge tables taking here (Ok None) = Rest
hear_front judge tables taking here (Ok (Some frame)) =
    hear_frame here frame
    (first_cause (link_fault judge here.answer (role frame))
    (content_fault tables taking frame))
hear_front judge tables taking here (Err cause) = refused here cause

abbrev pub hear_on : List ℕ → RingState → ℕ → Bool → Tables → Taking → Option Here → Next
hear_on token ring accepted heard_close tables taking None = Rest
hear_on token ring accepted heard_close tables taking (Some here) =
    hear_front (judge_in token ring accepted heard_close here) tables taking here
    (front here.unread)

unfoldable pub hear : Now → Next
hear s =
    hear_on s.token s.kept.ring s.kept.accepted s.kept.heard_close s.live.tables s.live.taking
    s.live.here

-- ---- to make the group of the last message

abbrev pub group_found : Option MadeGroup → Next
group_found None = Rest
group_found (Some made) = Do Grouped

unfoldable pub group : Now → Next
group s = group_found (group_due s.live.sending.owes s.kept.jobs)

-- ---- to treat what the peer put on its wire

-- the ring has room for the group of a message with so many frames, and for CLOSE
abbrev pub ROOM_WANTED : ℕ
ROOM_WANTED = 1100

-- it is not to hold so many bytes
abbrev pub HELD_MOST : ℕ
HELD_MOST = 67108864

abbrev pub has_room : RingState → Bool
has_room ring = nat_le ROOM_WANTED (ring_room ring) && nat_lt (ring_held ring) HELD_MOST

-- no message is owed, and the ring has room
abbrev pub is_free : Option Owed → RingState → Bool
is_free owes ring = is_none owes && has_room ring

abbrev pub fault_of : HalfFault → ProxyFault
fault_of (halves.Peer index cause) = faults.Peer index cause
fault_of (halves.Limit which) = faults.Limit which
fault_of halves.Memory = faults.Memory

abbrev pub treat_turn : Turn → Next
treat_turn turns.Idle = Rest
treat_turn (turns.Refuses fault) = Halt (fault_of fault)
treat_turn (turns.Takes treated) = Do Took

abbrev pub treat_on : Bool → Turn → Next
treat_on free it = if free then treat_turn it else Rest

unfoldable pub treat : Now → Next
treat s = treat_on (is_free s.live.sending.owes s.kept.ring) (turn s.live.tables s.live.sending)

-- ---- to end

-- CLOSE is made once no message is owed, and no whole message or bad size waits
abbrev pub end_on : Closing → Bool → Next
end_on (Asked reason) still = if still then Do Ended else Rest
end_on closing still = Rest

unfoldable pub end : Now → Next
end s = end_on s.kept.closing (is_none s.live.sending.owes && not (waits_in s.live.sending))

-- ---- to choose the next front

abbrev pub choose_pick : Pick → Next
choose_pick Nothing = Rest
choose_pick (Tell count) = Do Chose
choose_pick (Send bytes) = Do Chose

abbrev pub choose_on : ℕ → RingState → Option Here → Next
choose_on accepted ring None = Rest
choose_on accepted ring (Some here) = choose_pick (picks accepted (ring_at here.next ring) here)

unfoldable pub choose : Now → Next
choose s = choose_on s.kept.accepted s.kept.ring s.live.here

-- ---- all of it

-- what is due once all frames that have come are heard
unfoldable pub work : Now → Next
work s = or_next (group s) (or_next (treat s) (or_next (end s) (choose s)))

unfoldable pub next : Now → Next
next s = or_next (hear s) (work s)
