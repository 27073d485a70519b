-- The events of one proxy: what comes from outside, by a call, and what is due inside then; this
-- project's own.
use Rattle.std.specs.Prelude.{ℕ, List}
use Rattle.transfer_frames.specs.declared.frame.Frame.{Frame}
use Rattle.half_model.specs.declared.items.PeerIn.{PeerIn}
use Rattle.half_model.specs.Jobs.{Done}
use Rattle.side_model.specs.declared.fault.ProxyFault.{ProxyFault}

pub data Event : Type 0 where
  -- from outside: the peer puts an item on its wire; a copy is handed back, or the first one that
  -- waits is lent
  Fed : PeerIn → Event
  Handed : Done → Event
  Lent : Event
  -- a connection comes up, or goes down; bytes come from it, or go onto it
  Up : ℕ → Event
  Down : Event
  Came : List ℕ → Event
  Went : ℕ → Event
  -- the next item is given to the peer; the side is asked to close; the next note is told
  Gave : Event
  Asks : ℕ → Event
  Told : Event
  -- from inside: a frame of the other side is heard
  Heard : Frame → Event
  -- a message of the peer is taken; the frames of the last message are made; CLOSE is made
  Took : Event
  Grouped : Event
  Ended : Event
  -- the next front is chosen
  Chose : Event

-- what is due: an event, a fault for good, or nothing
pub data Next : Type 0 where
  Do : Event → Next
  Halt : ProxyFault → Next
  Rest : Next

-- what is due first, or else what is due then
abbrev pub or_next : Next → Next → Next
or_next (Do event) other = Do event
or_next (Halt fault) other = Halt fault
or_next Rest other = other
