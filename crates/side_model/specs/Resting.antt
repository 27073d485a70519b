-- When nothing is due at a proxy, said by what waits and what was made; this project's own.
use Rattle.std.specs.Prelude.{◌≡◌, ℕ, ◌<◌, ◌≤◌, true, [], Option, Some, None, Ok}
use Rattle.std.specs.Option.{MatchOption}
use Rattle.transfer_frames.specs.Front.{front}
use Rattle.half_model.specs.Group.{Owed}
use Rattle.half_model.specs.Turn.{group_due, waits_in}
use Rattle.pair_model.specs.RingState.{RingState, ring_made, ring_room, ring_held}
use Rattle.pair_model.specs.Steps.{Here}
use Rattle.side_model.specs.Due.{ROOM_WANTED, HELD_MOST}
use Rattle.side_model.specs.State.{Now, Closing, Asked}

-- a message is owed, or the ring has too little room or too many bytes
pub data MustWait (owes : Option Owed) (ring : RingState) : Type 0 where
  Owes : (owed : Owed) → owes ≡ Some owed → MustWait owes ring
  Crowded : ring_room ring < ROOM_WANTED → MustWait owes ring
  Heavy : HELD_MOST ≤ ring_held ring → MustWait owes ring

-- it was asked to close only while a message is owed or waits
abbrev pub ClosesThen : Closing → Option Owed → Type 0 → Type 0
ClosesThen (Asked reason) None waits = waits
ClosesThen closing owes waits = Unit {0}

-- where nothing is being sent, nothing is to be sent: the other's RESTART was not read, or all made
-- is sent and all accepted is told
abbrev pub NothingToSend : RingState → ℕ → Here → Type 0
NothingToSend ring accepted here =
    here.front ≡ [] → MatchOption here.answer (Unit {0})
    (λ p. (here.next ≡ ring_made ring) × (here.told ≡ accepted))

pub record Calm (s : Now) : Type 0 where
  -- at most a part of a frame waits to be heard
  pub heard : MatchOption s.live.here (Unit {0}) (λ here. front here.unread ≡ Ok None)
  -- the group of the message that is owed waits for its copies
  pub made : group_due s.live.sending.owes s.kept.jobs ≡ None
  -- a whole message, or a bad size, waits only where it must
  pub treated : waits_in s.live.sending ≡ true → MustWait s.live.sending.owes s.kept.ring
  pub closes : ClosesThen s.kept.closing s.live.sending.owes (waits_in s.live.sending ≡ true)
  pub sent : MatchOption s.live.here (Unit {0}) (NothingToSend s.kept.ring s.kept.accepted)
