-- The steps of one side of a link, which is this project's own, on a connection, and what stands
-- between them: what is kept of the connection that is up, beside what the side keeps of the
-- session. The connections before it are frozen.
use Rattle.std.specs.Prelude.{◌≡◌, ℕ, suc, ◌+◌, ◌-◌, ◌^◌, ◌<◌, ◌≤◌, ◌||◌, cond, nat_lt, min, max}
use Rattle.std.specs.Prelude.{Bool, true, false, List, [], ◌∷◌, ◌++◌, Option, Some, None, Ok, drop}
use Rattle.std.specs.Prelude.{take, length, slice_get, option_map, if◌then◌else◌, ◌⊎◌}
use Rattle.std.specs.Option.{MatchOption}
use Rattle.std.specs.List.{AllByRecursion}
use Rattle.transfer_frames.specs.declared.frame.Frame.{Frame}
use Rattle.transfer_frames.specs.declared.frame.Frame.TheVariants.{Restart, Ack}
use Rattle.transfer_frames.specs.declared.cause.FrameCause.{FrameCause}
use Rattle.transfer_frames.specs.declared.frame.FrameRole.{FrameRole}
use Rattle.transfer_frames.specs.declared.frame.FrameRole.TheVariants.{Counted, Tells, Greets}
use Rattle.transfer_frames.specs.Front.{front}
use Rattle.transfer_frames.specs.Grammar.{role, IsFrame, spelling}
use Rattle.pair_model.specs.Lines.{Line, SideRecord, Rising, read_on, written_on}
use Rattle.pair_model.specs.Rows.{spellings, counted, acks, told, reply, first_count, received_in}
use Rattle.pair_model.specs.Rows.{count_in, is_counted, NoGreeting, Rise, Reads}
use Rattle.pair_model.specs.LinkFaults.{Judge, judge_of, judge_first, Passes, Unrefused, is_close}
use Rattle.pair_model.specs.LinkFaults.{has_closed}
use Rattle.pair_model.specs.Order.{InTime, HeardLate}
use Rattle.pair_model.specs.Wire.{Wrote, Waits, Accepts, accepted_below, told_below}
use Rattle.pair_model.specs.Quiet.{last_told}

-- what a side keeps of the connection that is up
pub record Here : Type 0 where
  pub connection : ℕ
  -- how many frames it had accepted before, which its RESTART tells
  pub received : ℕ
  -- the received count of the other's RESTART, once that was read
  pub answer : Option ℕ
  -- the index of the frame to be sent next, and how many counted frames are wholly sent
  pub next : ℕ
  pub whole : ℕ
  -- the count told last
  pub told : ℕ
  -- the bytes still to be written of the frame that is being sent, and whether that is a counted
  -- one
  pub front : List ℕ
  pub counts : Bool
  -- the bytes read behind the last whole frame, and how many stand before them
  pub unread : List ℕ
  pub place : ℕ

-- a count of bytes stands still at its type's end
abbrev pub MOST_PLACE : ℕ
MOST_PLACE = 2 ^ 64 - 1

-- ---- what stands between two steps

-- no frame is being sent, or one whose last bytes are still to be written
abbrev pub IsUnderWay : List Frame → List ℕ → Type 0
IsUnderWay current front =
    ((current ≡ []) × (front ≡ [])) ⊎ ((length current ≡ 1) × (0 < length front))

-- The counted frames sent are those made from the other's received count on, up to the next one;
-- none while its RESTART was not read.
abbrev pub InOrder : Option ℕ → ℕ → List Frame → List Frame → Type 0
InOrder None next made sent = sent ≡ []
InOrder (Some p) next made sent =
    (p ≤ length made) × (next ≡ p + length (counted sent))
    × (counted sent ++ drop next made ≡ drop p made)

-- what was written and read on the connection that is up, and what is kept of it
pub record At (token : List ℕ) (here : Here) (made : List Frame) (due : List ℕ) (seen : List Frame)
    (written read : List ℕ) : Type 0 where
  -- the frames seen, and the bytes behind them
  pub frames : AllByRecursion IsFrame seen
  pub read_is : read ≡ spellings seen ++ here.unread
  pub placed : here.place ≡ min (length (spellings seen)) MOST_PLACE
  pub answered : reply seen ≡ here.answer
  -- RESTART and the frames sent after it: the whole ones, and the one being sent, a part of which
  -- is written
  pub sent : List Frame
  pub whole : List Frame
  pub current : List Frame
  pub part : List ℕ
  pub row : whole ++ current ≡ Restart token here.connection here.received ∷ sent
  pub row_frames : AllByRecursion IsFrame (Restart token here.connection here.received ∷ sent)
  pub written_is : written ≡ spellings whole ++ part
  pub front_is : part ++ here.front ≡ spellings current
  pub is_front : IsUnderWay current here.front
  pub wholes : here.whole ≡ length (counted whole)
  pub counting : cond here.counts 1 0 ≡ length (counted current)
  -- what may be sent
  pub greets : NoGreeting sent
  pub order : InOrder here.answer here.next made sent
  pub tells : Rise here.received (acks sent) here.told
  pub told_last : last_told here.received (acks sent) ≡ here.told
  pub in_time : MatchOption here.answer (Unit {0}) (λ p. InTime due here.received p sent)

-- what stands of the connections below one
pub record Past (token : List ℕ) (made : List Frame) (due ahead : List ℕ) (lines : List Line)
    (connection : ℕ) (seen : ℕ → List Frame) : Type 0 where
  pub rising : Rising 1 lines
  pub numbers : AllByRecursion (λ line. line.connection < connection) lines
  pub reads : (c : ℕ) → Reads None (read_on c lines) (seen c)
  pub waits : (c : ℕ) → Waits None (read_on c lines) (seen c)
  pub passes : (c : ℕ) → Unrefused token c (length made) (told_below seen c)
      (accepted_below seen c) (seen c) (written_on c lines)
  pub late : (c : ℕ) → HeardLate ahead (told_below seen c) (accepted_below seen c) (seen c)
  pub wrote : (c : ℕ) → (written_on c lines ≡ [])
      ⊎ Wrote token c (length (accepted_below seen c)) (length (accepted_below seen (suc c)))
      made due (seen c) (written_on c lines)

-- A side with a connection that is up, between two steps.
pub record Stands (token : List ℕ) (side : SideRecord) (here : Here) : Type 0 where
  pub earlier : List Line
  pub line : Line
  pub lines : side.lines ≡ earlier ++ line ∷ []
  pub number : line.connection ≡ here.connection
  pub first : 0 < here.connection
  pub goes_on : side.stop ≡ None
  pub past_seen : ℕ → List Frame
  pub past : Past token side.made side.due side.ahead earlier here.connection past_seen
  pub seen : List Frame
  pub here_is : At token here side.made side.due seen line.written line.read
  -- what was accepted, before this connection and on it
  pub received : here.received ≡ length (accepted_below past_seen here.connection)
  pub passes : Passes (judge_first token here.connection (length side.made) here.whole
      (told_below past_seen here.connection) (accepted_below past_seen here.connection)) None seen
  pub late : HeardLate side.ahead (told_below past_seen here.connection)
      (accepted_below past_seen here.connection) seen
  pub accepted : side.accepted ≡ here.received + length (counted seen)
  pub ahead_accepted : length side.ahead ≡ side.accepted
  pub closed : side.closed ≡ has_closed (accepted_below past_seen here.connection ++ counted seen)
  -- what is known and told
  pub acknowledged : side.acknowledged ≡ max (told_below past_seen here.connection) (told seen)
  pub known : side.acknowledged ≤ length side.made
  pub acked : MatchOption here.answer (Unit {0}) (λ p. side.acknowledged ≤ p + here.whole)
  pub told_known : here.told ≤ side.accepted
  pub due_made : length side.due ≡ length side.made
  pub due_accepted : AllByRecursion (λ count. count ≤ side.accepted) side.due

-- Between two calls no whole frame waits to be read, and no fault stands there.
pub record Between (token : List ℕ) (side : SideRecord) (here : Here) : Type 0 where
  pub stands : Stands token side here
  pub waits : front here.unread ≡ Ok None

-- what the next frame read on the connection that is up is judged by
abbrev pub judge_here : List ℕ → SideRecord → Here → Judge
judge_here token side here = judge_of token side here.connection here.whole

-- ---- the steps

-- a connection is up: its line begins, and RESTART is to be sent
abbrev pub side_up : ℕ → SideRecord → SideRecord
side_up connection side = record side {
  lines = side.lines ++ record { connection = connection; written = []; read = [] } ∷ [];
}

abbrev pub here_up : List ℕ → ℕ → ℕ → Here
here_up token connection accepted = record {
  connection = connection;
  received = accepted;
  answer = None;
  next = 0;
  whole = 0;
  told = accepted;
  front = spelling (Restart token connection accepted);
  counts = false;
  unread = [];
  place = 0;
}

-- the last line changes
abbrev pub on_last : (Line → Line) → List Line → List Line
on_last change [] = []
on_last change (line ∷ []) = change line ∷ []
on_last change (line ∷ next ∷ lines) = line ∷ on_last change (next ∷ lines)

abbrev pub with_written : List ℕ → Line → Line
with_written bytes line = record line { written = line.written ++ bytes }

abbrev pub with_read : List ℕ → Line → Line
with_read bytes line = record line { read = line.read ++ bytes }

-- n bytes of the front are written; a frame whose last byte that is, is wholly sent
abbrev pub side_sent : ℕ → Here → SideRecord → SideRecord
side_sent n here side =
    record side { lines = on_last (with_written (take n here.front)) side.lines }

abbrev pub ends_one : Bool → List ℕ → ℕ
ends_one counts [] = cond counts 1 0
ends_one counts (byte ∷ rest) = 0

abbrev pub still : Bool → List ℕ → Bool
still counts [] = false
still counts (byte ∷ rest) = counts

abbrev pub here_left : List ℕ → Here → Here
here_left rest here = record here {
  front = rest;
  whole = here.whole + ends_one here.counts rest;
  counts = still here.counts rest;
}

abbrev pub here_sent : ℕ → Here → Here
here_sent n here = here_left (drop n here.front) here

-- bytes come in
abbrev pub side_fed : List ℕ → SideRecord → SideRecord
side_fed piece side = record side { lines = on_last (with_read piece) side.lines }

abbrev pub here_fed : List ℕ → Here → Here
here_fed piece here = record here { unread = here.unread ++ piece }

-- a whole frame at the front of the bytes read is seen, and more stands behind it
abbrev pub side_read : FrameRole → SideRecord → SideRecord
side_read part side = record side {
  accepted = side.accepted + cond (is_counted part) 1 0;
  ahead = side.ahead ++ cond (is_counted part) (length side.made ∷ []) [];
  closed = side.closed || is_close part;
  acknowledged = max side.acknowledged (count_in part);
}

abbrev pub next_after : FrameRole → ℕ → ℕ
next_after (Counted closes) next = next
next_after (Tells count) next = next
next_after (Greets token connection received) next = received

abbrev pub here_read : Frame → List ℕ → Here → Here
here_read frame more here = record here {
  unread = more;
  place = min (here.place + length (spelling frame)) MOST_PLACE;
  answer = first_count here.answer (received_in (role frame));
  next = next_after (role frame) here.next;
}

-- the other's RESTART comes once, and tells no more frames than were made
abbrev pub MayGreet : FrameRole → Option ℕ → ℕ → Type 0
MayGreet (Counted closes) answer made = Unit {0}
MayGreet (Tells count) answer made = Unit {0}
MayGreet (Greets token connection received) answer made = (answer ≡ None) × (received ≤ made)

-- more frames are made, each with the count of frames that were accepted when its message was taken
abbrev pub side_made : List Frame → List ℕ → SideRecord → SideRecord
side_made more counts side = record side { made = side.made ++ more; due = side.due ++ counts }

-- reading stops for good at the frame that is read next, with a cause or for want of memory
abbrev pub place_here : Here → SideRecord → ℕ
place_here here side = length (read_on here.connection side.lines) - length here.unread

abbrev pub side_stopped : Option FrameCause → Here → SideRecord → SideRecord
side_stopped cause here side = record side {
  stop = Some (record {
    connection = here.connection;
    place = place_here here side;
    cause = cause;
  });
}

-- ---- the choice of the next front

-- an ACK of all that was accepted becomes the front
abbrev pub here_ack : ℕ → Here → Here
here_ack accepted here = record here {
  front = spelling (Ack accepted);
  counts = false;
  told = accepted;
}

-- the next frame becomes the front
abbrev pub here_next : List ℕ → Here → Here
here_next bytes here = record here { front = bytes; counts = true; next = here.next + 1 }

-- what is sent next, behind RESTART: nothing, an ACK of this count, or the bytes of a frame
pub data Pick : Type 0 where
  Nothing : Pick
  Tell : ℕ → Pick
  Send : List ℕ → Pick

abbrev pub send_next : Option (List ℕ) → Pick
send_next None = Nothing
send_next (Some bytes) = Send bytes

-- nothing before the other's RESTART was read; then an ACK, where more was accepted than was told;
-- else the next frame made
abbrev pub pick_after : Option ℕ → ℕ → ℕ → Option (List ℕ) → Pick
pick_after None told accepted bytes = Nothing
pick_after (Some received) told accepted bytes =
    if nat_lt told accepted then Tell accepted else send_next bytes

-- nothing while a front is being sent
abbrev pub pick_behind : List ℕ → Pick → Pick
pick_behind [] pick = pick
pick_behind (byte ∷ front) pick = Nothing

-- by the count of frames accepted, and the bytes of the frame of the next index, where that was
-- made
abbrev pub picks : ℕ → Option (List ℕ) → Here → Pick
picks accepted bytes here = pick_behind here.front (pick_after here.answer here.told accepted bytes)

abbrev pub picked : Pick → Here → Here
picked Nothing here = here
picked (Tell count) here = here_ack count here
picked (Send bytes) here = here_next bytes here

abbrev pub chosen : ℕ → Option (List ℕ) → Here → Here
chosen accepted bytes here = picked (picks accepted bytes here) here

-- the bytes of the frame made that has an index
abbrev pub bytes_at : List Frame → ℕ → Option (List ℕ)
bytes_at made index = option_map spelling (slice_get made index)

-- ---- what is said of a side between two steps

-- there is nothing to send: no front, and, once the other's RESTART was read, nothing made that is
-- not sent and nothing accepted that is not told
pub record Idle (side : SideRecord) (here : Here) : Type 0 where
  pub empty : here.front ≡ []
  pub all : MatchOption here.answer (Unit {0})
      (λ p. (here.next ≡ length side.made) × (here.told ≡ side.accepted))

-- These are the frames accepted so far, also while whole frames wait to be read.
abbrev pub HeardBy : SideRecord → Here → List Frame → Type 0
HeardBy side here accepted = Accepts (side_stopped None here side) accepted
