-- Worked rows: what the two sides of a pair write, read and hold in a few runs, computed from their
-- events; the messages are those of wayland.xml, the link is this project's own.
use Rattle.std.specs.Prelude.{◌≡◌, ℕ, ◌==◌, ◌&&◌, Bool, true, false, List, [], ◌∷◌, ◌++◌, length}
use Rattle.std.specs.Prelude.{drop, map, replicate, pos, negsuc, Option, Some, None}
use Rattle.std.specs.List.{filter_map}
use Rattle.wp_outside.specs.declared.kinds.Side.TheVariants.{Near, Far}
use Rattle.wl_wire.specs.declared.arguments.Arg.TheVariants as arg
use Rattle.wl_wire.specs.declared.faults.ObjectFault.TheVariants.{Wire}
use Rattle.wl_wire.specs.declared.faults.WireFault.TheVariants.{SizeSmall}
use Rattle.wl_wire.specs.Building.{built}
use Rattle.transfer_frames.specs.declared.cause.FrameCause.TheVariants.{AckAhead}
use Rattle.transfer_frames.specs.declared.frame.Frame.{Frame}
use Rattle.transfer_frames.specs.declared.frame.Frame.TheVariants as frames
use Rattle.transfer_frames.specs.Grammar.{spelling}
use Rattle.half_model.specs.declared.causes.PeerCause.TheVariants.{Object}
use Rattle.half_model.specs.declared.items.PeerIn.{PeerIn}
use Rattle.half_model.specs.declared.items.PeerIn.TheVariants as inputs
use Rattle.half_model.specs.declared.items.PeerOut.{PeerOut}
use Rattle.half_model.specs.declared.items.PeerOut.TheVariants as outputs
use Rattle.half_model.specs.Rows.{opening, attach, damage_buffer, note_of, commit, receipt_at}
use Rattle.pair_model.specs.Lines.{Line, written_on}
use Rattle.pair_model.specs.RingState.{RingState}
use Rattle.pair_model.specs.Rows.{spellings}
use Rattle.pair_model.specs.Steps.{Here}
use Rattle.side_model.specs.declared.fault.ProxyFault.TheVariants as faults
use Rattle.side_model.specs.Due.{next}
use Rattle.side_model.specs.Events.{Event, Fed, Handed, Lent, Up, Came, Went, Asks, Heard, Took}
use Rattle.side_model.specs.Events.{Grouped, Next, Halt, Rest}
use Rattle.side_model.specs.Running.{Run, begins, call, calls, MOST_DUE, Both, begin_both}
use Rattle.side_model.specs.Running.{near_does, connect, break, send_up, send_down, recv_up}
use Rattle.side_model.specs.Running.{recv_down, flow}
use Rattle.side_model.specs.Shows.{wants_peer}
use Rattle.side_model.specs.State.{Now, no_proxy}

-- the session's token
abbrev pub TOKEN : List ℕ
TOKEN = replicate 16 170

-- wl_display.sync with this id
abbrev pub sync : ℕ → List ℕ
sync id = built 1 0 (arg.NewId id ∷ [])

-- the peer puts a message on its wire
abbrev pub puts : List ℕ → Event
puts message = Fed (inputs.Bytes message)

-- ---- what a run of both comes to

-- how many bytes a side wrote and read on each connection
abbrev pub line_size : Line → ℕ × (ℕ × ℕ)
line_size line = (line.connection, (length line.written, length line.read))

abbrev pub line_sizes : Run → List (ℕ × (ℕ × ℕ))
line_sizes run = map line_size run.book.trail.lines.rows

-- whether two rows of bytes, or of messages, are one
abbrev pub same_bytes : List ℕ → List ℕ → Bool
same_bytes [] [] = true
same_bytes (x ∷ xs) (y ∷ ys) = (x == y) && same_bytes xs ys
same_bytes xs ys = false

abbrev pub same_messages : List (List ℕ) → List (List ℕ) → Bool
same_messages [] [] = true
same_messages (x ∷ xs) (y ∷ ys) = same_bytes x y && same_messages xs ys
same_messages xs ys = false

-- the messages put on the one peer's wire, and those given to the other
abbrev pub put_message : PeerIn → Option (List ℕ)
put_message (inputs.Bytes message) = Some message
put_message item = None

abbrev pub given_message : PeerOut → Option (List ℕ)
given_message (outputs.Bytes message) = Some message
given_message item = None

abbrev pub gives_all : List PeerIn → List PeerOut → Bool
gives_all items given =
    same_messages (filter_map put_message items) (filter_map given_message given)

-- the near side sent these frames behind RESTART on this connection
abbrev pub sends_on : ℕ → Run → List Frame → Bool
sends_on connection run sent =
    same_bytes (written_on connection run.book.trail.lines.rows)
    (spellings (frames.Restart TOKEN connection 0 ∷ sent))

pub record Ends : Type 0 where
  -- what each side wrote and read on its connections
  pub near_lines : List (ℕ × (ℕ × ℕ))
  pub far_lines : List (ℕ × (ℕ × ℕ))
  -- how many frames the near side made, and still keeps, and the far side accepted
  pub made : ℕ
  pub kept : ℕ
  pub accepted : ℕ
  -- on the last connection the frames from some one on were sent, as they were
  pub sent : Bool
  -- the far side's peer was given each message once, in order
  pub given : Bool

-- by the number of the last connection, of the first frame sent on it, and what the near peer put
abbrev pub ends_of : ℕ → ℕ → List PeerIn → Both → Ends
ends_of connection first items both = record {
  near_lines = line_sizes both.near;
  far_lines = line_sizes both.far;
  made = length both.near.book.trail.made;
  kept = length both.near.now.kept.ring.frames;
  accepted = both.far.now.kept.accepted;
  sent = sends_on connection both.near (drop first both.near.book.trail.made);
  given = gives_all items both.far.now.live.items;
}

-- ---- two connections are lost, with what was written on them

abbrev pub one_sync : List PeerIn
one_sync = inputs.Bytes (sync 2) ∷ []

abbrev pub lost_lines : Both
lost_lines =
    flow 3 (connect 3 (break (send_down 32 (connect 2 (break (send_up 32 (connect 1
    (near_does (map Fed one_sync) (begin_both TOKEN)))))))))

abbrev pub LostLines : Type 0
LostLines = ends_of 3 0 one_sync lost_lines ≡ record {
  near_lines = (1, (32, 0)) ∷ (2, (0, 0)) ∷ (3, (48, 44)) ∷ [];
  far_lines = (1, (0, 0)) ∷ (2, (32, 0)) ∷ (3, (44, 48)) ∷ [];
  made = 1;
  kept = 0;
  accepted = 1;
  sent = true;
  given = true;
}

-- ---- a connection breaks in a frame

-- a client shows the first pixel of a buffer of a file of 64 bytes; more bytes may stand behind
-- that
abbrev pub shown_with : List ℕ → List PeerIn
shown_with more =
    opening 64 4 4 16
    ++ inputs.Bytes attach
    ∷ inputs.Bytes (damage_buffer (pos 0) (pos 0) (pos 1) (pos 1))
    ∷ note_of (8 ∷ [])
    ∷ inputs.Bytes (commit ++ more)
    ∷ []

-- its eight words are loaded
abbrev pub loaded : Event
loaded =
    Handed (record { id = 0; first = 0; words = replicate 8 257; low = 0; receipt = receipt_at 0 })

-- the far side has read three frames and a part of the fourth when the connection breaks
abbrev pub before_cut : Both
before_cut =
    recv_up 100 (send_up 260 (recv_down 32 (send_down 32 (recv_up 32 (send_up 32
    (near_does (map Fed (shown_with []) ++ Lent ∷ loaded ∷ []) (connect 1 (begin_both TOKEN))))))))

pub record CutAndResent : Type 0 where
  pub cut : before_cut.far.now.kept.accepted ≡ 3
  pub ends : ends_of 2 3 (shown_with []) (flow 3 (connect 2 (break before_cut))) ≡ record {
    near_lines = (1, (292, 32)) ∷ (2, (268, 44)) ∷ [];
    far_lines = (1, (32, 132)) ∷ (2, (44, 268)) ∷ [];
    made = 12;
    kept = 0;
    accepted = 12;
    sent = true;
    given = true;
  }

-- ---- a ring that fills

-- a proxy that holds so many frames of the same kind
abbrev pub sync_frame : Frame
sync_frame = frames.Protocol (sync 2)

abbrev pub ring_with : ℕ → RingState
ring_with count = record { acknowledged = 0; frames = replicate count (spelling sync_frame) }

abbrev pub with_ring : RingState → Now → Now
with_ring ring s = record s { kept = record s.kept { ring = ring } }

abbrev pub holds : ℕ → Now
holds count = with_ring (ring_with count) (no_proxy Near TOKEN)

abbrev pub two_syncs : Run
two_syncs = calls MOST_DUE (puts (sync 2) ∷ puts (sync 3) ∷ []) (begins Near TOKEN)

-- a connection comes up, both RESTART frames go over it, and the first frame and its ACK
abbrev pub acked_once : Run
acked_once =
    calls MOST_DUE (Up 1 ∷ Went 32 ∷ Came (spelling (frames.Restart TOKEN 1 0))
    ∷ Went (length (spelling sync_frame)) ∷ Came (spelling (frames.Ack 1)) ∷ [])
    (record (begins Near TOKEN) { now = holds 7093 })

-- It takes from its peer while it holds 7,092 frames, and no longer with one more, until one is
-- acknowledged. A message of the peer makes one frame where it shows nothing.
pub record WantsPeer : Type 0 where
  pub still : wants_peer (holds 7092) ≡ true
  pub no_more : wants_peer (holds 7093) ≡ false
  pub again : wants_peer acked_once.now ≡ true
  pub one_each : length two_syncs.now.kept.ring.frames ≡ 2

-- ---- frames in one piece

-- what a call does of itself, and what is due behind it
pub record Does : Type 0 where
  pub due : List Event
  pub then : Next

abbrev pub does : Event → Run → Does
does event run =
    let after : Run = call MOST_DUE event (record run { due = [] }) in
    record { due = after.due; then = next after.now }

-- A good frame stands before a bad one: it is heard, and then the bad one stops the side at its
-- place.
abbrev pub restart : Frame
restart = frames.Restart TOKEN 1 0

abbrev pub GoodThenBad : Type 0
GoodThenBad =
    does (Came (spellings (restart ∷ sync_frame ∷ frames.Ack 5 ∷ [])))
    (call MOST_DUE (Up 1) (begins Far TOKEN))
    ≡ record {
      due = Heard restart ∷ Heard sync_frame ∷ [];
      then = Halt (faults.Frame 1 48 AckAhead);
    }

-- An ACK in the middle of a piece makes room in the ring: the frame behind it is heard, and then
-- the message that waits is taken. The connection is up, and the second frame is being sent.
abbrev pub crowded_here : Here
crowded_here = record {
  connection = 1;
  received = 0;
  unread = [];
  place = 32;
  answer = Some 0;
  front = spelling sync_frame;
  counts = true;
  whole = 1;
  next = 2;
  told = 0;
}

abbrev pub crowded : Run
crowded =
    let held : Run = record (begins Near TOKEN) { now = holds 7093 } in
    let put : Run = call MOST_DUE (puts (sync 2)) held in
    record put {
      now = record put.now { live = record put.now.live { here = Some crowded_here } };
    }

abbrev pub open_pipe : Frame
open_pipe = frames.OpenPipe (negsuc 0)

pub record AckFrees : Type 0 where
  pub waits : next crowded.now ≡ Rest
  pub frees : does (Came (spellings (frames.Ack 1 ∷ open_pipe ∷ []))) crowded
      ≡ record { due = Heard (frames.Ack 1) ∷ Heard open_pipe ∷ Took ∷ Grouped ∷ []; then = Rest }

-- ---- to close, while a copy is out

-- A size of 4 stands behind the message that waits for its copy, and the side is asked to close:
-- nothing is due until the copy is back, and then the size is refused; CLOSE is not made.
abbrev pub bad_size : List ℕ
bad_size = 1 ∷ 0 ∷ 0 ∷ 0 ∷ 0 ∷ 0 ∷ 4 ∷ 0 ∷ []

abbrev pub copy_out : Run
copy_out = calls MOST_DUE (map Fed (shown_with bad_size) ++ Lent ∷ []) (begins Near TOKEN)

pub record ClosesBehind : Type 0 where
  pub waits : does (Asks 7) copy_out ≡ record { due = []; then = Rest }
  pub refuses : does loaded (call MOST_DUE (Asks 7) copy_out)
      ≡ record { due = Grouped ∷ []; then = Halt (faults.Peer 9 (Object (Wire SizeSmall))) }
