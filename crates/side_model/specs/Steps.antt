-- What each event changes of a proxy; this project's own.
use Rattle.std.specs.Prelude.{ℕ, ◌+◌, ◌||◌, cond, drop, length, map, List, [], ◌∷◌, ◌++◌, Option}
use Rattle.std.specs.Prelude.{Some, None, option_map}
use Rattle.wl_wire.specs.Wire.{cut}
use Rattle.transfer_frames.specs.declared.frame.Frame.{Frame}
use Rattle.transfer_frames.specs.declared.frame.Frame.TheVariants as frames
use Rattle.transfer_frames.specs.declared.frame.FrameRole.{FrameRole}
use Rattle.transfer_frames.specs.declared.frame.FrameRole.TheVariants.{Counted, Tells, Greets}
use Rattle.transfer_frames.specs.Grammar.{role, spelling}
use Rattle.half_model.specs.declared.items.FileReceipt.{FileReceipt}
use Rattle.half_model.specs.declared.items.PeerIn.{PeerIn}
use Rattle.half_model.specs.declared.items.PeerIn.TheVariants as inputs
use Rattle.half_model.specs.declared.items.PeerOut.{PeerOut}
use Rattle.half_model.specs.declared.items.PeerOut.TheVariants as outputs
use Rattle.half_model.specs.declared.notes.Noted.{Noted}
use Rattle.half_model.specs.declared.notes.Noted.TheVariants as notes
use Rattle.half_model.specs.Content.{Hearing, heard}
use Rattle.half_model.specs.Inlet.{with_item}
use Rattle.half_model.specs.Jobs.{lent, handed}
use Rattle.half_model.specs.PipeTurn as pipes
use Rattle.half_model.specs.PipeTurn.{PipeTurn, pipe_turn}
use Rattle.half_model.specs.Turn as turns
use Rattle.half_model.specs.Turn.{Turn, turn, Treated, MadeGroup, group_due, settled}
use Rattle.pair_model.specs.Rows.{is_counted}
use Rattle.pair_model.specs.LinkFaults.{is_close}
use Rattle.pair_model.specs.RingState.{RingState, ring_push_all, ring_ack, ring_at}
use Rattle.pair_model.specs.Steps.{Here, here_up, here_fed, here_sent, here_read, chosen}
use Rattle.side_model.specs.Events.{Event, Fed, Handed, Lent, Up, Down, Came, Went, Gave, Asks}
use Rattle.side_model.specs.Events.{Told, Heard, Took, Grouped, Ended, Chose}
use Rattle.side_model.specs.State.{Now, KeptPart, LivePart, Closing, Open, Asked, Made}

-- ---- parts of a state

abbrev pub with_kept : (KeptPart → KeptPart) → Now → Now
with_kept change s = record s { kept = change s.kept }

abbrev pub with_live : (LivePart → LivePart) → Now → Now
with_live change s = record s { live = change s.live }

-- a change of the connection that is up, if one is
abbrev pub with_here : (Here → Here) → Now → Now
with_here change s = with_live (λ live. record live { here = option_map change live.here }) s

abbrev pub noted : Noted → KeptPart → KeptPart
noted note kept = record kept { notes = kept.notes ++ note ∷ [] }

-- frames are made and noted, with the copies that went into them
abbrev pub made : MadeGroup → KeptPart → KeptPart
made it kept =
    noted (notes.Group it.frames it.copies)
    (record kept { ring = ring_push_all (map spelling it.frames) kept.ring })

-- one frame alone
abbrev pub alone : Frame → MadeGroup
alone frame = record { frames = frame ∷ []; copies = []; receipts = [] }

-- ---- from outside

-- an item for a pipe is refused, dropped, or makes a frame
abbrev pub fed_pipe : PipeTurn → Now → Now
fed_pipe pipes.Barred s = s
fed_pipe (pipes.Drops tables) s = with_live (λ live. record live { tables = tables }) s
fed_pipe (pipes.Makes frame tables) s =
    with_kept (made (alone frame)) (with_live (λ live. record live { tables = tables }) s)

abbrev pub fed_inlet : PeerIn → Now → Now
fed_inlet item s = with_live (λ live. record live {
  sending = record live.sending { inlet = with_item item live.sending.inlet };
}) s

abbrev pub fed : PeerIn → Now → Now
fed (inputs.Pipe item) s = fed_pipe (pipe_turn s.live.tables s.live.taking item) s
fed item s = fed_inlet item s

-- the first item goes
abbrev pub gone : List PeerOut → LivePart → LivePart
gone [] live = record live { receipts = drop 1 live.receipts }
gone (item ∷ items) live = record live { items = items }

abbrev pub asked : ℕ → Closing → Closing
asked reason Open = Asked reason
asked reason closing = closing

-- ---- from inside

-- a count of frames that the other side accepted
abbrev pub acked_by : FrameRole → RingState → RingState
acked_by (Counted closes) ring = ring
acked_by (Tells count) ring = ring_ack count ring
acked_by (Greets token connection received) ring = ring_ack received ring

-- how many messages came with a frame
abbrev pub notes_heard : Frame → List Noted → List Noted
notes_heard (frames.Protocol bytes) notes_yet =
    notes_yet ++ notes.Received (length (cut bytes)) ∷ []
notes_heard frame notes_yet = notes_yet

abbrev pub kept_heard : Frame → KeptPart → KeptPart
kept_heard frame kept = record kept {
  ring = acked_by (role frame) kept.ring;
  accepted = kept.accepted + cond (is_counted (role frame)) 1 0;
  heard_close = kept.heard_close || is_close (role frame);
  notes = notes_heard frame kept.notes;
}

-- the frame leaves the bytes read
abbrev pub here_heard : Frame → Here → Here
here_heard frame here = here_read frame (drop (length (spelling frame)) here.unread) here

abbrev pub live_heard : Frame → Hearing → LivePart → LivePart
live_heard frame it live = record live {
  here = option_map (here_heard frame) live.here;
  tables = it.tables;
  taking = it.taking;
  items = live.items ++ it.given;
}

abbrev pub took : Turn → Now → Now
took (turns.Takes it) s =
    with_kept (λ kept. noted (notes.Taken it.message) (record kept { jobs = it.jobs }))
    (with_live (λ live. record live { tables = it.tables; sending = it.sending }) s)
took other s = s

abbrev pub receipt_item : FileReceipt → PeerOut
receipt_item it = outputs.Receipt it.number it.segment it.receipt

abbrev pub grouped : Option MadeGroup → Now → Now
grouped None s = s
grouped (Some it) s =
    with_kept (λ kept. made it (record kept { jobs = [] }))
    (with_live (λ live. record live {
      sending = settled live.sending;
      receipts = live.receipts ++ map receipt_item it.receipts;
    }) s)

abbrev pub ended : Closing → Now → Now
ended (Asked reason) s =
    with_kept (λ kept. made (alone (frames.Close reason)) (record kept { closing = Made })) s
ended closing s = s

-- ---- all of them

unfoldable pub step : Event → Now → Now
step (Fed item) s = fed item s
step (Handed done) s = with_kept (λ kept. record kept { jobs = handed done kept.jobs }) s
step Lent s = with_kept (λ kept. record kept { jobs = lent kept.jobs }) s
step (Up connection) s =
    with_kept (λ kept. record kept { last = connection })
    (with_live (λ live. record live { here = Some (here_up s.token connection s.kept.accepted) }) s)
step Down s = with_live (λ live. record live { here = None }) s
step (Came piece) s = with_here (here_fed piece) s
step (Went n) s = with_here (here_sent n) s
step Gave s = with_live (λ live. gone live.items live) s
step (Asks reason) s = with_kept (λ kept. record kept { closing = asked reason kept.closing }) s
step Told s = with_kept (λ kept. record kept { notes = drop 1 kept.notes }) s
step (Heard frame) s =
    with_kept (kept_heard frame)
    (with_live (live_heard frame (heard s.live.tables s.live.taking frame)) s)
step Took s = took (turn s.live.tables s.live.sending) s
step Grouped s = grouped (group_due s.live.sending.owes s.kept.jobs) s
step Ended s = ended s.kept.closing s
step Chose s = with_here (λ here. chosen s.kept.accepted (ring_at here.next s.kept.ring) here) s
