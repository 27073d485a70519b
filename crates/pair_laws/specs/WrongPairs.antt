-- Pairs of records that the laws of a pair refuse: no two sides whose lines agree have them.
-- Messages are Wayland's; frames, mirrors, pipes and records are this project's own.
use Rattle.std.specs.Prelude.{◌≡◌, ◌≢◌, ℕ, ◌+◌, ◌/◌, ◌<◌, true, List, ◌∷◌, ◌++◌, ℤ, length}
use Rattle.std.specs.Prelude.{slice_get, Option, Some, Contains}
use Rattle.plain_lists.specs.Fronts.{IsFront}
use Rattle.block_intervals.specs.Sets.{has}
use Rattle.wp_outside.specs.declared.kinds.Side.{Side}
use Rattle.wp_outside.specs.declared.kinds.Side.TheVariants.{Near, Far}
use Rattle.wp_outside.specs.declared.pipe_items.PipeItem.{PipeItem}
use Rattle.wp_outside.specs.declared.pipe_items.PipeItem.TheVariants as items
use Rattle.pool_words.specs.History.{Stood}
use Rattle.transfer_frames.specs.declared.cause.FrameCause.{FrameCause}
use Rattle.transfer_frames.specs.declared.frame.Frame.{Frame}
use Rattle.transfer_frames.specs.Grammar.{role}
use Rattle.transfer_frames.specs.Numbers.{long_bytes}
use Rattle.half_model.specs.declared.items.PeerOut.{PeerOut}
use Rattle.half_model.specs.declared.notes.CopyRecord.{CopyRecord}
use Rattle.half_model.specs.ItemLaws.{given_in}
use Rattle.half_model.specs.Log.{Mark, Heard}
use Rattle.half_model.specs.PairLaws.{MayRefuse}
use Rattle.half_model.specs.Sides.{other_side}
use Rattle.half_model.specs.Story.{accepted_in, made_in}
use Rattle.mirror_laws.specs.StoodLaws.{Histories, history_of, AllStood, word_bytes_at, place_of}
use Rattle.mirror_pools.specs.Meaning.{mirror}
use Rattle.pair_model.specs.Rows.{is_counted}
use Rattle.pipe_relay.specs.Rows.{PipeStep, put_in, pieces_in}
use Rattle.shm_pools.specs.Files.{place_in}
use Rattle.side_model.specs.declared.fault.ProxyFault.TheVariants as faults
use Rattle.pair_laws.specs.Everything.{Drained}
use Rattle.pair_laws.specs.Orders.{Shows}
use Rattle.pair_laws.specs.Pairs.{OneSide, Joined, IsPair, Sends}
use Rattle.pair_laws.specs.PipeRuns.{IsPipeRun, pipe_items_in}
use Rattle.pair_laws.specs.Received.{received_by, sent_by, ReceivedAt}

-- ---- frames

-- a frame was accepted twice
abbrev pub AcceptsTwice : Type 0
AcceptsTwice = (one_side other_side : Side) (one other : OneSide)
    (both : Joined one_side other_side one other)
    (before : List Frame) (frame next : Frame) (after later : List Frame)
    → accepted_in both.one_law.story ≡ before ++ frame ∷ frame ∷ after
    → other.book.trail.made ≡ before ++ frame ∷ next ∷ later → frame ≢ next → ⊥

-- a frame was left out
abbrev pub LeavesOut : Type 0
LeavesOut = (one_side other_side : Side) (one other : OneSide)
    (both : Joined one_side other_side one other)
    (before : List Frame) (frame next : Frame) (after later : List Frame)
    → accepted_in both.one_law.story ≡ before ++ next ∷ after
    → other.book.trail.made ≡ before ++ frame ∷ next ∷ later → frame ≢ next → ⊥

-- a frame was accepted that was not made
abbrev pub AcceptsUnmade : Type 0
AcceptsUnmade = (one_side other_side : Side) (one other : OneSide)
    → Joined one_side other_side one other
    → length other.book.trail.made < one.book.trail.accepted → ⊥

-- a frame is known to be accepted that was not
abbrev pub KnowsTooMuch : Type 0
KnowsTooMuch = (one_side other_side : Side) (one other : OneSide)
    → Joined one_side other_side one other
    → other.book.trail.accepted < one.book.trail.acknowledged → ⊥

-- a frame was refused for another cause than its messages
abbrev pub RefusesElse : Type 0
RefusesElse = (near far : OneSide) (connection place : ℕ) (cause : FrameCause)
    → IsPair near far → near.token ≡ far.token → (MayRefuse (Some cause) → ⊥)
    → far.fault ≡ Some (faults.Frame connection place cause) → ⊥

-- ---- messages

-- a message was received that is not the one sent in its place
abbrev pub ReceivesAnother : Type 0
ReceivesAnother = (near far : OneSide) (pair : IsPair near far) (index : ℕ)
    (received sent : List ℕ) (rid other : Option ℤ)
    → slice_get (received_by Far far pair.other_law) index ≡ Some (received, rid)
    → slice_get (sent_by Near near pair.one_law) index ≡ Some (sent, other)
    → received ≢ sent → ⊥

-- a message was received with another rid
abbrev pub ReceivesOtherRid : Type 0
ReceivesOtherRid = (near far : OneSide) (pair : IsPair near far) (index : ℕ)
    (received sent : List ℕ) (rid other : Option ℤ)
    → slice_get (received_by Far far pair.other_law) index ≡ Some (received, rid)
    → slice_get (sent_by Near near pair.one_law) index ≡ Some (sent, other)
    → rid ≢ other → ⊥

-- a message was heard before all was made that its sender had heard when it took the message
abbrev pub HearsEarly : Type 0
HearsEarly = (side : Side) (sender hearer : OneSide) (both : Sends side sender hearer)
    (earlier : List Mark) (frame : Frame) (later : List Mark) (message : List ℕ)
    → both.other_law.story ≡ earlier ++ Heard frame ∷ later → is_counted (role frame) ≡ true
    → (shows : Shows both.one_law.story message (length (accepted_in earlier)))
    → length (made_in earlier) < length (accepted_in shows.earlier) → ⊥

-- a drained pair, of which a peer has not received a message
abbrev pub MissesOne : Type 0
MissesOne = (near far : OneSide) (pair : IsPair near far) → Drained near far pair
    → length (received_by Far far pair.other_law) < length near.book.trail.taken → ⊥

-- ---- mirrors and pipes

-- no copy of this word stood with these bytes
abbrev pub NeverStood : Histories → ℤ → List ℕ → List CopyRecord → ℕ → List ℕ → Type 0
NeverStood histories file segments copies word bytes =
    (copy : CopyRecord) (index value : ℕ)
    → Contains copies copy → index < length copy.words → copy.file ≡ file
    → place_in segments word ≡ Some (place_of copy index)
    → Stood (history_of histories copy) copy.low copy.high (copy.first + index) value
    → bytes ≢ long_bytes value

-- a word of a filled block never stood, though all copies did
abbrev pub FillsUnstood : Type 0
FillsUnstood = (histories : Histories) (side : Side) (sender hearer : List Mark) (index : ℕ)
    (message : List ℕ) (it : ReceivedAt side sender hearer index message) (word : ℕ)
    (bytes : List ℕ)
    → AllStood histories it.at.copies → has (word / 8) it.at.owed.pieces ≡ true
    → mirror it.at.owed.rid it.front ≡ Some bytes
    → NeverStood histories it.at.owed.file it.at.owed.segments it.at.copies word
    (word_bytes_at bytes word)
    → ⊥

-- a piece was given that was not put
abbrev pub GivesUnput : Type 0
GivesUnput = (side : Side) (sender hearer : OneSide) (both : Sends side sender hearer)
    (steps : List PipeStep) (given : List PeerOut) (rid : ℤ)
    → IsPipeRun side both.one_law.story steps
    → IsFront given (given_in (other_side side) both.other_law.story)
    → length (pieces_in rid (put_in steps)) < length (pieces_in rid (pipe_items_in given)) → ⊥

-- the end of a pipe was given before all of its pieces
abbrev pub EndsPipeEarly : Type 0
EndsPipeEarly = (side : Side) (sender hearer : OneSide) (both : Sends side sender hearer)
    (steps : List PipeStep) (given : List PeerOut) (rid : ℤ) (front rest : List PipeItem)
    → IsPipeRun side both.one_law.story steps
    → IsFront given (given_in (other_side side) both.other_law.story)
    → pipe_items_in given ≡ front ++ items.End rid ∷ rest
    → length (pieces_in rid front) < length (pieces_in rid (put_in steps)) → ⊥
