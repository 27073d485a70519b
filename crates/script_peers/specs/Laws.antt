-- What follows of a peer of a replay: that its wire carries what its lines put, once each and in
-- order, whose bytes are those of the script, and that its files have the writes of the lines.
use Rattle.std.specs.Prelude.{◌≡◌, ℕ, ℤ, List, [], ◌∷◌, ◌++◌, Some, codes, true, false}
use Rattle.std.specs.Prelude.{slice_get, zero, suc, ◌+◌, ◌<◌, ◌==◌, if◌then◌else◌, length}
use Rattle.wl_tables.specs.Messages.{message_name}
use Rattle.wl_tables.specs.declared.interface.Interface.TheVariants.{WlSurface, WlKeyboard}
use Rattle.wp_outside.specs.declared.kinds.Side.{Side}
use Rattle.pool_words.specs.declared.views.Write.{Write}
use Rattle.pool_words.specs.Views.{EyeState, ReceiptState, write}
use Rattle.shm_pools.specs.Files.{FileState, pen_sizes, pen_at, segment_of, offset_of}
use Rattle.half_model.specs.Inlet.{eyes_in}
use Rattle.half_model.specs.declared.items.PeerIn.{PeerIn}
use Rattle.half_model.specs.declared.items.PeerOut.{PeerOut}
use Rattle.script_lang.specs.Puts.{put_by_all}
use Rattle.script_lang.specs.declared.steps.Step.{Step}
use Rattle.script_lang.specs.declared.steps.StepKind.{StepKind}
use Rattle.script_peers.specs.Owning.{Owned, note_on, written_from, IsOwnReceipt}
use Rattle.script_peers.specs.Peers.{ScriptedPeer, first_peer, Acts, gave}
use Rattle.script_peers.specs.Scripts.{Puts, bytes_in, IsBehind}
use Rattle.script_peers.specs.Wires.{Left, next_of}
use Rattle.script_peers.specs.declared.notable.TheConstants.{COMMIT, KEYMAP}

-- the bytes of what lines put are those of the script
abbrev pub BytesArePut : Type 0
BytesArePut =
    (side : Side) (steps : List Step) (old new : Owned) (put : List PeerIn)
    → Puts side steps old put new → bytes_in put ≡ put_by_all side steps

-- the bytes that left a wire and those that wait are those of the lines done
abbrev pub BytesAreKept : Type 0
BytesAreKept =
    (steps : List Step) (left : List PeerIn) (peer : ScriptedPeer) → IsBehind steps left peer
    → bytes_in left ++ bytes_in peer.wire ≡ put_by_all peer.side steps

-- each step of a peer keeps what lines it is behind: no item is lost, doubled or out of order
pub record StaysBehind : Type 0 where
  pub first : (side : Side) → IsBehind [] [] (first_peer side)
  pub acts : (steps : List Step) (left : List PeerIn) (old new : ScriptedPeer) (it : Step)
      → IsBehind steps left old → Acts it.what old new → IsBehind (steps ++ it ∷ []) left new
  pub leaves : (steps : List Step) (left : List PeerIn) (old : ScriptedPeer) (most : ℕ) (it : Left)
      → IsBehind steps left old → next_of most old.wire ≡ Some it
      → IsBehind steps (left ++ it.item ∷ []) (record old { wire = it.rest })
  pub gets : (steps : List Step) (left : List PeerIn) (old : ScriptedPeer) (item : PeerOut)
      → IsBehind steps left old → IsBehind steps left (gave item old)

-- notes go before wl_surface.commit and wl_keyboard.keymap
pub record NotedByName : Type 0 where
  pub commit : message_name WlSurface false COMMIT ≡ Some (codes "commit")
  pub keymap : message_name WlKeyboard true KEYMAP ≡ Some (codes "keymap")

-- a receipt of an eye that a note holds is one for the pen of its segment, and stays so whatever
-- the peer does and is given: so that it can be settled
pub record ReceiptsAreOwn : Type 0 where
  pub noted : (files : List FileState) (number : ℤ) (segment : ℕ) (eye : EyeState)
      (receipt : ReceiptState)
      → slice_get (eyes_in number (Some (note_on files))) segment ≡ Some eye
      → receipt.number ≡ eye.number → receipt.pool ≡ eye.pool
      → IsOwnReceipt number segment receipt files
  pub acts : (old new : ScriptedPeer) (what : StepKind) (number : ℤ) (segment : ℕ)
      (receipt : ReceiptState)
      → IsOwnReceipt number segment receipt old.own.files → Acts what old new
      → IsOwnReceipt number segment receipt new.own.files
  pub gets : (old : ScriptedPeer) (item : PeerOut) (number : ℤ) (segment : ℕ)
      (receipt : ReceiptState)
      → IsOwnReceipt number segment receipt old.own.files
      → IsOwnReceipt number segment receipt (gave item old).own.files

-- the writes to one segment among those of so many words of a file of these sizes, in order
abbrev pub writes_in : List ℕ → ℕ → ℕ → ℕ → ℕ → List Write
writes_in sizes segment first zero value = []
writes_in sizes segment first (suc count) value =
    writes_in sizes segment first count value
    ++ (if segment_of sizes (first + count) == segment
    then write (offset_of sizes (first + count)) value ∷ [] else [])

-- words that are written one after another add to the history of each segment just the writes of
-- its own words
abbrev pub FillsWrite : Type 0
FillsWrite =
    (f : FileState) (first count value segment : ℕ) → segment < length f.segments
    → (pen_at (written_from first count value f).segments segment).history
    ≡ (pen_at f.segments segment).history
    ++ writes_in (pen_sizes f.segments) segment first count value
