-- What the lines of a peer put on its wire and change of what it owns, as the language of scripts
-- says, which is this project's own. Messages, and what a commit and a keymap are, are Wayland's.
use Rattle.std.specs.Prelude.{ℕ, Bool, true, false, ◌&&◌, ◌==◌, ℤ, List, [], ◌∷◌, ◌++◌, length}
use Rattle.std.specs.Prelude.{filter_map, Option, Some, None, is_none, option_map, nat_le}
use Rattle.std.specs.Prelude.{if◌then◌else◌}
use Rattle.wl_text.specs.declared.text_message.TextMessage.{TextMessage}
use Rattle.wl_tables.specs.declared.interface.Interface.{Interface}
use Rattle.wl_tables.specs.declared.interface.Interface.TheVariants.{WlSurface, WlKeyboard}
use Rattle.wl_wire.specs.Wire.{opcode_of}
use Rattle.wp_outside.specs.declared.kinds.Side.{Side}
use Rattle.wp_outside.specs.declared.kinds.Side.TheVariants.{Near, Far}
use Rattle.wp_outside.specs.declared.pipe_items.PipeItem.TheVariants as pipe_items
use Rattle.pool_words.specs.Views.{PoolId}
use Rattle.shm_pools.specs.Files.{FileState}
use Rattle.half_model.specs.declared.items.PeerIn.{PeerIn}
use Rattle.half_model.specs.declared.items.PeerIn.TheVariants as items
use Rattle.script_lang.specs.declared.steps.StepKind.{StepKind}
use Rattle.script_lang.specs.declared.steps.StepKind.TheVariants as line
use Rattle.script_peers.specs.Owning.{Owned, place_of, changed, kind_of, handle_of, is_size}
use Rattle.script_peers.specs.Owning.{new_file, grown, filled, note_on}
use Rattle.script_peers.specs.Wires.{piece_of}
use Rattle.script_peers.specs.declared.notable.TheConstants.{COMMIT, KEYMAP}

-- ---- what stands on a wire

-- whether a note goes before a message: before a commit of the application, and before a keymap of
-- the compositor
abbrev pub wants_note : Side → Interface → ℕ → Bool
wants_note Near WlSurface opcode = opcode == COMMIT
wants_note Far WlKeyboard opcode = opcode == KEYMAP
wants_note side interface opcode = false

abbrev pub note_if : Bool → Owned → List PeerIn
note_if wanted own = if wanted then items.Note (note_on own.files) ∷ [] else []

-- a handle of a number, if it stands for a file or a pipe
abbrev pub handle_item : Owned → ℤ → Option PeerIn
handle_item own number = option_map items.Handle (handle_of own number)

abbrev pub handle_items : Owned → List ℤ → List PeerIn
handle_items own numbers = filter_map (handle_item own) numbers

-- a note first, then the handles, then the bytes as one piece
abbrev pub said : Side → Owned → TextMessage → List PeerIn
said peer own text =
    note_if (wants_note peer text.interface (opcode_of text.message)) own
    ++ (handle_items own text.handles ++ piece_of text.message)

-- a piece for a pipe has 1 to 65,536 bytes, and another one is none
abbrev pub is_pipe_piece : List ℕ → Bool
is_pipe_piece bytes = nat_le 1 (length bytes) && nat_le (length bytes) 65536

abbrev pub pipe_piece : ℤ → List ℕ → List PeerIn
pipe_piece pipe bytes =
    if is_pipe_piece bytes then items.Pipe (pipe_items.Bytes pipe bytes) ∷ [] else []

-- ---- lines

-- the peer whose own doing a line is
abbrev pub doer : StepKind → Option Side
doer (line.Hex peer bytes) = Some peer
doer (line.Say peer text) = Some peer
doer (line.File peer number size) = Some peer
doer (line.Grow peer number size) = Some peer
doer (line.Fill peer number first count value) = Some peer
doer (line.Pipe peer number) = Some peer
doer (line.Give peer number) = Some peer
doer (line.Put peer pipe bytes) = Some peer
doer (line.End peer pipe) = Some peer
doer (line.Shut peer number) = Some peer
doer what = None

abbrev pub is_side : Side → Option Side → Bool
is_side Near (Some Near) = true
is_side Far (Some Far) = true
is_side side other = false

-- whether a line is one of this peer's own doing
abbrev pub is_own : Side → StepKind → Bool
is_own side what = is_side side (doer what)

-- what a line of a peer puts on its wire
abbrev pub items_by : Owned → StepKind → List PeerIn
items_by own (line.Hex peer bytes) = piece_of bytes
items_by own (line.Say peer text) = said peer own text
items_by own (line.Give peer number) = handle_items own (number ∷ [])
items_by own (line.Put peer pipe bytes) = pipe_piece pipe bytes
items_by own (line.End peer pipe) = items.Pipe (pipe_items.End pipe) ∷ []
items_by own (line.Shut peer number) = items.Pipe (pipe_items.Shut number) ∷ []
items_by own what = []

-- a number that stands for nothing yet
abbrev pub is_free : ℤ → Owned → Bool
is_free number own = is_none (kind_of number own)

abbrev pub with_file : PoolId → ℤ → ℕ → Owned → Owned
with_file pool number size own =
    if is_free number own && is_size size
    then record own { files = own.files ++ new_file pool number size ∷ [] }
    else own

abbrev pub with_pipe : ℤ → Owned → Owned
with_pipe number own =
    if is_free number own then record own { pipes = own.pipes ++ number ∷ [] } else own

abbrev pub with_changed : ℤ → (FileState → FileState) → Owned → Owned
with_changed number step own =
    record own { files = changed step own.files (place_of number own.files) }

-- what a peer owns behind its line, where a new segment is of this pool; a line that names what it
-- can't, as no line of a script does, changes nothing
abbrev pub owned_after : PoolId → StepKind → Owned → Owned
owned_after pool (line.File peer number size) own = with_file pool number size own
owned_after pool (line.Grow peer number size) own = with_changed number (grown pool size) own
owned_after pool (line.Fill peer number first count value) own =
    with_changed number (filled first count value) own
owned_after pool (line.Pipe peer number) own = with_pipe number own
owned_after pool what own = own
