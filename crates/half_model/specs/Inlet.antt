-- What waits in a sending half: the bytes, handles and notes that its peer put on its wire and that
-- no taken message used. That handles and notes travel so beside the bytes of the Wayland wire
-- format is this project's own.
use Rattle.std.specs.Prelude.{ℕ, ◌+◌, nat_lt, if◌then◌else◌, ℤ, List, [], ◌∷◌, ◌++◌, length, drop}
use Rattle.std.specs.Prelude.{Option, Some, None, find}
use Rattle.std.specs.Ordering.{int_eq}
use Rattle.wp_outside.specs.declared.kinds.HandleKind.{HandleKind}
use Rattle.handle_table.specs.declared.handles.Handle.{Handle}
use Rattle.pool_words.specs.Views.{EyeState}
use Rattle.shm_pools.specs.declared.notes.FileEyes.{FileEyes}
use Rattle.shm_pools.specs.declared.notes.Note.{Note}
use Rattle.half_model.specs.declared.deeds.Deed.{Deed}
use Rattle.half_model.specs.declared.deeds.Deed.TheVariants.{Commit, Keymap}
use Rattle.half_model.specs.declared.items.PeerIn.{PeerIn}
use Rattle.half_model.specs.declared.items.PeerIn.TheVariants as items

-- what was fed and not used; each handle and note with the count of bytes that were fed before it
pub record Inlet : Type 0 where
  -- the bytes that wait, how many were fed in all, and how many of these were taken
  pub bytes : List ℕ
  pub fed : ℕ
  pub taken : ℕ
  pub handles : List (ℕ × Handle)
  pub notes : List (ℕ × Note)

abbrev pub no_inlet : Inlet
no_inlet = record { bytes = []; fed = 0; taken = 0; handles = []; notes = [] }

abbrev pub with_bytes : List ℕ → Inlet → Inlet
with_bytes piece inlet =
    record inlet { bytes = inlet.bytes ++ piece; fed = inlet.fed + length piece }

abbrev pub with_handle : Handle → Inlet → Inlet
with_handle handle inlet = record inlet { handles = inlet.handles ++ (inlet.fed, handle) ∷ [] }

abbrev pub with_note : Note → Inlet → Inlet
with_note note inlet = record inlet { notes = inlet.notes ++ (inlet.fed, note) ∷ [] }

-- the inlet with one more item, which is none of a pipe
abbrev pub with_item : PeerIn → Inlet → Inlet
with_item (items.Bytes piece) inlet = with_bytes piece inlet
with_item (items.Handle handle) inlet = with_handle handle inlet
with_item (items.Note note) inlet = with_note note inlet
with_item (items.Pipe item) inlet = inlet

-- ---- what a message uses

-- where the message at the front ends, in the bytes that were fed
abbrev pub end_of : List ℕ → Inlet → ℕ
end_of message inlet = inlet.taken + length message

-- the oldest item, where it was fed before the last of so many bytes
abbrev pub ready : {X : Type 0} → ℕ → List (ℕ × X) → Option X
ready end [] = None
ready end (one ∷ others) = if nat_lt one.0 end then Some one.1 else None

abbrev pub without_ready : {X : Type 0} → ℕ → List (ℕ × X) → List (ℕ × X)
without_ready end [] = []
without_ready end (one ∷ others) = if nat_lt one.0 end then others else one ∷ others

-- the handle of a message that carries one, if it waits
abbrev pub handle_for : Option HandleKind → List ℕ → Inlet → Option Handle
handle_for None message inlet = None
handle_for (Some kind) message inlet = ready (end_of message inlet) inlet.handles

abbrev pub handles_left : Option HandleKind → List ℕ → Inlet → List (ℕ × Handle)
handles_left None message inlet = inlet.handles
handles_left (Some kind) message inlet = without_ready (end_of message inlet) inlet.handles

-- the note of a commit or a keymap, if it waits
abbrev pub note_for : Deed → List ℕ → Inlet → Option Note
note_for Commit message inlet = ready (end_of message inlet) inlet.notes
note_for (Keymap size) message inlet = ready (end_of message inlet) inlet.notes
note_for deed message inlet = None

abbrev pub notes_left : Deed → List ℕ → Inlet → List (ℕ × Note)
notes_left Commit message inlet = without_ready (end_of message inlet) inlet.notes
notes_left (Keymap size) message inlet = without_ready (end_of message inlet) inlet.notes
notes_left deed message inlet = inlet.notes

-- the inlet behind the message at its front, with the handle and the note of that message used
abbrev pub inlet_after : Option HandleKind → Deed → List ℕ → Inlet → Inlet
inlet_after kind deed message inlet = record {
  bytes = drop (length message) inlet.bytes;
  fed = inlet.fed;
  taken = end_of message inlet;
  handles = handles_left kind message inlet;
  notes = notes_left deed message inlet;
}

-- ---- eyes

-- the eyes of a file in a note
abbrev pub eyes_found : Option FileEyes → List EyeState
eyes_found None = []
eyes_found (Some it) = it.eyes

abbrev pub eyes_in : ℤ → Option Note → List EyeState
eyes_in file None = []
eyes_in file (Some note) = eyes_found (find (λ it. int_eq file it.number) note.files)
