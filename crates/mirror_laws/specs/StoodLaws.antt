-- That each word of a mirror's filled blocks stood in the memory that a peer handed over, as an
-- application does by wl_shm of wayland.xml, and a compositor by wl_keyboard.keymap; either may
-- change it while it is copied. Mirrors, blocks and copies are this project's own.
use Rattle.std.specs.Prelude.{◌≡◌, ℕ, ◌+◌, ◌*◌, ◌/◌, ◌<◌, ℤ, true, List, length, map, All, Contains}
use Rattle.std.specs.Prelude.{slice_index, slice_range, Some, IsSomeAnd}
use Rattle.pool_words.specs.declared.views.Write.{Write}
use Rattle.pool_words.specs.declared.views.Load.{Load}
use Rattle.pool_words.specs.History.{at, HasStood, Untouched}
use Rattle.pool_words.specs.Views.{sight, sights, load}
use Rattle.shm_pools.specs.declared.places.WordPlace.{WordPlace}
use Rattle.shm_pools.specs.Files.{place_in}
use Rattle.block_intervals.specs.Sets.{has}
use Rattle.wp_outside.specs.declared.kinds.Side.{Side}
use Rattle.transfer_frames.specs.declared.frame.Frame.{Frame}
use Rattle.transfer_frames.specs.Numbers.{long_bytes}
use Rattle.half_model.specs.declared.notes.CopyRecord.{CopyRecord}
use Rattle.half_model.specs.Group.{Owed}
use Rattle.half_model.specs.Log.{Mark}
use Rattle.mirror_laws.specs.MirrorLaws.{IsUpTo, mirror_behind}

-- what was written to each segment of each file, by the peer's own number for the file
abbrev pub Histories : Type 0
Histories = ℤ → ℕ → List Write

-- what was written to the segment of a copy
abbrev pub history_of : Histories → CopyRecord → List Write
history_of histories copy = histories copy.file copy.segment

-- the loads that a copy is made of
abbrev pub loads_of : CopyRecord → List Load
loads_of copy = map (load copy.low copy.high) (sights copy.first copy.words)

-- each word of a copy stood in its segment between the copy's low and high
abbrev pub CopyStood : Histories → CopyRecord → Type 0
CopyStood histories copy = All (HasStood (history_of histories copy)) (loads_of copy)

abbrev pub AllStood : Histories → List CopyRecord → Type 0
AllStood histories copies = All (CopyStood histories) copies

-- ---- one word of a mirror

-- the eight bytes of a word
abbrev pub word_bytes_at : List ℕ → ℕ → List ℕ
word_bytes_at mirror word = slice_range mirror (8 * word) (8 * (word + 1))

-- where a word of a copy lies in its file
abbrev pub place_of : CopyRecord → ℕ → WordPlace
place_of copy index = record { segment = copy.segment; word = copy.first + index }

-- the load of a word of a copy
abbrev pub load_at : CopyRecord → ℕ → Load
load_at copy index =
    load copy.low copy.high (sight (copy.first + index) (slice_index copy.words index))

-- a word of a mirror is a word of one of these copies, at its place in the segments of the file,
-- and stood there between the copy's low and high
pub record WordStood
    (histories : Histories) (owed : Owed) (copies : List CopyRecord) (word : ℕ) (mirror : List ℕ)
    : Type 0 where
  pub copy : CopyRecord
  pub is_one : Contains copies copy
  pub index : ℕ
  pub within : index < length copy.words
  pub is : word_bytes_at mirror word ≡ long_bytes (slice_index copy.words index)
  pub file : copy.file ≡ owed.file
  pub place : place_in owed.segments word ≡ Some (place_of copy index)
  pub stood : HasStood (history_of histories copy) (load_at copy index)

-- where the copies of a message stood, each word of its filled blocks stood, in the mirror at the
-- message's frame
abbrev pub WordsStood : Type 0
WordsStood =
    (side : Side) (story : List Mark) (owed : Owed) (copies : List CopyRecord) (front : List Frame)
    (histories : Histories) (word : ℕ)
    → IsUpTo side story owed copies front
    → AllStood histories copies
    → has (word / 8) owed.pieces ≡ true
    → IsSomeAnd (mirror_behind story front owed.rid) (WordStood histories owed copies word)

-- the word is as it was at the note, where no write from then to the end of the copy names it
abbrev pub UntouchedIsNoted : Type 0
UntouchedIsNoted =
    (histories : Histories) (owed : Owed) (copies : List CopyRecord) (word : ℕ) (mirror : List ℕ)
    (stood : WordStood histories owed copies word mirror)
    → (let history = history_of histories stood.copy in
    let place = stood.copy.first + stood.index in
    Untouched history stood.copy.low stood.copy.high place
    → word_bytes_at mirror word ≡ long_bytes (at history stood.copy.low place))
