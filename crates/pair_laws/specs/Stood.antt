-- That each word filled for a message that a peer has received stood in the memory of the other
-- peer while it was copied. Messages are Wayland's; mirrors, blocks and copies are this project's
-- own.
use Rattle.std.specs.Prelude.{◌≡◌, ℕ, ◌+◌, ◌/◌, true, List, ◌++◌, ℤ, slice_get, Option, Some}
use Rattle.std.specs.Prelude.{IsSomeAnd}
use Rattle.block_intervals.specs.Sets.{has}
use Rattle.pool_words.specs.History.{at, Untouched}
use Rattle.transfer_frames.specs.Numbers.{long_bytes}
use Rattle.wp_outside.specs.declared.kinds.Side.{Side}
use Rattle.half_model.specs.declared.notes.CopyRecord.{CopyRecord}
use Rattle.half_model.specs.Group.{Owed}
use Rattle.half_model.specs.Log.{Mark}
use Rattle.half_model.specs.Sides.{other_side}
use Rattle.mirror_pools.specs.Meaning.{mirror}
use Rattle.mirror_laws.specs.StoodLaws.{Histories, history_of, AllStood, word_bytes_at, WordStood}
use Rattle.pair_laws.specs.Pairs.{OneSide, Sends}
use Rattle.pair_laws.specs.Received.{received_by, ReceivedAt}

-- a word of a mirror stood, between the low and the high of its copy, and is the one of the note
-- where no write names it until the copy's end
pub record StoodOrIs (histories : Histories) (owed : Owed) (copies : List CopyRecord) (word : ℕ)
    (mirror : List ℕ) : Type 0 where
  pub stood : WordStood histories owed copies word mirror
  pub untouched : Untouched (history_of histories stood.copy) stood.copy.low stood.copy.high
      (stood.copy.first + stood.index)
      → word_bytes_at mirror word
      ≡ long_bytes (at (history_of histories stood.copy) stood.copy.low
      (stood.copy.first + stood.index))

-- the message of an index was received, and each word of its filled blocks stood, in the mirror at
-- the message, if its copies did, which are among those of the sender's record
pub record StoodAt (histories : Histories) (side : Side) (sender hearer : List Mark)
    (copies : List CopyRecord) (index : ℕ) (message : List ℕ) : Type 0 where
  pub received : ReceivedAt side sender hearer index message
  pub before : List CopyRecord
  pub after : List CopyRecord
  pub among : copies ≡ before ++ (received.at.copies ++ after)
  pub words : AllStood histories received.at.copies
      → (word : ℕ) → has (word / 8) received.at.owed.pieces ≡ true
      → IsSomeAnd (mirror received.at.owed.rid received.front)
      (StoodOrIs histories received.at.owed received.at.copies word)

abbrev pub WordsStoodThere : Type 0
WordsStoodThere = (histories : Histories) (side : Side) (sender hearer : OneSide)
    (both : Sends side sender hearer) (index : ℕ) (message : List ℕ) (rid : Option ℤ)
    → slice_get (received_by (other_side side) hearer both.other_law) index ≡ Some (message, rid)
    → StoodAt histories side both.one_law.story both.other_law.story sender.book.trail.copies index
    message
