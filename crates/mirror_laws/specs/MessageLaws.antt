-- That each message among a side's made frames is the one of a group, so that what is said of a
-- group's mirrors is said at each message. Messages are Wayland's; frames, groups and mirrors are
-- this project's own.
use Rattle.std.specs.Prelude.{◌≡◌, ℕ, ◌/◌, true, List, ◌∷◌, ◌++◌, IsSomeAnd}
use Rattle.block_intervals.specs.Sets.{has}
use Rattle.wp_outside.specs.declared.kinds.Side.{Side}
use Rattle.transfer_frames.specs.declared.frame.Frame.{Frame}
use Rattle.transfer_frames.specs.declared.frame.Frame.TheVariants.{Protocol}
use Rattle.half_model.specs.declared.notes.CopyRecord.{CopyRecord}
use Rattle.half_model.specs.Group.{Owed}
use Rattle.half_model.specs.Log.{Mark, Grouped}
use Rattle.mirror_pools.specs.Meaning.{mirror}
use Rattle.half_model.specs.Story.{made_in, copies_in}
use Rattle.half_model.specs.StoryLaws.{IsStory}
use Rattle.mirror_laws.specs.MirrorLaws.{IsUpTo}
use Rattle.mirror_laws.specs.StoodLaws.{Histories, AllStood, WordStood}

-- the frames before a message are those of the groups before its own, and those of its own group
-- that go before it
pub record IsGrouped
    (side : Side) (story : List Mark) (front : List Frame) (message : List ℕ)
    : Type 0 where
  pub earlier : List Mark
  pub frames : List Frame
  pub copies : List CopyRecord
  pub rest : List Mark
  pub split : story ≡ earlier ++ Grouped frames copies ∷ rest
  pub owed : Owed
  pub inner : List Frame
  pub up_to : IsUpTo side earlier owed copies inner
  pub is_message : up_to.message ≡ message
  pub before : front ≡ made_in earlier ++ inner

abbrev pub EachIsGrouped : Type 0
EachIsGrouped =
    (side : Side) (story : List Mark) (front : List Frame) (message : List ℕ) (later : List Frame)
    → IsStory side story
    → made_in story ≡ front ++ Protocol message ∷ later
    → IsGrouped side story front message

-- the filled blocks of a message have words that stood, in the mirror behind the frames before it
pub record HasStoodWords
    (histories : Histories) (side : Side) (story : List Mark) (front : List Frame)
    (message : List ℕ)
    : Type 0 where
  pub at : IsGrouped side story front message
  pub words
      : (word : ℕ) → has (word / 8) at.owed.pieces ≡ true
      → IsSomeAnd (mirror at.owed.rid front) (WordStood histories at.owed at.copies word)

-- where all copies of a story stood, so did the words of the filled blocks at each of its messages
abbrev pub EachHasStoodWords : Type 0
EachHasStoodWords =
    (histories : Histories)
    (side : Side) (story : List Mark) (front : List Frame) (message : List ℕ) (later : List Frame)
    → IsStory side story
    → made_in story ≡ front ++ Protocol message ∷ later
    → AllStood histories (copies_in story)
    → HasStoodWords histories side story front message
