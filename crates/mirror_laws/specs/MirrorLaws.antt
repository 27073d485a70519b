-- Laws of the mirrors that a side's frames make: how long each is, and what it has at each message.
-- Messages are Wayland's; mirrors, blocks and copies are this project's own.
use Rattle.std.specs.Prelude.{◌≡◌, ◌≢◌, ℕ, ◌*◌, ◌/◌, ◌≤◌, ℤ, false, List, [], ◌∷◌, ◌++◌, length}
use Rattle.std.specs.Prelude.{slice_index, slice_range, Option, Some, None, option_map, unwrap_or}
use Rattle.std.specs.List.{flat_map}
use Rattle.block_intervals.specs.declared.run.Run.{Run}
use Rattle.block_intervals.specs.Sets.{has}
use Rattle.wp_outside.specs.declared.kinds.Side.{Side}
use Rattle.transfer_frames.specs.declared.frame.Frame.{Frame}
use Rattle.transfer_frames.specs.declared.frame.Frame.TheVariants.{Protocol}
use Rattle.half_model.specs.declared.notes.CopyRecord.{CopyRecord}
use Rattle.half_model.specs.Filling.{Ascends, words_bytes}
use Rattle.half_model.specs.Group.{Owed, IsGroup, words_in}
use Rattle.half_model.specs.Log.{Mark}
use Rattle.mirror_pools.specs.Meaning.{mirror}
use Rattle.mirror_pools.specs.Sizes.{size_at, rounded}
use Rattle.half_model.specs.Story.{made_in}
use Rattle.half_model.specs.StoryLaws.{now, IsStory}

-- ---- one mirror

-- the bytes of a piece
abbrev pub bytes_at : List ℕ → Run → List ℕ
bytes_at bytes piece = slice_range bytes (64 * piece.first) (64 * piece.end)

-- A mirror of this size whose pieces were filled with these bytes, and which is else as it was. A
-- byte past the end of a list counts as 0, so what a mirror has grown by is zeros.
pub record IsFilled (size : ℕ) (pieces : List Run) (bytes old new : List ℕ) : Type 0 where
  pub sized : length new ≡ rounded size
  pub grows : length old ≤ length new
  pub within : Ascends 0 pieces (length new / 64)
  pub filled : flat_map (bytes_at new) pieces ≡ bytes
  pub others : (i : ℕ) → has (i / 64) pieces ≡ false → slice_index new i ≡ slice_index old i

-- a mirror before and after, where its file was told a size: there is none while no size was told,
-- and one that is new was without bytes
abbrev pub Fills : Option ℕ → List Run → List ℕ → Option (List ℕ) → Option (List ℕ) → Type 0
Fills None pieces bytes old new = (pieces ≡ []) × (bytes ≡ []) × (old ≡ None) × (new ≡ None)
Fills (Some size) pieces bytes old None = ⊥
Fills (Some size) pieces bytes old (Some new) = IsFilled size pieces bytes (unwrap_or old []) new

-- ---- along a story

-- the size that a side has told of a file
abbrev pub told_of : Side → List Mark → ℤ → Option ℕ
told_of side story rid = size_at rid (now side story).shm.told

-- the mirror of a rid behind a story, and behind more frames
abbrev pub mirror_of : List Mark → ℤ → Option (List ℕ)
mirror_of story rid = mirror rid (made_in story)

abbrev pub mirror_behind : List Mark → List Frame → ℤ → Option (List ℕ)
mirror_behind story front rid = mirror rid (made_in story ++ front)

-- at the end of a story a group is owed, which has these frames before its message
pub record IsUpTo
    (side : Side) (story : List Mark) (owed : Owed) (copies : List CopyRecord) (front : List Frame)
    : Type 0 where
  pub is_story : IsStory side story
  pub owes : (now side story).owes ≡ Some owed
  pub message : List ℕ
  pub later : List Frame
  pub is_group : IsGroup owed copies (front ++ Protocol message ∷ later)

-- what the frames before a message do to the mirror of a rid
abbrev pub FillsMirror : Side → List Mark → List Frame → ℤ → List Run → List ℕ → Type 0
FillsMirror side story front rid pieces bytes =
    Fills (told_of side story rid) pieces bytes (mirror_of story rid)
    (mirror_behind story front rid)

-- At a message's frame the mirror of its file has the words of its copies in its filled blocks, in
-- order, and is else as before the group; every other mirror is as before.
pub record MirrorAtMessage : Type 0 where
  pub own
      : (side : Side) (story : List Mark) (owed : Owed) (copies : List CopyRecord)
      (front : List Frame)
      → IsUpTo side story owed copies front
      → FillsMirror side story front owed.rid owed.pieces (words_bytes (words_in copies))
  pub others
      : (side : Side) (story : List Mark) (owed : Owed) (copies : List CopyRecord)
      (front : List Frame) (rid : ℤ)
      → IsUpTo side story owed copies front
      → rid ≢ owed.rid
      → FillsMirror side story front rid [] []

-- where nothing is owed, each mirror is as long as the size that was told of its file
abbrev pub MirrorsAreSized : Type 0
MirrorsAreSized =
    (side : Side) (story : List Mark) (rid : ℤ)
    → IsStory side story
    → (now side story).owes ≡ None
    → option_map length (mirror_of story rid) ≡ option_map rounded (told_of side story rid)
