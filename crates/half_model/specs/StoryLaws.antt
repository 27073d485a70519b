-- Laws of one side's story: what its made frames are and in which order, what it tracked, and what
-- the other side is to have; messages and tracking are Wayland's, all else is this project's own.
use Rattle.std.specs.Prelude.{◌≡◌, ℕ, ◌≤◌, List, [], ◌++◌, ℤ, length, map, filter_map, false}
use Rattle.std.specs.Prelude.{Option, Some, None, IsSome, Ok}
use Rattle.std.specs.List.{flat_map, AllByRecursion}
use Rattle.block_intervals.specs.Statements.{counted}
use Rattle.wp_outside.specs.declared.kinds.Side.{Side}
use Rattle.wl_objects.specs.Entries.{first_objects}
use Rattle.wl_objects.specs.Registry.{first_state, state_after}
use Rattle.wl_objects.specs.Tracking.{track}
use Rattle.wp_outside.specs.declared.kinds.Side.TheVariants.{Far}
use Rattle.handle_table.specs.Table.{rid_at}
use Rattle.transfer_frames.specs.declared.frame.Frame.{Frame}
use Rattle.transfer_frames.specs.declared.frame.Frame.TheVariants.{OpenFile, Fill, OpenPipe}
use Rattle.transfer_frames.specs.Grammar.{IsFrame}
use Rattle.pair_model.specs.LinkFaults.{has_closed, ClosesLast}
use Rattle.pair_model.specs.Rows.{AllCounted}
use Rattle.half_model.specs.declared.notes.CopyRecord.{CopyRecord}
use Rattle.half_model.specs.Filling.{words_bytes}
use Rattle.half_model.specs.Group.{Owed, IsGroup, words_in}
use Rattle.half_model.specs.Log.{Mark, LogState, log_new, Logs, log_after, MayMake}
use Rattle.mirror_pools.specs.Sizes.{MOST_FILE, MOST_FILES, total}
use Rattle.half_model.specs.Story.{made_in, copies_in, order_in, messages_in, shown_of}
use Rattle.half_model.specs.Story.{owed_messages}

-- where a story has come to
abbrev pub now : Side → List Mark → LogState
now side story = log_after (log_new side) story

-- the story follows the rules from the beginning
abbrev pub IsStory : Side → List Mark → Type 0
IsStory side story = Logs (log_new side) story

-- ---- the frames

-- frames of the grammar, all counted
pub record AreGood (frames : List Frame) : Type 0 where
  pub are_frames : AllByRecursion IsFrame frames
  pub count : AllCounted frames

-- each frame that is made is in the grammar and counted, and CLOSE is made last
pub record MadeIsGood : Type 0 where
  pub good : (side : Side) (story : List Mark) → IsStory side story → AreGood (made_in story)
  pub last : (side : Side) (story : List Mark) → IsStory side story → ClosesLast (made_in story)

-- a group has at most 1,091 frames, and none is CLOSE where a message is owed
pub record IsFit (owed : Option Owed) (frames : List Frame) : Type 0 where
  pub short : length frames ≤ 1091
  pub good : AreGood frames
  pub goes_on : IsSome owed → has_closed frames ≡ false

abbrev pub GroupsFit : Type 0
GroupsFit =
    (side : Side) (story : List Mark) (frames : List Frame) (copies : List CopyRecord)
    → IsStory side story
    → MayMake (now side story) (now side story).owes frames copies
    → IsFit (now side story).owes frames

-- the bytes of a FILL
abbrev pub filled_by : Frame → List ℕ
filled_by (Fill rid start end bytes) = bytes
filled_by frame = []

-- the bytes of all FILL frames are those of the words of all copies, in order
abbrev pub FillsAreCopies : Type 0
FillsAreCopies =
    (side : Side) (story : List Mark)
    → IsStory side story
    → flat_map filled_by (made_in story) ≡ words_bytes (words_in (copies_in story))

-- the rid of a frame that opens a file or a pipe
abbrev pub opened_by : Frame → Option ℤ
opened_by (OpenFile rid size) = Some rid
opened_by (OpenPipe rid) = Some rid
opened_by frame = None

-- the rids of the frames that open are 1, 2, 3 and so on at the near side, and -1, -2, -3 and so on
-- at the far side
abbrev pub OpensInOrder : Type 0
OpensInOrder =
    (side : Side) (story : List Mark)
    → IsStory side story
    → (count : ℕ) × (filter_map opened_by (made_in story) ≡ map (rid_at side) (counted 0 count))

-- ---- the messages

-- the order of passing is tracked, and leaves the objects that the side has; at the far side the
-- hidden pairs too
pub record OrderIsTracked : Type 0 where
  pub tracked : (side : Side) (story : List Mark) → IsStory side story
      → track first_objects (order_in side story) ≡ Ok (now side story).tables.objects.tracked
  pub hidden : (story : List Mark) → IsStory Far story
      → state_after first_state (order_in Far story) ≡ (now Far story).tables.objects

-- the messages of the frames that were made, and the one that is owed, are those that are to be
-- shown, in their order
abbrev pub ShownInOrder : Type 0
ShownInOrder =
    (side : Side) (story : List Mark)
    → IsStory side story
    → messages_in (made_in story) ++ owed_messages (now side story).owes ≡ shown_of side story

-- a group without a message, which is that of an event that is not shown, has no frames and no
-- copies
abbrev pub UnshownIsEmpty : Type 0
UnshownIsEmpty =
    (side : Side) (story : List Mark) (owed : Owed) (frames : List Frame) (copies : List CopyRecord)
    → IsStory side story
    → (now side story).owes ≡ Some owed
    → owed.shown ≡ None
    → IsGroup owed copies frames
    → (frames ≡ []) × (copies ≡ [])

-- ---- the sizes

-- no told size is above the limit of a file, and all together are not above the limit of a side
pub record SizesAreBounded : Type 0 where
  pub each : (side : Side) (story : List Mark) → IsStory side story
      → AllByRecursion (λ one. one.1 ≤ MOST_FILE) (now side story).shm.told
  pub sum : (side : Side) (story : List Mark) → IsStory side story
      → total (now side story).shm.told ≤ MOST_FILES
