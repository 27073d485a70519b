-- The frames of one message of a side's own peer, which are made together once the words of its
-- filled blocks are copied; frames and copies are this project's own.
use Rattle.std.specs.Prelude.{◌≡◌, ℕ, ℤ, List, ◌++◌, length, map, Option, Some, None, Result, Ok}
use Rattle.std.specs.Prelude.{Err, if◌then◌else◌}
use Rattle.std.specs.List.{flat_map}
use Rattle.block_intervals.specs.declared.run.Run.{Run}
use Rattle.handle_table.specs.declared.handles.Handle.{Handle}
use Rattle.transfer_frames.specs.declared.frame.Frame.{Frame}
use Rattle.half_model.specs.declared.causes.PeerCause.TheVariants.{NoteMissing}
use Rattle.half_model.specs.declared.notes.CopyRecord.{CopyRecord}
use Rattle.half_model.specs.Filling.{Part, pieces_of, parts_of, covers, words_bytes, fills, ending}
use Rattle.half_model.specs.Planning.{Plan, Refusal, ByCause, plan}
use Rattle.half_model.specs.Shm.{ShmState}
use Rattle.half_model.specs.Tables.{Tables}

-- What a side owes the other one for a message that it took: the frames before the filled blocks,
-- the file, the pieces of its blocks and how many words each of its segments has, and the message
-- as it is shown. Where there are no pieces the file says nothing.
pub record Owed : Type 0 where
  pub before : List Frame
  pub rid : ℤ
  pub file : ℤ
  pub pieces : List Run
  pub segments : List ℕ
  pub shown : Option (List ℕ)

-- what a plan owes, where the eyes of its file have so many words each
abbrev pub owed_by : Plan → List ℕ → Owed
owed_by it segments = record {
  before = it.before;
  rid = it.filling.file.rid;
  file = it.filling.file.number;
  pieces = pieces_of it.filling.runs;
  segments = segments;
  shown = it.shown;
}

-- the frames, where the filled blocks have these bytes
abbrev pub frames_of : Owed → List ℕ → List Frame
frames_of owed bytes = owed.before ++ (fills owed.rid owed.pieces bytes ++ ending owed.shown)

-- ---- copies

-- which words a copy has
abbrev pub part_of : CopyRecord → Part
part_of copy = record {
  file = copy.file;
  segment = copy.segment;
  first = copy.first;
  count = length copy.words;
}

-- the words of copies, one after another
abbrev pub words_in : List CopyRecord → List ℕ
words_in copies = flat_map (λ copy. copy.words) copies

-- the copies are the parts of the pieces in the file's segments, one each in order, and the frames
-- have their words
pub record IsGroup (owed : Owed) (copies : List CopyRecord) (frames : List Frame) : Type 0 where
  pub are_parts : map part_of copies ≡ parts_of owed.file owed.segments owed.pieces
  pub is : frames ≡ frames_of owed (words_bytes (words_in copies))

-- ---- one message

-- a plan is refused where the eyes of its file don't cover its blocks
abbrev pub note_refusal : Plan → List ℕ → Option Refusal
note_refusal it segments =
    if covers it.filling.runs segments then None else Some (ByCause NoteMissing)

abbrev pub refusal_in : Result Plan Refusal → List ℕ → Option Refusal
refusal_in (Ok it) segments = note_refusal it segments
refusal_in (Err refusal) segments = Some refusal

-- why a message is refused that has this handle, and a note of which the eyes of its file have so
-- many words each
abbrev pub refusal_of : Tables → ShmState → List ℕ → Option Handle → List ℕ → Option Refusal
refusal_of tables shm message handle segments = refusal_in (plan tables shm message handle) segments
