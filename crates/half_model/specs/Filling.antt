-- How filled blocks are cut into FILL frames, and each of these into the words of a file's
-- segments; blocks, frames and segments are this project's own.
use Rattle.std.specs.Prelude.{ℕ, zero, suc, ◌+◌, ◌-◌, ◌*◌, ◌/◌, ◌<◌, ◌≤◌, nat_lt, nat_le, Bool}
use Rattle.std.specs.Prelude.{if◌then◌else◌, min, ℤ, List, [], ◌∷◌, ◌++◌, take, drop, sum, Option}
use Rattle.std.specs.Prelude.{Some, None}
use Rattle.std.specs.List.{flat_map}
use Rattle.block_intervals.specs.declared.run.Run.{Run}
use Rattle.block_intervals.specs.Sets.{last_end}
use Rattle.transfer_frames.specs.declared.frame.Frame.{Frame}
use Rattle.transfer_frames.specs.declared.frame.Frame.TheVariants.{Fill, Protocol}
use Rattle.transfer_frames.specs.Numbers.{long_bytes}

-- ---- pieces

-- the blocks of one FILL: 1,048,512 bytes
abbrev pub MOST_BLOCKS : ℕ
MOST_BLOCKS = 16383

-- so many pieces of the blocks from `first` on, the last of which ends at `end`
abbrev pub pieces_from : ℕ → ℕ → ℕ → List Run
pieces_from zero first end = []
pieces_from (suc count) first end =
    record { first = first; end = min (first + MOST_BLOCKS) end }
    ∷ pieces_from count (first + MOST_BLOCKS) end

-- how many pieces so many blocks make
abbrev pub pieces_count : ℕ → ℕ
pieces_count blocks = (blocks + (MOST_BLOCKS - 1)) / MOST_BLOCKS

-- the pieces of a run
abbrev pub pieces_of_run : Run → List Run
pieces_of_run run = pieces_from (pieces_count (run.end - run.first)) run.first run.end

-- the pieces of all runs, in order
abbrev pub pieces_of : List Run → List Run
pieces_of runs = flat_map pieces_of_run runs

-- pieces that ascend from a block on and end by another
abbrev pub Ascends : ℕ → List Run → ℕ → Type 0
Ascends low [] high = low ≤ high
Ascends low (piece ∷ pieces) high =
    (low ≤ piece.first) × (piece.first < piece.end) × Ascends piece.end pieces high

-- ---- the words of segments

-- some words of one segment of a file, in a row
pub record Part : Type 0 where
  pub file : ℤ
  pub segment : ℕ
  pub first : ℕ
  pub count : ℕ

-- of a segment with so many words, those from `first` on and before `end`
abbrev pub part_in : ℤ → ℕ → ℕ → ℕ → ℕ → List Part
part_in file segment words first end =
    if nat_lt first (min words end)
    then record { file = file; segment = segment; first = first; count = min words end - first }
    ∷ []
    else []

-- the words of the file from `first` on and before `end`, by its segments' counts of words
abbrev pub parts_from : ℤ → ℕ → List ℕ → ℕ → ℕ → List Part
parts_from file segment [] first end = []
parts_from file segment (words ∷ segments) first end =
    part_in file segment words first end
    ++ parts_from file (segment + 1) segments (first - words) (end - words)

-- a block is eight words
abbrev pub parts_of_piece : ℤ → List ℕ → Run → List Part
parts_of_piece file segments piece = parts_from file 0 segments (8 * piece.first) (8 * piece.end)

abbrev pub parts_of : ℤ → List ℕ → List Run → List Part
parts_of file segments pieces = flat_map (parts_of_piece file segments) pieces

-- the segments have all words of the blocks
abbrev pub covers : List Run → List ℕ → Bool
covers runs segments = nat_le (8 * last_end 0 runs) (sum segments)

-- ---- frames

-- the bytes of words, the lowest byte first
abbrev pub words_bytes : List ℕ → List ℕ
words_bytes words = flat_map long_bytes words

-- a FILL for each piece, with the bytes one after another
abbrev pub fills : ℤ → List Run → List ℕ → List Frame
fills rid [] bytes = []
fills rid (piece ∷ pieces) bytes =
    let count = 64 * (piece.end - piece.first) in
    Fill rid (64 * piece.first) (64 * piece.end) (take count bytes)
    ∷ fills rid pieces (drop count bytes)

-- PROTOCOL with a message, where it is shown
abbrev pub ending : Option (List ℕ) → List Frame
ending None = []
ending (Some message) = Protocol message ∷ []
