-- How many blocks of 64 bytes files can have together, which messages fill none, and pieces that lie
-- within files; this project's own.
use Rattle.std.specs.Prelude.{ℕ, ◌-◌, ◌*◌, ◌<◌, ◌≤◌, Bool, true, false, ℤ, List, take}
use Rattle.std.specs.List.{AllByRecursion}
use Rattle.block_intervals.specs.declared.run.Run.{Run}
use Rattle.transfer_frames.specs.declared.frame.Frame.{Frame}
use Rattle.transfer_frames.specs.declared.frame.Frame.TheVariants.{Fill}
use Rattle.half_model.specs.declared.deeds.Deed.{Deed}
use Rattle.half_model.specs.declared.deeds.Deed.TheVariants.{Commit, Keymap}

abbrev pub MOST_BLOCK : ℕ
MOST_BLOCK = 4194304

-- such a message fills no block
abbrev pub shows_nothing : Deed → Bool
shows_nothing Commit = false
shows_nothing (Keymap size) = false
shows_nothing deed = true

-- a piece is not empty, and ends within files
abbrev pub IsInFile : Run → Type 0
IsInFile piece = (piece.first < piece.end) × (piece.end ≤ MOST_BLOCK)

abbrev pub AreInFile : List Run → Type 0
AreInFile pieces = AllByRecursion IsInFile pieces

-- the FILL of a piece, with the first of these bytes
abbrev pub fill_of : ℤ → Run → List ℕ → Frame
fill_of rid piece bytes =
    Fill rid (64 * piece.first) (64 * piece.end) (take (64 * (piece.end - piece.first)) bytes)
