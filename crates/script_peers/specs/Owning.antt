-- What a peer of a replay owns: files of shared memory, as Wayland's wl_shm.create_pool and
-- wl_shm_pool.resize hand them over, and pipes. The language of scripts is this project's own.
use Rattle.std.specs.Prelude.{◌≡◌, ℕ, zero, suc, ◌+◌, ◌-◌, ◌/◌, ◌%◌, ◌<◌, ℤ, pos, Bool, ◌&&◌, ◌==◌}
use Rattle.std.specs.Prelude.{List, [], ◌∷◌, ◌++◌, length, map, sum, slice_index_or, slice_set, All}
use Rattle.std.specs.Prelude.{Option, Some, None, is_some, option_map, position, nat_lt, nat_le}
use Rattle.std.specs.Prelude.{if◌then◌else◌}
use Rattle.std.specs.List.{list_any, IsDistinct}
use Rattle.std.specs.Ordering.{int_eq}
use Rattle.wp_outside.specs.declared.kinds.HandleKind.{HandleKind}
use Rattle.wp_outside.specs.declared.kinds.HandleKind.TheVariants.{File, PipeWrite}
use Rattle.handle_table.specs.declared.handles.Handle.{Handle}
use Rattle.pool_words.specs.History.{HasStood}
use Rattle.pool_words.specs.Views.{PoolId, PenState, ReceiptState, note_of}
use Rattle.shm_pools.specs.Files.{FileState, pen_sizes, pen_at, pool_number, after_write}
use Rattle.shm_pools.specs.declared.notes.FileEyes.{FileEyes}
use Rattle.shm_pools.specs.declared.notes.Note.{Note}

pub record Owned : Type 0 where
  -- in the order of their making, each with the writes that were made to its segments
  pub files : List FileState
  -- the numbers of the pipes
  pub pipes : List ℤ

abbrev pub owns_nothing : Owned
owns_nothing = record { files = []; pipes = [] }

-- ---- files by their numbers

abbrev pub numbers_of : List FileState → List ℤ
numbers_of files = map (λ f. f.number) files

-- where the file of a number stands
abbrev pub place_of : ℤ → List FileState → Option ℕ
place_of number files = position (int_eq number) (numbers_of files)

abbrev pub no_file : FileState
no_file = record { number = pos 0; segments = [] }

abbrev pub file_at : List FileState → ℕ → FileState
file_at files place = slice_index_or files place no_file

-- the files with the one at a place changed, if there is one
abbrev pub changed : (FileState → FileState) → List FileState → Option ℕ → List FileState
changed step files None = files
changed step files (Some place) = slice_set files place (step (file_at files place))

-- ---- what a number stands for

abbrev pub is_pipe : ℤ → Owned → Bool
is_pipe number own = list_any (int_eq number) own.pipes

abbrev pub kind_by : Bool → Bool → Option HandleKind
kind_by file pipe = if file then Some File else if pipe then Some PipeWrite else None

-- a file, or a pipe, of which the write end is what a message can carry
abbrev pub kind_of : ℤ → Owned → Option HandleKind
kind_of number own = kind_by (is_some (place_of number own.files)) (is_pipe number own)

abbrev pub handle_of : Owned → ℤ → Option Handle
handle_of own number =
    option_map (λ kind. record { number = number; kind = kind }) (kind_of number own)

-- ---- what changes a file

abbrev pub words_of : FileState → ℕ
words_of f = sum (pen_sizes f.segments)

-- a size in bytes that a file may have
abbrev pub is_size : ℕ → Bool
is_size bytes = nat_le 64 bytes && nat_le bytes 67108864 && (bytes % 64 == 0)

-- a segment of so many words to which nothing was written
abbrev pub blank : PoolId → ℤ → ℕ → ℕ → PenState
blank pool number segment words = record {
  pool = pool;
  number = pool_number number segment;
  words = words;
  history = [];
  settled = [];
}

abbrev pub new_file : PoolId → ℤ → ℕ → FileState
new_file pool number bytes = record {
  number = number;
  segments = blank pool number 0 (bytes / 8) ∷ [];
}

-- a file may get a greater size, while it has fewer than 64 segments
abbrev pub can_grow : ℕ → FileState → Bool
can_grow bytes f = is_size bytes && nat_lt (words_of f) (bytes / 8) && nat_lt (length f.segments) 64

abbrev pub longer : PoolId → ℕ → FileState → FileState
longer pool bytes f = record f {
  segments = f.segments
      ++ blank pool f.number (length f.segments) (bytes / 8 - words_of f) ∷ [];
}

-- a file with one segment more, if it can grow
abbrev pub grown : PoolId → ℕ → FileState → FileState
grown pool bytes f = if can_grow bytes f then longer pool bytes f else f

-- so many words from the first on are given a value, one after another
abbrev pub written_from : ℕ → ℕ → ℕ → FileState → FileState
written_from first zero value f = f
written_from first (suc count) value f =
    after_write (written_from first count value f) (first + count) value

abbrev pub has_words : ℕ → ℕ → FileState → Bool
has_words first count f = nat_le (first + count) (words_of f)

-- a file with so many words written, if it has them
abbrev pub filled : ℕ → ℕ → ℕ → FileState → FileState
filled first count value f =
    if has_words first count f then written_from first count value f else f

-- ---- notes

-- one eye for each segment of a file
abbrev pub eyes_on : FileState → FileEyes
eyes_on f = record { number = f.number; eyes = map note_of f.segments }

-- a note of all files
abbrev pub note_on : List FileState → Note
note_on files = record { files = map eyes_on files }

-- ---- what always holds

-- what was settled with the pen of a segment has stood there
abbrev pub IsStoodIn : PenState → Type 0
IsStoodIn pen = All (HasStood pen.history) pen.settled

abbrev pub IsStood : FileState → Type 0
IsStood f = All IsStoodIn f.segments

-- no two files have one number, and what was settled has stood
pub record AreSound (files : List FileState) : Type 0 where
  pub distinct : IsDistinct int_eq (numbers_of files)
  pub stood : All IsStood files

-- a receipt is of a segment of this file
pub record IsReceiptIn (segment : ℕ) (receipt : ReceiptState) (f : FileState) : Type 0 where
  pub within : segment < length f.segments
  pub number : receipt.number ≡ (pen_at f.segments segment).number
  pub pool : receipt.pool ≡ (pen_at f.segments segment).pool

-- a receipt is of a segment of the file of this number
pub record IsOwnReceipt (number : ℤ) (segment : ℕ) (receipt : ReceiptState)
    (files : List FileState) : Type 0 where
  pub place : ℕ
  pub found : place_of number files ≡ Some place
  pub fits : IsReceiptIn segment receipt (file_at files place)
