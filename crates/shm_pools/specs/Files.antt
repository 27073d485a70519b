-- A file of shared memory as its segments: what Wayland's wl_shm.create_pool and wl_shm_pool.resize
-- hand over, which grows and never shrinks. Each segment is a pool of 64 bit words. A file's words
-- are its segments' words in order, and its bytes those of its words, the lowest first.
use Rattle.std.specs.Prelude.{◌≡◌, ℕ, zero, suc, ◌+◌, ◌-◌, ◌*◌, ◌/◌, ◌%◌, ◌<◌, ◌≤◌, ℤ, pos, ◌+ℤ◌}
use Rattle.std.specs.Prelude.{List, [], ◌∷◌, ◌++◌, length, map, sum, slice_index_or, slice_set}
use Rattle.std.specs.Prelude.{Option, None, Some, nat_lt, if◌then◌else◌}
use Rattle.std.specs.Int.{to_le_bytes}
use Rattle.std.specs.Int.RustNames.{unsigned_abs}
use Rattle.std.specs.List.{flat_map}
use mir.Syntax.{w64}
use Rattle.pool_words.specs.History.{at}
use Rattle.pool_words.specs.Views.{PenState, EyeState, ReceiptState, wrote, took, no_pool}
use Rattle.shm_pools.specs.declared.places.WordPlace.{WordPlace}

-- a file: its owner's number for it, and the pens of its segments in order
pub record FileState : Type 0 where
  pub number : ℤ
  pub segments : List PenState

-- a size of a file in bytes
abbrev pub IsSize : ℕ → Type 0
IsSize bytes = (64 ≤ bytes) × (bytes ≤ 67108864) × (bytes % 64 ≡ 0)

-- how many words each segment has, by the segments' pens or by an eye of each
abbrev pub pen_sizes : List PenState → List ℕ
pen_sizes pens = map (λ p. p.words) pens

abbrev pub eye_sizes : List EyeState → List ℕ
eye_sizes eyes = map (λ e. e.words) eyes

-- the segment that has this word of a file, and which word of the segment it is
abbrev pub segment_of : List ℕ → ℕ → ℕ
segment_of [] word = 0
segment_of (size ∷ sizes) word = if nat_lt word size then 0 else segment_of sizes (word - size) + 1

abbrev pub offset_of : List ℕ → ℕ → ℕ
offset_of [] word = word
offset_of (size ∷ sizes) word = if nat_lt word size then word else offset_of sizes (word - size)

-- where a word lies in a file whose segments have these sizes
abbrev pub place_in : List ℕ → ℕ → Option WordPlace
place_in sizes word =
    if nat_lt word (sum sizes)
    then Some (record { segment = segment_of sizes word; word = offset_of sizes word })
    else None

-- the number of the pool of a segment: 64 for each number of a file, which is at least -2^31
abbrev pub pool_number : ℤ → ℕ → ℕ
pool_number number segment = unsigned_abs (number +ℤ pos 2147483648) * 64 + segment

-- a pen of no pool
abbrev pub no_pen : PenState
no_pen = record { pool = no_pool; number = 0; words = 0; history = []; settled = [] }

-- the pen of a segment
abbrev pub pen_at : List PenState → ℕ → PenState
pen_at segments k = slice_index_or segments k no_pen

-- the segments after a write of one word of the file
abbrev pub written : List PenState → ℕ → ℕ → List PenState
written segments word v =
    let segment = segment_of (pen_sizes segments) word in
    let offset = offset_of (pen_sizes segments) word in
    slice_set segments segment (wrote (pen_at segments segment) offset v)

-- the file after a write of one of its words
abbrev pub after_write : FileState → ℕ → ℕ → FileState
after_write f word v = record f { segments = written f.segments word v }

-- the file after a receipt of one segment was settled
abbrev pub after_settle : FileState → ℕ → ReceiptState → FileState
after_settle f segment r =
    record f { segments = slice_set f.segments segment (took (pen_at f.segments segment) r) }

-- a new segment of so many words, which are all 0
pub record IsBlank (p : PenState) (number words : ℕ) : Type 0 where
  pub numbered : p.number ≡ number
  pub sized : p.words ≡ words
  pub unwritten : p.history ≡ []
  pub unsettled : p.settled ≡ []

-- a file of one blank segment
abbrev pub IsNew : FileState → ℤ → ℕ → Type 0
IsNew f number bytes =
    (p : PenState) × (f ≡ record { number = number; segments = p ∷ [] })
    × IsBlank p (pool_number number 0) (bytes / 8)

-- the file with one blank segment more
abbrev pub HasGrown : FileState → FileState → ℕ → Type 0
HasGrown old new bytes =
    (p : PenState) × (new ≡ record old { segments = old.segments ++ p ∷ [] })
    × IsBlank p (pool_number old.number (length old.segments))
    (bytes / 8 - sum (pen_sizes old.segments))

-- what holds of every file: its size, that of each segment, and how its pools are numbered
pub record IsWhole (f : FileState) : Type 0 where
  pub sized : IsSize (8 * sum (pen_sizes f.segments))
  pub parted : (k : ℕ) → k < length f.segments → IsSize (8 * (pen_at f.segments k).words)
  pub few : length f.segments ≤ 64
  pub numbered : (k : ℕ) → k < length f.segments
      → (pen_at f.segments k).number ≡ pool_number f.number k

-- a row of words: what f gives at start, start + 1 and so on, n of them
abbrev pub row : (ℕ → ℕ) → ℕ → ℕ → List ℕ
row f start zero = []
row f start (suc n) = f start ∷ row f (start + 1) n

-- the words of a segment after all its writes
abbrev pub segment_words : PenState → List ℕ
segment_words p = row (at p.history (length p.history)) 0 p.words

-- the words of a file: those of its segments, in order
abbrev pub file_words : List PenState → List ℕ
file_words segments = flat_map segment_words segments

-- the bytes of words, the lowest of each first
abbrev pub bytes_of : List ℕ → List ℕ
bytes_of words = flat_map (to_le_bytes w64) words
