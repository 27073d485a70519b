-- What follows of files of shared memory (Wayland's wl_shm.create_pool) from their segments alone.
use Rattle.std.specs.Prelude.{◌≡◌, ℕ, ◌+◌, ◌-◌, ◌*◌, ◌/◌, ◌%◌, ◌^◌, ◌<◌, ◌≤◌, ℤ, pos, ◌+ℤ◌, ◌≤ℤ◌}
use Rattle.std.specs.Prelude.{◌↔◌}
use Rattle.std.specs.Prelude.{List, ◌++◌, length, map, sum, replicate, slice_index, slice_set}
use Rattle.std.specs.Prelude.{MatchOption}
use Rattle.pool_words.specs.Views.{PenState, note_of}
use Rattle.shm_pools.specs.Files.{FileState, pen_sizes, eye_sizes, place_in, pool_number, written}
use Rattle.shm_pools.specs.Files.{IsNew, HasGrown, file_words, bytes_of}
use Rattle.shm_pools.specs.Places.{IsPlaceOf}

-- two segments have pools of one number just where they are the same segment of files of one number
abbrev pub PoolsAreApart : Type 0
PoolsAreApart =
    (a b : ℤ) (j k : ℕ) → pos 0 ≤ℤ (a +ℤ pos 2147483648) → pos 0 ≤ℤ (b +ℤ pos 2147483648)
    → j < 64 → k < 64 → (pool_number a j ≡ pool_number b k) ↔ ((a ≡ b) × (j ≡ k))

-- the number of a pool tells its segment
abbrev pub PoolTellsSegment : Type 0
PoolTellsSegment =
    (number : ℤ) (segment : ℕ) → segment < 64 → pool_number number segment % 64 ≡ segment

-- a word of the file has its place in a segment, and one behind the last has none
abbrev pub PlaceIsWithin : Type 0
PlaceIsWithin =
    (sizes : List ℕ) (word : ℕ)
    → MatchOption (place_in sizes word) (sum sizes ≤ word) (IsPlaceOf sizes word)

-- eyes of all segments have their sizes
abbrev pub EyesHaveSizes : Type 0
EyesHaveSizes = (segments : List PenState) → eye_sizes (map note_of segments) ≡ pen_sizes segments

-- a file has as many words as its segments together
abbrev pub FileHasWords : Type 0
FileHasWords = (segments : List PenState) → length (file_words segments) ≡ sum (pen_sizes segments)

-- a write sets the word that it names among the file's words
abbrev pub WriteSetsWord : Type 0
WriteSetsWord =
    (segments : List PenState) (word v : ℕ) → word < sum (pen_sizes segments)
    → file_words (written segments word v) ≡ slice_set (file_words segments) word v

-- the words of a new file are zeros
abbrev pub NewIsZeros : Type 0
NewIsZeros =
    (f : FileState) (number : ℤ) (bytes : ℕ) → IsNew f number bytes
    → file_words f.segments ≡ replicate (bytes / 8) 0

-- a file that grew has its old words, and zeros behind them
abbrev pub GrowAddsZeros : Type 0
GrowAddsZeros =
    (old new : FileState) (bytes : ℕ) → HasGrown old new bytes
    → file_words new.segments
    ≡ file_words old.segments ++ replicate (bytes / 8 - sum (pen_sizes old.segments)) 0

-- a word has eight bytes, of which each is worth 256 times the one before it
pub record BytesRise : Type 0 where
  pub count : (words : List ℕ) → length (bytes_of words) ≡ 8 * length words
  pub byte : (words : List ℕ) (k i : ℕ) → k < length words → i < 8
      → slice_index (bytes_of words) (8 * k + i) ≡ slice_index words k / 256 ^ i % 256
