-- A copy that is out, whose words are loaded a few at a time: of memory that a Wayland client hands
-- over by wl_shm. This project's own.
use Rattle.std.specs.Prelude.{◌≡◌, ◌+◌, ◌≤◌, ℕ, List, [], length, take}
use Rattle.copy_workers.specs.Copies.{DoneState}
use Rattle.copy_workers.specs.declared.copies.CopyJob.{CopyJob}
use Rattle.pool_words.specs.Views.{EyeState, sights}

-- a copy that is out: what was lent for it, and how many of its words are loaded
pub record HalfState : Type 0 where
  pub id : ℕ
  -- as it was lent
  pub eye : EyeState
  pub first : ℕ
  pub count : ℕ
  pub loaded : ℕ

-- an eye as it was before it loaded anything
abbrev pub unused : EyeState → EyeState
unused eye = record eye { seen = [] }

abbrev pub half_of : CopyJob → HalfState
half_of copy = record {
  id = copy.id;
  eye = unused copy.eye;
  first = copy.first;
  count = length copy.words;
  loaded = 0;
}

-- of the words from the first one on, which lie in the pool, the eye has loaded so many
pub record IsBegun (eye : EyeState) (first : ℕ) (words : List ℕ) (loaded : ℕ) : Type 0 where
  pub within : first + length words ≤ eye.words
  pub few : loaded ≤ length words
  pub seen : eye.seen ≡ sights first (take loaded words)

-- the copy is done: it has all words, and its receipt is one of its eye
pub record IsDoneOf (half : HalfState) (done : DoneState) : Type 0 where
  pub id : done.id ≡ half.id
  pub first : done.first ≡ half.first
  pub count : length done.words ≡ half.count
  pub low : done.low ≡ half.eye.low
  pub number : done.receipt.number ≡ half.eye.number
  pub pool : done.receipt.pool ≡ half.eye.pool
