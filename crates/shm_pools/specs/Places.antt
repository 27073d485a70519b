-- Where a word of a file lies: this project's own, since Wayland's wl_shm_pool.resize makes a file
-- grow by one stretch after another.
use Rattle.std.specs.Prelude.{◌≡◌, ℕ, ◌+◌, ◌<◌, List, sum, length, take, slice_index}
use Rattle.shm_pools.specs.declared.places.WordPlace.{WordPlace}

-- the word of the file stands that far in a segment which has it, behind the words of those before
pub record IsPlaceOf (sizes : List ℕ) (word : ℕ) (place : WordPlace) : Type 0 where
  pub segment_there : place.segment < length sizes
  pub word_there : place.word < slice_index sizes place.segment
  pub behind : sum (take place.segment sizes) + place.word ≡ word
