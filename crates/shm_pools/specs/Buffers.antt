-- When a buffer lies within its file, from Wayland's core protocol (wl_shm_pool.create_buffer),
-- over whole numbers that never wrap.
use Rattle.std.specs.Prelude.{ℕ, Bool, ◌&&◌, ◌||◌, ◌==◌, ◌↔◌, IsTrue, MatchBool}
use Rattle.std.specs.Prelude.{if◌then◌else◌, pos, ◌+ℤ◌, ◌*ℤ◌, ◌<ℤ◌, ◌≤ℤ◌, int_lt, int_le}
use Rattle.shm_pools.specs.declared.buffers.Buffer.{Buffer}

-- the formats argb8888 and xrgb8888, whose pixels have four bytes each
abbrev pub has_pixels : ℕ → Bool
has_pixels format = (format == 0) || (format == 1)

-- an image of whole rows, the last of which ends within the told size
pub record FitsImage (b : Buffer) (told : ℕ) : Type 0 where
  pub begins : pos 0 ≤ℤ b.offset
  pub wide : pos 0 <ℤ b.width
  pub high : pos 0 <ℤ b.height
  pub rows : (pos 4 *ℤ b.width) ≤ℤ b.stride
  pub ends : (b.offset +ℤ b.stride *ℤ b.height) ≤ℤ pos told

-- bytes of some other layout, which run from the offset to the told size
pub record FitsBytes (b : Buffer) (told : ℕ) : Type 0 where
  pub begins : pos 0 ≤ℤ b.offset
  pub ends : b.offset <ℤ pos told

-- the buffer lies within the first `told` bytes of its file
abbrev pub Fits : Buffer → ℕ → Type 0
Fits b told = MatchBool (has_pixels b.format) (FitsImage b told) (FitsBytes b told)

-- the same as tests that compute
abbrev pub image_fits : Buffer → ℕ → Bool
image_fits b told =
    int_le (pos 0) b.offset
    && (int_lt (pos 0) b.width && (int_lt (pos 0) b.height
    && (int_le (pos 4 *ℤ b.width) b.stride
    && int_le (b.offset +ℤ b.stride *ℤ b.height) (pos told))))

abbrev pub bytes_fit : Buffer → ℕ → Bool
bytes_fit b told = int_le (pos 0) b.offset && int_lt b.offset (pos told)

abbrev pub fits_in : Buffer → ℕ → Bool
fits_in b told = if has_pixels b.format then image_fits b told else bytes_fit b told

-- the tests pass just where the buffer lies within
abbrev pub FitsInAgrees : Type 0
FitsInAgrees = (b : Buffer) (told : ℕ) → IsTrue (fits_in b told) ↔ Fits b told
