-- Which bytes of a file belong to the pixels of an image of four bytes a pixel
-- (wl_shm_pool.create_buffer, formats argb8888 and xrgb8888), and which blocks of 64 bytes hold a
-- byte that passes a test; blocks are this project's own.
use Rattle.std.specs.Prelude.{ℕ, zero, suc, ◌+◌, ◌-◌, ◌*◌, ◌/◌, ◌%◌, ◌<◌, ◌≤◌, unsigned_abs}
use Rattle.std.specs.Prelude.{Bool, false, ◌&&◌, ◌||◌, nat_le, nat_lt}
use Rattle.shm_pools.specs.declared.buffers.Buffer.{Buffer}
use Rattle.surface_damage.specs.declared.image.Image.{Image}

-- the image of a buffer that fits, whose numbers are not negative
abbrev pub image_of : Buffer → Image
image_of b = record {
  offset = unsigned_abs b.offset;
  width = unsigned_abs b.width;
  height = unsigned_abs b.height;
  stride = unsigned_abs b.stride;
}

-- the image lies in the first `told` bytes of its file
pub record LiesIn (image : Image) (told : ℕ) : Type 0 where
  pub wide : 0 < image.width
  pub high : 0 < image.height
  pub rows : 4 * image.width ≤ image.stride
  pub ends : image.offset + image.stride * image.height ≤ told

-- the row of a byte, and its place in that row
abbrev pub row_of : Image → ℕ → ℕ
row_of image at = (at - image.offset) / image.stride

abbrev pub place_in_row : Image → ℕ → ℕ
place_in_row image at = (at - image.offset) % image.stride

-- the byte is one of a pixel, and that pixel (its column, then its row) passes the test
abbrev pub in_pixels : Image → (ℕ → ℕ → Bool) → ℕ → Bool
in_pixels image test at =
    nat_le image.offset at
    && (nat_lt (row_of image at) image.height
    && (nat_lt (place_in_row image at) (4 * image.width)
    && test (place_in_row image at / 4) (row_of image at)))

-- some number below `count` passes the test
unfoldable pub any_below : (ℕ → Bool) → ℕ → Bool
any_below test zero = false
any_below test (suc count) = test count || any_below test count

-- the block of 64 bytes holds a byte that passes the test
abbrev pub holds : (ℕ → Bool) → ℕ → Bool
holds test block = any_below (λ k. test (64 * block + k)) 64

-- the block holds a byte from `first` on and before `end`, which is greater
abbrev pub meets : ℕ → ℕ → ℕ → Bool
meets first end block = nat_lt first (64 * block + 64) && nat_lt (64 * block) end
