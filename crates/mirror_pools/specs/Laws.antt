-- What holds of every table of sizes and of every table of mirrors: the bytes are what the frames
-- mean, the sizes go along with the mirrors and stay within the limits, and each step changes the
-- bytes that it names and no others. This project's own.
use Rattle.std.specs.Prelude.{◌≡◌, ℕ, ◌+◌, ◌<◌, ◌≤◌, ℤ, List, [], ◌∷◌, length, slice_index, IsSome}
use Rattle.std.specs.Prelude.{None}
use Rattle.std.specs.List.{All}
use Rattle.std.specs.Map.{values_of}
use Rattle.transfer_frames.specs.declared.frame.Frame.{Frame}
use Rattle.transfer_frames.specs.declared.frame.Frame.TheVariants.{OpenFile, ExtendFile, Fill}
use Rattle.mirror_pools.specs.Meaning.{mirror}
use Rattle.mirror_pools.specs.Mirrors.{MirrorsState, sizes_of, mirror_at, bytes_at}
use Rattle.mirror_pools.specs.Mirrors.{replaced, widened, with_opened, with_grown, with_filled}
use Rattle.mirror_pools.specs.Sizes.{ToldSizes, rounded, with_size, open_cause, extend_cause}
use Rattle.mirror_pools.specs.Sizes.{fill_cause, IsSound}

-- ---- the bytes

-- the mirrors behind a frame, and behind frames in order, of which none was refused
abbrev pub after_frame : Frame → MirrorsState → MirrorsState
after_frame (OpenFile rid size) mirrors = with_opened rid size mirrors
after_frame (ExtendFile rid size) mirrors = with_grown rid size mirrors
after_frame (Fill rid start end bytes) mirrors = with_filled rid start bytes mirrors
after_frame frame mirrors = mirrors

abbrev pub after_frames : List Frame → MirrorsState → MirrorsState
after_frames [] mirrors = mirrors
after_frames (frame ∷ frames) mirrors = after_frames frames (after_frame frame mirrors)

-- behind any frames the bytes of each rid are what these frames mean for it
abbrev pub MirrorsAreMeaning : Type 0
MirrorsAreMeaning =
    (frames : List Frame) (rid : ℤ) → bytes_at rid (after_frames frames []) ≡ mirror rid frames

-- a fill that ends inside puts its piece at its place, and leaves every other byte and the number
-- of bytes
pub record FillReplaces (start : ℕ) (piece bytes : List ℕ) : Type 0 where
  pub long : length (replaced start piece bytes) ≡ length bytes
  pub before : (i : ℕ) → i < start
      → slice_index (replaced start piece bytes) i ≡ slice_index bytes i
  pub inside : (i : ℕ) → i < length piece
      → slice_index (replaced start piece bytes) (start + i) ≡ slice_index piece i
  pub behind : (i : ℕ) → start + length piece ≤ i
      → slice_index (replaced start piece bytes) i ≡ slice_index bytes i

abbrev pub FillsReplace : Type 0
FillsReplace =
    (start : ℕ) (piece bytes : List ℕ)
    → start + length piece ≤ length bytes → FillReplaces start piece bytes

-- growth leaves every byte, and puts zeros behind them up to the size
pub record GrowthKeeps (size : ℕ) (bytes : List ℕ) : Type 0 where
  pub long : length (widened size bytes) ≡ size
  pub before : (i : ℕ) → i < length bytes → slice_index (widened size bytes) i ≡ slice_index bytes i
  pub behind : (i : ℕ) → length bytes ≤ i → slice_index (widened size bytes) i ≡ 0

abbrev pub AllGrowthKeeps : Type 0
AllGrowthKeeps = (size : ℕ) (bytes : List ℕ) → length bytes ≤ size → GrowthKeeps size bytes

-- ---- the sizes

-- the sizes of mirrors take the same steps as a table of sizes alone, so both refuse the same
-- frames
pub record SizesGoAlong : Type 0 where
  pub opened : (rid : ℤ) (size : ℕ) (mirrors : MirrorsState)
      → sizes_of (with_opened rid size mirrors) ≡ with_size rid size (sizes_of mirrors)
  pub grown : (rid : ℤ) (size : ℕ) (mirrors : MirrorsState)
      → IsSound (sizes_of mirrors) → IsSome (mirror_at rid mirrors)
      → sizes_of (with_grown rid size mirrors) ≡ with_size rid size (sizes_of mirrors)
  pub filled : (rid : ℤ) (start : ℕ) (piece : List ℕ) (mirrors : MirrorsState)
      → sizes_of (with_filled rid start piece mirrors) ≡ sizes_of mirrors

-- what isn't refused leaves the sizes sound
pub record SoundLasts : Type 0 where
  pub fresh : IsSound []
  pub open_ : (rid : ℤ) (size : ℕ) (sizes : ToldSizes) → IsSound sizes
      → open_cause rid size sizes ≡ None → IsSound (with_size rid size sizes)
  pub extend : (rid : ℤ) (size : ℕ) (sizes : ToldSizes) → IsSound sizes
      → extend_cause rid size sizes ≡ None → IsSound (with_size rid size sizes)

-- each mirror has as many bytes as its size, rounded up to whole blocks
abbrev pub AreWhole : MirrorsState → Type 0
AreWhole mirrors = All (λ it. length it.bytes ≡ rounded it.size) (values_of mirrors)

pub record WholeLasts : Type 0 where
  pub opened : (rid : ℤ) (size : ℕ) (mirrors : MirrorsState)
      → AreWhole mirrors → AreWhole (with_opened rid size mirrors)
  pub grown : (rid : ℤ) (size : ℕ) (mirrors : MirrorsState) → AreWhole mirrors
      → extend_cause rid size (sizes_of mirrors) ≡ None → AreWhole (with_grown rid size mirrors)
  pub filled : (rid : ℤ) (start : ℕ) (piece : List ℕ) (mirrors : MirrorsState) → AreWhole mirrors
      → fill_cause rid (start + length piece) (sizes_of mirrors) ≡ None
      → AreWhole (with_filled rid start piece mirrors)
