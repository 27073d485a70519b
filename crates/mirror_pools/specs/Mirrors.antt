-- The mirrors of the other side's files: the bytes of each, all zero at first and as many as its
-- told size rounded up to whole blocks, and what opening, extending and filling change; this
-- project's own.
use Rattle.std.specs.Prelude.{ℕ, ◌+◌, ◌-◌, ℤ, List, [], ◌++◌, length, take, drop, replicate, map}
use Rattle.std.specs.Prelude.{Option, Some, None, option_map}
use Rattle.std.specs.Ordering.{int_cmp}
use Rattle.std.specs.BTreeMap.{insert_entry, is_at}
use Rattle.std.specs.Map.{lookup, set_value}
use Rattle.mirror_pools.specs.Sizes.{ToldSizes, rounded}

-- a mirror: its told size, and its bytes
pub record MirrorState : Type 0 where
  pub size : ℕ
  pub bytes : List ℕ

-- the mirrors, by rising rids
abbrev pub MirrorsState : Type 0
MirrorsState = List (ℤ × MirrorState)

abbrev pub sizes_of : MirrorsState → ToldSizes
sizes_of mirrors = map (λ one. (one.0, one.1.size)) mirrors

abbrev pub mirror_at : ℤ → MirrorsState → Option MirrorState
mirror_at rid mirrors = lookup (is_at (int_cmp rid)) mirrors

-- all bytes of a mirror
abbrev pub bytes_at : ℤ → MirrorsState → Option (List ℕ)
bytes_at rid mirrors = option_map (λ it. it.bytes) (mirror_at rid mirrors)

-- the bytes with others in their place from `start` on
abbrev pub replaced : ℕ → List ℕ → List ℕ → List ℕ
replaced start piece bytes = take start bytes ++ (piece ++ drop (start + length piece) bytes)

-- the bytes with zeros behind them, up to a size
abbrev pub widened : ℕ → List ℕ → List ℕ
widened size bytes = bytes ++ replicate (size - length bytes) 0

-- ---- one mirror

abbrev pub mirror_opened : ℕ → MirrorState
mirror_opened size = record { size = size; bytes = widened (rounded size) [] }

abbrev pub mirror_grown : ℕ → MirrorState → MirrorState
mirror_grown size it = record { size = size; bytes = widened (rounded size) it.bytes }

abbrev pub mirror_filled : ℕ → List ℕ → MirrorState → MirrorState
mirror_filled start piece it = record it { bytes = replaced start piece it.bytes }

-- ---- all mirrors

-- the mirror of a rid, changed
abbrev pub put_mirror : ℤ → Option MirrorState → MirrorsState → MirrorsState
put_mirror rid None mirrors = mirrors
put_mirror rid (Some it) mirrors = set_value (is_at (int_cmp rid)) mirrors it

abbrev pub on_mirror : ℤ → (MirrorState → MirrorState) → MirrorsState → MirrorsState
on_mirror rid step mirrors = put_mirror rid (option_map step (mirror_at rid mirrors)) mirrors

abbrev pub with_opened : ℤ → ℕ → MirrorsState → MirrorsState
with_opened rid size mirrors = insert_entry int_cmp mirrors rid (mirror_opened size)

abbrev pub with_grown : ℤ → ℕ → MirrorsState → MirrorsState
with_grown rid size mirrors = on_mirror rid (mirror_grown size) mirrors

abbrev pub with_filled : ℤ → ℕ → List ℕ → MirrorsState → MirrorsState
with_filled rid start piece mirrors = on_mirror rid (mirror_filled start piece) mirrors
