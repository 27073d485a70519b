-- The frame that is being sent, as a proxy keeps it: no bytes of a frame of the ring are held twice.
-- The link is this project's own.
use Rattle.std.specs.Prelude.{ℕ, ◌-◌, ◌<◌, Bool, true, false, List, [], drop, length, unwrap_or}
use Rattle.pair_model.specs.RingState.{RingState, ring_at}
use Rattle.proxy_core.specs.declared.link.Front.{Front}
use Rattle.proxy_core.specs.declared.link.Front.TheVariants.{Nothing, Small, Kept}

-- the bytes of the frame before this index, which is in the ring
abbrev pub kept_bytes : ℕ → RingState → List ℕ
kept_bytes next ring = unwrap_or (ring_at (next - 1) ring) []

-- the bytes still to be written, where the frame to be sent next has this index
abbrev pub front_bytes : Front → ℕ → RingState → List ℕ
front_bytes Nothing next ring = []
front_bytes (Small left) next ring = left
front_bytes (Kept sent) next ring = drop sent (kept_bytes next ring)

-- whether that is a counted frame
abbrev pub is_kept : Front → Bool
is_kept Nothing = false
is_kept (Small left) = false
is_kept (Kept sent) = true

-- of a RESTART or an ACK that is being sent some bytes are left
abbrev pub HasBytes : Front → Type 0
HasBytes Nothing = Unit {0}
HasBytes (Small left) = 0 < length left
HasBytes (Kept sent) = Unit {0}
