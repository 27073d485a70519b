-- How a side takes from its peer's wire: item by item while it wants them, where only bytes cost.
-- The wire carries Wayland's messages; its items and this cost are this project's own.
use Rattle.std.specs.Prelude.{◌≡◌, ℕ, zero, suc, ◌-◌, ◌<◌, min, true, false, List, [], ◌∷◌}
use Rattle.std.specs.Prelude.{take, drop, length, Option, Some, None, ◌⊎◌}
use Rattle.half_model.specs.declared.items.PeerIn.{PeerIn}
use Rattle.half_model.specs.declared.items.PeerIn.TheVariants as items
use Rattle.side_model.specs.declared.fault.ProxyFault.{ProxyFault}
use Rattle.side_model.specs.Sound.{MOST_PIECE}
use Rattle.pair_runs.specs.Sides.{SideState, fed, wants}
use Rattle.pair_runs.specs.Working.{Works, WorksInPart}

-- the item at the front of a wire, what it costs, and the wire behind it
pub record Cut : Type 0 where
  pub item : PeerIn
  pub cost : ℕ
  pub rest : List PeerIn

abbrev pub behind : List ℕ → List PeerIn → List PeerIn
behind [] wire = wire
behind (byte ∷ bytes) wire = items.Bytes (byte ∷ bytes) ∷ wire

-- a piece of bytes has as many as may be taken, and at most so many
abbrev pub piece_size : ℕ → List ℕ → ℕ
piece_size most bytes = min most (min MOST_PIECE (length bytes))

abbrev pub cut_item : ℕ → PeerIn → List PeerIn → Cut
cut_item most (items.Bytes bytes) wire = record {
  item = items.Bytes (take (piece_size most bytes) bytes);
  cost = piece_size most bytes;
  rest = behind (drop (piece_size most bytes) bytes) wire;
}
cut_item most item wire = record { item = item; cost = 0; rest = wire }

-- a side with what waits on its wire
pub record Taker : Type 0 where
  pub side : SideState
  pub wire : List PeerIn

-- nothing more is taken: no byte may be, the wire is empty, or the side wants nothing
abbrev pub TakesNone : ℕ → Taker → Type 0
TakesNone most a = (most ≡ 0) ⊎ ((a.wire ≡ []) ⊎ (wants a.side ≡ false))

-- an item is taken, and meets a fault
pub record TakeFails (it : Cut) (a b : Taker) (stop : Option ProxyFault) : Type 0 where
  pub fault : ProxyFault
  pub stops : stop ≡ Some fault
  pub part : WorksInPart false (Some it.item) fault (fed it.item a.side) b.side
  pub wire : b.wire ≡ it.rest

-- an item is taken, and then others
pub record TakeGoes (it : Cut) (a : Taker) (More : Taker → Type 0) : Type 0 where
  pub mid : SideState
  pub works : Works false (fed it.item a.side) mid
  pub more : More (record { side = mid; wire = it.rest })

-- so many items are taken, with at most so many bytes, up to the first fault
abbrev pub TakesIn : ℕ → ℕ → SideState → List PeerIn → Taker → Option ProxyFault → Type 0
TakesIn zero most a wire b stop =
    (b ≡ record { side = a; wire = wire }) × (stop ≡ None)
    × TakesNone most (record { side = a; wire = wire })
TakesIn (suc count) most a [] b stop = ⊥
TakesIn (suc count) most a (item ∷ wire) b stop =
    let it = cut_item most item wire in
    (0 < most) × (wants a ≡ true)
    × (TakeFails it (record { side = a; wire = item ∷ wire }) b stop
    ⊎ TakeGoes it (record { side = a; wire = item ∷ wire })
    (λ next. TakesIn count (most - it.cost) next.side next.wire b stop))

pub record TakesAll (most : ℕ) (a b : Taker) (stop : Option ProxyFault) : Type 0 where
  pub count : ℕ
  pub row : TakesIn count most a.side a.wire b stop
