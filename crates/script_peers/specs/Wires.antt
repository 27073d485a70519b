-- How items leave a wire from a peer to its proxy: this project's own, as a Wayland client's socket
-- gives a stream of bytes, with descriptors beside them, in pieces.
use Rattle.std.specs.Prelude.{◌≡◌, ℕ, ◌≤◌, min, List, [], ◌∷◌, ◌++◌, length, take, drop}
use Rattle.std.specs.Prelude.{Option, Some, None, Result, Ok, Err, zero, suc}
use Rattle.std.specs.declared.alloc.AllocError.{AllocError}
use Rattle.std.specs.List.{AllByRecursion}
use Rattle.half_model.specs.TurnLaws.{IsPiece}
use Rattle.half_model.specs.declared.items.PeerIn.{PeerIn}
use Rattle.half_model.specs.declared.items.PeerIn.TheVariants as items
use Rattle.script_peers.specs.declared.item_queue.TheConstants.{LARGEST_PIECE}
use Rattle.script_peers.specs.declared.item_queue.WireItem.{WireItem}

-- bytes are one piece, and no bytes are none
abbrev pub piece_of : List ℕ → List PeerIn
piece_of [] = []
piece_of (byte ∷ bytes) = items.Bytes (byte ∷ bytes) ∷ []

-- what may stand on a wire: bytes are some, and what is written to a pipe is a piece of it
abbrev pub MayStand : PeerIn → Type 0
MayStand (items.Bytes bytes) = 1 ≤ length bytes
MayStand (items.Pipe item) = IsPiece item
MayStand item = Unit {0}

abbrev pub AllMayStand : List PeerIn → Type 0
AllMayStand items = AllByRecursion MayStand items

-- an item as a proxy is fed it: a piece of bytes has at least one and at most so many, and what is
-- written to a pipe is a piece of it
abbrev pub IsWithin : ℕ → PeerIn → Type 0
IsWithin most (items.Bytes bytes) = (1 ≤ length bytes) × (length bytes ≤ most)
IsWithin most (items.Pipe item) = IsPiece item
IsWithin most item = Unit {0}

-- what an item costs of the bytes that may be taken
abbrev pub cost_of : PeerIn → ℕ
cost_of (items.Bytes bytes) = length bytes
cost_of item = 0

-- an item that leaves a wire, and the items behind it
pub record Left : Type 0 where
  pub item : PeerIn
  pub rest : List PeerIn

-- of bytes at the front so many leave, or all; what is left of them stays at the front
abbrev pub leaving : ℕ → PeerIn → List PeerIn → Left
leaving most (items.Bytes bytes) rest = record {
  item = items.Bytes (take most bytes);
  rest = piece_of (drop most bytes) ++ rest;
}
leaving most item rest = record { item = item; rest = rest }

-- what leaves where so many bytes may be taken yet: nothing where none may be or the wire is empty
abbrev pub next_of : ℕ → List PeerIn → Option Left
next_of zero wire = None
next_of (suc most) [] = None
next_of (suc most) (item ∷ rest) = Some (leaving (min (suc most) LARGEST_PIECE) item rest)

-- an item with its cost, of which bytes are at most so many
pub record IsItem (most : ℕ) (it : WireItem) : Type 0 where
  pub cost : it.cost ≡ cost_of it.item
  pub within : IsWithin most it.item

-- what was told to leave left a wire of old items, and new ones are left
abbrev pub Leaves :
    Option Left → ℕ → List PeerIn → List PeerIn → Result (Option WireItem) AllocError → Type 0
Leaves told most old new (Ok (Some it)) =
    IsItem (min most LARGEST_PIECE) it × (told ≡ Some (record { item = it.item; rest = new }))
Leaves told most old new (Ok None) = (told ≡ None) × (new ≡ old)
Leaves told most old new (Err error) = new ≡ old
