-- What leaves a wire, and what is left on it.
use Rattle.std.proofs.Common.{◌≡◌, ℕ, zero, suc, ◌≤◌, List, [], ◌∷◌, ◌++◌, length, take, drop, Some, Ok, refl, sym, ap, ◌∙◌, arith}
use Rattle.std.specs.Prelude.{min}
use Rattle.half_model.specs.declared.items.PeerIn.{PeerIn}
use Rattle.half_model.specs.declared.items.PeerIn.TheVariants as items
use Rattle.script_peers.specs.Fronts.{Leaving, Staying}
use Rattle.script_peers.specs.Wires.{Left, Leaves, IsItem, leaving, next_of, piece_of}
use Rattle.script_peers.specs.declared.item_queue.TheConstants.{LARGEST_PIECE}
use Rattle.script_peers.specs.declared.item_queue.WireItem.{WireItem}

pub piece_some : (bytes : List ℕ) → 1 ≤ length bytes → piece_of bytes ≡ items.Bytes bytes ∷ []
piece_some [] some = absurd (omega arith)
piece_some (byte ∷ bytes) some = refl

left : PeerIn → List PeerIn → Left
left item rest = record { item = item; rest = rest }

-- bytes of the piece at the front leave
pub bytes_leave : (most : ℕ) (bytes more : List ℕ) (item : PeerIn) → item ≡ items.Bytes (take most bytes) → more ≡ drop most bytes
    → Leaving most (items.Bytes bytes) item more
bytes_leave most bytes more item is rest =
    λ behind. ap (λ (it : PeerIn). let l : Left = record { item = it; rest = piece_of (drop most bytes) ++ behind } in l) (sym is)
    ∙ ap (λ (b : List ℕ). let l : Left = record { item = item; rest = piece_of b ++ behind } in l) (sym rest)

pub bytes_stay : (bytes more : List ℕ) → 1 ≤ length bytes → more ≡ bytes → Staying (items.Bytes bytes) more
bytes_stay bytes more some is =
    λ behind. ap (λ (ps : List PeerIn). ps ++ behind) (sym (ap piece_of is ∙ piece_some bytes some))

next_some : (most : ℕ) (item : PeerIn) (rest : List PeerIn) → 1 ≤ most
    → next_of most (item ∷ rest) ≡ Some (leaving (min most LARGEST_PIECE) item rest)
next_some zero item rest may = absurd (omega arith)
next_some (suc most) item rest may = refl

-- the item at the front of a wire leaves
pub front_leaves : (most : ℕ) (old rest : List PeerIn) (item : PeerIn) (it : WireItem) (more : List ℕ) → 1 ≤ most → old ≡ item ∷ rest
    → Leaving (min most LARGEST_PIECE) item it.item more → IsItem (min most LARGEST_PIECE) it
    → Leaves (next_of most old) most old (piece_of more ++ rest) (Ok (Some it))
front_leaves most old rest item it more may is leaves fits =
    (fits, ap (next_of most) is ∙ next_some most item rest may ∙ ap (λ (l : Left). Some l) (leaves rest))
