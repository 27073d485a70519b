-- What stands at the front of a wire behind a step of its code; this project's own.
use Rattle.std.specs.Prelude.{◌≡◌, ℕ, List, ◌∷◌, ◌++◌}
use Rattle.half_model.specs.declared.items.PeerIn.{PeerIn}
use Rattle.script_peers.specs.Wires.{leaving, piece_of}

-- of the item at the front this one leaves, and these bytes of it are left, whatever stands behind
abbrev pub Leaving : ℕ → PeerIn → PeerIn → List ℕ → Type 0
Leaving most item leaves left =
    (rest : List PeerIn)
    → leaving most item rest ≡ record { item = leaves; rest = piece_of left ++ rest }

-- the item at the front is left, as bytes
abbrev pub Staying : PeerIn → List ℕ → Type 0
Staying item left = (rest : List PeerIn) → item ∷ rest ≡ piece_of left ++ rest
