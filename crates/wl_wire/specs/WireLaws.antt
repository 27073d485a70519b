-- Laws of the wire format of the Wayland protocol: what stands at the front of a stream of bytes is
-- decided there, and a stream is cut in one way.
use Rattle.std.specs.Prelude.{◌≡◌, ◌↔◌, ℕ, List, [], ◌∷◌, ◌++◌, All, Some, None, Ok, Err}
use Rattle.wl_wire.specs.declared.faults.WireFault.{WireFault}
use Rattle.wl_wire.specs.Wire.{joined, first, IsMessage, NoMessage, SizeFault, Stops, Cuts, cut, cut_rest, cut_fault}

-- the front waits, is at fault, or has a message: just as the words for it say
abbrev pub FirstWaits : Type 0
FirstWaits = (bytes : List ℕ) → (first bytes ≡ Ok None) ↔ NoMessage bytes

abbrev pub FirstFaults : Type 0
FirstFaults =
    (bytes : List ℕ) (fault : WireFault) → (first bytes ≡ Err fault) ↔ SizeFault bytes fault

abbrev pub FirstGives : Type 0
FirstGives =
    (bytes message : List ℕ)
    → (first bytes ≡ Ok (Some message))
    ↔ (IsMessage message × ((tail : List ℕ) × (bytes ≡ message ++ tail)))

-- a fault at the front stays, whatever comes behind
abbrev pub FaultStays : Type 0
FaultStays =
    (front more : List ℕ) (fault : WireFault)
    → first front ≡ Err fault
    → first (front ++ more) ≡ Err fault

-- the function that cuts and the relation are one, so that bytes are cut in one way only
abbrev pub CutAgrees : Type 0
CutAgrees =
    (bytes : List ℕ) (messages : List (List ℕ)) (rest : List ℕ)
    → Cuts bytes messages rest ↔ ((cut bytes ≡ messages) × (cut_rest bytes ≡ rest))

-- the messages, joined, and then the rest are the bytes, and each of the messages is whole
abbrev pub CutJoins : Type 0
CutJoins =
    (bytes : List ℕ) → (joined (cut bytes) ++ cut_rest bytes ≡ bytes) × All IsMessage (cut bytes)

-- no message stands in front of the rest: it waits for bytes, or its size is at fault
abbrev pub CutStops : Type 0
CutStops = (bytes : List ℕ) → Stops (cut_rest bytes)

-- a message in front is the first that is cut
abbrev pub CutMessage : Type 0
CutMessage =
    (message rest : List ℕ)
    → IsMessage message
    → (cut (message ++ rest) ≡ message ∷ cut rest) × (cut_rest (message ++ rest) ≡ cut_rest rest)

-- bytes with no message in front are all rest
abbrev pub CutNothing : Type 0
CutNothing = (bytes : List ℕ) → Stops bytes → (cut bytes ≡ []) × (cut_rest bytes ≡ bytes)

-- what comes behind goes on where the rest stood
abbrev pub CutGoesOn : Type 0
CutGoesOn =
    (front more : List ℕ)
    → (cut (front ++ more) ≡ cut front ++ cut (cut_rest front ++ more))
    × (cut_rest (front ++ more) ≡ cut_rest (cut_rest front ++ more))

-- behind whole messages the cut begins anew
abbrev pub CutAppends : Type 0
CutAppends =
    (front more : List ℕ)
    → cut_rest front ≡ []
    → (cut (front ++ more) ≡ cut front ++ cut more) × (cut_rest (front ++ more) ≡ cut_rest more)

-- messages that are joined are cut into just themselves
abbrev pub JoinedCuts : Type 0
JoinedCuts =
    (messages : List (List ℕ))
    → All IsMessage messages
    → (cut (joined messages) ≡ messages) × (cut_rest (joined messages) ≡ [])

-- behind a fault nothing is cut any more
abbrev pub CutFaultStays : Type 0
CutFaultStays =
    (front more : List ℕ) (fault : WireFault)
    → cut_fault front ≡ Some fault
    → (cut (front ++ more) ≡ cut front)
    × (cut_rest (front ++ more) ≡ cut_rest front ++ more)
    × (cut_fault (front ++ more) ≡ Some fault)
