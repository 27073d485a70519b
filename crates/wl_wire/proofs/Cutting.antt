-- How bytes are cut into messages: the relation by cases and the function that computes it are one, and what follows for bytes that are joined.
use Rattle.std.proofs.Common.{◌≡◌, ℕ, zero, suc, ◌≤◌, inl, inr, List, [], ◌∷◌, ◌++◌, length, drop, Some, Ok, All, subst, refl, sym, ap, ◌∙◌, arith, length-append, length-drop, append_assoc}
use Rattle.std.proofs.lemmas.List.{drop_at}
use Rattle.std.proofs.lemmas.List.Elements.{All-nil, All-cons, All-head, All-tail}
use Rattle.wl_wire.specs.Wire.{joined, first, IsMessage, Stops, Cuts, if_message, cut_within, cut, cut_rest}
use Rattle.wl_wire.proofs.FrontLemmas.{front-cases, first-message, stops-waits, stops-fault}

-- one step of the count
pub within-message : (most : ℕ) (bytes m : List ℕ) → first bytes ≡ Ok (Some m) → cut_within (suc most) bytes ≡ m ∷ cut_within most (drop (length m) bytes)
unfolding cut_within
within-message most bytes m e = ap (λ front. if_message front [] (λ it. it ∷ cut_within most (drop (length it) bytes))) e

pub within-none : (most : ℕ) (bytes : List ℕ) → Stops bytes → cut_within most bytes ≡ []
unfolding cut_within
within-none zero bytes stops = refl
within-none (suc most) bytes stops =
    elim (front-cases bytes) [
      | inl waits ↦ ap (λ front. if_message front [] (λ it. it ∷ cut_within most (drop (length it) bytes))) waits.found
      | inr (inl (f, faulty)) ↦ ap (λ front. if_message front [] (λ it. it ∷ cut_within most (drop (length it) bytes))) faulty.found
      | inr (inr (m, begins)) ↦ absurd (stops m (drop (length m) bytes) begins.is_message begins.parts)
    ]

-- a relation's messages are the function's, if it counts far enough
pub within-cuts : (messages : List (List ℕ)) (bytes rest : List ℕ) (most : ℕ) → Cuts bytes messages rest → length bytes ≤ most → cut_within most bytes ≡ messages
within-cuts [] bytes rest most cuts enough = within-none most bytes cuts.1
within-cuts (m ∷ messages) bytes rest zero cuts enough =
    absurd (omega (arith, cuts.0.has_header, ap length cuts.1.1, length-append m cuts.1.0))
within-cuts (m ∷ messages) bytes rest (suc most) cuts enough =
    let tail : List ℕ = cuts.1.0 in
    let parts : bytes ≡ m ++ tail = cuts.1.1 in
    let back : drop (length m) bytes ≡ tail = ap (drop (length m)) parts ∙ drop_at m tail (length m) refl in
    let found : first bytes ≡ Ok (Some m) = ap first parts ∙ first-message m tail cuts.0 in
    let shorter : length tail ≤ most = omega (arith, cuts.0.has_header, ap length parts, length-append m tail) in
    within-message most bytes m found
    ∙ ap (λ it. m ∷ cut_within most it) back
    ∙ ap (λ them. m ∷ them) (within-cuts messages tail rest most cuts.1.2 shorter)

-- the function's messages stand in the relation, with some rest
pub cuts-within : (most : ℕ) (bytes : List ℕ) → length bytes ≤ most → (rest : List ℕ) × Cuts bytes (cut_within most bytes) rest
cuts-within zero bytes enough =
    let stops : Stops bytes = λ m tail whole same. omega (arith, whole.has_header, ap length same, length-append m tail) in
    let P : List (List ℕ) → Type 0 = λ them. Cuts bytes them bytes in
    (bytes, subst P (sym (within-none zero bytes stops)) (refl, stops))
cuts-within (suc most) bytes enough =
    let P : List ℕ → List (List ℕ) → Type 0 = λ rest them. Cuts bytes them rest in
    elim (front-cases bytes) [
      | inl waits ↦
          let stops : Stops bytes = stops-waits bytes waits.found in
          (bytes, subst (P bytes) (sym (within-none (suc most) bytes stops)) (refl, stops))
      | inr (inl (f, faulty)) ↦
          let stops : Stops bytes = stops-fault bytes f faulty.found in
          (bytes, subst (P bytes) (sym (within-none (suc most) bytes stops)) (refl, stops))
      | inr (inr (m, begins)) ↦
          let tail : List ℕ = drop (length m) bytes in
          let shorter : length (drop (length m) bytes) ≤ most = omega (arith, begins.is_message.has_header, length-drop (length m) bytes) in
          let later : (rest : List ℕ) × Cuts tail (cut_within most tail) rest = cuts-within most tail shorter in
          (later.0, subst (P later.0) (sym (within-message most bytes m begins.found)) (begins.is_message, (tail, begins.parts, later.1)))
    ]

pub cuts-joined : (messages : List (List ℕ)) (bytes rest : List ℕ) → Cuts bytes messages rest → joined messages ++ rest ≡ bytes
cuts-joined [] bytes rest cuts = sym cuts.0
cuts-joined (m ∷ messages) bytes rest cuts =
    let tail : List ℕ = cuts.1.0 in
    let parts : bytes ≡ m ++ tail = cuts.1.1 in
    append_assoc m (joined messages) rest
    ∙ ap (λ it. m ++ it) (cuts-joined messages tail rest cuts.1.2)
    ∙ sym parts

-- the function and the relation
pub cuts-rest : (messages : List (List ℕ)) (bytes rest : List ℕ) → Cuts bytes messages rest → drop (length (joined messages)) bytes ≡ rest
cuts-rest messages bytes rest cuts =
    ap (drop (length (joined messages))) (sym (cuts-joined messages bytes rest cuts))
    ∙ drop_at (joined messages) rest (length (joined messages)) refl

pub cut-cuts : (bytes : List ℕ) → Cuts bytes (cut bytes) (cut_rest bytes)
unfolding cut cut_rest
cut-cuts bytes =
    let known : (rest : List ℕ) × Cuts bytes (cut bytes) rest = cuts-within (length bytes) bytes (omega arith) in
    let P : List ℕ → Type 0 = λ rest. Cuts bytes (cut bytes) rest in
    subst P (sym (cuts-rest (cut bytes) bytes known.0 known.1)) known.1

pub cuts-cut : (bytes : List ℕ) (messages : List (List ℕ)) (rest : List ℕ) → Cuts bytes messages rest → (cut bytes ≡ messages) × (cut_rest bytes ≡ rest)
unfolding cut cut_rest
cuts-cut bytes messages rest cuts =
    let same : cut bytes ≡ messages = within-cuts messages bytes rest (length bytes) cuts (omega arith) in
    (same, ap (λ them. drop (length (joined them)) bytes) same ∙ cuts-rest messages bytes rest cuts)

-- what the relation's parts are
pub cuts-messages : (messages : List (List ℕ)) (bytes rest : List ℕ) → Cuts bytes messages rest → All IsMessage messages
cuts-messages [] bytes rest cuts = All-nil IsMessage
cuts-messages (m ∷ messages) bytes rest cuts =
    All-cons IsMessage m messages cuts.0 (cuts-messages messages cuts.1.0 rest cuts.1.2)

pub cuts-stops : (messages : List (List ℕ)) (bytes rest : List ℕ) → Cuts bytes messages rest → Stops rest
cuts-stops [] bytes rest cuts = let P : List ℕ → Type 0 = λ it. Stops it in subst P cuts.0 cuts.1
cuts-stops (m ∷ messages) bytes rest cuts = cuts-stops messages cuts.1.0 rest cuts.1.2

-- what is fed behind goes on where the rest stood
pub cuts-append : (messages : List (List ℕ)) (front rest more : List ℕ) (later : List (List ℕ)) (end : List ℕ) → Cuts front messages rest → Cuts (rest ++ more) later end → Cuts (front ++ more) (messages ++ later) end
cuts-append [] front rest more later end cuts next =
    let P : List ℕ → Type 0 = λ it. Cuts (it ++ more) later end in
    subst P (sym cuts.0) next
cuts-append (m ∷ messages) front rest more later end cuts next =
    let tail : List ℕ = cuts.1.0 in
    let parts : front ++ more ≡ m ++ (tail ++ more) = ap (λ it. it ++ more) cuts.1.1 ∙ append_assoc m tail more in
    (cuts.0, (tail ++ more, parts, cuts-append messages tail rest more later end cuts.1.2 next))

pub stops-nil : Stops []
stops-nil m tail whole same = omega (arith, whole.has_header, ap length same, length-append m tail)

pub messages-cut : (messages : List (List ℕ)) → All IsMessage messages → Cuts (joined messages) messages []
messages-cut [] whole = (refl, stops-nil)
messages-cut (m ∷ messages) whole =
    (All-head IsMessage m messages whole, (joined messages, refl, messages-cut messages (All-tail IsMessage m messages whole)))
