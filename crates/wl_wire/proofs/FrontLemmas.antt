-- What stands at the front of a list of bytes: what a whole message there means, and that what comes behind changes none of it.
use Rattle.std.proofs.Common.{subst, ◌≡◌, ◌≢◌, ℕ, ◌+◌, ◌/◌, ◌%◌, ◌^◌, ◌<◌, ◌≤◌, ◌⊎◌, inl, inr, List, ◌++◌, length, take, drop, slice_index, Some, None, Ok, Err, refl, sym, ap, ◌∙◌, arith, length-append, take-append-drop}
use Rattle.std.proofs.lemmas.List.{get_or_append_left, take_at, drop_at, length-take-le}
use Rattle.std.proofs.lemmas.Bool.{cases_lt, cases_eq, lt-ltb, le-ltb, eq-eqb, ne_eqb}
use Rattle.wl_wire.specs.declared.message.TheConstants.{LONGEST_MESSAGE}
use Rattle.wl_wire.specs.declared.faults.WireFault.{WireFault}
use Rattle.wl_wire.specs.declared.faults.WireFault.TheVariants.{SizeSmall, SizeOdd, ArgShort, ArgLong, StringNoNul, NullNotAllowed}
use Rattle.wl_wire.specs.Wire.{word_at, size_of, first, IsMessage, SizeIsFine, SizeFault, NoMessage, Stops}

-- a word that lies within the front
pub word_at-append : (front more : List ℕ) (at : ℕ) → at + 4 ≤ length front → word_at (front ++ more) at ≡ word_at front at
unfolding word_at
word_at-append front more at room =
    let a : slice_index (front ++ more) at ≡ slice_index front at = get_or_append_left front more 0 at (omega arith) in
    let b : slice_index (front ++ more) (at + 1) ≡ slice_index front (at + 1) = get_or_append_left front more 0 (at + 1) (omega arith) in
    let c : slice_index (front ++ more) (at + 2) ≡ slice_index front (at + 2) = get_or_append_left front more 0 (at + 2) (omega arith) in
    let d : slice_index (front ++ more) (at + 3) ≡ slice_index front (at + 3) = get_or_append_left front more 0 (at + 3) (omega arith) in
    cc

pub size_of-append : (front more : List ℕ) → 8 ≤ length front → size_of (front ++ more) ≡ size_of front
unfolding size_of
size_of-append front more room = ap (λ word. word / 2 ^ 16 % 2 ^ 16) (word_at-append front more 4 (omega arith))

pub size_of-bound : (bytes : List ℕ) → size_of bytes < 65536
unfolding size_of
size_of-bound bytes = omega arith

pub size_of-take : (n : ℕ) (bytes : List ℕ) → 8 ≤ n → n ≤ length bytes → size_of (take n bytes) ≡ size_of bytes
size_of-take n bytes least room =
    let whole : take n bytes ++ drop n bytes ≡ bytes = take-append-drop n bytes in
    let enough : 8 ≤ length (take n bytes) = omega (arith, length-take-le n bytes room) in
    sym (size_of-append (take n bytes) (drop n bytes) enough) ∙ ap size_of whole

-- the five answers of `first`
pub first-short : (bytes : List ℕ) → length bytes < 8 → first bytes ≡ Ok None
unfolding first
first-short bytes short = rw (lt-ltb (length bytes) 8 short) refl

pub first-small : (bytes : List ℕ) → 8 ≤ length bytes → size_of bytes < 8 → first bytes ≡ Err SizeSmall
unfolding first
first-small bytes header small = rw (le-ltb (length bytes) 8 header, lt-ltb (size_of bytes) 8 small) refl

pub first-odd : (bytes : List ℕ) → 8 ≤ length bytes → 8 ≤ size_of bytes → size_of bytes % 4 ≢ 0 → first bytes ≡ Err SizeOdd
unfolding first
first-odd bytes header covers odd =
    rw (le-ltb (length bytes) 8 header, le-ltb (size_of bytes) 8 covers, ne_eqb (size_of bytes % 4) 0 odd) refl

pub first-missing : (bytes : List ℕ) → SizeIsFine bytes → 8 ≤ length bytes → length bytes < size_of bytes → first bytes ≡ Ok None
unfolding first
first-missing bytes fine header missing =
    rw (le-ltb (length bytes) 8 header, le-ltb (size_of bytes) 8 fine.covers_header, eq-eqb (size_of bytes % 4) 0 fine.is_padded, lt-ltb (length bytes) (size_of bytes) missing) refl

pub first-whole : (bytes : List ℕ) → SizeIsFine bytes → size_of bytes ≤ length bytes → first bytes ≡ Ok (Some (take (size_of bytes) bytes))
unfolding first
first-whole bytes fine whole =
    let header : 8 ≤ length bytes = omega (arith, fine.covers_header) in
    rw (le-ltb (length bytes) 8 header, le-ltb (size_of bytes) 8 fine.covers_header, eq-eqb (size_of bytes % 4) 0 fine.is_padded, le-ltb (length bytes) (size_of bytes) whole) refl

-- a message of that many bytes stands at the front
pub message-front : (bytes : List ℕ) → SizeIsFine bytes → size_of bytes ≤ length bytes → IsMessage (take (size_of bytes) bytes)
message-front bytes fine whole =
    let front : length (take (size_of bytes) bytes) ≡ size_of bytes = length-take-le (size_of bytes) bytes whole in
    let header : 8 ≤ length (take (size_of bytes) bytes) = omega (arith, fine.covers_header) in
    let padded : length (take (size_of bytes) bytes) % 4 ≡ 0 = ap (λ n. n % 4) front ∙ fine.is_padded in
    let bounded : length (take (size_of bytes) bytes) ≤ LONGEST_MESSAGE = omega (arith, size_of-bound bytes) in
    let counted : size_of (take (size_of bytes) bytes) ≡ length (take (size_of bytes) bytes) =
    size_of-take (size_of bytes) bytes fine.covers_header whole ∙ sym front in
    record { has_header = header; is_bounded = bounded; is_padded = padded; is_counted = counted }

-- what is known of bytes with the message m in front
pub record Begins (bytes m : List ℕ) : Type 0 where
  pub is_message : IsMessage m
  pub parts : bytes ≡ m ++ drop (length m) bytes
  pub found : first bytes ≡ Ok (Some m)

pub record Faulty (bytes : List ℕ) (f : WireFault) : Type 0 where
  pub size_fault : SizeFault bytes f
  pub found : first bytes ≡ Err f

pub record Waits (bytes : List ℕ) : Type 0 where
  pub no_message : NoMessage bytes
  pub found : first bytes ≡ Ok None

pub begins-whole : (bytes : List ℕ) → SizeIsFine bytes → size_of bytes ≤ length bytes → Begins bytes (take (size_of bytes) bytes)
begins-whole bytes fine whole =
    let front : length (take (size_of bytes) bytes) ≡ size_of bytes = length-take-le (size_of bytes) bytes whole in
    let split : bytes ≡ take (size_of bytes) bytes ++ drop (length (take (size_of bytes) bytes)) bytes =
    rw front (sym (take-append-drop (size_of bytes) bytes)) in
    record { is_message = message-front bytes fine whole; parts = split; found = first-whole bytes fine whole }

pub front-cases : (bytes : List ℕ) → Waits bytes ⊎ (((f : WireFault) × Faulty bytes f) ⊎ ((m : List ℕ) × Begins bytes m))
front-cases bytes =
    elim (cases_lt (length bytes) 8) [
      | inl short ↦ inl (record { no_message = inl short; found = first-short bytes short })
      | inr header ↦ elim (cases_lt (size_of bytes) 8) [
        | inl small ↦ inr (inl (SizeSmall, record { size_fault = (header, small); found = first-small bytes header small }))
        | inr covers ↦ elim (cases_eq (size_of bytes % 4) 0) [
          | inr odd ↦ inr (inl (SizeOdd, record { size_fault = (header, covers, odd); found = first-odd bytes header covers odd }))
          | inl even ↦
              let fine : SizeIsFine bytes = record { covers_header = covers; is_padded = even } in
              elim (cases_lt (length bytes) (size_of bytes)) [
                | inl missing ↦ inl (record { no_message = inr (fine, missing); found = first-missing bytes fine header missing })
                | inr whole ↦ inr (inr (take (size_of bytes) bytes, begins-whole bytes fine whole))
              ]
        ]
      ]
    ]

-- a message in front is what is found there, whatever comes behind
pub first-message : (m tail : List ℕ) → IsMessage m → first (m ++ tail) ≡ Ok (Some m)
first-message m tail whole =
    let sized : size_of (m ++ tail) ≡ length m = size_of-append m tail whole.has_header ∙ whole.is_counted in
    let covers : 8 ≤ size_of (m ++ tail) = omega (arith, whole.has_header) in
    let padded : size_of (m ++ tail) % 4 ≡ 0 = ap (λ n. n % 4) sized ∙ whole.is_padded in
    let fine : SizeIsFine (m ++ tail) = record { covers_header = covers; is_padded = padded } in
    let there : size_of (m ++ tail) ≤ length (m ++ tail) = omega (arith, length-append m tail) in
    let front : take (size_of (m ++ tail)) (m ++ tail) ≡ m = take_at m tail (size_of (m ++ tail)) (sym sized) in
    first-whole (m ++ tail) fine there ∙ ap (λ it. Ok (Some it)) front

pub begins-message : (m tail : List ℕ) → IsMessage m → Begins (m ++ tail) m
begins-message m tail whole =
    let back : drop (length m) (m ++ tail) ≡ tail = drop_at m tail (length m) refl in
    record { is_message = whole; parts = ap (λ rest. m ++ rest) (sym back); found = first-message m tail whole }

-- each answer of `first` and what it means
pub waits-found : (bytes : List ℕ) → first bytes ≡ Ok None → Waits bytes
waits-found bytes e =
    elim (front-cases bytes) [
      | inl waits ↦ waits
      | inr (inl (f, faulty)) ↦ absurd (let h : first bytes ≡ Err f = faulty.found in cc)
      | inr (inr (m, begins)) ↦ absurd (let h : first bytes ≡ Ok (Some m) = begins.found in cc)
    ]

pub faulty-found : (bytes : List ℕ) (f : WireFault) → first bytes ≡ Err f → Faulty bytes f
faulty-found bytes f e =
    elim (front-cases bytes) [
      | inl waits ↦ absurd (let h : first bytes ≡ Ok None = waits.found in cc)
      | inr (inl (g, faulty)) ↦
          let same : g ≡ f = (let h : first bytes ≡ Err g = faulty.found in cc) in
          let P : WireFault → Type 0 = λ it. Faulty bytes it in
          subst P same faulty
      | inr (inr (m, begins)) ↦ absurd (let h : first bytes ≡ Ok (Some m) = begins.found in cc)
    ]

pub begins-found : (bytes m : List ℕ) → first bytes ≡ Ok (Some m) → Begins bytes m
begins-found bytes m e =
    elim (front-cases bytes) [
      | inl waits ↦ absurd (let h : first bytes ≡ Ok None = waits.found in cc)
      | inr (inl (f, faulty)) ↦ absurd (let h : first bytes ≡ Err f = faulty.found in cc)
      | inr (inr (n, begins)) ↦
          let same : n ≡ m = (let h : first bytes ≡ Ok (Some n) = begins.found in cc) in
          let P : List ℕ → Type 0 = λ it. Begins bytes it in
          subst P same begins
    ]

pub found-waits : (bytes : List ℕ) → NoMessage bytes → first bytes ≡ Ok None
found-waits bytes (inl short) = first-short bytes short
found-waits bytes (inr (fine, missing)) =
    elim (cases_lt (length bytes) 8) [
      | inl short ↦ first-short bytes short
      | inr header ↦ first-missing bytes fine header missing
    ]

pub found-fault : (bytes : List ℕ) (f : WireFault) → SizeFault bytes f → first bytes ≡ Err f
found-fault bytes SizeSmall h = first-small bytes h.0 h.1
found-fault bytes SizeOdd h = first-odd bytes h.0 h.1 h.2
found-fault bytes ArgShort h = absurd h
found-fault bytes ArgLong h = absurd h
found-fault bytes StringNoNul h = absurd h
found-fault bytes NullNotAllowed h = absurd h

-- no message in front
pub stops-waits : (bytes : List ℕ) → first bytes ≡ Ok None → Stops bytes
stops-waits bytes e m tail whole same =
    let h : first (m ++ tail) ≡ Ok (Some m) = first-message m tail whole in
    let g : first bytes ≡ first (m ++ tail) = ap first same in
    cc

pub stops-fault : (bytes : List ℕ) (f : WireFault) → first bytes ≡ Err f → Stops bytes
stops-fault bytes f e m tail whole same =
    let h : first (m ++ tail) ≡ Ok (Some m) = first-message m tail whole in
    let g : first bytes ≡ first (m ++ tail) = ap first same in
    cc

-- a fault of the size stays, whatever comes behind
pub fault-append : (front more : List ℕ) (f : WireFault) → SizeFault front f → SizeFault (front ++ more) f
fault-append front more SizeSmall h =
    let sized : size_of (front ++ more) ≡ size_of front = size_of-append front more h.0 in
    (omega (arith, length-append front more), omega arith)
fault-append front more SizeOdd h =
    let sized : size_of (front ++ more) ≡ size_of front = size_of-append front more h.0 in
    (omega (arith, length-append front more), omega arith, λ e. h.2 (ap (λ n. n % 4) (sym sized) ∙ e))
fault-append front more ArgShort h = absurd h
fault-append front more ArgLong h = absurd h
fault-append front more StringNoNul h = absurd h
fault-append front more NullNotAllowed h = absurd h

pub first-fault-stays : (front more : List ℕ) (f : WireFault) → first front ≡ Err f → first (front ++ more) ≡ Err f
first-fault-stays front more f e =
    found-fault (front ++ more) f (fault-append front more f (faulty-found front f e).size_fault)
