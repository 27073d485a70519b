-- What a size that is good says of the bytes at the front: they are the argument that is read there.
use Rattle.std.proofs.Common.{◌≡◌, ◌≢◌, ℕ, ◌+◌, ◌-◌, ◌<◌, ◌≤◌, ◌⊎◌, inl, inr, List, [], ◌∷◌, ◌++◌, length, take, drop, get_or, slice_index, Bool, false, IsTrue, Result, Ok, Err, subst, refl, sym, ap, ◌∙◌, arith, length-drop, take-append-drop, w32}
use Rattle.std.proofs.lemmas.List.{length-take-le, get_or-drop, take_more, drop-drop}
use Rattle.std.proofs.lemmas.Bool.{false≢true, cases_lt, cases_eq, cases_Bool, lt-ltb, le-ltb, eq-eqb, ne_eqb}
use Rattle.std.proofs.Math.Seq.{take-add}
use Rattle.std.specs.Int.{cast_signed}
use Rattle.wl_wire.specs.declared.faults.WireFault.{WireFault}
use Rattle.wl_wire.specs.declared.faults.WireFault.TheVariants.{ArgShort, StringNoNul, NullNotAllowed}
use Rattle.wl_wire.specs.Wire.{word_at}
use Rattle.wl_wire.specs.Arguments.{padding_of, IsWord, IsSigned, IsCounted, IsString, IsBind}
use Rattle.wl_wire.specs.ArgFaults.{span_of, word_size, object_size, array_size, string_size, with_two_words}
use Rattle.wl_wire.proofs.FrontLemmas.{word_at-append}

-- a word that lies within the front, read from the front alone
pub word_at-take : (n at : ℕ) (bytes : List ℕ) → at + 4 ≤ n → n ≤ length bytes → word_at (take n bytes) at ≡ word_at bytes at
word_at-take n at bytes least room =
    let enough : at + 4 ≤ length (take n bytes) = omega (arith, length-take-le n bytes room) in
    sym (word_at-append (take n bytes) (drop n bytes) at enough) ∙ ap (λ it. word_at it at) (take-append-drop n bytes)

-- a word further on is the first word behind what stands before it
pub word_at-drop : (n : ℕ) (bytes : List ℕ) → word_at (drop n bytes) 0 ≡ word_at bytes n
unfolding word_at
word_at-drop n bytes =
    let a : slice_index (drop n bytes) 0 ≡ slice_index bytes n = get_or-drop n bytes 0 0 ∙ ap (λ i. slice_index bytes i) (omega arith) in
    let b : slice_index (drop n bytes) 1 ≡ slice_index bytes (n + 1) = get_or-drop n bytes 1 0 in
    let c : slice_index (drop n bytes) 2 ≡ slice_index bytes (n + 2) = get_or-drop n bytes 2 0 in
    let d : slice_index (drop n bytes) 3 ≡ slice_index bytes (n + 3) = get_or-drop n bytes 3 0 in
    cc

pub is_word : (bytes : List ℕ) → 4 ≤ length bytes → IsWord (take 4 bytes) (word_at bytes 0)
is_word bytes room = record { four = length-take-le 4 bytes room; reads = word_at-take 4 0 bytes (omega arith) room }

pub is_signed : (bytes : List ℕ) → 4 ≤ length bytes → IsSigned (take 4 bytes) (cast_signed w32 (word_at bytes 0))
is_signed bytes room =
    record { four = length-take-le 4 bytes room; reads = ap (λ n. cast_signed w32 n) (word_at-take 4 0 bytes (omega arith) room) }

-- a word
pub word_size-ok : (bytes : List ℕ) (size : ℕ) → word_size bytes ≡ Ok size → (4 ≤ length bytes) × (size ≡ 4)
unfolding word_size
word_size-ok bytes size e =
    elim (cases_lt (length bytes) 4) [
      | inl short ↦ absurd (let h : word_size bytes ≡ Err ArgShort = rw (lt-ltb (length bytes) 4 short) refl in cc)
      | inr room ↦
          let h : word_size bytes ≡ Ok 4 = rw (le-ltb (length bytes) 4 room) refl in
          (room, cc)
    ]

-- an object, which is null only where that is allowed
pub object_size-ok : (null : Bool) (bytes : List ℕ) (size : ℕ) → object_size null bytes ≡ Ok size → (4 ≤ length bytes) × (size ≡ 4) × (word_at bytes 0 ≡ 0 → IsTrue null)
unfolding object_size
object_size-ok null bytes size e =
    elim (cases_lt (length bytes) 4) [
      | inl short ↦ absurd (let h : object_size null bytes ≡ Err ArgShort = rw (lt-ltb (length bytes) 4 short) refl in cc)
      | inr room ↦ elim (cases_eq (word_at bytes 0) 0) [
        | inr some ↦
            let h : object_size null bytes ≡ Ok 4 = rw (le-ltb (length bytes) 4 room, ne_eqb (word_at bytes 0) 0 some) refl in
            (room, cc, λ zero. absurd (some zero))
        | inl none ↦ elim (cases_Bool null) [
          | inl allowed ↦
              let h : object_size null bytes ≡ Ok 4 = rw (le-ltb (length bytes) 4 room, eq-eqb (word_at bytes 0) 0 none, allowed) refl in
              (room, cc, λ _. allowed)
          | inr refused ↦
              absurd (let h : object_size null bytes ≡ Err NullNotAllowed = rw (le-ltb (length bytes) 4 room, eq-eqb (word_at bytes 0) 0 none, refused) refl in cc)
        ]
      ]
    ]

-- what is counted at the front, with the padding behind it
pub is_counted : (bytes : List ℕ) → 4 ≤ length bytes → span_of bytes ≤ length bytes → IsCounted (take (span_of bytes) bytes) (take (word_at bytes 0) (drop 4 bytes))
unfolding span_of
is_counted bytes room whole =
    let n : ℕ = word_at bytes 0 in
    let pad : ℕ = padding_of (word_at bytes 0) in
    let back : length (drop 4 bytes) ≡ length bytes - 4 = length-drop 4 bytes in
    let counted : length (take n (drop 4 bytes)) ≡ n = length-take-le n (drop 4 bytes) (omega arith) in
    let behind : length (drop n (drop 4 bytes)) ≡ length bytes - 4 - n = length-drop n (drop 4 bytes) ∙ ap (λ it. it - n) back in
    let padded : length (take pad (drop n (drop 4 bytes))) ≡ pad = length-take-le pad (drop n (drop 4 bytes)) (omega arith) in
    let split : take (4 + (n + pad)) bytes ≡ take 4 bytes ++ (take n (drop 4 bytes) ++ take pad (drop n (drop 4 bytes))) =
    take-add 4 (n + pad) bytes ∙ ap (λ it. take 4 bytes ++ it) (take-add n pad (drop 4 bytes)) in
    let word : IsWord (take 4 bytes) n = is_word bytes room in
    let P : ℕ → Type 0 = λ it. IsWord (take 4 bytes) it in
    record {
      count = take 4 bytes;
      padding = take pad (drop n (drop 4 bytes));
      parts = split;
      counts = subst P (sym counted) word;
      fills = padded ∙ ap padding_of (sym counted);
    }

pub array_size-ok : (bytes : List ℕ) (size : ℕ) → array_size bytes ≡ Ok size → (4 ≤ length bytes) × (size ≡ span_of bytes) × (span_of bytes ≤ length bytes)
unfolding array_size
array_size-ok bytes size e =
    elim (cases_lt (length bytes) 4) [
      | inl short ↦ absurd (let h : array_size bytes ≡ Err ArgShort = rw (lt-ltb (length bytes) 4 short) refl in cc)
      | inr room ↦ elim (cases_lt (length bytes) (span_of bytes)) [
        | inl cut ↦ absurd (let h : array_size bytes ≡ Err ArgShort = rw (le-ltb (length bytes) 4 room, lt-ltb (length bytes) (span_of bytes) cut) refl in cc)
        | inr whole ↦
            let h : array_size bytes ≡ Ok (span_of bytes) = rw (le-ltb (length bytes) 4 room, le-ltb (length bytes) (span_of bytes) whole) refl in
            (room, cc, whole)
      ]
    ]

-- a string's size says that it is null where that is allowed, or whole with its NUL
pub record IsNull (null : Bool) (bytes : List ℕ) (size : ℕ) : Type 0 where
  pub room : 4 ≤ length bytes
  pub none : word_at bytes 0 ≡ 0
  pub allowed : IsTrue null
  pub four : size ≡ 4

pub record IsWhole (bytes : List ℕ) (size : ℕ) : Type 0 where
  pub room : 4 ≤ length bytes
  pub some : word_at bytes 0 ≢ 0
  pub whole : span_of bytes ≤ length bytes
  pub ends : slice_index bytes (word_at bytes 0 + 3) ≡ 0
  pub spans : size ≡ span_of bytes

pub string_size-ok : (null : Bool) (bytes : List ℕ) (size : ℕ) → string_size null bytes ≡ Ok size → IsNull null bytes size ⊎ IsWhole bytes size
unfolding string_size
string_size-ok null bytes size e =
    elim (cases_lt (length bytes) 4) [
      | inl short ↦ absurd (let h : string_size null bytes ≡ Err ArgShort = rw (lt-ltb (length bytes) 4 short) refl in cc)
      | inr room ↦ elim (cases_eq (word_at bytes 0) 0) [
        | inl none ↦ elim (cases_Bool null) [
          | inl allowed ↦
              let h : string_size null bytes ≡ Ok 4 = rw (le-ltb (length bytes) 4 room, eq-eqb (word_at bytes 0) 0 none, allowed) refl in
              inl (record { room = room; none = none; allowed = allowed; four = cc })
          | inr refused ↦
              absurd (let h : string_size null bytes ≡ Err NullNotAllowed = rw (le-ltb (length bytes) 4 room, eq-eqb (word_at bytes 0) 0 none, refused) refl in cc)
        ]
        | inr some ↦ elim (cases_lt (length bytes) (span_of bytes)) [
          | inl cut ↦
              absurd (let h : string_size null bytes ≡ Err ArgShort = rw (le-ltb (length bytes) 4 room, ne_eqb (word_at bytes 0) 0 some, lt-ltb (length bytes) (span_of bytes) cut) refl in cc)
          | inr whole ↦ elim (cases_eq (slice_index bytes (word_at bytes 0 + 3)) 0) [
            | inr other ↦
                absurd (let h : string_size null bytes ≡ Err StringNoNul = rw (le-ltb (length bytes) 4 room, ne_eqb (word_at bytes 0) 0 some, le-ltb (length bytes) (span_of bytes) whole, ne_eqb (slice_index bytes (word_at bytes 0 + 3)) 0 other) refl in cc)
            | inl ends ↦
                let h : string_size null bytes ≡ Ok (span_of bytes) = rw (le-ltb (length bytes) 4 room, ne_eqb (word_at bytes 0) 0 some, le-ltb (length bytes) (span_of bytes) whole, eq-eqb (slice_index bytes (word_at bytes 0 + 3)) 0 ends) refl in
                inr (record { room = room; some = some; whole = whole; ends = ends; spans = cc })
          ]
        ]
      ]
    ]

-- the string that is whole is the counted bytes before the last
pub is_string : (bytes : List ℕ) (size : ℕ) → IsWhole bytes size → IsString (take size bytes) (take (word_at bytes 0 - 1) (drop 4 bytes))
unfolding span_of
is_string bytes size it =
    let text : ℕ = word_at bytes 0 - 1 in
    let more : text + 1 ≡ word_at bytes 0 = omega (arith, it.some) in
    let back : length (drop 4 bytes) ≡ length bytes - 4 = length-drop 4 bytes in
    let inside : text < length (drop 4 bytes) = omega (arith, it.whole, it.room) in
    let last : get_or (drop 4 bytes) text 0 ≡ 0 =
    get_or-drop 4 bytes text 0 ∙ ap (λ i. slice_index bytes i) (let at : 4 + text ≡ word_at bytes 0 + 3 = omega arith in at) ∙ it.ends in
    let content : take (word_at bytes 0) (drop 4 bytes) ≡ take text (drop 4 bytes) ++ 0 ∷ [] =
    ap (λ n. take n (drop 4 bytes)) (sym more) ∙ take_more (drop 4 bytes) text 0 inside ∙ ap (λ byte. take text (drop 4 bytes) ++ byte ∷ []) last in
    let P : List ℕ → Type 0 = λ counted. IsCounted (take size bytes) counted in
    let Q : ℕ → Type 0 = λ n. IsCounted (take n bytes) (take (word_at bytes 0) (drop 4 bytes)) in
    subst P content (subst Q (sym it.spans) (is_counted bytes it.room it.whole))

pub is_null : (null : Bool) (bytes : List ℕ) (size : ℕ) → IsNull null bytes size → IsTrue null × IsWord (take size bytes) 0
is_null null bytes size it =
    let P : ℕ → Type 0 = λ n. IsWord (take n bytes) (word_at bytes 0) in
    let Q : ℕ → Type 0 = λ value. IsWord (take size bytes) value in
    (it.allowed, subst Q it.none (subst P (sym it.four) (is_word bytes it.room)))

-- a bind is a string that isn't null, with two words behind it
pub record IsBound (bytes : List ℕ) (size : ℕ) : Type 0 where
  pub name : ℕ
  pub is_name : IsWhole bytes name
  pub spans : size ≡ name + 8
  pub whole : name + 8 ≤ length bytes

pub bind_size-from : (inner : Result ℕ WireFault) (bytes : List ℕ) (size : ℕ) → with_two_words inner bytes ≡ Ok size → (name : ℕ) × ((inner ≡ Ok name) × (size ≡ name + 8) × (name + 8 ≤ length bytes))
bind_size-from (Err fault) bytes size e = absurd (cc)
bind_size-from (Ok name) bytes size e =
    elim (cases_lt (length bytes) (name + 8)) [
      | inl short ↦ absurd (let h : with_two_words (Ok name) bytes ≡ Err ArgShort = rw (lt-ltb (length bytes) (name + 8) short) refl in cc)
      | inr room ↦
          let h : with_two_words (Ok name) bytes ≡ Ok (name + 8) = rw (le-ltb (length bytes) (name + 8) room) refl in
          (name, (refl, cc, room))
    ]

pub bind_size-ok : (bytes : List ℕ) (size : ℕ) → with_two_words (string_size false bytes) bytes ≡ Ok size → IsBound bytes size
bind_size-ok bytes size e =
    let found = bind_size-from (string_size false bytes) bytes size e in
    elim (string_size-ok false bytes found.0 found.1.0) [
      | inl none ↦ absurd (false≢true none.allowed)
      | inr whole ↦ record { name = found.0; is_name = whole; spans = found.1.1; whole = found.1.2 }
    ]

pub is_bind : (bytes : List ℕ) (size : ℕ) → IsBound bytes size → IsBind (take size bytes) (take (word_at bytes 0 - 1) (drop 4 bytes)) (word_at bytes (size - 8)) (word_at bytes (size - 4))
is_bind bytes size it =
    let name : ℕ = it.name in
    let behind : List ℕ = drop name bytes in
    let left : length (drop name bytes) ≡ length bytes - name = length-drop name bytes in
    let later : length (drop 4 (drop name bytes)) ≡ length bytes - name - 4 = length-drop 4 (drop name bytes) ∙ ap (λ n. n - 4) left in
    let split : take size bytes ≡ take name bytes ++ (take 4 behind ++ take 4 (drop 4 behind)) =
    ap (λ n. take n bytes) it.spans ∙ take-add name 8 bytes ∙ ap (λ rest. take name bytes ++ rest) (take-add 4 4 behind) in
    let second_at : word_at behind 0 ≡ word_at bytes (size - 8) =
    word_at-drop name bytes ∙ ap (λ at. word_at bytes at) (let at : name ≡ size - 8 = omega (arith, it.spans) in at) in
    let third_at : word_at (drop 4 behind) 0 ≡ word_at bytes (size - 4) =
    word_at-drop 4 behind ∙ sym (word_at-drop 4 behind) ∙ ap (λ list. word_at list 0) (drop-drop 4 name bytes) ∙ word_at-drop (name + 4) bytes
    ∙ ap (λ at. word_at bytes at) (let at : name + 4 ≡ size - 4 = omega (arith, it.spans) in at) in
    let P : ℕ → Type 0 = λ value. IsWord (take 4 behind) value in
    let Q : ℕ → Type 0 = λ value. IsWord (take 4 (drop 4 behind)) value in
    record {
      name = take name bytes;
      second = take 4 behind;
      third = take 4 (drop 4 behind);
      parts = split;
      names = is_string bytes name it.is_name;
      versions = subst P second_at (is_word behind (omega (arith, it.whole)));
      ids = subst Q third_at (is_word (drop 4 behind) (omega (arith, it.whole)));
    }

-- a span covers what it counts
pub span-counts : (bytes : List ℕ) → 4 + word_at bytes 0 ≤ span_of bytes
unfolding span_of
span-counts bytes = omega arith

-- what a string's size says, where it is known whether it is null
pub string-room : (null : Bool) (bytes : List ℕ) (size : ℕ) → string_size null bytes ≡ Ok size → 4 ≤ length bytes
string-room null bytes size e =
    elim (string_size-ok null bytes size e) [ inl none ↦ none.room | inr some ↦ some.room ]

pub string-none : (null : Bool) (bytes : List ℕ) (size : ℕ) → string_size null bytes ≡ Ok size → word_at bytes 0 ≡ 0 → IsNull null bytes size
string-none null bytes size e zero =
    elim (string_size-ok null bytes size e) [ inl none ↦ none | inr some ↦ absurd (some.some zero) ]

pub string-some : (null : Bool) (bytes : List ℕ) (size : ℕ) → string_size null bytes ≡ Ok size → word_at bytes 0 ≢ 0 → IsWhole bytes size
string-some null bytes size e other =
    elim (string_size-ok null bytes size e) [ inl none ↦ absurd (other none.none) | inr some ↦ some ]
