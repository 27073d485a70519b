-- The fault that reading tells is the one that the cases of the wire format name.
use Rattle.std.proofs.Common.{inl, inr, ◌≡◌, ◌≢◌, ◌⊎◌, ℕ, ◌+◌, ◌<◌, ◌≤◌, List, [], ◌∷◌, ◌++◌, length, take, drop, Bool, false, Result, Ok, Err, Some, None, refl, sym, ap, ◌∙◌, subst, arith, append_assoc, take-append-drop}
use Rattle.std.proofs.lemmas.List.{drop_at}
use Rattle.std.proofs.lemmas.Bool.{cases_lt, cases_eq, cases_Bool, lt-ltb, le-ltb, eq-eqb, ne_eqb}
use Rattle.wl_wire.specs.declared.arguments.Arg.{Arg}
use Rattle.wl_wire.specs.declared.faults.WireFault.{WireFault}
use Rattle.wl_wire.specs.declared.faults.WireFault.TheVariants.{SizeSmall, SizeOdd, ArgShort, ArgLong, StringNoNul, NullNotAllowed}
use Rattle.wl_wire.specs.declared.signature.ArgKind.{ArgKind}
use Rattle.wl_wire.specs.declared.signature.ArgKind.TheVariants.{Int, Uint, Fixed, Str, Object, NewId, Bind, Array, Handle}
use Rattle.wl_wire.specs.declared.signature.Slot.{Slot}
use Rattle.wl_wire.specs.Wire.{word_at}
use Rattle.wl_wire.specs.Arguments.{padding_of, Spells}
use Rattle.wl_wire.specs.ArgFaults.{span_of, word_size, object_size, array_size, string_size, with_two_words, arg_size, after_arg, args_fault}
use Rattle.wl_wire.specs.ArgFaultCases.{EndsEarly, IsThere, last_counted, WordFault, ObjectFault, ArrayFault, StringFault, BindFault, ArgFault, FaultOfNext, IsFirstFault, FaultIsTold}
use Rattle.wl_wire.proofs.ArgShapes.{word_size-good, object_size-good, array_size-good, string_size-good, string_size-null, arg-size}
use Rattle.wl_wire.specs.ArgValues.{args_in}
use Rattle.wl_wire.proofs.ArgRoundTrip.{value-there, good-spelled}
use Rattle.wl_wire.proofs.ArgValuesLemmas.{args-in}

-- ---- each case of an argument has its size told so

word_short : (bytes : List ℕ) → length bytes < 4 → word_size bytes ≡ Err ArgShort
unfolding word_size
word_short bytes short = rw (lt-ltb (length bytes) 4 short) refl

object_short : (null : Bool) (bytes : List ℕ) → length bytes < 4 → object_size null bytes ≡ Err ArgShort
unfolding object_size
object_short null bytes short = rw (lt-ltb (length bytes) 4 short) refl

object_null : (bytes : List ℕ) → 4 ≤ length bytes → word_at bytes 0 ≡ 0 → object_size false bytes ≡ Err NullNotAllowed
unfolding object_size
object_null bytes room none = rw (le-ltb (length bytes) 4 room, eq-eqb (word_at bytes 0) 0 none) refl

array_short : (bytes : List ℕ) → EndsEarly bytes → array_size bytes ≡ Err ArgShort
unfolding array_size
array_short bytes ends =
    elim ends [
      | inl short ↦ rw (lt-ltb (length bytes) 4 short) refl
      | inr cut ↦ rw (le-ltb (length bytes) 4 cut.0, lt-ltb (length bytes) (span_of bytes) cut.1) refl
    ]

-- a length of 0 counts nothing, and no padding is behind it
span_none : (bytes : List ℕ) → word_at bytes 0 ≡ 0 → span_of bytes ≡ 4
unfolding span_of padding_of
span_none bytes none = rw none refl

string_short : (null : Bool) (bytes : List ℕ) → EndsEarly bytes → string_size null bytes ≡ Err ArgShort
unfolding string_size
string_short null bytes ends =
    elim ends [
      | inl short ↦ rw (lt-ltb (length bytes) 4 short) refl
      | inr cut ↦
          let some : word_at bytes 0 ≢ 0 = λ none. omega (arith, span_none bytes none, cut.0, cut.1) in
          rw (le-ltb (length bytes) 4 cut.0, ne_eqb (word_at bytes 0) 0 some, lt-ltb (length bytes) (span_of bytes) cut.1) refl
    ]

string_null : (bytes : List ℕ) → 4 ≤ length bytes → word_at bytes 0 ≡ 0 → string_size false bytes ≡ Err NullNotAllowed
unfolding string_size
string_null bytes room none = rw (le-ltb (length bytes) 4 room, eq-eqb (word_at bytes 0) 0 none) refl

string_open : (null : Bool) (bytes : List ℕ) → IsThere bytes → last_counted bytes ≢ 0 → string_size null bytes ≡ Err StringNoNul
unfolding string_size
string_open null bytes it other =
    rw (le-ltb (length bytes) 4 it.room, ne_eqb (word_at bytes 0) 0 it.some, le-ltb (length bytes) (span_of bytes) it.whole, ne_eqb (last_counted bytes) 0 other) refl

string_good : (null : Bool) (bytes : List ℕ) → IsThere bytes → last_counted bytes ≡ 0 → string_size null bytes ≡ Ok (span_of bytes)
string_good null bytes it ends = string_size-good null bytes it.room it.some it.whole ends

two_words_short : (bytes : List ℕ) (size : ℕ) → length bytes < size + 8 → with_two_words (Ok size) bytes ≡ Err ArgShort
two_words_short bytes size short = rw (lt-ltb (length bytes) (size + 8) short) refl

two_words_good : (bytes : List ℕ) (size : ℕ) → size + 8 ≤ length bytes → with_two_words (Ok size) bytes ≡ Ok (size + 8)
two_words_good bytes size room = rw (le-ltb (length bytes) (size + 8) room) refl

-- ---- the cases of an argument are all there are

object_cases : (null : Bool) (bytes : List ℕ) (fault : WireFault) → object_size null bytes ≡ Err fault → ObjectFault null bytes fault
object_cases null bytes fault e =
    let P : WireFault → Type 0 = λ it. ObjectFault null bytes it in
    elim (cases_lt (length bytes) 4) [
      | inl short ↦ subst P (let same : ArgShort ≡ fault = cc (object_short null bytes short, e) in same) short
      | inr room ↦ elim (cases_eq (word_at bytes 0) 0) [
        | inr some ↦ absurd (let h = object_size-good null bytes room (λ none. absurd (some none)) in cc (h, e))
        | inl none ↦ elim (cases_Bool null) [
          | inl allowed ↦ absurd (let h = object_size-good null bytes room (λ _. allowed) in cc (h, e))
          | inr refused ↦
              let h : object_size null bytes ≡ Err NullNotAllowed = ap (λ it. object_size it bytes) refused ∙ object_null bytes room none in
              subst P (let same : NullNotAllowed ≡ fault = cc (h, e) in same) (refused, room, none)
        ]
      ]
    ]

word_cases : (bytes : List ℕ) (fault : WireFault) → word_size bytes ≡ Err fault → WordFault bytes fault
word_cases bytes fault e =
    let P : WireFault → Type 0 = λ it. WordFault bytes it in
    elim (cases_lt (length bytes) 4) [
      | inl short ↦ subst P (let same : ArgShort ≡ fault = cc (word_short bytes short, e) in same) short
      | inr room ↦ absurd (let h = word_size-good bytes room in cc (h, e))
    ]

-- the bytes end early, or all is there that the length counts
ends_or_there : (bytes : List ℕ) → EndsEarly bytes ⊎ ((4 ≤ length bytes) × (span_of bytes ≤ length bytes))
ends_or_there bytes =
    elim (cases_lt (length bytes) 4) [
      | inl short ↦ inl (inl short)
      | inr room ↦ elim (cases_lt (length bytes) (span_of bytes)) [ inl cut ↦ inl (inr (room, cut)) | inr whole ↦ inr (room, whole) ]
    ]

array_cases : (bytes : List ℕ) (fault : WireFault) → array_size bytes ≡ Err fault → ArrayFault bytes fault
array_cases bytes fault e =
    let P : WireFault → Type 0 = λ it. ArrayFault bytes it in
    elim (ends_or_there bytes) [
      | inl ends ↦ subst P (let same : ArgShort ≡ fault = cc (array_short bytes ends, e) in same) ends
      | inr there ↦ absurd (let h = array_size-good bytes there.0 there.1 in cc (h, e))
    ]

-- what a string at the front is
string_kinds : (bytes : List ℕ) → EndsEarly bytes ⊎ (((4 ≤ length bytes) × (word_at bytes 0 ≡ 0)) ⊎ ((IsThere bytes × (last_counted bytes ≢ 0)) ⊎ (IsThere bytes × (last_counted bytes ≡ 0))))
string_kinds bytes =
    elim (ends_or_there bytes) [
      | inl ends ↦ inl ends
      | inr there ↦ elim (cases_eq (word_at bytes 0) 0) [
        | inl none ↦ inr (inl (there.0, none))
        | inr some ↦
            let it : IsThere bytes = record { room = there.0; some = some; whole = there.1 } in
            elim (cases_eq (last_counted bytes) 0) [ inl nul ↦ inr (inr (inr (it, nul))) | inr other ↦ inr (inr (inl (it, other))) ]
      ]
    ]

string_cases : (null : Bool) (bytes : List ℕ) (fault : WireFault) → string_size null bytes ≡ Err fault → StringFault null bytes fault
string_cases null bytes fault e =
    let P : WireFault → Type 0 = λ it. StringFault null bytes it in
    elim (string_kinds bytes) [
      | inl ends ↦ subst P (let same : ArgShort ≡ fault = cc (string_short null bytes ends, e) in same) ends
      | inr (inl none) ↦ elim (cases_Bool null) [
        | inl allowed ↦ absurd (let h : string_size null bytes ≡ Ok 4 = ap (λ it. string_size it bytes) allowed ∙ string_size-null bytes none.0 none.1 in cc (h, e))
        | inr refused ↦
            let h : string_size null bytes ≡ Err NullNotAllowed = ap (λ it. string_size it bytes) refused ∙ string_null bytes none.0 none.1 in
            subst P (let same : NullNotAllowed ≡ fault = cc (h, e) in same) (refused, none.0, none.1)
      ]
      | inr (inr (inl without)) ↦ subst P (let same : StringNoNul ≡ fault = cc (string_open null bytes without.0 without.1, e) in same) without
      | inr (inr (inr good)) ↦ absurd (let h = string_good null bytes good.0 good.1 in cc (h, e))
    ]

-- a string's fault is bind's
bind_from_string : (bytes : List ℕ) (fault : WireFault) → StringFault false bytes fault → BindFault bytes fault
bind_from_string bytes ArgShort h = inl h
bind_from_string bytes StringNoNul h = h
bind_from_string bytes NullNotAllowed h = h
bind_from_string bytes SizeSmall h = h
bind_from_string bytes SizeOdd h = h
bind_from_string bytes ArgLong h = h

bind_cases : (bytes : List ℕ) (fault : WireFault) → with_two_words (string_size false bytes) bytes ≡ Err fault → BindFault bytes fault
bind_cases bytes fault e =
    let P : WireFault → Type 0 = λ it. BindFault bytes it in
    let failed = λ (cause : WireFault) (h : string_size false bytes ≡ Err cause). ap (λ told. with_two_words told bytes) h in
    elim (string_kinds bytes) [
      | inl ends ↦ subst P (let same : ArgShort ≡ fault = cc (failed ArgShort (string_short false bytes ends), e) in same) (inl ends)
      | inr (inl none) ↦ subst P (let same : NullNotAllowed ≡ fault = cc (failed NullNotAllowed (string_null bytes none.0 none.1), e) in same) (refl, none.0, none.1)
      | inr (inr (inl without)) ↦ subst P (let same : StringNoNul ≡ fault = cc (failed StringNoNul (string_open false bytes without.0 without.1), e) in same) without
      | inr (inr (inr good)) ↦
          let inner : with_two_words (string_size false bytes) bytes ≡ with_two_words (Ok (span_of bytes)) bytes = ap (λ told. with_two_words told bytes) (string_good false bytes good.0 good.1) in
          elim (cases_lt (length bytes) (span_of bytes + 8)) [
            | inl short ↦ subst P (let same : ArgShort ≡ fault = cc (inner, two_words_short bytes (span_of bytes) short, e) in same) (inr (good.0, good.1, short))
            | inr room ↦ absurd (cc (inner, two_words_good bytes (span_of bytes) room, e))
          ]
    ]

arg_cases : (it : ArgKind) (null : Bool) (bytes : List ℕ) (fault : WireFault) → arg_size it null bytes ≡ Err fault → ArgFault it null bytes fault
arg_cases Int null bytes fault e = word_cases bytes fault e
arg_cases Uint null bytes fault e = word_cases bytes fault e
arg_cases Fixed null bytes fault e = word_cases bytes fault e
arg_cases Str null bytes fault e = string_cases null bytes fault e
arg_cases Object null bytes fault e = object_cases null bytes fault e
arg_cases NewId null bytes fault e = word_cases bytes fault e
arg_cases Bind null bytes fault e = bind_cases bytes fault e
arg_cases Array null bytes fault e = array_cases bytes fault e
arg_cases Handle null bytes fault e = absurd (cc)

-- ---- and each tells its fault

word_told : (bytes : List ℕ) (fault : WireFault) → WordFault bytes fault → word_size bytes ≡ Err fault
word_told bytes ArgShort h = word_short bytes h
word_told bytes SizeSmall h = absurd h
word_told bytes SizeOdd h = absurd h
word_told bytes ArgLong h = absurd h
word_told bytes StringNoNul h = absurd h
word_told bytes NullNotAllowed h = absurd h

object_told : (null : Bool) (bytes : List ℕ) (fault : WireFault) → ObjectFault null bytes fault → object_size null bytes ≡ Err fault
object_told null bytes ArgShort h = object_short null bytes h
object_told null bytes NullNotAllowed h = ap (λ it. object_size it bytes) h.0 ∙ object_null bytes h.1 h.2
object_told null bytes SizeSmall h = absurd h
object_told null bytes SizeOdd h = absurd h
object_told null bytes ArgLong h = absurd h
object_told null bytes StringNoNul h = absurd h

array_told : (bytes : List ℕ) (fault : WireFault) → ArrayFault bytes fault → array_size bytes ≡ Err fault
array_told bytes ArgShort h = array_short bytes h
array_told bytes SizeSmall h = absurd h
array_told bytes SizeOdd h = absurd h
array_told bytes ArgLong h = absurd h
array_told bytes StringNoNul h = absurd h
array_told bytes NullNotAllowed h = absurd h

string_told : (null : Bool) (bytes : List ℕ) (fault : WireFault) → StringFault null bytes fault → string_size null bytes ≡ Err fault
string_told null bytes ArgShort h = string_short null bytes h
string_told null bytes StringNoNul h = string_open null bytes h.0 h.1
string_told null bytes NullNotAllowed h = ap (λ it. string_size it bytes) h.0 ∙ string_null bytes h.1 h.2
string_told null bytes SizeSmall h = absurd h
string_told null bytes SizeOdd h = absurd h
string_told null bytes ArgLong h = absurd h

bind_told : (bytes : List ℕ) (fault : WireFault) → BindFault bytes fault → with_two_words (string_size false bytes) bytes ≡ Err fault
bind_told bytes ArgShort h =
    elim h [
      | inl ends ↦ ap (λ told. with_two_words told bytes) (string_short false bytes ends)
      | inr cut ↦ ap (λ told. with_two_words told bytes) (string_good false bytes cut.0 cut.1) ∙ two_words_short bytes (span_of bytes) cut.2
    ]
bind_told bytes StringNoNul h = ap (λ told. with_two_words told bytes) (string_told false bytes StringNoNul h)
bind_told bytes NullNotAllowed h = ap (λ told. with_two_words told bytes) (string_told false bytes NullNotAllowed h)
bind_told bytes SizeSmall h = absurd h
bind_told bytes SizeOdd h = absurd h
bind_told bytes ArgLong h = absurd h

arg_told : (it : ArgKind) (null : Bool) (bytes : List ℕ) (fault : WireFault) → ArgFault it null bytes fault → arg_size it null bytes ≡ Err fault
arg_told Int null bytes fault h = word_told bytes fault h
arg_told Uint null bytes fault h = word_told bytes fault h
arg_told Fixed null bytes fault h = word_told bytes fault h
arg_told Str null bytes fault h = string_told null bytes fault h
arg_told Object null bytes fault h = object_told null bytes fault h
arg_told NewId null bytes fault h = word_told bytes fault h
arg_told Bind null bytes fault h = bind_told bytes fault h
arg_told Array null bytes fault h = array_told bytes fault h
arg_told Handle null bytes fault h = absurd h

-- ---- all the arguments

-- arguments in front are passed over
spelled_before : (before later : List Slot) (front rest : List ℕ) (args : List Arg) → Spells before front args → args_fault (before ++ later) (front ++ rest) ≡ args_fault later rest
spelled_before [] later front rest [] h = ap (λ list. args_fault later (list ++ rest)) h
spelled_before [] later front rest (value ∷ args) h = absurd h
spelled_before (slot ∷ before) later front rest [] h = absurd h
spelled_before (slot ∷ before) later front rest (value ∷ args) h =
    let all : front ++ rest ≡ h.0 ++ (h.1.0 ++ rest) = ap (λ list. list ++ rest) h.1.1 ∙ append_assoc h.0 h.1.0 rest in
    let size : arg_size slot.kind slot.null (h.0 ++ (h.1.0 ++ rest)) ≡ Ok (length h.0) = arg-size slot.kind slot.null h.0 (h.1.0 ++ rest) value h.1.2 in
    ap (λ list. args_fault (slot ∷ (before ++ later)) list) all
    ∙ ap (λ told. after_arg told (λ n. args_fault (before ++ later) (drop n (h.0 ++ (h.1.0 ++ rest))))) size
    ∙ ap (args_fault (before ++ later)) (drop_at h.0 (h.1.0 ++ rest) (length h.0) refl)
    ∙ spelled_before before later h.1.0 rest args h.1.3

next_told : (later : List Slot) (rest : List ℕ) (fault : WireFault) → FaultOfNext later rest fault → args_fault later rest ≡ Some fault
next_told [] [] fault h = absurd (h.1 refl)
next_told [] (byte ∷ rest) fault h = ap (λ it. Some it) (sym h.0)
next_told (slot ∷ later) rest fault h =
    ap (λ told. after_arg told (λ n. args_fault later (drop n rest))) (arg_told slot.kind slot.null rest fault h)

first_fault_told : (slots : List Slot) (bytes : List ℕ) (fault : WireFault) → IsFirstFault slots bytes fault → args_fault slots bytes ≡ Some fault
first_fault_told slots bytes fault it =
    ap (λ list. args_fault list bytes) (sym it.places) ∙ ap (args_fault (it.before ++ it.later)) (sym it.parts)
    ∙ spelled_before it.before it.later it.front it.rest it.args it.good ∙ next_told it.later it.rest fault it.next

-- an argument that is good, and a first fault behind it
good_before : (slot : Slot) (slots : List Slot) (bytes : List ℕ) (size : ℕ) (fault : WireFault) → arg_size slot.kind slot.null bytes ≡ Ok size → IsFirstFault slots (drop size bytes) fault → IsFirstFault (slot ∷ slots) bytes fault
good_before slot slots bytes size fault e it =
    let value = value-there slot.kind slot.null bytes size e in
    record {
      before = slot ∷ it.before;
      later = it.later;
      front = take size bytes ++ it.front;
      rest = it.rest;
      args = value.0 ∷ it.args;
      places = ap (λ list. slot ∷ list) it.places;
      parts = append_assoc (take size bytes) it.front it.rest ∙ ap (λ list. take size bytes ++ list) it.parts ∙ take-append-drop size bytes;
      good = (take size bytes, (it.front, refl, value.1, it.good));
      next = it.next;
    }

first_or_later : (slot : Slot) (slots : List Slot) (bytes : List ℕ) (fault : WireFault)
    → ((size : ℕ) → args_fault slots (drop size bytes) ≡ Some fault → IsFirstFault slots (drop size bytes) fault)
    → (told : Result ℕ WireFault) → arg_size slot.kind slot.null bytes ≡ told
    → after_arg told (λ size. args_fault slots (drop size bytes)) ≡ Some fault → IsFirstFault (slot ∷ slots) bytes fault
first_or_later slot slots bytes fault later (Ok size) is e = good_before slot slots bytes size fault is (later size e)
first_or_later slot slots bytes fault later (Err cause) is e =
    record {
      before = [];
      later = slot ∷ slots;
      front = [];
      rest = bytes;
      args = [];
      places = refl;
      parts = refl;
      good = refl;
      next = arg_cases slot.kind slot.null bytes fault (let same : cause ≡ fault = cc in is ∙ ap (λ it. Err it) same);
    }

told_first_fault : (slots : List Slot) (bytes : List ℕ) (fault : WireFault) → args_fault slots bytes ≡ Some fault → IsFirstFault slots bytes fault
told_first_fault [] [] fault e = absurd (cc)
told_first_fault [] (byte ∷ bytes) fault e =
    record { before = []; later = []; front = []; rest = byte ∷ bytes; args = []; places = refl; parts = refl; good = refl; next = (cc, λ none. cc) }
told_first_fault (slot ∷ slots) bytes fault e =
    first_or_later slot slots bytes fault (λ size. told_first_fault slots (drop size bytes) fault) (arg_size slot.kind slot.null bytes) refl e

pub fault_told : FaultIsTold
fault_told slots bytes fault = (told_first_fault slots bytes fault, first_fault_told slots bytes fault)

-- where there is no fault, the values that stand at the places are spelled there
pub values_spelled : (slots : List Slot) (bytes : List ℕ) → args_fault slots bytes ≡ None → Spells slots bytes (args_in slots bytes)
values_spelled slots bytes none =
    let P : List Arg → Type 0 = λ args. Spells slots bytes args in
    let good = good-spelled slots bytes none in
    subst P (sym (args-in slots bytes good.0 good.1)) good.1
