-- What is spelled at the front has just the size that the test of sizes finds there.
use Rattle.std.proofs.Common.{inl, inr, ◌≡◌, ◌≢◌, ℕ, ◌+◌, ◌≤◌, List, [], ◌∷◌, ◌++◌, length, take, drop, slice_index, Bool, true, false, IsTrue, Ok, None, refl, sym, ap, ◌∙◌, arith, length-append, append_assoc}
use Rattle.std.proofs.lemmas.List.{take_at, drop_at, get_or_at}
use Rattle.std.proofs.lemmas.Bool.{false≢true, cases_eq, le-ltb, eq-eqb, ne_eqb}
use Rattle.wl_wire.specs.declared.arguments.Arg.{Arg}
use Rattle.wl_wire.specs.declared.arguments.Arg.TheVariants as arg
use Rattle.wl_wire.specs.declared.signature.ArgKind.{ArgKind}
use Rattle.wl_wire.specs.declared.signature.ArgKind.TheVariants as kind
use Rattle.wl_wire.specs.declared.signature.Slot.{Slot}
use Rattle.wl_wire.specs.Wire.{word_at}
use Rattle.wl_wire.specs.Arguments.{padding_of, IsWord, IsCounted, IsString, IsBind, IsArg, Spells}
use Rattle.wl_wire.specs.ArgFaults.{span_of, word_size, object_size, array_size, string_size, with_two_words, arg_size, after_arg, args_fault}
use Rattle.wl_wire.proofs.FrontLemmas.{word_at-append}

-- the sizes of what is there
pub word_size-good : (bytes : List ℕ) → 4 ≤ length bytes → word_size bytes ≡ Ok 4
unfolding word_size
word_size-good bytes room = rw (le-ltb (length bytes) 4 room) refl

pub object_size-good : (null : Bool) (bytes : List ℕ) → 4 ≤ length bytes → (word_at bytes 0 ≡ 0 → IsTrue null) → object_size null bytes ≡ Ok 4
unfolding object_size
object_size-good null bytes room allowed =
    elim (cases_eq (word_at bytes 0) 0) [
      | inl none ↦ (let null_is : null ≡ true = allowed none in rw (le-ltb (length bytes) 4 room, eq-eqb (word_at bytes 0) 0 none, null_is) refl)
      | inr some ↦ rw (le-ltb (length bytes) 4 room, ne_eqb (word_at bytes 0) 0 some) refl
    ]

pub array_size-good : (bytes : List ℕ) → 4 ≤ length bytes → span_of bytes ≤ length bytes → array_size bytes ≡ Ok (span_of bytes)
unfolding array_size
array_size-good bytes room whole = rw (le-ltb (length bytes) 4 room, le-ltb (length bytes) (span_of bytes) whole) refl

pub string_size-good : (null : Bool) (bytes : List ℕ) → 4 ≤ length bytes → word_at bytes 0 ≢ 0 → span_of bytes ≤ length bytes → slice_index bytes (word_at bytes 0 + 3) ≡ 0 → string_size null bytes ≡ Ok (span_of bytes)
unfolding string_size
string_size-good null bytes room some whole ends =
    rw (le-ltb (length bytes) 4 room, ne_eqb (word_at bytes 0) 0 some, le-ltb (length bytes) (span_of bytes) whole, eq-eqb (slice_index bytes (word_at bytes 0 + 3)) 0 ends) refl

pub string_size-null : (bytes : List ℕ) → 4 ≤ length bytes → word_at bytes 0 ≡ 0 → string_size true bytes ≡ Ok 4
unfolding string_size
string_size-null bytes room none = rw (le-ltb (length bytes) 4 room, eq-eqb (word_at bytes 0) 0 none) refl

-- what is known of bytes that begin with something counted
pub record HasCounted (bytes content : List ℕ) (size : ℕ) : Type 0 where
  pub counts : word_at bytes 0 ≡ length content
  pub behind : take (length content) (drop 4 bytes) ≡ content
  pub spans : span_of bytes ≡ size
  pub room : 4 ≤ length bytes
  pub whole : span_of bytes ≤ length bytes

pub has_counted : (front rest content : List ℕ) → IsCounted front content → HasCounted (front ++ rest) content (length front)
unfolding span_of
has_counted front rest content it =
    let all : front ++ rest ≡ it.count ++ (content ++ (it.padding ++ rest)) =
    ap (λ list. list ++ rest) it.parts ∙ append_assoc it.count (content ++ it.padding) rest ∙ ap (λ list. it.count ++ list) (append_assoc content it.padding rest) in
    let counts : word_at (front ++ rest) 0 ≡ length content =
    ap (λ list. word_at list 0) all ∙ word_at-append it.count (content ++ (it.padding ++ rest)) 0 (omega (arith, it.counts.four)) ∙ it.counts.reads in
    let after : drop 4 (front ++ rest) ≡ content ++ (it.padding ++ rest) =
    ap (drop 4) all ∙ drop_at it.count (content ++ (it.padding ++ rest)) 4 it.counts.four in
    let front_size : length front ≡ length it.count + (length content + length it.padding) =
    ap length it.parts ∙ length-append it.count (content ++ it.padding) ∙ ap (λ n. length it.count + n) (length-append content it.padding) in
    let spans : 4 + (word_at (front ++ rest) 0 + padding_of (word_at (front ++ rest) 0)) ≡ length front =
    ap (λ n. 4 + (n + padding_of n)) counts ∙ omega (arith, front_size, it.counts.four, it.fills) in
    let both : length (front ++ rest) ≡ length front + length rest = length-append front rest in
    record {
      counts = counts;
      behind = ap (take (length content)) after ∙ take_at content (it.padding ++ rest) (length content) refl;
      spans = spans;
      room = omega (arith, it.counts.four);
      whole = omega (arith, both, spans);
    }

-- a string's NUL is its last counted byte
pub string-ends : (front rest text : List ℕ) → IsString front text → slice_index (front ++ rest) (word_at (front ++ rest) 0 + 3) ≡ 0
string-ends front rest text it =
    let counted = has_counted front rest (text ++ 0 ∷ []) it in
    let last : word_at (front ++ rest) 0 + 3 ≡ length (it.count ++ text) =
    omega (arith, counted.counts, it.counts.four, length-append text (0 ∷ []), length-append it.count text) in
    let all : front ++ rest ≡ (it.count ++ text) ++ 0 ∷ (it.padding ++ rest) =
    ap (λ list. list ++ rest) it.parts ∙ simp append_assoc in
    ap (λ list. slice_index list (word_at (front ++ rest) 0 + 3)) all ∙ get_or_at (it.count ++ text) 0 (it.padding ++ rest) 0 (word_at (front ++ rest) 0 + 3) (sym last)

pub string-size : (null : Bool) (front rest text : List ℕ) → IsString front text → string_size null (front ++ rest) ≡ Ok (length front)
string-size null front rest text it =
    let counted = has_counted front rest (text ++ 0 ∷ []) it in
    let some : word_at (front ++ rest) 0 ≢ 0 = λ none. omega (arith, none, counted.counts, length-append text (0 ∷ [])) in
    string_size-good null (front ++ rest) counted.room some counted.whole (string-ends front rest text it) ∙ ap (λ n. Ok n) counted.spans

pub word-there : (front rest : List ℕ) → length front ≡ 4 → 4 ≤ length (front ++ rest)
word-there front rest four = omega (arith, length-append front rest)

pub word-size : (front rest : List ℕ) → length front ≡ 4 → word_size (front ++ rest) ≡ Ok (length front)
word-size front rest four = word_size-good (front ++ rest) (word-there front rest four) ∙ ap (λ n. Ok n) (sym four)

pub word-reads : (front rest : List ℕ) (value : ℕ) → IsWord front value → word_at (front ++ rest) 0 ≡ value
word-reads front rest value it = word_at-append front rest 0 (omega (arith, it.four)) ∙ it.reads

pub bind-size : (front rest interface : List ℕ) (version id : ℕ) → IsBind front interface version id → with_two_words (string_size false (front ++ rest)) (front ++ rest) ≡ Ok (length front)
bind-size front rest interface version id it =
    let all : front ++ rest ≡ it.name ++ ((it.second ++ it.third) ++ rest) =
    ap (λ list. list ++ rest) it.parts ∙ append_assoc it.name (it.second ++ it.third) rest in
    let inner : string_size false (front ++ rest) ≡ Ok (length it.name) =
    ap (string_size false) all ∙ string-size false it.name ((it.second ++ it.third) ++ rest) interface it.names in
    let whole : length front ≡ length it.name + (length it.second + length it.third) =
    ap length it.parts ∙ length-append it.name (it.second ++ it.third) ∙ ap (λ n. length it.name + n) (length-append it.second it.third) in
    let spans : length it.name + 8 ≡ length front = omega (arith, it.versions.four, it.ids.four) in
    let room : length it.name + 8 ≤ length (front ++ rest) = omega (arith, length-append front rest) in
    let told : with_two_words (Ok (length it.name)) (front ++ rest) ≡ Ok (length it.name + 8) =
    rw (le-ltb (length (front ++ rest)) (length it.name + 8) room) refl in
    ap (λ size. with_two_words size (front ++ rest)) inner ∙ told ∙ ap (λ n. Ok n) spans

-- the argument at the front has its size
pub arg-size : (it : ArgKind) (null : Bool) (front rest : List ℕ) (value : Arg) → IsArg it null front value → arg_size it null (front ++ rest) ≡ Ok (length front)
arg-size kind.Int null front rest (arg.Int value) h = word-size front rest h.four
arg-size kind.Uint null front rest (arg.Uint value) h = word-size front rest h.four
arg-size kind.Fixed null front rest (arg.Fixed value) h = word-size front rest h.four
arg-size kind.Str null front rest (arg.Str text) h = string-size null front rest text h
arg-size kind.Str true front rest arg.NullStr h =
    string_size-null (front ++ rest) (word-there front rest h.1.four) (word-reads front rest 0 h.1) ∙ ap (λ n. Ok n) (sym h.1.four)
arg-size kind.Str false front rest arg.NullStr h = absurd (false≢true h.0)
arg-size kind.Object null front rest (arg.Object id) h =
    let reads : word_at (front ++ rest) 0 ≡ id = word-reads front rest id h.1 in
    object_size-good null (front ++ rest) (word-there front rest h.1.four) (λ none. h.0 (sym reads ∙ none)) ∙ ap (λ n. Ok n) (sym h.1.four)
arg-size kind.NewId null front rest (arg.NewId id) h = word-size front rest h.four
arg-size kind.Bind null front rest (arg.Bind interface version id) h = bind-size front rest interface version id h
arg-size kind.Array null front rest (arg.Array content) h =
    let counted = has_counted front rest content h in
    array_size-good (front ++ rest) counted.room counted.whole ∙ ap (λ n. Ok n) counted.spans
arg-size kind.Handle null front rest arg.Handle h = ap (λ list. Ok (length list)) (sym h)
arg-size _ _ _ _ _ h = absurd h

-- what is spelled has no fault
pub spells-fault : (slots : List Slot) (bytes : List ℕ) (args : List Arg) → Spells slots bytes args → args_fault slots bytes ≡ None
spells-fault [] bytes [] h = ap (args_fault []) h
spells-fault [] bytes (value ∷ args) h = absurd h
spells-fault (slot ∷ slots) bytes [] h = absurd h
spells-fault (slot ∷ slots) bytes (value ∷ args) h =
    let front : List ℕ = h.0 in
    let rest : List ℕ = h.1.0 in
    let parts : bytes ≡ front ++ rest = h.1.1 in
    let size : arg_size slot.kind slot.null bytes ≡ Ok (length front) =
    ap (arg_size slot.kind slot.null) parts ∙ arg-size slot.kind slot.null front rest value h.1.2 in
    let left : drop (length front) bytes ≡ rest = ap (drop (length front)) parts ∙ drop_at front rest (length front) refl in
    ap (λ told. after_arg told (λ n. args_fault slots (drop n bytes))) size ∙ ap (args_fault slots) left ∙ spells-fault slots rest args h.1.3
