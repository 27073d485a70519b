-- What is built of the arguments that were read is what was read, with zeros as padding.
use Rattle.std.proofs.Common.{◌≡◌, ℕ, ℤ, ◌+◌, ◌-◌, ◌*◌, ◌/◌, ◌%◌, ◌^◌, ◌<◌, ◌≤◌, List, [], ◌∷◌, ◌++◌, length, take, drop, get_or, slice_index, All, Bool, Ok, refl, sym, ap, ◌∙◌, subst, inl, inr, arith, length-append, w32, length-drop}
use Rattle.std.proofs.lemmas.List.{take_at, drop_at, append_assoc, append-nil, get_or_past, take_all}
use Rattle.std.proofs.lemmas.List.Elements.{All-get_or, All-take, All-drop}
use Rattle.std.proofs.lemmas.Bool.{cases_lt}
use Rattle.std.proofs.lemmas.Nat.{le_bytes_4}
use Rattle.std.proofs.lemmas.Int.{of_z-to_z}
use Rattle.std.proofs.Math.Seq.{take-add}
use Rattle.std.specs.Int.{cast_signed, cast_unsigned, from_le_bytes}
use Rattle.wl_wire.specs.declared.arguments.Arg.{Arg}
use Rattle.wl_wire.specs.declared.arguments.Arg.TheVariants as arg
use Rattle.wl_wire.specs.declared.signature.ArgKind.{ArgKind}
use Rattle.wl_wire.specs.declared.signature.ArgKind.TheVariants as kind
use Rattle.wl_wire.specs.declared.signature.Slot.{Slot}
use Rattle.wl_wire.specs.Wire.{word_at, size_of, object_of, opcode_of, IsMessage}
use Rattle.wl_wire.specs.Arguments.{padding_of, IsWord, IsSigned, IsCounted, IsBind, IsArg, Spells}
use Rattle.wl_wire.specs.ArgFaults.{arg_size}
use Rattle.wl_wire.specs.Building.{word_bytes, zeros, counted_bytes, string_bytes_of, arg_bytes, args_bytes}
use Rattle.wl_wire.specs.ArgLaws.{cleared_span, cleared, cleared_front, zero_padded, ReadIsBuilt}
use Rattle.wl_wire.proofs.ArgReading.{is_word, word_at-drop}
use Rattle.wl_wire.proofs.ArgShapes.{word-reads, arg-size}
use Rattle.wl_wire.proofs.BuildingLemmas.{length-word_bytes, length_counted}

-- a list of bytes
abbrev pub AreBytes : List ℕ → Type 0
AreBytes bytes = All (λ byte. byte < 256) bytes

byte-below : (bytes : List ℕ) → AreBytes bytes → (i : ℕ) → get_or bytes i 0 < 256
byte-below bytes small i =
    elim (cases_lt i (length bytes)) [
      | inl within ↦ All-get_or (λ byte. byte < 256) bytes i 0 within small
      | inr past ↦ (let zero : get_or bytes i 0 ≡ 0 = get_or_past bytes i 0 past in omega arith)
    ]

pub word_at-small : (bytes : List ℕ) (at : ℕ) → AreBytes bytes → word_at bytes at < 2 ^ 32
unfolding word_at
word_at-small bytes at small =
    let a : slice_index bytes at < 256 = byte-below bytes small at in
    let b : slice_index bytes (at + 1) < 256 = byte-below bytes small (at + 1) in
    let c : slice_index bytes (at + 2) < 256 = byte-below bytes small (at + 2) in
    let d : slice_index bytes (at + 3) < 256 = byte-below bytes small (at + 3) in
    omega arith

-- four bytes are their word
word-again : (bytes : List ℕ) → AreBytes bytes → length bytes ≡ 4 → word_bytes (word_at bytes 0) ≡ bytes
unfolding word_bytes word_at
word-again bytes small four =
    let reads : word_at bytes 0 ≡ from_le_bytes w32 bytes = omega arith in
    le_bytes_4 bytes (word_at bytes 0) four (byte-below bytes small) reads

is-word-again : (bytes : List ℕ) (value : ℕ) → AreBytes bytes → IsWord bytes value → word_bytes value ≡ bytes
is-word-again bytes value small it = ap word_bytes (sym it.reads) ∙ word-again bytes small it.four

is-signed-again : (bytes : List ℕ) (value : ℤ) → AreBytes bytes → IsSigned bytes value → word_bytes (cast_unsigned w32 value) ≡ bytes
is-signed-again bytes value small it =
    let back : cast_unsigned w32 (cast_signed w32 (word_at bytes 0)) ≡ word_at bytes 0 = of_z-to_z w32 (word_at bytes 0) (word_at-small bytes 0 small) in
    ap (λ n. word_bytes (cast_unsigned w32 n)) (sym it.reads) ∙ ap word_bytes back ∙ word-again bytes small it.four

-- the front of bytes
pub front-bytes : (front back : List ℕ) → AreBytes (front ++ back) → AreBytes front
front-bytes front back small =
    let P : List ℕ → Type 0 = λ bytes. AreBytes bytes in
    subst P (take_at front back (length front) refl) (All-take (λ byte. byte < 256) (length front) (front ++ back) small)

pub back-bytes : (front back : List ℕ) → AreBytes (front ++ back) → AreBytes back
back-bytes front back small =
    let P : List ℕ → Type 0 = λ bytes. AreBytes bytes in
    subst P (drop_at front back (length front) refl) (All-drop (λ byte. byte < 256) (length front) (front ++ back) small)

-- what is counted, with zeros behind it
pub counted-again : (bytes content : List ℕ) → AreBytes bytes → IsCounted bytes content → counted_bytes content ≡ cleared_span bytes
counted-again bytes content small it =
    let P : List ℕ → Type 0 = λ list. AreBytes list in
    let word : word_bytes (length content) ≡ it.count =
    is-word-again it.count (length content) (front-bytes it.count (content ++ it.padding) (subst P it.parts small)) it.counts in
    let reads : word_at bytes 0 ≡ length content =
    ap (λ list. word_at list 0) it.parts ∙ word-reads it.count (content ++ it.padding) (length content) it.counts in
    let size : length (it.count ++ content) ≡ 4 + length content =
    length-append it.count content ∙ ap (λ n. n + length content) it.counts.four in
    let front : take (4 + length content) bytes ≡ it.count ++ content =
    ap (take (4 + length content)) (it.parts ∙ sym (append_assoc it.count content it.padding)) ∙ take_at (it.count ++ content) it.padding (4 + length content) size in
    let spans : cleared_span bytes ≡ take (4 + length content) bytes ++ zeros (padding_of (length content)) =
    ap (λ n. take (4 + n) bytes ++ zeros (padding_of n)) reads in
    ap (λ list. list ++ (content ++ zeros (padding_of (length content)))) word
    ∙ sym (append_assoc it.count content (zeros (padding_of (length content))))
    ∙ ap (λ list. list ++ zeros (padding_of (length content))) (sym front)
    ∙ sym spans

padding-none : padding_of 0 ≡ 0
unfolding padding_of
padding-none = refl

null-again : (bytes : List ℕ) → AreBytes bytes → IsWord bytes 0 → word_bytes 0 ≡ cleared_span bytes
null-again bytes small it =
    let spans : cleared_span bytes ≡ take 4 bytes ++ zeros 0 =
    ap (λ n. take (4 + n) bytes ++ zeros (padding_of n)) it.reads ∙ ap (λ n. take 4 bytes ++ zeros n) padding-none in
    let whole : take 4 bytes ≡ bytes = take_all 4 bytes (omega (arith, it.four)) in
    is-word-again bytes 0 small it ∙ sym whole ∙ sym (append-nil (take 4 bytes)) ∙ sym spans

bind-again : (bytes interface : List ℕ) (version id : ℕ) → AreBytes bytes → IsBind bytes interface version id → string_bytes_of interface ++ (word_bytes version ++ word_bytes id) ≡ cleared_span (take (length bytes - 8) bytes) ++ drop (length bytes - 8) bytes
bind-again bytes interface version id small it =
    let P : List ℕ → Type 0 = λ list. AreBytes list in
    let all : AreBytes (it.name ++ (it.second ++ it.third)) = subst P it.parts small in
    let behind : AreBytes (it.second ++ it.third) = back-bytes it.name (it.second ++ it.third) all in
    let size : length bytes ≡ length it.name + (length it.second + length it.third) =
    ap length it.parts ∙ length-append it.name (it.second ++ it.third) ∙ ap (λ n. length it.name + n) (length-append it.second it.third) in
    let at : length bytes - 8 ≡ length it.name = omega (arith, it.versions.four, it.ids.four) in
    let front : take (length bytes - 8) bytes ≡ it.name = ap (take (length bytes - 8)) it.parts ∙ take_at it.name (it.second ++ it.third) (length bytes - 8) (sym at) in
    let back : drop (length bytes - 8) bytes ≡ it.second ++ it.third = ap (drop (length bytes - 8)) it.parts ∙ drop_at it.name (it.second ++ it.third) (length bytes - 8) (sym at) in
    let one : string_bytes_of interface ≡ cleared_span it.name =
    counted-again it.name (interface ++ 0 ∷ []) (front-bytes it.name (it.second ++ it.third) all) it.names in
    let two : word_bytes version ++ word_bytes id ≡ it.second ++ it.third =
    ap (λ list. list ++ word_bytes id) (is-word-again it.second version (front-bytes it.second it.third behind) it.versions)
    ∙ ap (λ list. it.second ++ list) (is-word-again it.third id (back-bytes it.second it.third behind) it.ids) in
    ap (λ list. list ++ (word_bytes version ++ word_bytes id)) one ∙ ap (λ list. cleared_span it.name ++ list) two
    ∙ ap (λ list. cleared_span list ++ (it.second ++ it.third)) (sym front)
    ∙ ap (λ list. cleared_span (take (length bytes - 8) bytes) ++ list) (sym back)

pub arg-again : (it : ArgKind) (null : Bool) (bytes : List ℕ) (value : Arg) → AreBytes bytes → IsArg it null bytes value → arg_bytes value ≡ cleared it bytes
arg-again kind.Int null bytes (arg.Int value) small h = is-signed-again bytes value small h
arg-again kind.Uint null bytes (arg.Uint value) small h = is-word-again bytes value small h
arg-again kind.Fixed null bytes (arg.Fixed value) small h = is-signed-again bytes value small h
arg-again kind.Str null bytes (arg.Str text) small h = counted-again bytes (text ++ 0 ∷ []) small h
arg-again kind.Str null bytes arg.NullStr small h = null-again bytes small h.1
arg-again kind.Object null bytes (arg.Object id) small h = is-word-again bytes id small h.1
arg-again kind.NewId null bytes (arg.NewId id) small h = is-word-again bytes id small h
arg-again kind.Bind null bytes (arg.Bind interface version id) small h = bind-again bytes interface version id small h
arg-again kind.Array null bytes (arg.Array content) small h = counted-again bytes content small h
arg-again kind.Handle null bytes arg.Handle small h = sym h
arg-again _ _ _ _ small h = absurd h

pub args-again : (slots : List Slot) (bytes : List ℕ) (args : List Arg) → AreBytes bytes → Spells slots bytes args → args_bytes args ≡ zero_padded slots bytes
args-again [] bytes [] small h = sym h
args-again [] bytes (value ∷ args) small h = absurd h
args-again (slot ∷ slots) bytes [] small h = absurd h
args-again (slot ∷ slots) bytes (value ∷ args) small h =
    let front : List ℕ = h.0 in
    let rest : List ℕ = h.1.0 in
    let parts : bytes ≡ front ++ rest = h.1.1 in
    let P : List ℕ → Type 0 = λ list. AreBytes list in
    let all : AreBytes (front ++ rest) = subst P parts small in
    let size : arg_size slot.kind slot.null bytes ≡ Ok (length front) =
    ap (arg_size slot.kind slot.null) parts ∙ arg-size slot.kind slot.null front rest value h.1.2 in
    let head : take (length front) bytes ≡ front = ap (take (length front)) parts ∙ take_at front rest (length front) refl in
    let left : drop (length front) bytes ≡ rest = ap (drop (length front)) parts ∙ drop_at front rest (length front) refl in
    let whole : zero_padded (slot ∷ slots) bytes ≡ cleared slot.kind (take (length front) bytes) ++ zero_padded slots (drop (length front) bytes) =
    ap (λ told. cleared_front told slot.kind bytes (zero_padded slots)) size in
    ap (λ list. list ++ args_bytes args) (arg-again slot.kind slot.null front value (front-bytes front rest all) h.1.2)
    ∙ ap (λ list. cleared slot.kind front ++ list) (args-again slots rest args (back-bytes front rest all) h.1.3)
    ∙ ap (λ list. cleared slot.kind list ++ zero_padded slots rest) (sym head)
    ∙ ap (λ list. cleared slot.kind (take (length front) bytes) ++ zero_padded slots list) (sym left)
    ∙ sym whole

-- what is built is as long as what was read
counted-long : (bytes content : List ℕ) → IsCounted bytes content → length (counted_bytes content) ≡ length bytes
counted-long bytes content it =
    let size : length bytes ≡ length it.count + (length content + length it.padding) =
    ap length it.parts ∙ length-append it.count (content ++ it.padding) ∙ ap (λ n. length it.count + n) (length-append content it.padding) in
    length_counted content ∙ omega (arith, size, it.counts.four, it.fills)

word-long : (bytes : List ℕ) (value : ℕ) → length bytes ≡ 4 → length (word_bytes value) ≡ length bytes
word-long bytes value four = length-word_bytes value ∙ sym four

bind-long : (bytes interface : List ℕ) (version id : ℕ) → IsBind bytes interface version id → length (string_bytes_of interface ++ (word_bytes version ++ word_bytes id)) ≡ length bytes
bind-long bytes interface version id it =
    let size : length bytes ≡ length it.name + (length it.second + length it.third) =
    ap length it.parts ∙ length-append it.name (it.second ++ it.third) ∙ ap (λ n. length it.name + n) (length-append it.second it.third) in
    let name : length (string_bytes_of interface) ≡ length it.name = counted-long it.name (interface ++ 0 ∷ []) it.names in
    let two : length (word_bytes version ++ word_bytes id) ≡ 8 =
    length-append (word_bytes version) (word_bytes id) ∙ omega (arith, length-word_bytes version, length-word_bytes id) in
    length-append (string_bytes_of interface) (word_bytes version ++ word_bytes id) ∙ omega (arith, size, name, two, it.versions.four, it.ids.four)

arg-long : (it : ArgKind) (null : Bool) (bytes : List ℕ) (value : Arg) → IsArg it null bytes value → length (arg_bytes value) ≡ length bytes
arg-long kind.Int null bytes (arg.Int value) h = word-long bytes _ h.four
arg-long kind.Uint null bytes (arg.Uint value) h = word-long bytes value h.four
arg-long kind.Fixed null bytes (arg.Fixed value) h = word-long bytes _ h.four
arg-long kind.Str null bytes (arg.Str text) h = counted-long bytes (text ++ 0 ∷ []) h
arg-long kind.Str null bytes arg.NullStr h = word-long bytes 0 h.1.four
arg-long kind.Object null bytes (arg.Object id) h = word-long bytes id h.1.four
arg-long kind.NewId null bytes (arg.NewId id) h = word-long bytes id h.four
arg-long kind.Bind null bytes (arg.Bind interface version id) h = bind-long bytes interface version id h
arg-long kind.Array null bytes (arg.Array content) h = counted-long bytes content h
arg-long kind.Handle null bytes arg.Handle h = ap length (sym h)
arg-long _ _ _ _ h = absurd h

pub args-long : (slots : List Slot) (bytes : List ℕ) (args : List Arg) → Spells slots bytes args → length (args_bytes args) ≡ length bytes
args-long [] bytes [] h = ap length (sym h)
args-long [] bytes (value ∷ args) h = absurd h
args-long (slot ∷ slots) bytes [] h = absurd h
args-long (slot ∷ slots) bytes (value ∷ args) h =
    let one : length (arg_bytes value) ≡ length h.0 = arg-long slot.kind slot.null h.0 value h.1.2 in
    let more : length (args_bytes args) ≡ length h.1.0 = args-long slots h.1.0 args h.1.3 in
    let whole : length bytes ≡ length h.0 + length h.1.0 = ap length h.1.1 ∙ length-append h.0 h.1.0 in
    length-append (arg_bytes value) (args_bytes args) ∙ omega arith

-- the two words of the header
header-again : (message : List ℕ) → IsMessage message → AreBytes message → (body : ℕ) → 8 + body ≡ length message → opcode_of message + 2 ^ 16 * (8 + body) ≡ word_at message 4
unfolding size_of
header-again message whole small body size =
    let word : word_at message 4 < 2 ^ 32 = word_at-small message 4 small in
    let upper : word_at message 4 / 2 ^ 16 % 2 ^ 16 ≡ length message = whole.is_counted in
    omega arith

pub read-is-built : ReadIsBuilt
read-is-built slots message args whole small h =
    let body : List ℕ = drop 8 message in
    let bytes : AreBytes (drop 8 message) = All-drop (λ byte. byte < 256) 8 message small in
    let long : length (args_bytes args) ≡ length (drop 8 message) = args-long slots (drop 8 message) args h in
    let size : 8 + length (args_bytes args) ≡ length message = omega (arith, length-drop 8 message, whole.has_header) in
    let first_word : word_bytes (object_of message) ≡ take 4 message =
    is-word-again (take 4 message) (word_at message 0) (All-take (λ byte. byte < 256) 4 message small) (is_word message (omega (arith, whole.has_header))) in
    let back : AreBytes (drop 4 message) = All-drop (λ byte. byte < 256) 4 message small in
    let room : 4 ≤ length (drop 4 message) = omega (arith, length-drop 4 message, whole.has_header) in
    let second_word : word_bytes (word_at message 4) ≡ take 4 (drop 4 message) =
    ap word_bytes (sym (word_at-drop 4 message))
    ∙ is-word-again (take 4 (drop 4 message)) (word_at (drop 4 message) 0) (All-take (λ byte. byte < 256) 4 (drop 4 message) back) (is_word (drop 4 message) room) in
    let header : take 8 message ≡ take 4 message ++ take 4 (drop 4 message) = take-add 4 4 message in
    let again : args_bytes args ≡ zero_padded slots (drop 8 message) = args-again slots (drop 8 message) args bytes h in
    ap (λ list. list ++ (word_bytes (opcode_of message + 2 ^ 16 * (8 + length (args_bytes args))) ++ args_bytes args)) first_word
    ∙ ap (λ n. take 4 message ++ (word_bytes n ++ args_bytes args)) (header-again message whole small (length (args_bytes args)) size)
    ∙ ap (λ list. take 4 message ++ (list ++ args_bytes args)) second_word
    ∙ sym (append_assoc (take 4 message) (take 4 (drop 4 message)) (args_bytes args))
    ∙ ap (λ list. list ++ args_bytes args) (sym header)
    ∙ ap (λ list. take 8 message ++ list) again
