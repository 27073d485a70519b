-- Bytes with no fault are spelled by arguments, and what is built of arguments that fit is read again.
use Rattle.std.proofs.Common.{◌≡◌, ℕ, ℤ, ◌+◌, ◌*◌, ◌^◌, ◌<◌, ◌≤◌, List, [], ◌∷◌, ◌++◌, length, take, drop, Bool, Result, Ok, Err, Option, None, refl, sym, ap, ◌∙◌, subst, inl, inr, arith, length-append, take-append-drop, w32, FitsSigned, Fits}
use Rattle.std.proofs.lemmas.List.{drop_at, length-replicate, append_assoc}
use Rattle.std.proofs.Math.Facts.{Fits-of_z, to_z-of_z}
use Rattle.std.specs.Int.{cast_signed, cast_unsigned}
use Rattle.wl_wire.specs.declared.arguments.Arg.{Arg}
use Rattle.wl_wire.specs.declared.arguments.Arg.TheVariants as arg
use Rattle.wl_wire.specs.declared.faults.WireFault.{WireFault}
use Rattle.wl_wire.specs.declared.signature.ArgKind.{ArgKind}
use Rattle.wl_wire.specs.declared.signature.ArgKind.TheVariants as kind
use Rattle.wl_wire.specs.declared.signature.Slot.{Slot}
use Rattle.wl_wire.specs.Wire.{word_at}
use Rattle.wl_wire.specs.Arguments.{padding_of, IsWord, IsSigned, IsCounted, IsString, IsArg, Spells}
use Rattle.wl_wire.specs.ArgFaults.{arg_size, after_arg, args_fault}
use Rattle.wl_wire.specs.Building.{word_bytes, zeros, counted_bytes, string_bytes_of, arg_bytes, args_bytes, built}
use Rattle.wl_wire.specs.ArgLaws.{GoodIsSpelled, FitsSlot, FitSlots, BuiltIsRead}
use Rattle.wl_wire.proofs.ArgReading.{word_size-ok, object_size-ok, array_size-ok, string_size-ok, bind_size-ok, is_word, is_signed, is_counted, is_string, is_null, is_bind}
use Rattle.wl_wire.proofs.ArgShapes.{spells-fault}
use Rattle.wl_wire.proofs.BuildingLemmas.{length-word_bytes, word_at-word_bytes}

word-at-front : (bytes : List ℕ) (size : ℕ) → 4 ≤ length bytes → size ≡ 4 → IsWord (take size bytes) (word_at bytes 0)
word-at-front bytes size room four =
    let P : ℕ → Type 0 = λ n. IsWord (take n bytes) (word_at bytes 0) in subst P (sym four) (is_word bytes room)

signed-at-front : (bytes : List ℕ) (size : ℕ) → 4 ≤ length bytes → size ≡ 4 → IsSigned (take size bytes) (cast_signed w32 (word_at bytes 0))
signed-at-front bytes size room four =
    let P : ℕ → Type 0 = λ n. IsSigned (take n bytes) (cast_signed w32 (word_at bytes 0)) in subst P (sym four) (is_signed bytes room)

-- an argument whose size is good is there
pub value-there : (it : ArgKind) (null : Bool) (bytes : List ℕ) (size : ℕ) → arg_size it null bytes ≡ Ok size → (value : Arg) × IsArg it null (take size bytes) value
value-there kind.Int null bytes size e =
    let ok = word_size-ok bytes size e in (arg.Int _, signed-at-front bytes size ok.0 ok.1)
value-there kind.Uint null bytes size e =
    let ok = word_size-ok bytes size e in (arg.Uint _, word-at-front bytes size ok.0 ok.1)
value-there kind.Fixed null bytes size e =
    let ok = word_size-ok bytes size e in (arg.Fixed _, signed-at-front bytes size ok.0 ok.1)
value-there kind.Str null bytes size e =
    elim (string_size-ok null bytes size e) [
      | inl none ↦ (arg.NullStr, is_null null bytes size none)
      | inr whole ↦ (arg.Str _, is_string bytes size whole)
    ]
value-there kind.Object null bytes size e =
    let ok = object_size-ok null bytes size e in (arg.Object (word_at bytes 0), (ok.2, word-at-front bytes size ok.0 ok.1))
value-there kind.NewId null bytes size e =
    let ok = word_size-ok bytes size e in (arg.NewId _, word-at-front bytes size ok.0 ok.1)
value-there kind.Bind null bytes size e = (arg.Bind _ _ _, is_bind bytes size (bind_size-ok bytes size e))
value-there kind.Array null bytes size e =
    let ok = array_size-ok bytes size e in
    let P : ℕ → Type 0 = λ n. IsCounted (take n bytes) (take (word_at bytes 0) (drop 4 bytes)) in
    (arg.Array _, subst P (sym ok.1) (is_counted bytes ok.0 ok.2))
value-there kind.Handle null bytes size e =
    (arg.Handle, let none : 0 ≡ size = cc in ap (λ n. take n bytes) (sym none))

-- where the whole has no fault, the argument in front has none, nor the rest
after-good : (told : Result ℕ WireFault) (next : ℕ → Option WireFault) → after_arg told next ≡ None → (size : ℕ) × ((told ≡ Ok size) × (next size ≡ None))
after-good (Ok size) next e = (size, (refl, e))
after-good (Err fault) next e = absurd (cc)

pub good-spelled : (slots : List Slot) (bytes : List ℕ) → args_fault slots bytes ≡ None → (args : List Arg) × Spells slots bytes args
good-spelled [] [] e = ([], refl)
good-spelled [] (byte ∷ bytes) e = absurd (cc)
good-spelled (slot ∷ slots) bytes e =
    let good = after-good (arg_size slot.kind slot.null bytes) (λ size. args_fault slots (drop size bytes)) e in
    let value = value-there slot.kind slot.null bytes good.0 good.1.0 in
    let later = good-spelled slots (drop good.0 bytes) good.1.1 in
    (value.0 ∷ later.0, (take good.0 bytes, (drop good.0 bytes, sym (take-append-drop good.0 bytes), value.1, later.1)))

pub good-is-spelled : GoodIsSpelled
good-is-spelled slots bytes = (good-spelled slots bytes, λ it. spells-fault slots bytes it.0 it.1)

-- what is built is what is meant
word-built : (value : ℕ) → value < 2 ^ 32 → IsWord (word_bytes value) value
word-built value small = record { four = length-word_bytes value; reads = word_at-word_bytes value small }

signed-built : (value : ℤ) → FitsSigned w32 value → IsSigned (word_bytes (cast_unsigned w32 value)) value
signed-built value fits =
    let small : cast_unsigned w32 value < 2 ^ 32 = (let it : Fits w32 (cast_unsigned w32 value) = Fits-of_z fits in omega (arith, it)) in
    record {
      four = length-word_bytes (cast_unsigned w32 value);
      reads = ap (λ n. cast_signed w32 n) (word_at-word_bytes (cast_unsigned w32 value) small) ∙ to_z-of_z fits;
    }

counted-built : (content : List ℕ) → length content < 2 ^ 32 → IsCounted (counted_bytes content) content
counted-built content small =
    record {
      count = word_bytes (length content);
      padding = zeros (padding_of (length content));
      parts = refl;
      counts = word-built (length content) small;
      fills = length-replicate (padding_of (length content)) 0;
    }

string-built : (text : List ℕ) → length text + 1 < 2 ^ 32 → IsString (string_bytes_of text) text
string-built text small = counted-built (text ++ 0 ∷ []) (omega (arith, length-append text (0 ∷ [])))

pub arg-built : (it : ArgKind) (null : Bool) (value : Arg) → FitsSlot it null value → IsArg it null (arg_bytes value) value
arg-built kind.Int null (arg.Int value) h = signed-built value h
arg-built kind.Uint null (arg.Uint value) h = word-built value h
arg-built kind.Fixed null (arg.Fixed value) h = signed-built value h
arg-built kind.Str null (arg.Str text) h = string-built text h
arg-built kind.Str null arg.NullStr h = (h, word-built 0 (omega arith))
arg-built kind.Object null (arg.Object id) h = (h.0, word-built id h.1)
arg-built kind.NewId null (arg.NewId id) h = word-built id h
arg-built kind.Bind null (arg.Bind interface version id) h =
    record {
      name = string_bytes_of interface;
      second = word_bytes version;
      third = word_bytes id;
      parts = refl;
      names = string-built interface h.0;
      versions = word-built version h.1;
      ids = word-built id h.2;
    }
arg-built kind.Array null (arg.Array content) h = counted-built content h
arg-built kind.Handle null arg.Handle h = refl
arg-built _ _ _ h = absurd h

pub args-built : (slots : List Slot) (args : List Arg) → FitSlots slots args → Spells slots (args_bytes args) args
args-built [] [] h = refl
args-built [] (value ∷ args) h = absurd h
args-built (slot ∷ slots) [] h = absurd h
args-built (slot ∷ slots) (value ∷ args) h =
    (arg_bytes value, (args_bytes args, refl, arg-built slot.kind slot.null value h.0, args-built slots args h.1))

-- the bytes behind the header
pub body-built : (object opcode : ℕ) (args : List Arg) → drop 8 (built object opcode args) ≡ args_bytes args
body-built object opcode args =
    let second : ℕ = opcode + 2 ^ 16 * (8 + length (args_bytes args)) in
    let header : length (word_bytes object ++ word_bytes second) ≡ 8 =
    length-append (word_bytes object) (word_bytes second) ∙ omega (arith, length-word_bytes object, length-word_bytes second) in
    ap (drop 8) (sym (append_assoc (word_bytes object) (word_bytes second) (args_bytes args)))
    ∙ drop_at (word_bytes object ++ word_bytes second) (args_bytes args) 8 header

pub built-is-read : BuiltIsRead
built-is-read slots object opcode args fit =
    let P : List ℕ → Type 0 = λ bytes. Spells slots bytes args in
    subst P (sym (body-built object opcode args)) (args-built slots args fit)
