-- What arguments that bytes spell are like: they fit their places, and what they hold are bytes; and back.
use Rattle.std.proofs.Common.{◌≡◌, ℕ, ℤ, ◌+◌, ◌*◌, ◌/◌, ◌%◌, ◌^◌, ◌<◌, ◌≤◌, List, [], ◌∷◌, ◌++◌, length, drop, Bool, Fits, FitsSigned, w32, sym, ap, ◌∙◌, subst, arith, length-append}
use Rattle.std.proofs.lemmas.List.{drop_at}
use Rattle.std.proofs.lemmas.List.Elements.{All-append, All-cons, All-nil, All-replicate}
use Rattle.std.proofs.Math.Facts.{Fits-of_lt, sfits_to_z}
use Rattle.std.specs.Int.{cast_unsigned}
use Rattle.wl_wire.specs.declared.message.TheConstants.{LONGEST_MESSAGE}
use Rattle.wl_wire.specs.declared.arguments.Arg.{Arg}
use Rattle.wl_wire.specs.declared.arguments.Arg.TheVariants as arg
use Rattle.wl_wire.specs.declared.signature.ArgKind.{ArgKind}
use Rattle.wl_wire.specs.declared.signature.ArgKind.TheVariants as kind
use Rattle.wl_wire.specs.declared.signature.Slot.{Slot}
use Rattle.wl_wire.specs.Wire.{word_at, object_of, opcode_of}
use Rattle.wl_wire.specs.Arguments.{padding_of, IsWord, IsSigned, IsCounted, IsString, IsBind, IsArg, Spells}
use Rattle.wl_wire.specs.Building.{word_bytes, counted_bytes, string_bytes_of, arg_bytes, args_bytes, built}
use Rattle.wl_wire.specs.ArgLaws.{FitsSlot, FitSlots}
use Rattle.wl_wire.proofs.ArgPadding.{AreBytes, word_at-small, front-bytes, back-bytes}
use Rattle.wl_wire.proofs.ArgReading.{word_at-drop}
use Rattle.wl_wire.proofs.BuildingLemmas.{length-word_bytes, word_at-word_bytes}
use Rattle.wl_wire.proofs.FrontLemmas.{word_at-append}
use Rattle.wl_text.proofs.ArgTextLaws.{HoldsBytes}
use Rattle.wl_text.proofs.ArgsTextLaws.{AllHold}

abbrev IsByte : ℕ → Type 0
IsByte byte = byte < 256

word_fits : (bytes : List ℕ) (value : ℕ) → AreBytes bytes → IsWord bytes value → value < 2 ^ 32
word_fits bytes value small it = subst (λ n. n < 2 ^ 32) it.reads (word_at-small bytes 0 small)

signed_fits : (bytes : List ℕ) (value : ℤ) → AreBytes bytes → IsSigned bytes value → FitsSigned w32 value
signed_fits bytes value small it =
    let below = word_at-small bytes 0 small in
    let fits : Fits w32 (word_at bytes 0) = Fits-of_lt below in
    subst (λ n. FitsSigned w32 n) it.reads (sfits_to_z fits)

-- what is counted, and how long it is
record Counted (content : List ℕ) : Type 0 where
  bytes : AreBytes content
  short : length content < 2 ^ 32

counted_fits : (bytes content : List ℕ) → AreBytes bytes → IsCounted bytes content → Counted content
counted_fits bytes content small it =
    let parts : AreBytes (it.count ++ (content ++ it.padding)) = subst AreBytes it.parts small in
    record {
      bytes = front-bytes content it.padding (back-bytes it.count (content ++ it.padding) parts);
      short = word_fits it.count (length content) (front-bytes it.count (content ++ it.padding) parts) it.counts;
    }

string_fits : (bytes text : List ℕ) → AreBytes bytes → IsString bytes text → AreBytes text × (length text + 1 < 2 ^ 32)
string_fits bytes text small it =
    let counted = counted_fits bytes (text ++ 0 ∷ []) small it in
    (front-bytes text (0 ∷ []) counted.bytes, omega (arith, counted.short, length-append text (0 ∷ [])))

bind_fits : (bytes interface : List ℕ) (version id : ℕ) → AreBytes bytes → IsBind bytes interface version id → AreBytes interface × (length interface + 1 < 2 ^ 32) × (version < 2 ^ 32) × (id < 2 ^ 32)
bind_fits bytes interface version id small it =
    let parts : AreBytes (it.name ++ (it.second ++ it.third)) = subst AreBytes it.parts small in
    let words = back-bytes it.name (it.second ++ it.third) parts in
    let text = string_fits it.name interface (front-bytes it.name (it.second ++ it.third) parts) it.names in
    (text.0, text.1, word_fits it.second version (front-bytes it.second it.third words) it.versions, word_fits it.third id (back-bytes it.second it.third words) it.ids)

-- one argument
abbrev IsGood : ArgKind → Bool → Arg → Type 0
IsGood it null value = FitsSlot it null value × HoldsBytes value

arg_good : (it : ArgKind) (null : Bool) (bytes : List ℕ) (value : Arg) → AreBytes bytes → IsArg it null bytes value → IsGood it null value
arg_good kind.Int null bytes (arg.Int value) small h = (signed_fits bytes value small h, tt)
arg_good kind.Uint null bytes (arg.Uint value) small h = (word_fits bytes value small h, tt)
arg_good kind.Fixed null bytes (arg.Fixed value) small h = (signed_fits bytes value small h, tt)
arg_good kind.Str null bytes (arg.Str text) small h = let it = string_fits bytes text small h in (it.1, it.0)
arg_good kind.Str null bytes arg.NullStr small h = (h.0, tt)
arg_good kind.Object null bytes (arg.Object id) small h = ((h.0, word_fits bytes id small h.1), tt)
arg_good kind.NewId null bytes (arg.NewId id) small h = (word_fits bytes id small h, tt)
arg_good kind.Bind null bytes (arg.Bind interface version id) small h =
    let it = bind_fits bytes interface version id small h in ((it.1, it.2, it.3), it.0)
arg_good kind.Array null bytes (arg.Array content) small h = let it = counted_fits bytes content small h in (it.short, it.bytes)
arg_good kind.Handle null bytes arg.Handle small h = (tt, tt)
arg_good _ null bytes _ small h = absurd h

-- all of them
pub args_good : (slots : List Slot) (bytes : List ℕ) (args : List Arg) → AreBytes bytes → Spells slots bytes args → FitSlots slots args × AllHold args
args_good [] bytes [] small h = (tt, tt)
args_good [] bytes (value ∷ args) small h = absurd h
args_good (slot ∷ slots) bytes [] small h = absurd h
args_good (slot ∷ slots) bytes (value ∷ args) small h =
    let parts : AreBytes (h.0 ++ h.1.0) = subst AreBytes h.1.1 small in
    let one = arg_good slot.kind slot.null h.0 value (front-bytes h.0 h.1.0 parts) h.1.2 in
    let more = args_good slots h.1.0 args (back-bytes h.0 h.1.0 parts) h.1.3 in
    ((one.0, more.0), (one.1, more.1))

-- what is built are bytes
four_are_bytes : (a b c d : ℕ) → a < 256 → b < 256 → c < 256 → d < 256 → AreBytes (a ∷ b ∷ c ∷ d ∷ [])
four_are_bytes a b c d p q r s =
    All-cons IsByte a (b ∷ c ∷ d ∷ []) p (All-cons IsByte b (c ∷ d ∷ []) q (All-cons IsByte c (d ∷ []) r (All-cons IsByte d [] s (All-nil IsByte))))

word_are_bytes : (value : ℕ) → AreBytes (word_bytes value)
unfolding word_bytes
word_are_bytes value =
    four_are_bytes (value % 256) (value / 256 % 256) (value / 65536 % 256) (value / 16777216 % 256) (omega arith) (omega arith) (omega arith) (omega arith)

counted_are_bytes : (content : List ℕ) → AreBytes content → AreBytes (counted_bytes content)
counted_are_bytes content small =
    All-append IsByte (word_bytes (length content)) _ (word_are_bytes (length content))
    (All-append IsByte content _ small (All-replicate IsByte (padding_of (length content)) 0 (omega arith)))

string_are_bytes : (text : List ℕ) → AreBytes text → AreBytes (string_bytes_of text)
string_are_bytes text small = counted_are_bytes (text ++ 0 ∷ []) (All-append IsByte text (0 ∷ []) small (All-cons IsByte 0 [] (omega arith) (All-nil IsByte)))

arg_are_bytes : (value : Arg) → HoldsBytes value → AreBytes (arg_bytes value)
arg_are_bytes (arg.Int value) holds = word_are_bytes (cast_unsigned w32 value)
arg_are_bytes (arg.Uint value) holds = word_are_bytes value
arg_are_bytes (arg.Fixed value) holds = word_are_bytes (cast_unsigned w32 value)
arg_are_bytes (arg.Str text) holds = string_are_bytes text holds
arg_are_bytes arg.NullStr holds = word_are_bytes 0
arg_are_bytes (arg.Object id) holds = word_are_bytes id
arg_are_bytes (arg.NewId id) holds = word_are_bytes id
arg_are_bytes (arg.Bind interface version id) holds =
    All-append IsByte (string_bytes_of interface) _ (string_are_bytes interface holds) (All-append IsByte (word_bytes version) (word_bytes id) (word_are_bytes version) (word_are_bytes id))
arg_are_bytes (arg.Array content) holds = counted_are_bytes content holds
arg_are_bytes arg.Handle holds = All-nil IsByte

args_are_bytes : (args : List Arg) → AllHold args → AreBytes (args_bytes args)
args_are_bytes [] holds = All-nil IsByte
args_are_bytes (value ∷ args) holds = All-append IsByte (arg_bytes value) (args_bytes args) (arg_are_bytes value holds.0) (args_are_bytes args holds.1)

pub built_are_bytes : (object opcode : ℕ) (args : List Arg) → AllHold args → AreBytes (built object opcode args)
built_are_bytes object opcode args holds =
    All-append IsByte (word_bytes object) _ (word_are_bytes object)
    (All-append IsByte (word_bytes (opcode + 2 ^ 16 * (8 + length (args_bytes args)))) _ (word_are_bytes _) (args_are_bytes args holds))

-- the header of what is built
pub built_object : (object opcode : ℕ) (args : List Arg) → object < 2 ^ 32 → object_of (built object opcode args) ≡ object
built_object object opcode args small =
    word_at-append (word_bytes object) _ 0 (omega (arith, length-word_bytes object)) ∙ word_at-word_bytes object small

pub built_opcode : (object opcode : ℕ) (args : List Arg) → opcode < 2 ^ 16 → 8 + length (args_bytes args) ≤ LONGEST_MESSAGE → opcode_of (built object opcode args) ≡ opcode
built_opcode object opcode args low bound =
    let second : ℕ = opcode + 2 ^ 16 * (8 + length (args_bytes args)) in
    let behind : drop 4 (built object opcode args) ≡ word_bytes second ++ args_bytes args =
    drop_at (word_bytes object) (word_bytes second ++ args_bytes args) 4 (length-word_bytes object) in
    let small : second < 2 ^ 32 = omega arith in
    let word : word_at (built object opcode args) 4 ≡ second =
    sym (word_at-drop 4 (built object opcode args)) ∙ ap (λ it. word_at it 0) behind
    ∙ word_at-append (word_bytes second) (args_bytes args) 0 (omega (arith, length-word_bytes second)) ∙ word_at-word_bytes second small in
    let lower : second % 2 ^ 16 ≡ opcode = omega arith in
    ap (λ it. it % 2 ^ 16) word ∙ lower
