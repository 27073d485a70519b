-- The text of a message that can be printed is visible ASCII.
--
-- A text is made of names of the table, of decimal digits, of words that stand in it as they are, and of what is written of bytes: a
-- byte that is not shown is written as two digits behind a backslash.
use Rattle.std.proofs.Common.{◌≡◌, ℕ, ℤ, pos, negsuc, suc, ◌/◌, ◌%◌, ◌^◌, ◌<◌, ◌==◌, ◌&&◌, List, [], ◌∷◌, ◌++◌, Bool, true, false, codes, w32, FitsSigned, refl, ap, ◌∙◌, arith}
use Rattle.std.proofs.lemmas.Bool.Decides.{nat_tests}
use Rattle.std.proofs.lemmas.Fmt.{decimal_is_IsNumeral}
use Rattle.std.proofs.lemmas.List.Elements.{All-head, All-tail}
use Rattle.std.proofs.lemmas.List.Folds.{list_all-append}
use Rattle.std.proofs.lemmas.Str.Parse.{digit_from_value}
use Rattle.std.specs.Fmt.{decimal, signed_decimal}
use Rattle.std.specs.List.{list_all, flat_map}
use Rattle.std.specs.Str.Parse.{AllDigits}
use Rattle.wl_wire.specs.declared.arguments.Arg.{Arg}
use Rattle.wl_wire.specs.declared.arguments.Arg.TheVariants as arg
use Rattle.wl_wire.specs.declared.signature.ArgKind.{ArgKind}
use Rattle.wl_wire.specs.declared.signature.ArgKind.TheVariants as kind
use Rattle.wl_wire.specs.declared.signature.Slot.{Slot}
use Rattle.wl_wire.specs.ArgLaws.{FitsSlot, FitSlots}
use Rattle.wl_wire.proofs.ArgPadding.{AreBytes}
use Rattle.wl_text.specs.declared.enclosed.Enclosure.{Enclosure}
use Rattle.wl_text.specs.declared.enclosed.Enclosure.TheVariants.{Quotes, Brackets}
use Rattle.wl_text.specs.ArgTexts.{comma, object_text, new_text, arg_text, handles_behind, args_text}
use Rattle.wl_text.specs.Enclosed.{digit, two_digits, is_marked, is_shown, byte_text, closing, item_text, enclosed_text}
use Rattle.wl_text.specs.Text.{start_text, call_text}
use Rattle.wl_tables.specs.Interfaces.{interface_name}
use Rattle.wl_tables.specs.declared.interface.Interface.{Interface}
use Rattle.wl_text.proofs.ArgTextLaws.{HasNumber, HoldsBytes, some_object}
use Rattle.wl_text.proofs.ArgsTextLaws.{Named, AllHold}
use Rattle.wl_text.proofs.HeadLaws.{name_in_table}
use Rattle.wl_text.proofs.ItemLaws.{marked_text, shown_text, hidden_text}

-- all bytes are visible ones or spaces
abbrev pub AreShown : List ℕ → Type 0
AreShown text = list_all is_shown text ≡ true

both_shown : (front back : List ℕ) → AreShown front → AreShown back → AreShown (front ++ back)
both_shown front back p q = list_all-append is_shown front back ∙ ap (λ b. b && list_all is_shown back) p ∙ q

-- numbers
digits_shown : (digits : List ℕ) → AllDigits 10 digits → AreShown digits
digits_shown [] are = refl
digits_shown (byte ∷ digits) are =
    let range = digit_from_value byte are.0 in
    let is : is_shown byte ≡ true = grind (arith, nat_tests) in
    rw is (digits_shown digits are.1)

decimal_shown : (number : ℕ) → number < 2 ^ 32 → AreShown (decimal number)
decimal_shown number small = digits_shown (decimal number) (decimal_is_IsNumeral number (omega arith)).0.1

signed_shown : (number : ℤ) → FitsSigned w32 number → AreShown (signed_decimal number)
signed_shown (pos size) fits = decimal_shown size (omega (arith, fits.sfits))
signed_shown (negsuc size) fits = decimal_shown (suc size) (omega (arith, fits.sfits))

-- bytes of a string or of an array
digit_shown : (number : ℕ) → number < 16 → is_shown (digit number) ≡ true
digit_shown number small = grind (arith, nat_tests)

two_shown : (byte : ℕ) → byte < 256 → AreShown (two_digits byte)
two_shown byte small = rw (digit_shown (byte / 16) (omega arith), digit_shown (byte % 16) (omega arith)) refl

marked_is_shown : (byte : ℕ) → is_marked byte ≡ true → is_shown byte ≡ true
marked_is_shown byte is = grind (arith, nat_tests)

byte_shown : (marked shown : Bool) (byte : ℕ) → byte < 256 → is_marked byte ≡ marked → is_shown byte ≡ shown → AreShown (byte_text byte)
byte_shown true shown byte small is shows = ap (list_all is_shown) (marked_text byte is) ∙ rw (marked_is_shown byte is) refl
byte_shown false true byte small is shows = ap (list_all is_shown) (shown_text byte is shows) ∙ rw shows refl
byte_shown false false byte small is shows = ap (list_all is_shown) (hidden_text byte is shows) ∙ two_shown byte small

item_shown : (kind : Enclosure) (byte : ℕ) → byte < 256 → AreShown (item_text kind byte)
item_shown Quotes byte small = byte_shown (is_marked byte) (is_shown byte) byte small refl refl
item_shown Brackets byte small = two_shown byte small

items_shown : (kind : Enclosure) (bytes : List ℕ) → AreBytes bytes → AreShown (flat_map (item_text kind) bytes)
items_shown kind [] small = refl
items_shown kind (byte ∷ bytes) small =
    both_shown (item_text kind byte) (flat_map (item_text kind) bytes) (item_shown kind byte (All-head (λ it. it < 256) byte bytes small))
    (items_shown kind bytes (All-tail (λ it. it < 256) byte bytes small))

enclosed_shown : (kind : Enclosure) (bytes : List ℕ) → AreBytes bytes → AreShown (enclosed_text kind bytes)
enclosed_shown Quotes bytes small = both_shown (flat_map (item_text Quotes) bytes) (closing Quotes ∷ []) (items_shown Quotes bytes small) refl
enclosed_shown Brackets bytes small = both_shown (flat_map (item_text Brackets) bytes) (closing Brackets ∷ []) (items_shown Brackets bytes small) refl

-- one argument
object_shown : (none : Bool) (id : ℕ) → (id == 0) ≡ none → id < 2 ^ 32 → AreShown (object_text id)
object_shown true id is small = rw is refl
object_shown false id is small = ap (list_all is_shown) (some_object id is) ∙ decimal_shown id small

new_shown : (id : ℕ) → id < 2 ^ 32 → AreShown (new_text id)
new_shown id small = decimal_shown id small

fixed_shown : (value : ℤ) → FitsSigned w32 value → AreShown (signed_decimal value ++ codes "/256")
fixed_shown value fits = both_shown (signed_decimal value) (codes "/256") (signed_shown value fits) refl

bind_shown : (interface : List ℕ) (version id : ℕ) → AreBytes interface → version < 2 ^ 32 → id < 2 ^ 32 → AreShown (enclosed_text Quotes interface ++ (codes " " ++ (decimal version ++ (codes " " ++ new_text id))))
bind_shown interface version id bytes small smaller =
    both_shown (enclosed_text Quotes interface) (codes " " ++ (decimal version ++ (codes " " ++ new_text id))) (enclosed_shown Quotes interface bytes)
    (both_shown (decimal version) (codes " " ++ new_text id) (decimal_shown version small) (new_shown id smaller))

arg_shown : (it : ArgKind) (null : Bool) (value : Arg) (handles : List ℤ) → FitsSlot it null value → HoldsBytes value → HasNumber value handles → AreShown (arg_text value handles)
arg_shown kind.Int null (arg.Int value) handles fits holds named = signed_shown value fits
arg_shown kind.Uint null (arg.Uint value) handles fits holds named = decimal_shown value fits
arg_shown kind.Fixed null (arg.Fixed value) handles fits holds named = fixed_shown value fits
arg_shown kind.Str null (arg.Str text) handles fits holds named = enclosed_shown Quotes text holds
arg_shown kind.Str null arg.NullStr handles fits holds named = refl
arg_shown kind.Object null (arg.Object id) handles fits holds named = object_shown (id == 0) id refl fits.1
arg_shown kind.NewId null (arg.NewId id) handles fits holds named = new_shown id fits
arg_shown kind.Bind null (arg.Bind interface version id) handles fits holds named = bind_shown interface version id holds fits.1 fits.2
arg_shown kind.Array null (arg.Array content) handles fits holds named = enclosed_shown Brackets content holds
arg_shown kind.Handle null arg.Handle [] fits holds named = absurd named
arg_shown kind.Handle null arg.Handle (number ∷ handles) fits holds named = signed_shown number named
arg_shown _ null _ handles fits holds named = absurd fits

-- all of them
args_shown : (word : List ℕ) (slots : List Slot) (args : List Arg) (handles : List ℤ) → AreShown word → FitSlots slots args → AllHold args → Named args handles → AreShown (args_text word args handles)
args_shown word slots [] handles shown fits holds named = refl
args_shown word [] (value ∷ args) handles shown fits holds named = absurd fits
args_shown word (slot ∷ slots) (value ∷ args) handles shown fits holds named =
    let later = args_shown comma slots args (handles_behind value handles) refl fits.1 holds.1 named.1 in
    both_shown word (arg_text value handles ++ args_text comma args (handles_behind value handles)) shown
    (both_shown (arg_text value handles) (args_text comma args (handles_behind value handles)) (arg_shown slot.kind slot.null value handles fits.0 holds.0 named.0) later)

-- a whole message
pub text_shown : (interface : Interface) (object : ℕ) (name : List ℕ) (slots : List Slot) (args : List Arg) (handles : List ℤ)
    → object < 2 ^ 32 → AreShown name → FitSlots slots args → AllHold args → Named args handles → AreShown (start_text interface object ++ call_text name args handles)
text_shown interface object name slots args handles small named fits holds numbered =
    let start = both_shown (interface_name interface) (codes "@" ++ decimal object) (name_in_table interface).1 (decimal_shown object small) in
    let last = both_shown (args_text [] args handles) (codes ")") (args_shown [] slots args handles refl fits holds numbered) refl in
    let call = both_shown name (codes "(" ++ (args_text [] args handles ++ codes ")")) named last in
    both_shown (start_text interface object) (call_text name args handles) start call
