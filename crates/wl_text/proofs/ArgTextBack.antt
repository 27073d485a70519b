-- What is written of an argument is read as that argument.
use Rattle.std.proofs.Common.{◌≡◌, ℕ, ℤ, ◌^◌, ◌<◌, ◌==◌, List, [], ◌∷◌, ◌++◌, Bool, true, false, codes, Option, Some, None, w32, FitsSigned, refl, sym, ap, ◌∙◌, subst, arith, append_assoc}
use Rattle.std.proofs.lemmas.Bool.{eqb-true}
use Rattle.std.specs.Fmt.{decimal, signed_decimal}
use Rattle.wl_wire.specs.declared.arguments.Arg.{Arg}
use Rattle.wl_wire.specs.declared.arguments.Arg.TheVariants as arg
use Rattle.wl_wire.specs.declared.signature.ArgKind.{ArgKind}
use Rattle.wl_wire.specs.declared.signature.ArgKind.TheVariants as kind
use Rattle.wl_wire.specs.ArgLaws.{FitsSlot}
use Rattle.wl_text.specs.declared.arg_reading.TextArg.{TextArg}
use Rattle.wl_text.specs.declared.enclosed.Enclosure.TheVariants.{Quotes, Brackets}
use Rattle.wl_text.specs.Front.{behind}
use Rattle.wl_text.specs.Enclosed.{enclosed_text}
use Rattle.wl_text.specs.ArgTexts.{object_text, new_text, arg_text}
use Rattle.wl_text.specs.ArgReading.{plain, int_at, uint_at, fixed_at, quoted_at, new_id_at, new_at, bound_at, bind_at, array_at, handle_at, arg_at}
use Rattle.wl_text.proofs.FrontLaws.{behind_complete, behind_other}
use Rattle.wl_text.proofs.DecimalLaws.{NoDigit, number_complete, signed_complete}
use Rattle.wl_text.proofs.EnclosedLaws.{enclosed_complete}
use Rattle.wl_text.proofs.ArgTextLaws.{HasNumber, HoldsBytes, bound_text, some_object}

-- the number of its handle, if it is one
abbrev pub number_of : Arg → List ℤ → Option ℤ
number_of arg.Handle [] = None
number_of arg.Handle (number ∷ handles) = Some number
number_of _ handles = None

-- an argument with that number
abbrev pub said_of : Arg → List ℤ → TextArg
said_of value handles = record { arg = value; handle = number_of value handles }

int_back : (value : ℤ) (rest : List ℕ) → FitsSigned w32 value → NoDigit rest → int_at (signed_decimal value ++ rest) ≡ Some (plain (arg.Int value), rest)
unfolding int_at
int_back value rest fits none = rw (signed_complete value rest fits none) refl

uint_back : (value : ℕ) (rest : List ℕ) → value < 2 ^ 32 → NoDigit rest → uint_at (decimal value ++ rest) ≡ Some (plain (arg.Uint value), rest)
unfolding uint_at
uint_back value rest fits none = rw (number_complete value rest fits none) refl

fixed_back : (value : ℤ) (rest : List ℕ) → FitsSigned w32 value → fixed_at ((signed_decimal value ++ codes "/256") ++ rest) ≡ Some (plain (arg.Fixed value), rest)
unfolding fixed_at
fixed_back value rest fits =
    rw (append_assoc (signed_decimal value) (codes "/256") rest, signed_complete value (codes "/256" ++ rest) fits refl, behind_complete (codes "/256") rest) refl

string_back : (null : Bool) (text rest : List ℕ) → HoldsBytes (arg.Str text) → arg_at kind.Str null (enclosed_text Quotes text ++ rest) ≡ Some (plain (arg.Str text), rest)
unfolding quoted_at
string_back null text rest bytes =
    let other : behind (codes "null") (enclosed_text Quotes text ++ rest) ≡ None = behind_other 110 (codes "ull") 34 _ (omega arith) in
    rw (other, enclosed_complete Quotes text rest bytes) refl

null_string_back : (null : Bool) (rest : List ℕ) → null ≡ true → arg_at kind.Str null (codes "null" ++ rest) ≡ Some (plain arg.NullStr, rest)
null_string_back null rest is = rw (behind_complete (codes "null") rest, is) refl

null_object_back : (null : Bool) (rest : List ℕ) → null ≡ true → arg_at kind.Object null (codes "null" ++ rest) ≡ Some (plain (arg.Object 0), rest)
null_object_back null rest is = rw (behind_complete (codes "null") rest, is) refl

object_back : (null none : Bool) (id : ℕ) (rest : List ℕ) → (id == 0) ≡ none → (id ≡ 0 → null ≡ true) → id < 2 ^ 32 → NoDigit rest → arg_at kind.Object null (object_text id ++ rest) ≡ Some (plain (arg.Object id), rest)
object_back null true id rest is allowed small no_digit =
    let zero : id ≡ 0 = eqb-true id 0 is in
    subst (λ it. arg_at kind.Object null (object_text it ++ rest) ≡ Some (plain (arg.Object it), rest)) (sym zero) (null_object_back null rest (allowed zero))
object_back null false id rest is allowed small no_digit =
    let other : behind (codes "null") (codes "@" ++ (decimal id ++ rest)) ≡ None = behind_other 110 (codes "ull") 64 (decimal id ++ rest) (omega arith) in
    ap (λ it. arg_at kind.Object null (it ++ rest)) (some_object id is)
    ∙ rw (other, behind_complete (codes "@") (decimal id ++ rest), number_complete id rest small no_digit, is) refl

new_id_back : (id : ℕ) (rest : List ℕ) → id < 2 ^ 32 → NoDigit rest → new_id_at (new_text id ++ rest) ≡ Some (id, rest)
unfolding new_id_at
new_id_back id rest small none = rw (behind_complete (codes "new @") (decimal id ++ rest)) (number_complete id rest small none)

new_back : (id : ℕ) (rest : List ℕ) → id < 2 ^ 32 → NoDigit rest → new_at (new_text id ++ rest) ≡ Some (plain (arg.NewId id), rest)
unfolding new_at
new_back id rest small none = rw (new_id_back id rest small none) refl

bound_back : (version id : ℕ) (rest : List ℕ) → version < 2 ^ 32 → id < 2 ^ 32 → NoDigit rest → bound_at (bound_text version id ++ rest) ≡ Some ((version, id), rest)
unfolding bound_at
bound_back version id rest small smaller none =
    let last : List ℕ = new_text id ++ rest in
    rw (append_assoc (decimal version) (codes " " ++ new_text id) rest, behind_complete (codes " ") (decimal version ++ (codes " " ++ last)), number_complete version (codes " " ++ last) small refl, behind_complete (codes " ") last, new_id_back id rest smaller none) refl

bind_back : (interface : List ℕ) (version id : ℕ) (rest : List ℕ) → HoldsBytes (arg.Bind interface version id) → version < 2 ^ 32 → id < 2 ^ 32 → NoDigit rest → bind_at ((enclosed_text Quotes interface ++ bound_text version id) ++ rest) ≡ Some (plain (arg.Bind interface version id), rest)
unfolding bind_at
bind_back interface version id rest bytes small smaller none =
    rw (append_assoc (enclosed_text Quotes interface) (bound_text version id) rest, enclosed_complete Quotes interface (bound_text version id ++ rest) bytes, bound_back version id rest small smaller none) refl

array_back : (content rest : List ℕ) → HoldsBytes (arg.Array content) → array_at (enclosed_text Brackets content ++ rest) ≡ Some (plain (arg.Array content), rest)
unfolding array_at
array_back content rest bytes = rw (enclosed_complete Brackets content rest bytes) refl

handle_back : (number : ℤ) (rest : List ℕ) → FitsSigned w32 number → NoDigit rest → handle_at ((codes "fd %" ++ signed_decimal number) ++ rest) ≡ Some (record { arg = arg.Handle; handle = Some number }, rest)
unfolding handle_at
handle_back number rest fits none = rw (behind_complete (codes "fd %") (signed_decimal number ++ rest), signed_complete number rest fits none) refl

-- an argument that fits its place, before something that is no digit
pub arg_complete : (it : ArgKind) (null : Bool) (value : Arg) (handles : List ℤ) (rest : List ℕ) → FitsSlot it null value → HoldsBytes value → HasNumber value handles → NoDigit rest → arg_at it null (arg_text value handles ++ rest) ≡ Some (said_of value handles, rest)
arg_complete kind.Int null (arg.Int value) handles rest fits holds named none = int_back value rest fits none
arg_complete kind.Uint null (arg.Uint value) handles rest fits holds named none = uint_back value rest fits none
arg_complete kind.Fixed null (arg.Fixed value) handles rest fits holds named none = fixed_back value rest fits
arg_complete kind.Str null (arg.Str text) handles rest fits holds named none = string_back null text rest holds
arg_complete kind.Str null arg.NullStr handles rest fits holds named none = null_string_back null rest fits
arg_complete kind.Object null (arg.Object id) handles rest fits holds named none = object_back null (id == 0) id rest refl fits.0 fits.1 none
arg_complete kind.NewId null (arg.NewId id) handles rest fits holds named none = new_back id rest fits none
arg_complete kind.Bind null (arg.Bind interface version id) handles rest fits holds named none = bind_back interface version id rest holds fits.1 fits.2 none
arg_complete kind.Array null (arg.Array content) handles rest fits holds named none = array_back content rest holds
arg_complete kind.Handle null arg.Handle [] rest fits holds named none = absurd named
arg_complete kind.Handle null arg.Handle (number ∷ handles) rest fits holds named none = handle_back number rest named none
arg_complete _ null _ handles rest fits holds named none = absurd fits
