-- An argument is read just as it is written.
use Rattle.std.proofs.Common.{◌≡◌, ◌≢◌, ℕ, ℤ, ◌^◌, ◌<◌, ◌==◌, List, [], ◌∷◌, ◌++◌, length, Bool, true, false, cond, codes, Option, Some, None, w32, FitsSigned, refl, sym, ap, ◌∙◌, subst, arith, append_assoc}
use Rattle.std.proofs.lemmas.Bool.{eq-eqb}
use Rattle.std.specs.Fmt.{decimal, signed_decimal}
use Rattle.wl_wire.specs.declared.arguments.Arg.{Arg}
use Rattle.wl_wire.specs.declared.arguments.Arg.TheVariants as arg
use Rattle.wl_wire.specs.declared.signature.ArgKind.{ArgKind}
use Rattle.wl_wire.specs.declared.signature.ArgKind.TheVariants as kind
use Rattle.wl_wire.specs.Building.{arg_bytes}
use Rattle.wl_wire.specs.ArgLaws.{FitsSlot}
use Rattle.wl_wire.proofs.ArgPadding.{AreBytes}
use Rattle.wl_wire.proofs.BuildingLemmas.{length_counted, length_string, length_bind}
use Rattle.wl_text.specs.declared.arg_reading.TextArg.{TextArg}
use Rattle.wl_text.specs.declared.enclosed.Enclosure.TheVariants.{Quotes, Brackets}
use Rattle.wl_text.specs.Front.{Read, ◌>>=◌, behind}
use Rattle.wl_text.specs.Decimals.{number_at, signed_at}
use Rattle.wl_text.specs.Enclosed.{enclosed_text, enclosed_at}
use Rattle.wl_text.specs.ArgTexts.{object_text, new_text, arg_text, handles_behind}
use Rattle.wl_text.specs.ArgReading.{plain, int_at, uint_at, fixed_at, quoted_at, string_from, id_from, object_from, new_id_at, new_at, bound_at, bind_at, array_at, handle_at, arg_at, with_handle}
use Rattle.wl_text.proofs.FrontLaws.{some_same, then_some, behind_sound}
use Rattle.wl_text.proofs.DecimalLaws.{number_sound, signed_sound}
use Rattle.wl_text.proofs.EnclosedLaws.{enclosed_sound}

-- a handle's number is there
abbrev pub HasNumber : Arg → List ℤ → Type 0
HasNumber arg.Handle [] = ⊥
HasNumber arg.Handle (number ∷ handles) = FitsSigned w32 number
HasNumber _ handles = Unit {0}

-- what an argument holds are bytes
abbrev pub HoldsBytes : Arg → Type 0
HoldsBytes (arg.Str text) = AreBytes text
HoldsBytes (arg.Bind interface version id) = AreBytes interface
HoldsBytes (arg.Array content) = AreBytes content
HoldsBytes _ = Unit {0}

-- the text is this argument's, and then the rest; its lengths are such that its bytes fit a message
pub record IsSaid (it : ArgKind) (null : Bool) (text rest : List ℕ) (one : TextArg) : Type 0 where
  pub says : (more : List ℤ) → text ≡ arg_text one.arg (with_handle one.handle more) ++ rest
  pub numbers : (more : List ℤ) → HasNumber one.arg (with_handle one.handle more)
  pub leaves : (more : List ℤ) → handles_behind one.arg (with_handle one.handle more) ≡ more
  pub holds : HoldsBytes one.arg
  pub fits : length (arg_bytes one.arg) < 2 ^ 32 → FitsSlot it null one.arg

-- what was read is what is told
abbrev Told : ArgKind → Bool → List ℕ → TextArg × List ℕ → Type 0
Told it null text found = IsSaid it null text found.1 found.0

told_of : (it : ArgKind) (null : Bool) (text : List ℕ) (one found : TextArg × List ℕ) → Some one ≡ Some found → Told it null text one → Told it null text found
told_of it null text one found same told = subst (Told it null text) (some_same one found same) told

int_sound : (null : Bool) (text : List ℕ) (found : TextArg × List ℕ) → int_at text ≡ Some found → Told kind.Int null text found
unfolding int_at
int_sound null text found told =
    let value = then_some (signed_at text) _ found told in
    let read = signed_sound text value.0.1 value.0.0 value.1 in
    told_of kind.Int null text _ found value.2 (record { says = λ more. read.0; numbers = λ more. tt; leaves = λ more. refl; holds = tt; fits = λ room. read.1 })

uint_sound : (null : Bool) (text : List ℕ) (found : TextArg × List ℕ) → uint_at text ≡ Some found → Told kind.Uint null text found
unfolding uint_at
uint_sound null text found told =
    let value = then_some (number_at text) _ found told in
    let read = number_sound text value.0.1 value.0.0 value.1 in
    told_of kind.Uint null text _ found value.2 (record { says = λ more. read.0; numbers = λ more. tt; leaves = λ more. refl; holds = tt; fits = λ room. read.1 })

fixed_sound : (null : Bool) (text : List ℕ) (found : TextArg × List ℕ) → fixed_at text ≡ Some found → Told kind.Fixed null text found
unfolding fixed_at
fixed_sound null text found told =
    let value = then_some (signed_at text) _ found told in
    let part = then_some (behind (codes "/256") value.0.1) _ found value.2 in
    let read = signed_sound text value.0.1 value.0.0 value.1 in
    let says : text ≡ (signed_decimal value.0.0 ++ codes "/256") ++ part.0 =
    read.0 ∙ ap (λ it. signed_decimal value.0.0 ++ it) (behind_sound (codes "/256") value.0.1 part.0 part.1) ∙ sym (append_assoc (signed_decimal value.0.0) (codes "/256") part.0) in
    told_of kind.Fixed null text _ found part.2 (record { says = λ more. says; numbers = λ more. tt; leaves = λ more. refl; holds = tt; fits = λ room. read.1 })

quoted_sound : (null : Bool) (text : List ℕ) (found : TextArg × List ℕ) → quoted_at text ≡ Some found → Told kind.Str null text found
unfolding quoted_at
quoted_sound null text found told =
    let bytes = then_some (enclosed_at Quotes text) _ found told in
    let read = enclosed_sound Quotes text bytes.0.1 bytes.0.0 bytes.1 in
    told_of kind.Str null text _ found bytes.2
    (record { says = λ more. read.0; numbers = λ more. tt; leaves = λ more. refl; holds = read.1; fits = λ room. omega (arith, length_string bytes.0.0) })

string_sound : (sign : Option (List ℕ)) (null : Bool) (text : List ℕ) (found : TextArg × List ℕ) → behind (codes "null") text ≡ sign → string_from sign null text ≡ Some found → Told kind.Str null text found
string_sound None null text found is told = quoted_sound null text found told
string_sound (Some rest) false text found is told = cc told
string_sound (Some rest) true text found is told =
    told_of kind.Str true text (plain arg.NullStr, rest) found told
    (record { says = λ more. behind_sound (codes "null") text rest is; numbers = λ more. tt; leaves = λ more. refl; holds = tt; fits = λ room. refl })

-- an id that isn't 0
pub some_object : (id : ℕ) → (id == 0) ≡ false → object_text id ≡ codes "@" ++ decimal id
some_object id is = rw is refl

not_zero : (id : ℕ) → (id == 0) ≡ false → id ≢ 0
not_zero id is none = cc (is, eq-eqb id 0 none)

id_sound : (null none : Bool) (text : List ℕ) (id : ℕ) (rest : List ℕ) (found : TextArg × List ℕ) → (id == 0) ≡ none → text ≡ codes "@" ++ (decimal id ++ rest) → id < 2 ^ 32 → cond {A = Read TextArg} none None (Some (plain (arg.Object id), rest)) ≡ Some found → Told kind.Object null text found
id_sound null true text id rest found is says small told = cc told
id_sound null false text id rest found is says small told =
    told_of kind.Object null text (plain (arg.Object id), rest) found told
    (record {
      says = λ more. says ∙ ap (λ it. it ++ rest) (sym (some_object id is));
      numbers = λ more. tt;
      leaves = λ more. refl;
      holds = tt;
      fits = λ room. (λ none. absurd (not_zero id is none), small);
    })

object_sound : (sign : Option (List ℕ)) (null : Bool) (text : List ℕ) (found : TextArg × List ℕ) → behind (codes "null") text ≡ sign → object_from sign null text ≡ Some found → Told kind.Object null text found
object_sound (Some rest) false text found is told = cc told
object_sound (Some rest) true text found is told =
    told_of kind.Object true text (plain (arg.Object 0), rest) found told
    (record { says = λ more. behind_sound (codes "null") text rest is; numbers = λ more. tt; leaves = λ more. refl; holds = tt; fits = λ room. (λ none. refl, omega arith) })
object_sound None null text found is told =
    let read = then_some (behind (codes "@") text >>= number_at) id_from found told in
    let part = then_some (behind (codes "@") text) number_at read.0 read.1 in
    let id = number_sound part.0 read.0.1 read.0.0 part.2 in
    id_sound null (read.0.0 == 0) text read.0.0 read.0.1 found refl (behind_sound (codes "@") text part.0 part.1 ∙ ap (λ it. codes "@" ++ it) id.0) id.1 read.2

new_id_sound : (text : List ℕ) (id : ℕ × List ℕ) → new_id_at text ≡ Some id → (text ≡ new_text id.0 ++ id.1) × (id.0 < 2 ^ 32)
unfolding new_id_at
new_id_sound text id told =
    let part = then_some (behind (codes "new @") text) number_at id told in
    let read = number_sound part.0 id.1 id.0 part.2 in
    (behind_sound (codes "new @") text part.0 part.1 ∙ ap (λ it. codes "new @" ++ it) read.0, read.1)

new_sound : (null : Bool) (text : List ℕ) (found : TextArg × List ℕ) → new_at text ≡ Some found → Told kind.NewId null text found
unfolding new_at
new_sound null text found told =
    let id = then_some (new_id_at text) _ found told in
    let read = new_id_sound text id.0 id.1 in
    told_of kind.NewId null text _ found id.2 (record { says = λ more. read.0; numbers = λ more. tt; leaves = λ more. refl; holds = tt; fits = λ room. read.1 })

-- a version and an id
abbrev pub bound_text : ℕ → ℕ → List ℕ
bound_text version id = codes " " ++ (decimal version ++ (codes " " ++ new_text id))

bound_sound : (text : List ℕ) (bound : (ℕ × ℕ) × List ℕ) → bound_at text ≡ Some bound → (text ≡ bound_text bound.0.0 bound.0.1 ++ bound.1) × (bound.0.0 < 2 ^ 32) × (bound.0.1 < 2 ^ 32)
unfolding bound_at
bound_sound text bound told =
    let second = then_some (behind (codes " ") text) _ bound told in
    let version = then_some (number_at second.0) _ bound second.2 in
    let third = then_some (behind (codes " ") version.0.1) _ bound version.2 in
    let id = then_some (new_id_at third.0) _ bound third.2 in
    let number = number_sound second.0 version.0.1 version.0.0 version.1 in
    let made = new_id_sound third.0 id.0 id.1 in
    let behind_number : version.0.1 ≡ codes " " ++ (new_text id.0.0 ++ id.0.1) = behind_sound (codes " ") version.0.1 third.0 third.1 ∙ ap (λ it. codes " " ++ it) made.0 in
    let says : text ≡ codes " " ++ (decimal version.0.0 ++ (codes " " ++ (new_text id.0.0 ++ id.0.1))) =
    behind_sound (codes " ") text second.0 second.1 ∙ ap (λ it. codes " " ++ it) (number.0 ∙ ap (λ it. decimal version.0.0 ++ it) behind_number) in
    let joined : bound_text version.0.0 id.0.0 ++ id.0.1 ≡ codes " " ++ (decimal version.0.0 ++ (codes " " ++ (new_text id.0.0 ++ id.0.1))) =
    ap (λ it. codes " " ++ it) (append_assoc (decimal version.0.0) (codes " " ++ new_text id.0.0) id.0.1) in
    subst (λ (it : (ℕ × ℕ) × List ℕ). (text ≡ bound_text it.0.0 it.0.1 ++ it.1) × (it.0.0 < 2 ^ 32) × (it.0.1 < 2 ^ 32)) (some_same _ bound id.2)
    (says ∙ sym joined, number.1, made.1)

bind_sound : (null : Bool) (text : List ℕ) (found : TextArg × List ℕ) → bind_at text ≡ Some found → Told kind.Bind null text found
unfolding bind_at
bind_sound null text found told =
    let name = then_some (enclosed_at Quotes text) _ found told in
    let bound = then_some (bound_at name.0.1) _ found name.2 in
    let read = enclosed_sound Quotes text name.0.1 name.0.0 name.1 in
    let more = bound_sound name.0.1 bound.0 bound.1 in
    let interface : List ℕ = name.0.0 in
    let says : text ≡ (enclosed_text Quotes interface ++ bound_text bound.0.0.0 bound.0.0.1) ++ bound.0.1 =
    read.0 ∙ ap (λ it. enclosed_text Quotes interface ++ it) more.0 ∙ sym (append_assoc (enclosed_text Quotes interface) (bound_text bound.0.0.0 bound.0.0.1) bound.0.1) in
    told_of kind.Bind null text _ found bound.2
    (record {
      says = λ more. says;
      numbers = λ more. tt;
      leaves = λ more. refl;
      holds = read.1;
      fits = λ room. (omega (arith, length_bind interface bound.0.0.0 bound.0.0.1, length_string interface), more.1, more.2);
    })

array_sound : (null : Bool) (text : List ℕ) (found : TextArg × List ℕ) → array_at text ≡ Some found → Told kind.Array null text found
unfolding array_at
array_sound null text found told =
    let bytes = then_some (enclosed_at Brackets text) _ found told in
    let read = enclosed_sound Brackets text bytes.0.1 bytes.0.0 bytes.1 in
    told_of kind.Array null text _ found bytes.2
    (record { says = λ more. read.0; numbers = λ more. tt; leaves = λ more. refl; holds = read.1; fits = λ room. omega (arith, length_counted bytes.0.0) })

handle_sound : (null : Bool) (text : List ℕ) (found : TextArg × List ℕ) → handle_at text ≡ Some found → Told kind.Handle null text found
unfolding handle_at
handle_sound null text found told =
    let part = then_some (behind (codes "fd %") text) _ found told in
    let number = then_some (signed_at part.0) _ found part.2 in
    let read = signed_sound part.0 number.0.1 number.0.0 number.1 in
    let says : text ≡ codes "fd %" ++ (signed_decimal number.0.0 ++ number.0.1) = behind_sound (codes "fd %") text part.0 part.1 ∙ ap (λ it. codes "fd %" ++ it) read.0 in
    told_of kind.Handle null text _ found number.2 (record { says = λ more. says; numbers = λ more. read.1; leaves = λ more. refl; holds = tt; fits = λ room. tt })

-- whatever was read is written so
pub arg_sound : (it : ArgKind) (null : Bool) (text rest : List ℕ) (one : TextArg) → arg_at it null text ≡ Some (one, rest) → IsSaid it null text rest one
arg_sound kind.Int null text rest one told = int_sound null text (one, rest) told
arg_sound kind.Uint null text rest one told = uint_sound null text (one, rest) told
arg_sound kind.Fixed null text rest one told = fixed_sound null text (one, rest) told
arg_sound kind.Str null text rest one told = string_sound (behind (codes "null") text) null text (one, rest) refl told
arg_sound kind.Object null text rest one told = object_sound (behind (codes "null") text) null text (one, rest) refl told
arg_sound kind.NewId null text rest one told = new_sound null text (one, rest) told
arg_sound kind.Bind null text rest one told = bind_sound null text (one, rest) told
arg_sound kind.Array null text rest one told = array_sound null text (one, rest) told
arg_sound kind.Handle null text rest one told = handle_sound null text (one, rest) told
