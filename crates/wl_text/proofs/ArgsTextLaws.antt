-- All arguments are read just as they are written.
use Rattle.std.proofs.Common.{◌≡◌, ℕ, ℤ, ◌^◌, ◌<◌, List, [], ◌∷◌, ◌++◌, length, Some, refl, sym, ap, ◌∙◌, subst, arith, append_assoc, length-append}
use Rattle.wl_wire.specs.declared.arguments.Arg.{Arg}
use Rattle.wl_wire.specs.declared.arguments.Arg.TheVariants as arg
use Rattle.wl_wire.specs.declared.signature.Slot.{Slot}
use Rattle.wl_wire.specs.Building.{arg_bytes, args_bytes}
use Rattle.wl_wire.specs.ArgLaws.{FitSlots}
use Rattle.wl_text.specs.declared.arg_reading.TextArg.{TextArg}
use Rattle.wl_text.specs.declared.arg_reading.TextArgs.{TextArgs}
use Rattle.wl_text.specs.Front.{behind}
use Rattle.wl_text.specs.ArgTexts.{comma, arg_text, handles_behind, args_text}
use Rattle.wl_text.specs.ArgReading.{arg_at, with_handle, with_arg, arg_behind, args_at}
use Rattle.wl_text.proofs.FrontLaws.{some_same, then_some, map_some, behind_sound, behind_complete}
use Rattle.wl_text.proofs.DecimalLaws.{NoDigit}
use Rattle.wl_text.proofs.ArgTextLaws.{HasNumber, HoldsBytes, IsSaid, arg_sound}
use Rattle.wl_text.proofs.ArgTextBack.{number_of, arg_complete}

-- each handle has its number, and no number is left
abbrev pub Named : List Arg → List ℤ → Type 0
Named [] [] = Unit {0}
Named [] (number ∷ handles) = ⊥
Named (value ∷ args) handles = HasNumber value handles × Named args (handles_behind value handles)

-- what the arguments hold are bytes
abbrev pub AllHold : List Arg → Type 0
AllHold [] = Unit {0}
AllHold (value ∷ args) = HoldsBytes value × AllHold args

-- the text is these arguments', and then the rest
pub record AreSaid (word : List ℕ) (slots : List Slot) (text rest : List ℕ) (said : TextArgs) : Type 0 where
  pub says : text ≡ args_text word said.args said.handles ++ rest
  pub named : Named said.args said.handles
  pub holds : AllHold said.args
  pub fits : length (args_bytes said.args) < 2 ^ 32 → FitSlots slots said.args

are_more : (word : List ℕ) (slot : Slot) (slots : List Slot) (text front after rest : List ℕ) (one : TextArg) (more : TextArgs) → text ≡ word ++ front → IsSaid slot.kind slot.null front after one → AreSaid comma slots after rest more → AreSaid word (slot ∷ slots) text rest (with_arg one more)
are_more word slot slots text front after rest one more is said later =
    let handles : List ℤ = with_handle one.handle more.handles in
    let leaves : handles_behind one.arg handles ≡ more.handles = said.leaves more.handles in
    let own : List ℕ = arg_text one.arg handles in
    let others : List ℕ = args_text comma more.args (handles_behind one.arg handles) in
    let after_is : after ≡ others ++ rest = later.says ∙ ap (λ it. args_text comma more.args it ++ rest) (sym leaves) in
    record {
      says = is ∙ ap (λ it. word ++ it) (said.says more.handles ∙ ap (λ it. own ++ it) after_is ∙ sym (append_assoc own others rest)) ∙ sym (append_assoc word (own ++ others) rest);
      named = (said.numbers more.handles, subst (Named more.args) (sym leaves) later.named);
      holds = (said.holds, later.holds);
      fits = λ room.
          let long = length-append (arg_bytes one.arg) (args_bytes more.args) in
          (said.fits (omega (arith, room, long)), later.fits (omega (arith, room, long)));
    }

pub args_sound : (word : List ℕ) (slots : List Slot) (text rest : List ℕ) (said : TextArgs) → args_at word slots text ≡ Some (said, rest) → AreSaid word slots text rest said
unfolding args_at arg_behind
args_sound word [] text rest said told =
    subst (λ (it : TextArgs × List ℕ). AreSaid word [] text it.1 it.0) (some_same _ (said, rest) told)
    (record { says = refl; named = tt; holds = tt; fits = λ room. tt })
args_sound word (slot ∷ slots) text rest said told =
    let first = then_some (arg_behind word slot text) _ (said, rest) told in
    let front = then_some (behind word text) (arg_at slot.kind slot.null) first.0 first.1 in
    let more = map_some (args_at comma slots first.0.1) _ (said, rest) first.2 in
    subst (λ (it : TextArgs × List ℕ). AreSaid word (slot ∷ slots) text it.1 it.0) more.2
    (are_more word slot slots text front.0 first.0.1 more.0.1 first.0.0 more.0.0 (behind_sound word text front.0 front.1)
    (arg_sound slot.kind slot.null front.0 first.0.1 first.0.0 front.2)
    (args_sound comma slots first.0.1 more.0.1 more.0.0 more.1))

-- behind an argument stands a comma or what stands behind all
no_digit_behind : (args : List Arg) (handles : List ℤ) (rest : List ℕ) → NoDigit rest → NoDigit (args_text comma args handles ++ rest)
no_digit_behind [] handles rest none = none
no_digit_behind (value ∷ args) handles rest none = refl

-- the number of an argument's handle, and then those that are left
numbers_again : (value : Arg) (handles : List ℤ) → HasNumber value handles → with_handle (number_of value handles) (handles_behind value handles) ≡ handles
numbers_again arg.Handle [] named = absurd named
numbers_again arg.Handle (number ∷ handles) named = refl
numbers_again _ handles named = refl

pub args_complete : (word : List ℕ) (slots : List Slot) (args : List Arg) (handles : List ℤ) (rest : List ℕ) → FitSlots slots args → AllHold args → Named args handles → NoDigit rest → args_at word slots (args_text word args handles ++ rest) ≡ Some (record { args = args; handles = handles }, rest)
unfolding args_at arg_behind
args_complete word [] [] [] rest fits holds named none = refl
args_complete word [] [] (number ∷ handles) rest fits holds named none = absurd named
args_complete word [] (value ∷ args) handles rest fits holds named none = absurd fits
args_complete word (slot ∷ slots) [] handles rest fits holds named none = absurd fits
args_complete word (slot ∷ slots) (value ∷ args) handles rest fits holds named none =
    let own : List ℕ = arg_text value handles in
    let left : List ℤ = handles_behind value handles in
    let others : List ℕ = args_text comma args left in
    let one = arg_complete slot.kind slot.null value handles (others ++ rest) fits.0 holds.0 named.0 (no_digit_behind args left rest none) in
    let more = args_complete comma slots args left rest fits.1 holds.1 named.1 none in
    rw (append_assoc word (own ++ others) rest, append_assoc own others rest, behind_complete word (own ++ (others ++ rest)), one, more)
    (ap (λ it. Some (record { args = value ∷ args; handles = it }, rest)) (numbers_again value handles named.0))
