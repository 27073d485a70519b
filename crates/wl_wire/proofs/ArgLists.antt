-- How the reading of arguments goes along the places: what is left to read gives the whole.
use Rattle.std.proofs.Common.{◌==◌, true, ◌≡◌, ◌≢◌, ℕ, ◌+◌, ◌<◌, ◌≤◌, List, [], ◌∷◌, ◌++◌, length, take, drop, map, slice_get, slice_set, Some, Ok, Err, subst, refl, sym, ap, ◌∙◌, append_assoc, take-append-drop}
use Rattle.std.proofs.lemmas.List.{take_more_set, map-append, append-nil, drop_more, drop_all, nil_from_length}
use Rattle.std.proofs.lemmas.Bool.{eqb-true}
use Rattle.std.proofs.lemmas.Option.{slice_get_within, get_or_from_slice_get}
use Rattle.wl_wire.specs.declared.arguments.Arg.{Arg}
use Rattle.wl_wire.specs.declared.faults.WireFault.{WireFault}
use Rattle.wl_wire.specs.declared.faults.WireFault.TheVariants.{ArgLong}
use Rattle.wl_wire.specs.declared.signature.Slot.{Slot}
use Rattle.wl_wire.specs.declared.arg_views.ArgView.{ArgView}
use Rattle.wl_wire.specs.ArgSights.{seen_arg}
use Rattle.wl_wire.specs.Arguments.{IsArg, Spells}
use Rattle.wl_wire.specs.ArgFaults.{arg_size, after_arg, args_fault}

-- i places were read into the list, and the rest of the bytes is left
pub record SoFar (slots : List Slot) (bytes : List ℕ) (i : ℕ) (rest : List ℕ) (list : List Arg) : Type 0 where
  pub fault : args_fault slots bytes ≡ args_fault (drop i slots) rest
  pub spells : (later : List Arg) → Spells (drop i slots) rest later → Spells slots bytes (list ++ later)

pub so_far-start : (slots : List Slot) (bytes : List ℕ) → SoFar slots bytes 0 bytes []
so_far-start slots bytes = record { fault = refl; spells = λ later it. it }

-- the place that is read next
pub next-slot : (slots : List Slot) (i : ℕ) (slot : Slot) → slice_get slots i ≡ Some slot → drop i slots ≡ slot ∷ drop (i + 1) slots
next-slot slots i slot e =
    let within : i < length slots = slice_get_within slots i slot e in
    drop_more slots i slot within ∙ ap (λ it. it ∷ drop (i + 1) slots) (get_or_from_slice_get slots i slot slot e)

pub so_far-next : (slots : List Slot) (bytes : List ℕ) (i : ℕ) (rest : List ℕ) (list : List Arg) (slot : Slot) (size : ℕ) (value : Arg) (after : List Arg)
    → slice_get slots i ≡ Some slot → SoFar slots bytes i rest list
    → arg_size slot.kind slot.null rest ≡ Ok size → IsArg slot.kind slot.null (take size rest) value → after ≡ list ++ value ∷ []
    → SoFar slots bytes (i + 1) (drop size rest) after
so_far-next slots bytes i rest list slot size value after e so_far sized spelled added =
    let next : drop i slots ≡ slot ∷ drop (i + 1) slots = next-slot slots i slot e in
    let goes_on : args_fault (slot ∷ drop (i + 1) slots) rest ≡ args_fault (drop (i + 1) slots) (drop size rest) =
    ap (λ told. after_arg told (λ n. args_fault (drop (i + 1) slots) (drop n rest))) sized in
    record {
      fault = so_far.fault ∙ ap (λ left. args_fault left rest) next ∙ goes_on;
      spells = λ later it.
          let P : List Slot → Type 0 = λ left. Spells left rest (value ∷ later) in
          let Q : List Arg → Type 0 = λ all. Spells slots bytes all in
          let whole : Spells (slot ∷ drop (i + 1) slots) rest (value ∷ later) =
          (take size rest, (drop size rest, sym (take-append-drop size rest), spelled, it)) in
          let joined : list ++ (value ∷ later) ≡ after ++ later =
          sym (append_assoc list (value ∷ []) later) ∙ ap (λ all. all ++ later) (sym added) in
          subst Q joined (so_far.spells (value ∷ later) (subst P (sym next) whole));
    }

-- all places were read
pub so_far-fault : (slots : List Slot) (bytes : List ℕ) (i : ℕ) (rest : List ℕ) (list : List Arg) (slot : Slot) (fault : WireFault) → slice_get slots i ≡ Some slot → SoFar slots bytes i rest list → arg_size slot.kind slot.null rest ≡ Err fault → args_fault slots bytes ≡ Some fault
so_far-fault slots bytes i rest list slot fault e so_far told =
    so_far.fault ∙ ap (λ left. args_fault left rest) (next-slot slots i slot e)
    ∙ ap (λ answer. after_arg answer (λ n. args_fault (drop (i + 1) slots) (drop n rest))) told

pub so_far-end : (slots : List Slot) (bytes : List ℕ) (i : ℕ) (rest : List ℕ) (list : List Arg) → length slots ≤ i → SoFar slots bytes i rest list → args_fault slots bytes ≡ args_fault [] rest
so_far-end slots bytes i rest list past so_far = so_far.fault ∙ ap (λ left. args_fault left rest) (drop_all i slots past)

pub so_far-spells : (slots : List Slot) (bytes : List ℕ) (i : ℕ) (rest : List ℕ) (list : List Arg) → length slots ≤ i → rest ≡ [] → SoFar slots bytes i rest list → Spells slots bytes list
so_far-spells slots bytes i rest list past empty so_far =
    let P : List Slot → Type 0 = λ left. Spells left rest [] in
    let Q : List Arg → Type 0 = λ all. Spells slots bytes all in
    subst Q (append-nil list) (so_far.spells [] (subst P (sym (drop_all i slots past)) empty))

pub fault-left : (rest : List ℕ) → length rest ≢ 0 → args_fault [] rest ≡ Some ArgLong
fault-left [] some = absurd (some refl)
fault-left (byte ∷ rest) some = refl

pub nil-test : (rest : List ℕ) → (length rest == 0) ≡ true → rest ≡ []
nil-test rest e = nil_from_length rest (eqb-true (length rest) 0 e)

-- one more argument that is seen
pub seen_next : (views : List ArgView) (i : ℕ) (it : ArgView) → i < length views → map seen_arg (take (i + 1) (slice_set views i it)) ≡ map seen_arg (take i views) ++ seen_arg it ∷ []
seen_next views i it within = ap (map seen_arg) (take_more_set views i it within) ∙ map-append seen_arg (take i views) (it ∷ [])
