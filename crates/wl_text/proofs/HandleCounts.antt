-- A message has as many handles as its row has places for them.
use Rattle.std.proofs.Common.{◌≡◌, ℕ, ℤ, ◌+◌, List, [], ◌∷◌, length, All, ◌⊎◌, inl, inr, Bool, w32, FitsSigned, refl, sym, subst, arith}
use Rattle.std.proofs.lemmas.List.Elements.{All-cons, All-head, All-nil, All-tail}
use Rattle.wl_wire.specs.declared.arguments.Arg.{Arg}
use Rattle.wl_wire.specs.declared.arguments.Arg.TheVariants as arg
use Rattle.wl_wire.specs.declared.signature.ArgKind.{ArgKind}
use Rattle.wl_wire.specs.declared.signature.ArgKind.TheVariants as kind
use Rattle.wl_wire.specs.declared.signature.Slot.{Slot}
use Rattle.wl_wire.specs.ArgLaws.{FitsSlot, FitSlots}
use Rattle.wl_text.specs.ArgTexts.{handles_behind}
use Rattle.wl_text.proofs.ArgTextLaws.{HasNumber}
use Rattle.wl_text.proofs.ArgsTextLaws.{Named}
use Rattle.wl_text.proofs.TableFacts.{kind_count, handle_count}

abbrev IsNumber : ℤ → Type 0
IsNumber number = FitsSigned w32 number

-- an argument that takes no handle, at a place for none
record TakesNone (count : ℕ) (value : Arg) : Type 0 where
  counts : count ≡ 0
  named : (handles : List ℤ) → HasNumber value handles
  leaves : (handles : List ℤ) → handles_behind value handles ≡ handles

-- one that is a handle, at a place for one
record TakesOne (count : ℕ) (value : Arg) : Type 0 where
  counts : count ≡ 1
  is : value ≡ arg.Handle

takes : (it : ArgKind) (null : Bool) (value : Arg) → FitsSlot it null value → TakesNone (kind_count it) value ⊎ TakesOne (kind_count it) value
takes kind.Int null (arg.Int value) fits = inl (record { counts = refl; named = λ handles. tt; leaves = λ handles. refl })
takes kind.Uint null (arg.Uint value) fits = inl (record { counts = refl; named = λ handles. tt; leaves = λ handles. refl })
takes kind.Fixed null (arg.Fixed value) fits = inl (record { counts = refl; named = λ handles. tt; leaves = λ handles. refl })
takes kind.Str null (arg.Str text) fits = inl (record { counts = refl; named = λ handles. tt; leaves = λ handles. refl })
takes kind.Str null arg.NullStr fits = inl (record { counts = refl; named = λ handles. tt; leaves = λ handles. refl })
takes kind.Object null (arg.Object id) fits = inl (record { counts = refl; named = λ handles. tt; leaves = λ handles. refl })
takes kind.NewId null (arg.NewId id) fits = inl (record { counts = refl; named = λ handles. tt; leaves = λ handles. refl })
takes kind.Bind null (arg.Bind interface version id) fits = inl (record { counts = refl; named = λ handles. tt; leaves = λ handles. refl })
takes kind.Array null (arg.Array content) fits = inl (record { counts = refl; named = λ handles. tt; leaves = λ handles. refl })
takes kind.Handle null arg.Handle fits = inr (record { counts = refl; is = refl })
takes _ null _ fits = absurd fits

-- so many numbers, of 32 bits each
abbrev AreCounted : ℕ → List ℤ → Type 0
AreCounted count handles = (length handles ≡ count) × All IsNumber handles

handle_counted : (count : ℕ) (args : List Arg) (handles : List ℤ) → ((handles : List ℤ) → Named args handles → AreCounted count handles) → Named (arg.Handle ∷ args) handles → AreCounted (1 + count) handles
handle_counted count args [] later named = absurd named.0
handle_counted count args (number ∷ handles) later named =
    let more = later handles named.1 in
    (omega (arith, more.0), All-cons IsNumber number handles named.0 more.1)

pub named_counts : (slots : List Slot) (args : List Arg) (handles : List ℤ) → FitSlots slots args → Named args handles → AreCounted (handle_count slots) handles
named_counts [] [] [] fits named = (refl, All-nil IsNumber)
named_counts [] [] (number ∷ handles) fits named = absurd named
named_counts [] (value ∷ args) handles fits named = absurd fits
named_counts (slot ∷ slots) [] handles fits named = absurd fits
named_counts (slot ∷ slots) (value ∷ args) handles fits named =
    let later = λ (handles : List ℤ) (named : Named args handles). named_counts slots args handles fits.1 named in
    elim (takes slot.kind slot.null value fits.0) [
      | inl none ↦ (
          let more = later handles (subst (Named args) (none.leaves handles) named.1) in
          (omega (arith, more.0, none.counts), more.1))
      | inr one ↦ (
          let more = handle_counted (handle_count slots) args handles later (subst (λ it. Named (it ∷ args) handles) one.is named) in
          (omega (arith, more.0, one.counts), more.1))
    ]

handle_named : (count : ℕ) (args : List Arg) (handles : List ℤ) → ((handles : List ℤ) → AreCounted count handles → Named args handles) → AreCounted (1 + count) handles → Named (arg.Handle ∷ args) handles
handle_named count args [] later counted = absurd (omega (arith, counted.0))
handle_named count args (number ∷ handles) later counted =
    (All-head IsNumber number handles counted.1, later handles (omega (arith, counted.0), All-tail IsNumber number handles counted.1))

pub counted_names : (slots : List Slot) (args : List Arg) (handles : List ℤ) → FitSlots slots args → AreCounted (handle_count slots) handles → Named args handles
counted_names [] [] [] fits counted = tt
counted_names [] [] (number ∷ handles) fits counted = absurd (omega (arith, counted.0))
counted_names [] (value ∷ args) handles fits counted = absurd fits
counted_names (slot ∷ slots) [] handles fits counted = absurd fits
counted_names (slot ∷ slots) (value ∷ args) handles fits counted =
    let later = λ (handles : List ℤ) (counted : AreCounted (handle_count slots) handles). counted_names slots args handles fits.1 counted in
    elim (takes slot.kind slot.null value fits.0) [
      | inl none ↦ (none.named handles, subst (Named args) (sym (none.leaves handles)) (later handles (omega (arith, counted.0, none.counts), counted.1)))
      | inr one ↦
          subst (λ it. Named (it ∷ args) handles) (sym one.is)
          (handle_named (handle_count slots) args handles later (omega (arith, counted.0, one.counts), counted.1))
    ]
