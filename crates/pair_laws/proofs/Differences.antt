-- A first difference refutes that the lines agree, and there is just one.
use Rattle.std.proofs.Common.{◌≡◌, ◌≢◌, ℕ, ◌<◌, List, Option, Some, take, refl, sym, ap, subst, ◌∙◌, inl, inr}
use Rattle.std.proofs.lemmas.Bool.{cases_order}
use Rattle.std.specs.Prelude.{slice_get}
use Rattle.plain_lists.specs.Fronts.{IsFront}
use Rattle.wp_outside.specs.declared.kinds.Direction.{Direction}
use Rattle.wp_outside.specs.declared.kinds.Direction.TheVariants.{Up, Down}
use Rattle.pair_model.specs.Lines.{Line, Agrees}
use Rattle.pair_laws.specs.declared.differs.Differs.{Differs}
use Rattle.pair_laws.specs.Differences.{written_to, read_from, AgreesOn, GoesBefore, IsEarlier, FirstDiffers, DiffersRefutes, OneDiffers}
use Rattle.pair_laws.proofs.Places.{get_front, get-take}

-- ---- one direction of a connection

-- a difference between two lists
record Apart (read written : List ℕ) (place : ℕ) (wrote : Option ℕ) (byte : ℕ) : Type 0 where
  same : take place read ≡ take place written
  reads : slice_get read place ≡ Some byte
  wrote_is : slice_get written place ≡ wrote
  differs : wrote ≢ Some byte

apart_of : {near far : List Line} {it : Differs} → FirstDiffers near far it
    → Apart (read_from it.direction it.connection near far) (written_to it.direction it.connection near far) it.place it.wrote it.read
apart_of f = record { same = f.same; reads = f.reads; wrote_is = f.wrote; differs = f.differs }

no_front : {read written : List ℕ} {place : ℕ} {wrote : Option ℕ} {byte : ℕ} → Apart read written place wrote byte → IsFront read written → ⊥
no_front {read} {written} {place} {wrote} {byte} a front = a.differs (sym a.wrote_is ∙ get_front place byte front a.reads)

-- no difference stands before another one
none_before : {read written : List ℕ} {place later : ℕ} {wrote other : Option ℕ} {byte next : ℕ}
    → Apart read written place wrote byte → Apart read written later other next → place < later → ⊥
none_before {read} {written} {place} {later} {wrote} {other} {byte} {next} a b l =
    let there : slice_get written place ≡ Some byte =
    sym (get-take later written place l) ∙ ap (λ (xs : List ℕ). slice_get xs place) (sym b.same) ∙ get-take later read place l ∙ a.reads in
    a.differs (sym a.wrote_is ∙ there)

one_place : {read written : List ℕ} {place later : ℕ} {wrote other : Option ℕ} {byte next : ℕ}
    → Apart read written place wrote byte → Apart read written later other next → place ≡ later
one_place {read} {written} {place} {later} {wrote} {other} {byte} {next} a b = elim (cases_order place later) [
  | inl e ↦ e
  | inr (inl l) ↦ absurd (none_before a b l)
  | inr (inr l) ↦ absurd (none_before b a l)
]

-- ---- all connections

agrees_on : (direction : Direction) (connection : ℕ) {near far : List Line} → Agrees near far → AgreesOn direction connection near far
agrees_on Up connection a = a.up connection
agrees_on Down connection a = a.down connection

pub differs_refutes : DiffersRefutes
differs_refutes near far it f a = no_front (apart_of f) (agrees_on it.direction it.connection a)

-- none is earlier than another one
not_earlier : {near far : List Line} {it other : Differs} → FirstDiffers near far it → FirstDiffers near far other → IsEarlier it.connection it.direction other → ⊥
not_earlier {near} {far} {it} {other} f g e = no_front (apart_of f) (g.earlier it.connection it.direction e)

abbrev differs_with : ℕ → Direction → ℕ → Option ℕ → ℕ → Differs
differs_with connection direction place wrote read = record { connection = connection; direction = direction; place = place; wrote = wrote; read = read }

same_differs : (it other : Differs) → it.connection ≡ other.connection → it.direction ≡ other.direction → it.place ≡ other.place → it.wrote ≡ other.wrote → it.read ≡ other.read → it ≡ other
same_differs it other c d p w r =
    ap (λ (x : ℕ). differs_with x it.direction it.place it.wrote it.read) c
    ∙ ap (λ (x : Direction). differs_with other.connection x it.place it.wrote it.read) d
    ∙ ap (λ (x : ℕ). differs_with other.connection other.direction x it.wrote it.read) p
    ∙ ap (λ (x : Option ℕ). differs_with other.connection other.direction other.place x it.read) w
    ∙ ap (λ (x : ℕ). differs_with other.connection other.direction other.place other.wrote x) r

-- on one connection and direction
same_there : {near far : List Line} {it other : Differs} → FirstDiffers near far it → FirstDiffers near far other → it.connection ≡ other.connection → it.direction ≡ other.direction → it ≡ other
same_there {near} {far} {it} {other} f g c d =
    let a = apart_of f in
    let b : Apart (read_from it.direction it.connection near far) (written_to it.direction it.connection near far) other.place other.wrote other.read =
    subst (λ (x : ℕ). Apart (read_from it.direction x near far) (written_to it.direction x near far) other.place other.wrote other.read) (sym c)
    (subst (λ (x : Direction). Apart (read_from x other.connection near far) (written_to x other.connection near far) other.place other.wrote other.read) (sym d) (apart_of g)) in
    let p : it.place ≡ other.place = one_place a b in
    let w : it.wrote ≡ other.wrote = sym a.wrote_is ∙ ap (slice_get (written_to it.direction it.connection near far)) p ∙ b.wrote_is in
    let read : Some it.read ≡ Some other.read = sym a.reads ∙ ap (slice_get (read_from it.direction it.connection near far)) p ∙ b.reads in
    let r : it.read ≡ other.read = cc in
    same_differs it other c d p w r

on_connection : {near far : List Line} {it other : Differs} → FirstDiffers near far it → FirstDiffers near far other → it.connection ≡ other.connection → it ≡ other
on_connection {near} {far} {it} {other} f g c = by it.direction other.direction refl refl
  where
    before : (d e : Direction) → it.direction ≡ d → other.direction ≡ e → GoesBefore d e → ⊥
    before d e is is' h =
        not_earlier f g (inr (c, subst (λ (x : Direction). GoesBefore x other.direction) (sym is) (subst (λ (y : Direction). GoesBefore d y) (sym is') h)))

    behind : (d e : Direction) → it.direction ≡ d → other.direction ≡ e → GoesBefore e d → ⊥
    behind d e is is' h =
        not_earlier g f (inr (sym c, subst (λ (x : Direction). GoesBefore x it.direction) (sym is') (subst (λ (y : Direction). GoesBefore e y) (sym is) h)))

    by : (d e : Direction) → it.direction ≡ d → other.direction ≡ e → it ≡ other
    by Up Up is is' = same_there f g c (is ∙ sym is')
    by Down Down is is' = same_there f g c (is ∙ sym is')
    by Up Down is is' = absurd (before Up Down is is' tt)
    by Down Up is is' = absurd (behind Down Up is is' tt)

pub one_differs : OneDiffers
one_differs near far it other f g = elim (cases_order it.connection other.connection) [
  | inl e ↦ on_connection f g e
  | inr (inl l) ↦ absurd (not_earlier f g (inl l))
  | inr (inr l) ↦ absurd (not_earlier g f (inl l))
]
