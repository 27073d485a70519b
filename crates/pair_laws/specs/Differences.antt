-- The first place where the bytes that one side read are not those that the other wrote; the link
-- is this project's own.
use Rattle.std.specs.Prelude.{◌≡◌, ◌≢◌, ℕ, ◌<◌, List, Some, take, slice_get, ◌⊎◌}
use Rattle.plain_lists.specs.Fronts.{IsFront}
use Rattle.wp_outside.specs.declared.kinds.Direction.{Direction}
use Rattle.wp_outside.specs.declared.kinds.Direction.TheVariants.{Up, Down}
use Rattle.pair_model.specs.Lines.{Line, Agrees, read_on, written_on}
use Rattle.pair_laws.specs.declared.differs.Differs.{Differs}

-- ---- one direction of a connection

-- up the near side writes and the far one reads, down the far side writes and the near one reads
abbrev pub written_to : Direction → ℕ → List Line → List Line → List ℕ
written_to Up connection near far = written_on connection near
written_to Down connection near far = written_on connection far

abbrev pub read_from : Direction → ℕ → List Line → List Line → List ℕ
read_from Up connection near far = read_on connection far
read_from Down connection near far = read_on connection near

-- there the bytes read begin the bytes written
abbrev pub AgreesOn : Direction → ℕ → List Line → List Line → Type 0
AgreesOn direction connection near far =
    IsFront (read_from direction connection near far) (written_to direction connection near far)

-- connections are compared by their rising numbers, and on each one up goes before down
abbrev pub GoesBefore : Direction → Direction → Type 0
GoesBefore Up Down = Unit {0}
GoesBefore first second = ⊥

abbrev pub IsEarlier : ℕ → Direction → Differs → Type 0
IsEarlier connection direction it =
    (connection < it.connection) ⊎ ((connection ≡ it.connection) × GoesBefore direction it.direction)

-- ---- the first difference

-- All that is compared before it agrees, and on its own connection and direction the bytes do up to
-- its place. There a byte was read, and another one was written, or none.
pub record FirstDiffers (near far : List Line) (it : Differs) : Type 0 where
  pub earlier : (connection : ℕ) (direction : Direction) → IsEarlier connection direction it
      → AgreesOn direction connection near far
  pub same : take it.place (read_from it.direction it.connection near far)
      ≡ take it.place (written_to it.direction it.connection near far)
  pub reads : slice_get (read_from it.direction it.connection near far) it.place ≡ Some it.read
  pub wrote : slice_get (written_to it.direction it.connection near far) it.place ≡ it.wrote
  pub differs : it.wrote ≢ Some it.read

-- where there is one, the lines don't agree
abbrev pub DiffersRefutes : Type 0
DiffersRefutes = (near far : List Line) (it : Differs)
    → FirstDiffers near far it → Agrees near far → ⊥

-- and there is no second one
abbrev pub OneDiffers : Type 0
OneDiffers = (near far : List Line) (it other : Differs)
    → FirstDiffers near far it → FirstDiffers near far other → it ≡ other
