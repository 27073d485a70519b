use Rattle.std.proofs.Common.{◌≡◌, ℕ, ◌+◌, List, refl, sym, ap, ◌∙◌, arith, rules, true, Some, None, Option, option_map}
use Rattle.std.specs.List.{slice_get, position_from}
use Rattle.std.specs.Str.{bytes_eq}
use Rattle.std.proofs.lemmas.Slice.Eq.{bytes_eq-Decides}
use Rattle.wl_tables.specs.Ways.{way_of}
use Rattle.wl_tables.specs.Places.{MessageRow}
use Rattle.wl_tables.specs.Table.{messages}
use Rattle.wl_tables.proofs.Naming.{IsAt, position_passes, found_at, names_differ}
use Rattle.wl_tables.proofs.Distinct.{differ}
use Rattle.wl_tables.proofs.laws.opcode_tells_name.Goals as goal

-- a row at the place, with the name
named_at : (rows : List MessageRow) (opcode : ℕ) (name : List ℕ) → IsAt (λ it. bytes_eq it.name name) rows 0 opcode → option_map (λ it. it.name) (slice_get rows opcode) ≡ Some name
named_at rows opcode name at =
    let place : opcode ≡ at.0 = omega (arith, at.1) in
    ap (λ k. option_map (λ it. it.name) (slice_get rows k)) place
    ∙ ap (option_map (λ it. it.name)) at.2.1
    ∙ ap Some ((bytes_eq-Decides at.2.0.name name).0 at.2.2)

-- the row that a name is told of
row_of : (row : Option MessageRow) (name : List ℕ) → option_map (λ it. it.name) row ≡ Some name → (it : MessageRow) × (row ≡ Some it) × (it.name ≡ name)
row_of (Some it) name told = (it, refl, grind arith)
row_of None name told = search rules

zero_plus : (n : ℕ) → 0 + n ≡ n
zero_plus n = omega arith

at_name : (rows : List MessageRow) (opcode : ℕ) (name : List ℕ) → names_differ rows ≡ true → option_map (λ it. it.name) (slice_get rows opcode) ≡ Some name → position_from (λ it. bytes_eq it.name name) 0 rows ≡ Some opcode
at_name rows opcode name distinct told =
    let told_of = row_of (slice_get rows opcode) name told in
    ap (λ text. position_from (λ it. bytes_eq it.name text) 0 rows) (sym told_of.2)
    ∙ found_at rows 0 opcode told_of.0 distinct told_of.1
    ∙ ap Some (zero_plus opcode)

pub returns : goal.returns
returns c interface events opcode name = (
  λ found. named_at (messages interface (way_of events)) opcode name (position_passes (λ it. bytes_eq it.name name) (messages interface (way_of events)) 0 opcode found),
  λ told. at_name (messages interface (way_of events)) opcode name (differ interface (way_of events)) told,
)
