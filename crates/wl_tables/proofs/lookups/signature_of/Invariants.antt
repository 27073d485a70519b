use Rattle.std.proofs.Common.{◌≡◌, take}
use Rattle.std.specs.Prelude.{map}
use Rattle.wl_tables.specs.Messages.{slot_of}
use Rattle.wl_tables.specs.Rows.{row_of}
use Rattle.wl_tables.proofs.lookups.signature_of.Given as goal

-- the slots of the places that were passed
abbrev pub invariant-loop-place : goal.invariant-loop-place
invariant-loop-place l =
    (l.signature ≡ record { slots = map slot_of (take l.place-index l.places); destroys = (row_of l.fn.row).destroys })
    × (l.places ≡ (row_of l.fn.row).places)
