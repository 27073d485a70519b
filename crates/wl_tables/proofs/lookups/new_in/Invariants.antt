use Rattle.std.proofs.Common.{◌≡◌, drop}
use Rattle.wl_tables.specs.Messages.{new_in}
use Rattle.wl_tables.proofs.lookups.new_in.Given as goal

-- none of the places that were passed has a new object
abbrev pub invariant-loop-place : goal.invariant-loop-place
invariant-loop-place l = new_in l.places ≡ new_in (drop l.place-index l.places)
