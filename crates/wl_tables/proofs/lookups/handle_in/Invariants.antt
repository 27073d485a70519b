use Rattle.std.proofs.Common.{◌≡◌, drop}
use Rattle.wl_tables.specs.Messages.{handle_in}
use Rattle.wl_tables.proofs.lookups.handle_in.Given as goal

-- none of the places that were passed has a handle
abbrev pub invariant-loop-place : goal.invariant-loop-place
invariant-loop-place l = handle_in l.places ≡ handle_in (drop l.place-index l.places)
