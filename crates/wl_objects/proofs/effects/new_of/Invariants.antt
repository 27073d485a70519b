use Rattle.std.proofs.Common.{◌≡◌, drop, map}
use Rattle.wl_wire.specs.ArgSights.{seen_arg}
use Rattle.wl_objects.specs.Tracking.{new_of}
use Rattle.wl_objects.proofs.effects.new_of.Given as goal

-- none of the arguments that were passed is a new object
abbrev pub invariant-loop-arg : goal.invariant-loop-arg
invariant-loop-arg l = new_of l.made (map seen_arg l.args) ≡ new_of l.made (map seen_arg (drop l.arg-index l.args))
