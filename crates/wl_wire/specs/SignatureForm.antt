-- What a signature of the Wayland protocol says of a message: the places of its arguments in order,
-- and whether it destroys its object.
use Rattle.std.specs.Prelude.{List, [], ◌∷◌, ◌++◌, Bool}
use Rattle.wl_wire.specs.declared.signature.Slot.{Slot}

pub record SignatureForm : Type 0 where
  pub slots : List Slot
  pub destroys : Bool

-- no arguments yet
abbrev pub no_slots : Bool → SignatureForm
no_slots destroys = record { slots = []; destroys = destroys }

-- one more argument at the end
abbrev pub with_slot : SignatureForm → Slot → SignatureForm
with_slot form slot = record { slots = form.slots ++ slot ∷ []; destroys = form.destroys }
