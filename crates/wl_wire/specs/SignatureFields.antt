-- How a signature of the Wayland protocol is kept: eight places, of which the first are used, and
-- one filler in all the others.
use Rattle.std.specs.Prelude.{◌≡◌, ℕ, ◌-◌, ◌≤◌, List, ◌++◌, length, take, drop, false, replicate}
use Rattle.std.proofs.Common.{sym, ap, ◌∙◌, arith, take-append-drop}
use Rattle.std.proofs.lemmas.List.{length-take-le}
use Rattle.wl_wire.specs.declared.signature.Slot.{Slot}
use Rattle.wl_wire.specs.declared.signature.ArgKind.TheVariants.{Int}
use Rattle.wl_wire.specs.declared.signature.Signature.TheInside.{Inside}
use Rattle.wl_wire.specs.SignatureForm.{SignatureForm}

-- what stands in a place that isn't used
abbrev pub unused : Slot
unused = record { kind = Int; null = false }

-- the places that are used, and the mark
abbrev pub form_of : Inside → SignatureForm
form_of fields = record { slots = take fields.len fields.slots; destroys = fields.destroys }

-- eight places, and the filler from the first on that isn't used
pub record IsFilled (fields : Inside) : Type 0 where
  pub eight : length fields.slots ≡ 8
  pub room : fields.len ≤ 8
  pub filled : drop fields.len fields.slots ≡ replicate (8 - fields.len) unused

-- the fields that a form is kept in
abbrev pub fields_of : SignatureForm → Inside
fields_of form =
    record {
      slots = form.slots ++ replicate (8 - length form.slots) unused;
      len = length form.slots;
      destroys = form.destroys;
    }

pub fields-form : (fields : Inside) → IsFilled fields → fields_of (form_of fields) ≡ fields
fields-form fields filled =
    let used : length (take fields.len fields.slots) ≡ fields.len =
    length-take-le fields.len fields.slots (omega (arith, filled.room, filled.eight)) in
    let parts
    : take fields.len fields.slots ++ replicate (8 - length (take fields.len fields.slots)) unused
    ≡ fields.slots =
    ap (λ n. take fields.len fields.slots ++ replicate (8 - n) unused) used
    ∙ ap (λ rest. take fields.len fields.slots ++ rest) (sym filled.filled)
    ∙ take-append-drop fields.len fields.slots in
    let kept : List Slot → ℕ → Inside =
    λ slots len. record { slots = slots; len = len; destroys = fields.destroys } in
    ap (λ slots. kept slots (length (take fields.len fields.slots))) parts
    ∙ ap (λ len. kept fields.slots len) used
