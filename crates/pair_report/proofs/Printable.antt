-- A message that passes can be printed: it is one of the table's, its arguments are good, and it
-- carries one handle at most.
use Rattle.std.proofs.Common.{◌≡◌, ℕ, zero, suc, ◌≤◌, ℤ, List, [], ◌∷◌, length, filter_map, nat_le, drop, Bool, true, Option, Some, None, Result, Ok, Err, option_map, option_and_then, refl, sym, ap, ◌∙◌, subst, arith}
use Rattle.std.proofs.lemmas.Bool.{and_parts, leb-true}
use Rattle.wl_text.proofs.FrontLaws.{some_same}
use Rattle.std.specs.List.{slice_get, list_all}
use Rattle.wp_outside.specs.declared.kinds.HandleKind.{HandleKind}
use Rattle.wl_wire.specs.ArgFaults.{args_fault}
use Rattle.wl_wire.specs.SignatureForm.{SignatureForm}
use Rattle.wl_wire.specs.Wire.{opcode_of}
use Rattle.wl_wire.specs.declared.faults.ObjectFault.{ObjectFault}
use Rattle.wl_tables.specs.Messages.{carried_by, form_of, handle_in, handle_kind}
use Rattle.wl_tables.specs.Places.{MessageRow}
use Rattle.wl_tables.specs.Table.{messages}
use Rattle.wl_tables.specs.Ways.{way_of, is_event}
use Rattle.wl_tables.specs.declared.interface.Interface.{Interface}
use Rattle.wl_tables.specs.declared.interface.Interface.TheVariants.{WlDisplay, WlRegistry, WlCallback, WlCompositor, WlShm, WlShmPool, WlBuffer, WlSurface, WlRegion, WlSeat, WlPointer, WlKeyboard, WlTouch, WlOutput, WlSubcompositor, WlSubsurface, WlDataDeviceManager, WlDataDevice, WlDataSource, WlDataOffer, XdgWmBase, XdgPositioner, XdgSurface, XdgToplevel, XdgPopup}
use Rattle.wl_tables.specs.declared.way.Way.{Way}
use Rattle.wl_tables.specs.declared.way.Way.TheVariants.{Request, Event}
use Rattle.wl_tables.proofs.Ways.{way_again}
use Rattle.wl_objects.specs.Answering.{interface_in}
use Rattle.wl_objects.specs.Entries.{Tracked}
use Rattle.wl_objects.specs.ObjectLaws.{IsByTheTable}
use Rattle.wl_objects.specs.Tracking.{Admission, step}
use Rattle.wl_objects.proofs.Rows.{passed_by_the_table}
use Rattle.wl_text.specs.Text.{CanPrint}
use Rattle.pair_report.specs.Passing.{handles_in, interface_told}

-- ---- the table

abbrev carries_few : MessageRow → Bool
carries_few row = nat_le (length (filter_map carried_by row.places)) 1

few : (interface : Interface) (way : Way) → list_all carries_few (messages interface way) ≡ true
few WlDisplay Request = refl
few WlDisplay Event = refl
few WlRegistry Request = refl
few WlRegistry Event = refl
few WlCallback Request = refl
few WlCallback Event = refl
few WlCompositor Request = refl
few WlCompositor Event = refl
few WlShm Request = refl
few WlShm Event = refl
few WlShmPool Request = refl
few WlShmPool Event = refl
few WlBuffer Request = refl
few WlBuffer Event = refl
few WlSurface Request = refl
few WlSurface Event = refl
few WlRegion Request = refl
few WlRegion Event = refl
few WlSeat Request = refl
few WlSeat Event = refl
few WlPointer Request = refl
few WlPointer Event = refl
few WlKeyboard Request = refl
few WlKeyboard Event = refl
few WlTouch Request = refl
few WlTouch Event = refl
few WlOutput Request = refl
few WlOutput Event = refl
few WlSubcompositor Request = refl
few WlSubcompositor Event = refl
few WlSubsurface Request = refl
few WlSubsurface Event = refl
few WlDataDeviceManager Request = refl
few WlDataDeviceManager Event = refl
few WlDataDevice Request = refl
few WlDataDevice Event = refl
few WlDataSource Request = refl
few WlDataSource Event = refl
few WlDataOffer Request = refl
few WlDataOffer Event = refl
few XdgWmBase Request = refl
few XdgWmBase Event = refl
few XdgPositioner Request = refl
few XdgPositioner Event = refl
few XdgSurface Request = refl
few XdgSurface Event = refl
few XdgToplevel Request = refl
few XdgToplevel Event = refl
few XdgPopup Request = refl
few XdgPopup Event = refl

-- ---- one message

form_ok : (row : Option MessageRow) (form : SignatureForm) → option_map form_of row ≡ Some form → (it : MessageRow) × (row ≡ Some it) × (form_of it ≡ form)
form_ok (Some it) form e = (it, refl, cc)
form_ok None form e = absurd (cc)

-- the row at a place of rows that all pass a test passes it
passes_at : (rows : List MessageRow) (place : ℕ) (row : MessageRow) → slice_get rows place ≡ Some row → list_all carries_few rows ≡ true → carries_few row ≡ true
passes_at [] place row at all = cc at
passes_at (first ∷ rows) zero row at all =
    subst (λ (it : MessageRow). carries_few it ≡ true) (some_same first row at) (and_parts (carries_few first) (list_all carries_few rows) all).0
passes_at (first ∷ rows) (suc place) row at all = passes_at rows place row at (and_parts (carries_few first) (list_all carries_few rows) all).1

-- as many handles as the row has places for
counted_handles : (carried : List HandleKind) (rids : List ℤ) → nat_le (length carried) 1 ≡ true → length (handles_in (slice_get carried 0) rids) ≡ length carried
counted_handles [] rids e = refl
counted_handles (kind ∷ []) rids e = refl
counted_handles (kind ∷ other ∷ more) rids e =
    let few : length (kind ∷ other ∷ more) ≤ 1 = leb-true (length (kind ∷ other ∷ more)) 1 e in absurd (omega (arith, few))

row_kind : (row : Option MessageRow) (it : MessageRow) → row ≡ Some it → option_and_then (λ (r : MessageRow). handle_in r.places) row ≡ handle_in it.places
row_kind row it same = ap (λ (r : Option MessageRow). option_and_then (λ (m : MessageRow). handle_in m.places) r) same

printed : (way : Way) (message : List ℕ) (done : Admission) (rids : List ℤ) → IsByTheTable way message done.passed
    → CanPrint done.passed.interface way message (handles_in (handle_kind done.passed.interface (is_event way) (opcode_of message)) rids)
printed way message done rids is =
    let interface : Interface = done.passed.interface in
    let found = form_ok (slice_get (messages interface (way_of (is_event way))) (opcode_of message)) is.form is.row in
    let stands : slice_get (messages interface way) (opcode_of message) ≡ Some found.0 =
    ap (λ (w : Way). slice_get (messages interface w) (opcode_of message)) (sym (way_again way)) ∙ found.1 in
    let carried : List HandleKind = filter_map carried_by found.0.places in
    record {
      row = found.0;
      stands = stands;
      good = ap (λ (f : SignatureForm). args_fault f.slots (drop 8 message)) found.2 ∙ is.good;
      named =
          ap (λ (kind : Option HandleKind). length (handles_in kind rids)) (row_kind _ found.0 found.1)
          ∙ counted_handles carried rids (passes_at (messages interface way) (opcode_of message) found.0 stands (few interface way));
    }

told_ok : (told : Result Admission ObjectFault) (interface : Interface) → Some interface ≡ interface_told told → (done : Admission) × (told ≡ Ok done) × (done.passed.interface ≡ interface)
told_ok (Ok done) interface e = (done, refl, cc)
told_ok (Err fault) interface e = absurd (cc)

-- a message that passes, with the first of the rids
pub can_print : (way : Way) (tracked : Tracked) (message : List ℕ) (interface : Interface) (rids : List ℤ) → Some interface ≡ interface_told (step way tracked message)
    → CanPrint interface way message (handles_in (handle_kind interface (is_event way) (opcode_of message)) rids)
can_print way tracked message interface rids e =
    let told = told_ok (step way tracked message) interface e in
    subst (λ (i : Interface). CanPrint i way message (handles_in (handle_kind i (is_event way) (opcode_of message)) rids)) told.2
    (printed way message told.0 rids (passed_by_the_table way tracked message told.0 told.1))

-- what tracking told
pub told_from : (told : Result Admission ObjectFault) (interface : Interface) (after : Tracked) → interface_in told ≡ Ok (interface, after) → Some interface ≡ interface_told told
told_from (Ok done) interface after e =
    let same : (interface, after) ≡ (done.passed.interface, done.objects) = cc in
    ap (λ (it : Interface × Tracked). Some it.0) same
told_from (Err fault) interface after e = absurd (let never : ⊥ = cc in never)
