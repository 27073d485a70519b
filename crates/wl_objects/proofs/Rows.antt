-- A message that passes is one of the table's, with good arguments.
use Rattle.std.proofs.Common.{◌≡◌, ℕ, List, Option, Some, None, Result, Ok, Err, drop, refl, sym, ap, subst, ◌∙◌}
use Rattle.wl_wire.specs.ArgFaults.{args_fault}
use Rattle.wl_wire.specs.SignatureForm.{SignatureForm}
use Rattle.wl_wire.specs.Wire.{object_of, opcode_of}
use Rattle.wl_wire.specs.declared.faults.ObjectFault.{ObjectFault}
use Rattle.wl_wire.specs.declared.faults.ObjectFault.TheVariants as faults
use Rattle.wl_wire.specs.declared.faults.WireFault.{WireFault}
use Rattle.wl_tables.specs.Messages.{signature}
use Rattle.wl_tables.specs.declared.interface.Interface.{Interface}
use Rattle.wl_tables.specs.declared.way.Way.{Way}
use Rattle.wl_wire.specs.ArgValues.{args_in}
use Rattle.wl_objects.specs.Entries.{Tracked, addressed}
use Rattle.wl_objects.specs.ObjectLaws.{IsByTheTable, PassedByTheTable}
use Rattle.wl_objects.specs.Tracking.{followed, found, passed_as, read_by, read_row, reading, Admission, then_goes}
use Rattle.wl_tables.specs.Ways.{is_event}
use Rattle.wl_objects.specs.declared.passed.Passed.{Passed}
use Rattle.wl_objects.specs.declared.reading.Reading.{Reading}

-- a value that was found, and one with which it went on
found_ok : {X Y : Type 0} (it : Option X) (fault : ObjectFault) (next : X → Result Y ObjectFault) (y : Y) → found it fault next ≡ Ok y → (x : X) × (it ≡ Some x) × (next x ≡ Ok y)
found_ok (Some x) fault next y e = (x, refl, e)
found_ok None fault next y e = absurd (cc)

goes_ok : {X Y : Type 0} (told : Result X ObjectFault) (next : X → Result Y ObjectFault) (y : Y) → then_goes told next ≡ Ok y → (x : X) × (told ≡ Ok x) × (next x ≡ Ok y)
goes_ok (Ok x) next y e = (x, refl, e)
goes_ok (Err fault) next y e = absurd (cc)

same_ok : {X : Type 0} (a b : X) (told : Result X ObjectFault) → told ≡ Ok a → told ≡ Ok b → a ≡ b
same_ok a b told is other = cc

-- what a message is found to be by a row whose arguments are good
read_ok : (interface : Interface) (opcode : ℕ) (bytes : List ℕ) (form : SignatureForm) (fault : Option WireFault) (it : Reading) → read_by interface opcode bytes form fault ≡ Ok it
    → (fault ≡ None) × (it.interface ≡ interface) × (it.opcode ≡ opcode)
read_ok interface opcode bytes form None it e =
    let same = same_ok (record { interface = interface; opcode = opcode; args = args_in form.slots bytes; destroys = form.destroys }) it _ refl e in
    (refl, sym (ap (λ (r : Reading). r.interface) same), sym (ap (λ (r : Reading). r.opcode) same))
read_ok interface opcode bytes form (Some fault) it e = absurd (cc)

row_ok : (interface : Interface) (way : Way) (message : List ℕ) (it : Reading) → read_row interface way message ≡ Ok it → IsByTheTable way message (passed_as it)
row_ok interface way message it e =
    let one = found_ok (signature interface (is_event way) (opcode_of message)) faults.UnknownOpcode (λ form. read_by interface (opcode_of message) (drop 8 message) form (args_fault form.slots (drop 8 message))) it e in
    let read = read_ok interface (opcode_of message) (drop 8 message) one.0 (args_fault one.0.slots (drop 8 message)) it one.2 in
    record {
      form = one.0;
      row = ap (λ (i : Interface). signature i (is_event way) (opcode_of message)) read.1 ∙ one.1;
      good = read.0;
      opcode = read.2;
    }

-- what follows the reading of a message
abbrev pub after_reading : Way → Tracked → List ℕ → Reading → Result Admission ObjectFault
after_reading way objects message it = then_goes (followed way objects (object_of message) it) (λ after. Ok (record { passed = passed_as it; objects = after }))

passed_as_read : (way : Way) (objects : Tracked) (message : List ℕ) (it : Reading) (done : Admission) → after_reading way objects message it ≡ Ok done → passed_as it ≡ done.passed
passed_as_read way objects message it done e =
    let one = goes_ok (followed way objects (object_of message) it) _ done e in
    ap (λ (d : Admission). d.passed) (same_ok _ done _ refl one.2)

pub passed_by_the_table : PassedByTheTable
passed_by_the_table way objects message done e =
    let one = goes_ok (reading way objects message) (after_reading way objects message) done e in
    let entry = found_ok (addressed way objects (object_of message)) faults.UnknownObject (λ entry. read_row entry.interface way message) one.0 one.1 in
    subst (IsByTheTable way message) (passed_as_read way objects message one.0 done one.2) (row_ok entry.0.interface way message one.0 entry.2)
