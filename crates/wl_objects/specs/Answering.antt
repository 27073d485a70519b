-- What a call that tracks a message answers, beside what the rules of a Wayland connection's
-- objects say of it.
use Rattle.std.specs.Prelude.{◌≡◌, Result, Ok, Err}
use Rattle.wl_wire.specs.declared.faults.ObjectFault.{ObjectFault}
use Rattle.wl_objects.specs.declared.passed.Passed.{Passed}
use Rattle.wl_objects.specs.declared.passed.PassFault.{PassFault}
use Rattle.wl_objects.specs.declared.passed.PassFault.TheVariants.{Object, Memory}
use Rattle.wl_tables.specs.declared.interface.Interface.{Interface}
use Rattle.wl_objects.specs.Entries.{Tracked}
use Rattle.wl_objects.specs.Tracking.{Admission}

-- the objects after the call are these, or the answer is the cause
abbrev pub Leaves :
    {X : Type 0} → Result X PassFault → Result Tracked ObjectFault → Tracked → Type 0
Leaves (Ok it) told after = told ≡ Ok after
Leaves (Err (Object fault)) told after = told ≡ Err fault
Leaves (Err Memory) told after = Unit {0}

-- the answer and the objects after the call are those of one step, or the answer is the cause
abbrev pub Steps : Result Passed PassFault → Result Admission ObjectFault → Tracked → Type 0
Steps (Ok it) told after = told ≡ Ok (record { passed = it; objects = after })
Steps (Err (Object fault)) told after = told ≡ Err fault
Steps (Err Memory) told after = Unit {0}

-- the interface of the message's object
abbrev pub interface_in : Result Admission ObjectFault → Result (Interface × Tracked) ObjectFault
interface_in (Ok done) = Ok (done.passed.interface, done.objects)
interface_in (Err fault) = Err fault

-- the interface and the objects after the call are those of one step, or the answer is the cause
abbrev pub Tracks : Result Interface PassFault → Result Admission ObjectFault → Tracked → Type 0
Tracks (Ok interface) told after = interface_in told ≡ Ok (interface, after)
Tracks (Err (Object fault)) told after = told ≡ Err fault
Tracks (Err Memory) told after = Unit {0}
