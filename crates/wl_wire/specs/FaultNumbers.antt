-- The numbers of the faults of messages, which are this project's own.
use Rattle.std.specs.Prelude.{ℕ}
use Rattle.wl_wire.specs.declared.faults.WireFault.{WireFault}
use Rattle.wl_wire.specs.declared.faults.WireFault.TheVariants.{SizeSmall, SizeOdd, ArgShort, ArgLong, StringNoNul, NullNotAllowed}
use Rattle.wl_wire.specs.declared.faults.ObjectFault.{ObjectFault}
use Rattle.wl_wire.specs.declared.faults.ObjectFault.TheVariants.{UnknownObject, UnknownOpcode, IdInUse, IdRange, UnknownInterface, Wire, TooManyObjects}

-- 1 and 2 are faults of the header, the others of the arguments
abbrev pub wire_number : WireFault → ℕ
wire_number SizeSmall = 1
wire_number SizeOdd = 2
wire_number ArgShort = 3
wire_number ArgLong = 4
wire_number StringNoNul = 5
wire_number NullNotAllowed = 6

-- 6 stands for each fault of the message's own bytes
abbrev pub object_number : ObjectFault → ℕ
object_number UnknownObject = 1
object_number UnknownOpcode = 2
object_number IdInUse = 3
object_number IdRange = 4
object_number UnknownInterface = 5
object_number (Wire fault) = 6
object_number TooManyObjects = 7
