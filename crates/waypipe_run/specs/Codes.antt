-- The exit statuses of the program, which are this project's own.
use Rattle.std.specs.Prelude.{ℕ}
use Rattle.waypipe_run.specs.declared.status.Status.{Status}
use Rattle.waypipe_run.specs.declared.status.Status.TheVariants.{Done, Memory, Usage, ReadFault}
use Rattle.waypipe_run.specs.declared.status.Status.TheVariants.{WriteFault, Script, Peer, Frame}
use Rattle.waypipe_run.specs.declared.status.Status.TheVariants.{Limit, LinkFault, LinkDiffers}

abbrev pub code_of : Status → ℕ
code_of Done = 0
code_of Memory = 1
code_of Usage = 2
code_of ReadFault = 3
code_of WriteFault = 4
code_of (Script line cause) = 5
code_of (Peer side index cause) = 6
code_of (Frame reader connection place cause) = 7
code_of (Limit which) = 8
code_of LinkFault = 9
code_of (LinkDiffers connection direction place wrote read) = 10
