use Rattle.std.proofs.Common.{◌≡◌, [], drop}
use Rattle.pair_report.specs.Meant.{shut_from}
use Rattle.pair_report.proofs.pipes.shut_in.Given as goal

-- the frames that are left complete the rids
abbrev pub invariant-loop-frame : goal.invariant-loop-frame
invariant-loop-frame l = shut_from (drop l.frame-index l.made) l.shut.keys ≡ shut_from l.made []
