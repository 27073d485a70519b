use Rattle.script_replay.proofs.Leaving.{SendsOn}
use Rattle.script_replay.proofs.sending.push_bytes.Given as goal

abbrev pub invariant-pieces : goal.invariant-pieces
invariant-pieces g l = SendsOn l.fn.most l.left l.fn.connection l.fn.dir l.fn.side l.side (g.L.LinkStore.line l.fn.line) (g.L.LinkStore.line l.line)

abbrev pub decreases-pieces : goal.decreases-pieces
decreases-pieces g l = l.left
