use Rattle.std.proofs.Common.{arith}
use Rattle.script_replay.proofs.Arriving.{comes_first, comes_more, comes_all, comes_out, comes_part}
use Rattle.script_replay.proofs.coming.pull_bytes.Goals as goal

pub pieces-init : goal.pieces-init
pieces-init g c = comes_first c.args.most c.args.connection c.args.dir c.args.side.now (g.L.LinkStore.line c.args.line.now) c.requires.ready

pub pull_piece-requires-clause-ready : goal.pull_piece-requires-clause-ready
pull_piece-requires-clause-ready g c = c.pieces.invariant.so_far.runs

pub pieces-preserved : goal.pieces-preserved
pieces-preserved g c =
    comes_more c.args.most c.pieces.left c.in-Ok.count c.args.connection c.args.dir c.args.side.now c.pieces.side c.pull_piece.new.side (g.L.LinkStore.line c.args.line.now) (g.L.LinkStore.line c.pieces.line) (g.L.LinkStore.line c.pull_piece.new.line)
    c.pieces.invariant c.in-Ok.ensures

pub returns-then-count-eq0 : goal.returns-then-count-eq0
returns-then-count-eq0 g c =
    comes_out c.args.most c.pieces.left c.in-Ok.count c.args.connection c.args.dir c.args.side.now c.pieces.side c.pull_piece.new.side (g.L.LinkStore.line c.args.line.now) (g.L.LinkStore.line c.pieces.line) (g.L.LinkStore.line c.pull_piece.new.line)
    c.pieces-test.true c.if-count-eq0.true c.pieces.invariant c.in-Ok.ensures

pub returns-in-Err : goal.returns-in-Err
returns-in-Err g c = λ some.
    comes_part c.args.most c.pieces.left c.args.connection c.args.dir c.in-Err.fault c.args.side.now c.pieces.side c.pull_piece.new.side (g.L.LinkStore.line c.args.line.now) (g.L.LinkStore.line c.pieces.line) (g.L.LinkStore.line c.pull_piece.new.line)
    c.pieces.invariant (c.in-Err.ensures some)

pub returns : goal.returns
returns g c =
    comes_all c.args.most c.pieces.left c.args.connection c.args.dir c.args.side.now c.pieces.side (g.L.LinkStore.line c.args.line.now) (g.L.LinkStore.line c.pieces.line) (omega (arith, c.pieces-test.false)) c.pieces.invariant
