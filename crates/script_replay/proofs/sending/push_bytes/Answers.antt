use Rattle.std.proofs.Common.{arith}
use Rattle.script_replay.proofs.Leaving.{sends_first, sends_more, sends_all, sends_out, sends_part}
use Rattle.script_replay.proofs.sending.push_bytes.Goals as goal

pub pieces-init : goal.pieces-init
pieces-init g c = sends_first c.args.most c.args.connection c.args.dir c.args.side.now (g.L.LinkStore.line c.args.line.now) c.requires

pub push_piece-requires-clause-ready : goal.push_piece-requires-clause-ready
push_piece-requires-clause-ready g c = c.pieces.invariant.so_far.may

pub pieces-preserved : goal.pieces-preserved
pieces-preserved g c =
    sends_more c.args.most c.pieces.left c.in-Ok.count c.args.connection c.args.dir c.args.side.now c.pieces.side c.push_piece.new.side (g.L.LinkStore.line c.args.line.now) (g.L.LinkStore.line c.pieces.line) (g.L.LinkStore.line c.push_piece.new.line)
    c.pieces.invariant c.in-Ok.ensures

pub returns-then-count-eq0 : goal.returns-then-count-eq0
returns-then-count-eq0 g c =
    sends_out c.args.most c.pieces.left c.in-Ok.count c.args.connection c.args.dir c.args.side.now c.pieces.side c.push_piece.new.side (g.L.LinkStore.line c.args.line.now) (g.L.LinkStore.line c.pieces.line) (g.L.LinkStore.line c.push_piece.new.line)
    c.requires c.if-count-eq0.true c.pieces.invariant c.in-Ok.ensures

pub returns-in-Err : goal.returns-in-Err
returns-in-Err g c = λ some.
    sends_part c.args.most c.pieces.left c.args.connection c.args.dir c.in-Err.fault c.args.side.now c.pieces.side c.push_piece.new.side (g.L.LinkStore.line c.args.line.now) (g.L.LinkStore.line c.pieces.line) (g.L.LinkStore.line c.push_piece.new.line)
    c.pieces.invariant (c.in-Err.ensures some)

pub returns : goal.returns
returns g c =
    sends_all c.args.most c.pieces.left c.args.connection c.args.dir c.args.side.now c.pieces.side (g.L.LinkStore.line c.args.line.now) (g.L.LinkStore.line c.pieces.line) c.requires (omega (arith, c.pieces-test.false)) c.pieces.invariant
