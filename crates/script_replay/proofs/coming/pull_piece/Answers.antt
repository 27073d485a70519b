use Rattle.std.proofs.Common.{◌<◌, ◌∙◌, arith}
use Rattle.script_replay.proofs.Arriving.{reads_some, reads_badly}
use Rattle.script_replay.proofs.coming.pull_piece.Goals as goal

pub returns-in-Ok : goal.returns-in-Ok
returns-in-Ok g c =
    let before = g.L.LinkStore.line c.args.line.now in
    let some : 0 < c.pull_front-count.result = omega (arith, c.if-count-eq0.false) in
    reads_some c.args.connection c.args.most c.pull_front-count.result c.args.dir c.args.side.now c.came.new.self before (g.L.LinkStore.line c.pull_front-count.new.line) c.split_at.result.0.now
    c.requires.ready some c.pull_front-count.ensures.size c.pull_front-count.ensures.change (c.split_at.ensures.front ∙ c.pull_front-count.ensures.bytes) c.in-Ok.ensures.hears c.in-Ok.ensures.leaves c.in-Ok.ensures.wire

pub returns-in-Err : goal.returns-in-Err
returns-in-Err g c = λ some.
    let bytes : 0 < c.pull_front-count.result = omega (arith, c.if-count-eq0.false) in
    reads_badly c.args.connection c.args.most c.pull_front-count.result c.args.dir c.in-Err.fault c.args.side.now c.came.new.self (g.L.LinkStore.line c.args.line.now) (g.L.LinkStore.line c.pull_front-count.new.line) c.split_at.result.0.now
    bytes c.pull_front-count.ensures.size c.pull_front-count.ensures.change (c.split_at.ensures.front ∙ c.pull_front-count.ensures.bytes) (c.in-Err.ensures.hears some) (c.in-Err.ensures.leaves some) c.in-Err.ensures.wire
