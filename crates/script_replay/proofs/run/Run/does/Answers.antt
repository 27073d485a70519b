use Rattle.std.proofs.Common.{ℕ, Bool, List, [], ◌∷◌, ◌++◌, Result, Ok, Err, refl, sym}
use Rattle.wp_outside.specs.Lines as outside
use Rattle.pair_runs.specs.Moves.{Take, Load, Connect, Break, Push, Pull, Spoil, Close}
use Rattle.script_replay.specs.Going.{GoesBy}
use Rattle.script_replay.specs.Playing.{DoesLine}
use Rattle.script_replay.proofs.Acting.{acted, act_line}
use Rattle.script_replay.proofs.Playing.{line_goes, line_done, line_quiet, other_answer}
use Rattle.script_replay.proofs.Settling.{line_in}
use Rattle.script_replay.proofs.run.Run.does.Goals as goal

pub returns-in-Await : goal.returns-in-Await
returns-in-Await g c =
    line_quiet c.args.what.now _ c.settle.result c.args.self.now c.settle.new.self (g.L.LinkStore.line c.args.line.now) (g.L.LinkStore.line c.settle.new.line) c.in-Await.is refl refl c.settle.ensures

pub returns-in-Settle : goal.returns-in-Settle
returns-in-Settle g c =
    line_quiet c.args.what.now _ c.settle-in-Settle.result c.args.self.now c.settle-in-Settle.new.self (g.L.LinkStore.line c.args.line.now) (g.L.LinkStore.line c.settle-in-Settle.new.line) c.in-Settle.is refl refl c.settle-in-Settle.ensures

pub returns-in-Ok : goal.returns-in-Ok
returns-in-Ok g c =
    let before = (g.L.LinkStore.line c.args.line.now) in
    line_done c.args.what.now _ (Take c.in-Take.peer c.in-Take.bytes ∷ []) c.args.self.now c.take.new.self before before c.in-Take.is refl refl refl (c.in-Ok.ensures.moves before)

pub returns-in-Err : goal.returns-in-Err
returns-in-Err g c =
    let before = (g.L.LinkStore.line c.args.line.now) in
    let old = c.args.self.now in
    let new = c.take.new.self in
    other_answer Bool Unit c.in-Err.stop (GoesBy (DoesLine c.args.what.now) old new before before)
    (line_goes {X = Bool} c.args.what.now _ (Take c.in-Take.peer c.in-Take.bytes ∷ []) (Err c.in-Err.stop) old new before before c.in-Take.is refl refl refl
    (line_in {X = Bool} (Err c.in-Err.stop) (Take c.in-Take.peer c.in-Take.bytes ∷ []) old new before c.in-Err.ensures.moves))

pub returns-in-Load : goal.returns-in-Load
returns-in-Load g c =
    let before = (g.L.LinkStore.line c.args.line.now) in
    line_goes c.args.what.now _ (Load c.in-Load.words ∷ []) c.load.result c.args.self.now c.load.new.self before before c.in-Load.is refl refl refl
    (line_in c.load.result (Load c.in-Load.words ∷ []) c.args.self.now c.load.new.self before c.load.ensures)

pub returns-in-Close : goal.returns-in-Close
returns-in-Close g c =
    let before = (g.L.LinkStore.line c.args.line.now) in
    line_goes c.args.what.now _ (Close c.in-Close.peer ∷ []) c.close.result c.args.self.now c.close.new.self before before c.in-Close.is refl refl refl
    (line_in c.close.result (Close c.in-Close.peer ∷ []) c.args.self.now c.close.new.self before c.close.ensures)

pub returns-in-Connect : goal.returns-in-Connect
returns-in-Connect g c =
    line_goes c.args.what.now _ (Connect ∷ []) c.connect.result c.args.self.now c.connect.new.self (g.L.LinkStore.line c.args.line.now) (g.L.LinkStore.line c.connect.new.line) c.in-Connect.is refl refl refl c.connect.ensures

pub returns-in-Break : goal.returns-in-Break
returns-in-Break g c =
    line_done c.args.what.now _ (Break ∷ []) c.args.self.now c.cut.new.self (g.L.LinkStore.line c.args.line.now) (g.L.LinkStore.line c.cut.new.line) c.in-Break.is refl refl refl c.cut.ensures

pub returns-in-Send : goal.returns-in-Send
returns-in-Send g c =
    line_goes c.args.what.now _ (Push c.in-Send.dir c.in-Send.bytes ∷ []) c.push.result c.args.self.now c.push.new.self (g.L.LinkStore.line c.args.line.now) (g.L.LinkStore.line c.push.new.line) c.in-Send.is refl refl refl c.push.ensures

pub returns-in-Recv : goal.returns-in-Recv
returns-in-Recv g c =
    line_goes c.args.what.now _ (Pull c.in-Recv.dir c.in-Recv.bytes ∷ []) c.pull.result c.args.self.now c.pull.new.self (g.L.LinkStore.line c.args.line.now) (g.L.LinkStore.line c.pull.new.line) c.in-Recv.is refl refl refl c.pull.ensures

pub returns-in-Both : goal.returns-in-Both
returns-in-Both g c =
    line_goes c.args.what.now _ (Push c.in-Both.dir c.in-Both.bytes ∷ Pull c.in-Both.dir c.in-Both.bytes ∷ []) c.both.result c.args.self.now c.both.new.self (g.L.LinkStore.line c.args.line.now) (g.L.LinkStore.line c.both.new.line) c.in-Both.is refl refl refl c.both.ensures

pub returns-in-Spoil : goal.returns-in-Spoil
returns-in-Spoil g c =
    line_done c.args.what.now _ (Spoil c.in-Spoil.dir c.in-Spoil.offset c.in-Spoil.byte ∷ []) c.args.self.now c.spoil.new.self (g.L.LinkStore.line c.args.line.now) (g.L.LinkStore.line c.spoil.new.line) c.in-Spoil.is refl refl refl c.spoil.ensures

pub returns-in_default : goal.returns-in_default
returns-in_default g c =
    let d = c.in_default in
    act_line c.bytes_are_put.ensures c.ready_goes_on.ensures c.args.what.now c.args.self.now c.act.new.self (g.L.LinkStore.line c.args.line.now) c.act.result
    (acted c.args.what.now d.not-Await d.not-Settle d.not-Take d.not-Load d.not-Close d.not-Connect d.not-Break d.not-Send d.not-Recv d.not-Both d.not-Spoil)
    c.act.ensures.near c.act.ensures.far c.act.ensures.line c.act.ensures.memory
