use Rattle.std.proofs.Common.{Bool, false, Ok, Err, subst, sym}
use Rattle.script_replay.specs.Settling.{bring, carry, ChangedIf}
use Rattle.script_replay.specs.Standing.{state_of}
use Rattle.script_replay.proofs.Settling.{goes_then, goes_stop, line_in, round_changed, brought_changed, same_weights, only_weights}
use Rattle.script_replay.proofs.run.Run.round.Goals as goal

pub carry-requires-clause-ready : goal.carry-requires-clause-ready
carry-requires-clause-ready g c = (c.in-Ok.ensures.moves (g.L.LinkStore.line c.args.line.now) c.requires.ready).stays

pub returns-then-brought-clause-moves : goal.returns-then-brought-clause-moves
returns-then-brought-clause-moves g c =
    let line = g.L.LinkStore.line c.args.line.now in
    goes_then {X = Unit {0}} (Ok tt) (bring c.args.most) (carry c.args.most) c.args.self.now c.bring.new.self c.carry.new.self line line (g.L.LinkStore.line c.carry.new.line) (c.in-Ok.ensures.moves line) c.in-Ok-carry.ensures

pub returns-else-brought-clause-moves : goal.returns-else-brought-clause-moves
returns-else-brought-clause-moves g c =
    let line = g.L.LinkStore.line c.args.line.now in
    goes_then {X = Unit {0}} (Ok tt) (bring c.args.most) (carry c.args.most) c.args.self.now c.bring.new.self c.carry.new.self line line (g.L.LinkStore.line c.carry.new.line) (c.in-Ok.ensures.moves line) c.in-Ok-carry.ensures

pub returns-then-brought-clause-moved : goal.returns-then-brought-clause-moved
returns-then-brought-clause-moved g c =
    let line = g.L.LinkStore.line c.args.line.now in
    let after = g.L.LinkStore.line c.carry.new.line in
    let first = c.in-Ok.ensures.moves line c.requires.ready in
    subst (λ (brought : Bool). ChangedIf brought (state_of c.args.self.now line) (state_of c.carry.new.self after)) (sym c.if-brought.true)
    (brought_changed c.args.most (state_of c.args.self.now line) (state_of c.bring.new.self line) (state_of c.carry.new.self after) first.did (c.in-Ok-carry.ensures first.stays).did
    (subst (λ (brought : Bool). ChangedIf brought (state_of c.args.self.now line) (state_of c.bring.new.self line)) c.if-brought.true (c.in-Ok.ensures.brought line c.requires.ready)))

pub returns-else-brought-clause-moved : goal.returns-else-brought-clause-moved
returns-else-brought-clause-moved g c =
    let line = g.L.LinkStore.line c.args.line.now in
    let after = g.L.LinkStore.line c.carry.new.line in
    let first = c.in-Ok.ensures.moves line c.requires.ready in
    round_changed c.args.most false c.weighs.result (state_of c.args.self.now line) (state_of c.bring.new.self line) (state_of c.carry.new.self after) first.did (c.in-Ok-carry.ensures first.stays).did
    (subst (λ (brought : Bool). ChangedIf brought (state_of c.args.self.now line) (state_of c.bring.new.self line)) c.if-brought.false (c.in-Ok.ensures.brought line c.requires.ready))
    (same_weights c.args.self.now c.carry.new.self line after c.weight-near.result c.weight-far.result c.weighs.result c.weight-near.ensures c.weight-far.ensures c.weighs.ensures)
    (only_weights c.args.self.now c.carry.new.self line after c.weight-near.result c.weight-far.result c.weighs.result c.weight-near.ensures c.weight-far.ensures c.weighs.ensures)

pub returns-in-Err-carry-clause-moves : goal.returns-in-Err-carry-clause-moves
returns-in-Err-carry-clause-moves g c =
    let line = g.L.LinkStore.line c.args.line.now in
    goes_then {X = Unit {0}} (Err c.in-Err-carry.stop) (bring c.args.most) (carry c.args.most) c.args.self.now c.bring.new.self c.carry.new.self line line (g.L.LinkStore.line c.carry.new.line) (c.in-Ok.ensures.moves line) c.in-Err-carry.ensures

pub returns-in-Err-clause-moves : goal.returns-in-Err-clause-moves
returns-in-Err-clause-moves g c =
    let line = g.L.LinkStore.line c.args.line.now in
    goes_stop Bool Bool c.in-Err.stop (bring c.args.most) (carry c.args.most) c.args.self.now c.bring.new.self line line
    (line_in {X = Bool} (Err c.in-Err.stop) (bring c.args.most) c.args.self.now c.bring.new.self line c.in-Err.ensures.moves)
