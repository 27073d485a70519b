use Rattle.std.proofs.Common.{[], ◌∷◌, Err}
use Rattle.wp_outside.specs.declared.kinds.Direction.TheVariants.{Up, Down}
use Rattle.pair_runs.specs.Moves.{ConnectIfHeld, Push, Pull}
use Rattle.script_replay.proofs.Settling.{goes_then, goes_stop}
use Rattle.script_replay.proofs.run.Run.carry.Goals as goal

pub both-requires-clause-ready : goal.both-requires-clause-ready
both-requires-clause-ready g c = (c.in-Ok.ensures c.requires.ready).stays

pub both-requires-in-Ok-both-clause-ready : goal.both-requires-in-Ok-both-clause-ready
both-requires-in-Ok-both-clause-ready g c = (c.in-Ok-both.ensures (c.in-Ok.ensures c.requires.ready).stays).stays

pub returns-in-Ok-both : goal.returns-in-Ok-both
returns-in-Ok-both g c =
    let up = Push Up c.args.most ∷ Pull Up c.args.most ∷ [] in
    let down = Push Down c.args.most ∷ Pull Down c.args.most ∷ [] in
    let first = g.L.LinkStore.line c.args.line.now in
    let between = g.L.LinkStore.line c.connect_if_held.new.line in
    let later = g.L.LinkStore.line c.both.new.line in
    let last = g.L.LinkStore.line c.both-in-Ok-both.new.line in
    goes_then c.both-in-Ok-both.result (ConnectIfHeld ∷ []) (Push Up c.args.most ∷ Pull Up c.args.most ∷ Push Down c.args.most ∷ Pull Down c.args.most ∷ []) c.args.self.now c.connect_if_held.new.self c.both-in-Ok-both.new.self first between last
    c.in-Ok.ensures
    (goes_then c.both-in-Ok-both.result up down c.connect_if_held.new.self c.both.new.self c.both-in-Ok-both.new.self between later last c.in-Ok-both.ensures c.both-in-Ok-both.ensures)

pub returns-in-Err-both : goal.returns-in-Err-both
returns-in-Err-both g c =
    let up = Push Up c.args.most ∷ Pull Up c.args.most ∷ [] in
    let down = Push Down c.args.most ∷ Pull Down c.args.most ∷ [] in
    let first = g.L.LinkStore.line c.args.line.now in
    let between = g.L.LinkStore.line c.connect_if_held.new.line in
    let later = g.L.LinkStore.line c.both.new.line in
    goes_then {X = Unit {0}} (Err c.in-Err-both.stop) (ConnectIfHeld ∷ []) (Push Up c.args.most ∷ Pull Up c.args.most ∷ Push Down c.args.most ∷ Pull Down c.args.most ∷ []) c.args.self.now c.connect_if_held.new.self c.both.new.self first between later
    c.in-Ok.ensures
    (goes_stop (Unit {0}) (Unit {0}) c.in-Err-both.stop up down c.connect_if_held.new.self c.both.new.self between later c.in-Err-both.ensures)

pub returns-in-Err : goal.returns-in-Err
returns-in-Err g c =
    goes_stop (Unit {0}) (Unit {0}) c.in-Err.stop (ConnectIfHeld ∷ []) (Push Up c.args.most ∷ Pull Up c.args.most ∷ Push Down c.args.most ∷ Pull Down c.args.most ∷ []) c.args.self.now c.connect_if_held.new.self
    (g.L.LinkStore.line c.args.line.now) (g.L.LinkStore.line c.connect_if_held.new.line) c.in-Err.ensures
