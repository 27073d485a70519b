use Rattle.std.proofs.Common.{◌≡◌, ◌+◌, [], ◌∷◌, arith}
use Rattle.wp_outside.specs.Lines.{fresh_line}
use Rattle.wp_outside.specs.declared.kinds.Side.TheVariants.{Near, Far}
use Rattle.pair_runs.specs.Moves.{Connect}
use Rattle.script_replay.specs.Going.{Goes}
use Rattle.script_replay.specs.declared.run.Run.{Run}
use Rattle.script_replay.proofs.Connecting.{connect_made, connect_near, connect_far}
use Rattle.script_replay.proofs.Keeping.{stopped}
use Rattle.script_replay.proofs.run.Run.connect_next.Goals as goal

pub returns-in-Ok-open : goal.returns-in-Ok-open
returns-in-Ok-open g c = λ ready.
    let old : Run = c.args.self.now in
    let before = g.L.LinkStore.line c.args.line.now in
    let fresh : before (old.last + 1) ≡ fresh_line = (g.met.L.LinkStore.honest c.args.line.now (old.last + 1)).fresh (ready.fresh (old.last + 1) (omega arith)) in
    connect_made c.ready_goes_on.ensures old c.link_up.new.self c.link_up-in-Ok.new.self before (g.L.LinkStore.line c.open.new.self) c.requires.down ready
    c.in-Ok.ensures.lines c.in-Ok-link_up.ensures.lines c.in-Ok.ensures.leaves c.in-Ok-link_up.ensures.leaves c.in-Ok.ensures.wire c.in-Ok-link_up.ensures.wire c.in-Ok.ensures.limits c.in-Ok-open.ensures.ok fresh

pub returns-in-Err-link_up : goal.returns-in-Err-link_up
returns-in-Err-link_up g c =
    let old : Run = c.args.self.now in
    let line = g.L.LinkStore.line c.args.line.now in
    stopped Unit Far c.in-Err-link_up.fault c.stop_by.result (Goes (Connect ∷ []) old (record old { near = c.link_up.new.self; far = c.link_up-in-Ok.new.self }) line line) c.stop_by.ensures
    (λ some ready. connect_far c.ready_goes_on.ensures old c.link_up.new.self c.link_up-in-Ok.new.self line c.in-Err-link_up.fault c.requires.down ready c.in-Ok.ensures.lines c.in-Ok.ensures.leaves
    (c.in-Err-link_up.ensures.lines some).0 (c.in-Err-link_up.ensures.lines some).1 (c.in-Err-link_up.ensures.leaves some) c.in-Ok.ensures.wire c.in-Err-link_up.ensures.wire)

pub returns-in-Err : goal.returns-in-Err
returns-in-Err g c =
    let old : Run = c.args.self.now in
    let line = g.L.LinkStore.line c.args.line.now in
    stopped Unit Near c.in-Err.fault c.stop_by-in-Err.result (Goes (Connect ∷ []) old (record old { near = c.link_up.new.self }) line line) c.stop_by-in-Err.ensures
    (λ some ready. connect_near c.ready_goes_on.ensures old c.link_up.new.self line c.in-Err.fault c.requires.down ready (c.in-Err.ensures.lines some).0 (c.in-Err.ensures.lines some).1 (c.in-Err.ensures.leaves some) c.in-Err.ensures.wire)
