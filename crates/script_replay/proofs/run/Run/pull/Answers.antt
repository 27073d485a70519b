use Rattle.std.proofs.Common.{[], ◌∷◌, Some, None, sym, subst}
use Rattle.wp_outside.specs.declared.kinds.Direction.{Direction}
use Rattle.wp_outside.specs.declared.kinds.Side.TheVariants.{Near, Far}
use Rattle.pair_runs.specs.Moves.{Pull}
use Rattle.script_replay.specs.Going.{Goes}
use Rattle.script_replay.specs.Coming.{Came}
use Rattle.script_replay.specs.declared.run.Run.{Run}
use Rattle.script_replay.proofs.Crossing.{runs_up, pull_near, pull_far, pull_none}
use Rattle.script_replay.proofs.Keeping.{stopped}
use Rattle.script_replay.proofs.run.Run.pull.Goals as goal

pub returns-then-not-self : goal.returns-then-not-self
returns-then-not-self g c = λ ready. pull_none c.ready_goes_on.ensures c.args.dir c.args.most c.args.self.now (g.L.LinkStore.line c.args.line.now) c.if-not-self.true ready

pub pull_bytes-requires-clause-ready : goal.pull_bytes-requires-clause-ready
pull_bytes-requires-clause-ready g c = runs_up Far c.args.self.now.far c.args.self.now.last c.args.self.now.up c.if-not-self.false (c.requires.ready.some c.if-not-self.false) c.requires.ready.aside.far

pub pull_bytes-requires-in-Down-clause-ready : goal.pull_bytes-requires-in-Down-clause-ready
pull_bytes-requires-in-Down-clause-ready g c = runs_up Near c.args.self.now.near c.args.self.now.last c.args.self.now.up c.if-not-self.false (c.requires.ready.some c.if-not-self.false) c.requires.ready.aside.near

pub returns-in-Ok : goal.returns-in-Ok
returns-in-Ok g c =
    let old : Run = c.args.self.now in
    let before = g.L.LinkStore.line c.args.line.now in
    let after = g.L.LinkStore.line c.pull_bytes.new.line in
    subst (λ (dir : Direction). Goes (Pull dir c.args.most ∷ []) old (record old { far = c.pull_bytes.new.side }) before after None) (sym c.in-Up.is)
    (λ ready. pull_far c.ready_goes_on.ensures old c.pull_bytes.new.side before after c.args.most None c.if-not-self.false ready
    (subst (λ (dir : Direction). Came c.args.most old.last dir old.far c.pull_bytes.new.side before after None) c.in-Up.is c.in-Ok.ensures))

pub returns-in-Err : goal.returns-in-Err
returns-in-Err g c =
    let old : Run = c.args.self.now in
    let before = g.L.LinkStore.line c.args.line.now in
    let after = g.L.LinkStore.line c.pull_bytes.new.line in
    stopped Unit Far c.in-Err.fault c.stop_by.result (Goes (Pull c.args.dir c.args.most ∷ []) old (record old { far = c.pull_bytes.new.side }) before after) c.stop_by.ensures
    (λ some. subst (λ (dir : Direction). Goes (Pull dir c.args.most ∷ []) old (record old { far = c.pull_bytes.new.side }) before after (Some (record { side = Far; fault = c.in-Err.fault }))) (sym c.in-Up.is)
    (λ ready. pull_far c.ready_goes_on.ensures old c.pull_bytes.new.side before after c.args.most (Some c.in-Err.fault) c.if-not-self.false ready
    (subst (λ (dir : Direction). Came c.args.most old.last dir old.far c.pull_bytes.new.side before after (Some c.in-Err.fault)) c.in-Up.is (c.in-Err.ensures some))))

pub returns-in-Ok-pull_bytes : goal.returns-in-Ok-pull_bytes
returns-in-Ok-pull_bytes g c =
    let old : Run = c.args.self.now in
    let before = g.L.LinkStore.line c.args.line.now in
    let after = g.L.LinkStore.line c.pull_bytes-in-Down.new.line in
    subst (λ (dir : Direction). Goes (Pull dir c.args.most ∷ []) old (record old { near = c.pull_bytes-in-Down.new.side }) before after None) (sym c.in-Down.is)
    (λ ready. pull_near c.ready_goes_on.ensures old c.pull_bytes-in-Down.new.side before after c.args.most None c.if-not-self.false ready
    (subst (λ (dir : Direction). Came c.args.most old.last dir old.near c.pull_bytes-in-Down.new.side before after None) c.in-Down.is c.in-Ok-pull_bytes.ensures))

pub returns-in-Err-pull_bytes : goal.returns-in-Err-pull_bytes
returns-in-Err-pull_bytes g c =
    let old : Run = c.args.self.now in
    let before = g.L.LinkStore.line c.args.line.now in
    let after = g.L.LinkStore.line c.pull_bytes-in-Down.new.line in
    stopped Unit Near c.in-Err-pull_bytes.fault c.stop_by-in-Err-pull_bytes.result (Goes (Pull c.args.dir c.args.most ∷ []) old (record old { near = c.pull_bytes-in-Down.new.side }) before after) c.stop_by-in-Err-pull_bytes.ensures
    (λ some. subst (λ (dir : Direction). Goes (Pull dir c.args.most ∷ []) old (record old { near = c.pull_bytes-in-Down.new.side }) before after (Some (record { side = Near; fault = c.in-Err-pull_bytes.fault }))) (sym c.in-Down.is)
    (λ ready. pull_near c.ready_goes_on.ensures old c.pull_bytes-in-Down.new.side before after c.args.most (Some c.in-Err-pull_bytes.fault) c.if-not-self.false ready
    (subst (λ (dir : Direction). Came c.args.most old.last dir old.near c.pull_bytes-in-Down.new.side before after (Some c.in-Err-pull_bytes.fault)) c.in-Down.is (c.in-Err-pull_bytes.ensures some))))
