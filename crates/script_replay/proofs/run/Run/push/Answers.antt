use Rattle.std.proofs.Common.{[], ◌∷◌, Some, None, sym, subst}
use Rattle.wp_outside.specs.declared.kinds.Direction.{Direction}
use Rattle.wp_outside.specs.declared.kinds.Side.TheVariants.{Near, Far}
use Rattle.pair_runs.specs.Moves.{Push}
use Rattle.script_replay.specs.Going.{Goes}
use Rattle.script_replay.specs.Sending.{Sends}
use Rattle.script_replay.specs.declared.run.Run.{Run}
use Rattle.script_replay.proofs.Crossing.{runs_up, push_near, push_far, push_none}
use Rattle.script_replay.proofs.Keeping.{stopped}
use Rattle.script_replay.proofs.run.Run.push.Goals as goal

pub returns-then-not-self : goal.returns-then-not-self
returns-then-not-self g c = λ ready. push_none c.ready_goes_on.ensures c.args.dir c.args.most c.args.self.now (g.L.LinkStore.line c.args.line.now) c.if-not-self.true ready

pub push_bytes-requires : goal.push_bytes-requires
push_bytes-requires g c = record {
  side = runs_up Near c.args.self.now.near c.args.self.now.last c.args.self.now.up c.if-not-self.false (c.requires.some c.if-not-self.false) c.requires.aside.near;
  holds = c.requires.holds c.if-not-self.false;
}

pub push_bytes-requires-in-Down : goal.push_bytes-requires-in-Down
push_bytes-requires-in-Down g c = record {
  side = runs_up Far c.args.self.now.far c.args.self.now.last c.args.self.now.up c.if-not-self.false (c.requires.some c.if-not-self.false) c.requires.aside.far;
  holds = c.requires.holds c.if-not-self.false;
}

pub returns-in-Ok : goal.returns-in-Ok
returns-in-Ok g c =
    let old : Run = c.args.self.now in
    let before = g.L.LinkStore.line c.args.line.now in
    let after = g.L.LinkStore.line c.push_bytes.new.line in
    subst (λ (dir : Direction). Goes (Push dir c.args.most ∷ []) old (record old { near = c.push_bytes.new.side }) before after None) (sym c.in-Up.is)
    (λ ready. push_near c.ready_goes_on.ensures old c.push_bytes.new.side before after c.args.most None c.if-not-self.false ready
    (subst (λ (dir : Direction). Sends c.args.most old.last dir old.near c.push_bytes.new.side before after None) c.in-Up.is c.in-Ok.ensures))

pub returns-in-Err : goal.returns-in-Err
returns-in-Err g c =
    let old : Run = c.args.self.now in
    let before = g.L.LinkStore.line c.args.line.now in
    let after = g.L.LinkStore.line c.push_bytes.new.line in
    stopped Unit Near c.in-Err.fault c.stop_by.result (Goes (Push c.args.dir c.args.most ∷ []) old (record old { near = c.push_bytes.new.side }) before after) c.stop_by.ensures
    (λ some. subst (λ (dir : Direction). Goes (Push dir c.args.most ∷ []) old (record old { near = c.push_bytes.new.side }) before after (Some (record { side = Near; fault = c.in-Err.fault }))) (sym c.in-Up.is)
    (λ ready. push_near c.ready_goes_on.ensures old c.push_bytes.new.side before after c.args.most (Some c.in-Err.fault) c.if-not-self.false ready
    (subst (λ (dir : Direction). Sends c.args.most old.last dir old.near c.push_bytes.new.side before after (Some c.in-Err.fault)) c.in-Up.is (c.in-Err.ensures some))))

pub returns-in-Ok-push_bytes : goal.returns-in-Ok-push_bytes
returns-in-Ok-push_bytes g c =
    let old : Run = c.args.self.now in
    let before = g.L.LinkStore.line c.args.line.now in
    let after = g.L.LinkStore.line c.push_bytes-in-Down.new.line in
    subst (λ (dir : Direction). Goes (Push dir c.args.most ∷ []) old (record old { far = c.push_bytes-in-Down.new.side }) before after None) (sym c.in-Down.is)
    (λ ready. push_far c.ready_goes_on.ensures old c.push_bytes-in-Down.new.side before after c.args.most None c.if-not-self.false ready
    (subst (λ (dir : Direction). Sends c.args.most old.last dir old.far c.push_bytes-in-Down.new.side before after None) c.in-Down.is c.in-Ok-push_bytes.ensures))

pub returns-in-Err-push_bytes : goal.returns-in-Err-push_bytes
returns-in-Err-push_bytes g c =
    let old : Run = c.args.self.now in
    let before = g.L.LinkStore.line c.args.line.now in
    let after = g.L.LinkStore.line c.push_bytes-in-Down.new.line in
    stopped Unit Far c.in-Err-push_bytes.fault c.stop_by-in-Err-push_bytes.result (Goes (Push c.args.dir c.args.most ∷ []) old (record old { far = c.push_bytes-in-Down.new.side }) before after) c.stop_by-in-Err-push_bytes.ensures
    (λ some. subst (λ (dir : Direction). Goes (Push dir c.args.most ∷ []) old (record old { far = c.push_bytes-in-Down.new.side }) before after (Some (record { side = Far; fault = c.in-Err-push_bytes.fault }))) (sym c.in-Down.is)
    (λ ready. push_far c.ready_goes_on.ensures old c.push_bytes-in-Down.new.side before after c.args.most (Some c.in-Err-push_bytes.fault) c.if-not-self.false ready
    (subst (λ (dir : Direction). Sends c.args.most old.last dir old.far c.push_bytes-in-Down.new.side before after (Some c.in-Err-push_bytes.fault)) c.in-Down.is (c.in-Err-push_bytes.ensures some))))
