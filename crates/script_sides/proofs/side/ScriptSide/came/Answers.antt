use Rattle.std.proofs.Common.{◌≡◌, true, Result, Err, arith, sym, ap, subst, ◌∙◌}
use Rattle.std.proofs.lemmas.Result.{err_from_is_err_and}
use Rattle.script_sides.specs.Sided.{state_of, is_up}
use Rattle.script_sides.specs.Answering.{Leaves, Stays}
use Rattle.script_sides.proofs.Links.{with_trail}
use Rattle.side_model.specs.declared.fault.ProxyFault.{ProxyFault}
use Rattle.pair_runs.specs.Linking.{read}
use Rattle.pair_runs.specs.Working.{Works}
use Rattle.script_sides.specs.Linked.{Hears}
use Rattle.script_sides.proofs.Calls.{ended, came_brought, came_stops, came_fell}
use Rattle.script_sides.specs.Sided.{SideRun}
use Rattle.script_sides.specs.Ready.{IsReady}
use Rattle.script_sides.proofs.side.ScriptSide.came.Goals as goal

pub returns-in_err-answer-clause-hears : goal.returns-in_err-answer-clause-hears
returns-in_err-answer-clause-hears c =
    let it : SideRun = record { trail = c.self.inside.trail; peer = c.self.inside.peer; half = c.self.inside.half; asked = c.self.inside.asked } in
    let h : IsReady it = subst (λ (x : SideRun). IsReady x) (sym c.self.view_is) c.requires.ready in
    let up : is_up it ≡ true = ap is_up c.self.view_is ∙ c.requires.up in
    let p = err_from_is_err_and c.from_residual.result c.from_residual.ensures.1 in
    rw (p.1, p.2)
    (subst (λ (x : SideRun). Hears c.args.piece.now (state_of x) (state_of (with_trail c.feed_link-answer.new.self it)) (Err c.in_err-answer.field-0.0)) c.self.view_is
    (came_stops c.args.piece.now it c.feed_link-answer.new.self c.in_err-answer.field-0.0 h (λ i. omega (arith, c.type_inv.piece i)) up c.in_err-answer.ensures))

pub returns-in_err-answer-clause-leaves : goal.returns-in_err-answer-clause-leaves
returns-in_err-answer-clause-leaves c =
    let it : SideRun = record { trail = c.self.inside.trail; peer = c.self.inside.peer; half = c.self.inside.half; asked = c.self.inside.asked } in
    let h : IsReady it = subst (λ (x : SideRun). IsReady x) (sym c.self.view_is) c.requires.ready in
    let p = err_from_is_err_and c.from_residual.result c.from_residual.ensures.1 in
    rw (p.1, p.2)
    (let failed : Result Unit ProxyFault = Err c.in_err-answer.field-0.0 in
    subst (λ (x : SideRun). Leaves failed x (with_trail c.feed_link-answer.new.self it)) c.self.view_is
    (λ n. came_fell c.args.piece.now it c.feed_link-answer.new.self c.in_err-answer.field-0.0 h c.stands.ensures c.in_err-answer.ensures))

pub give-requires : goal.give-requires
give-requires c =
    let it : SideRun = record { trail = c.self.inside.trail; peer = c.self.inside.peer; half = c.self.inside.half; asked = c.self.inside.asked } in
    let h : IsReady it = subst (λ (x : SideRun). IsReady x) (sym c.self.view_is) c.requires.ready in
    let up : is_up it ≡ true = ap is_up c.self.view_is ∙ c.requires.up in
    (came_brought c.args.piece.now it c.feed_link-answer.new.self h (λ i. omega (arith, c.type_inv.piece i)) up c.stands.ensures c.in_ok-answer.ensures).sound

pub returns-in-Ok-clause-hears : goal.returns-in-Ok-clause-hears
returns-in-Ok-clause-hears c =
    let it : SideRun = record { trail = c.self.inside.trail; peer = c.self.inside.peer; half = c.self.inside.half; asked = c.self.inside.asked } in
    let h : IsReady it = subst (λ (x : SideRun). IsReady x) (sym c.self.view_is) c.requires.ready in
    let up : is_up it ≡ true = ap is_up c.self.view_is ∙ c.requires.up in
    let all = ended true (read c.args.piece.now (state_of it)) it (with_trail c.feed_link-answer.new.self it) c.give.new.self
    (came_brought c.args.piece.now it c.feed_link-answer.new.self h (λ i. omega (arith, c.type_inv.piece i)) up c.stands.ensures c.in_ok-answer.ensures) c.in-Ok.ensures.gives c.in-Ok.ensures.ready in
    subst (λ (x : SideRun). Works true (read c.args.piece.now (state_of x)) (state_of c.give.new.self)) c.self.view_is all.works

pub returns-in-Ok-clause-leaves : goal.returns-in-Ok-clause-leaves
returns-in-Ok-clause-leaves c =
    let it : SideRun = record { trail = c.self.inside.trail; peer = c.self.inside.peer; half = c.self.inside.half; asked = c.self.inside.asked } in
    let h : IsReady it = subst (λ (x : SideRun). IsReady x) (sym c.self.view_is) c.requires.ready in
    let up : is_up it ≡ true = ap is_up c.self.view_is ∙ c.requires.up in
    let all = ended true (read c.args.piece.now (state_of it)) it (with_trail c.feed_link-answer.new.self it) c.give.new.self
    (came_brought c.args.piece.now it c.feed_link-answer.new.self h (λ i. omega (arith, c.type_inv.piece i)) up c.stands.ensures c.in_ok-answer.ensures) c.in-Ok.ensures.gives c.in-Ok.ensures.ready in
    subst (λ (x : SideRun). Stays x c.give.new.self) c.self.view_is all.stays
