use Rattle.std.proofs.Common.{◌≡◌, true, false, Result, Err, sym, subst}
use Rattle.std.proofs.lemmas.Result.{err_from_is_err_and}
use Rattle.script_sides.specs.Sided.{state_of}
use Rattle.script_sides.specs.Answering.{Leaves, Stays}
use Rattle.script_sides.proofs.Links.{with_trail}
use Rattle.side_model.specs.declared.fault.ProxyFault.{ProxyFault}
use Rattle.pair_runs.specs.Sides.{fed, wants}
use Rattle.pair_runs.specs.Working.{Works}
use Rattle.receipt_laws.specs.Owning.{PutIsOwn}
use Rattle.script_sides.specs.Ready.{OwnOf}
use Rattle.script_sides.specs.Takings.{Feeds}
use Rattle.script_sides.proofs.Calls.{ended, fed_brought, fed_stops, fed_fell, wants_of, admits_fed}
use Rattle.script_sides.specs.Sided.{SideRun}
use Rattle.script_sides.specs.Ready.{IsReady}
use Rattle.script_sides.proofs.side.ScriptSide.feed.Goals as goal

pub feed_peer-answer-requires-clause-wants : goal.feed_peer-answer-requires-clause-wants
feed_peer-answer-requires-clause-wants c =
    let it : SideRun = record { trail = c.self.inside.trail; peer = c.self.inside.peer; half = c.self.inside.half; asked = c.self.inside.asked } in
    let h : IsReady it = subst (λ (x : SideRun). IsReady x) (sym c.self.view_is) c.requires.ready in
    let own : PutIsOwn (OwnOf it.peer) c.args.item = subst (λ (x : SideRun). PutIsOwn (OwnOf x.peer) c.args.item) (sym c.self.view_is) c.requires.own in
    wants_of it h (subst (λ (x : SideRun). wants (state_of x) ≡ true) (sym c.self.view_is) c.requires.wants)

pub returns-in_err-answer-clause-works : goal.returns-in_err-answer-clause-works
returns-in_err-answer-clause-works c =
    let it : SideRun = record { trail = c.self.inside.trail; peer = c.self.inside.peer; half = c.self.inside.half; asked = c.self.inside.asked } in
    let h : IsReady it = subst (λ (x : SideRun). IsReady x) (sym c.self.view_is) c.requires.ready in
    let own : PutIsOwn (OwnOf it.peer) c.args.item = subst (λ (x : SideRun). PutIsOwn (OwnOf x.peer) c.args.item) (sym c.self.view_is) c.requires.own in
    let p = err_from_is_err_and c.from_residual.result c.from_residual.ensures.1 in
    rw (p.1, p.2)
    (subst (λ (x : SideRun). Feeds c.args.item (Err c.in_err-answer.field-0.0) (state_of x) (state_of (with_trail c.feed_peer-answer.new.self it))) c.self.view_is
    (λ n. fed_stops c.args.item it c.feed_peer-answer.new.self c.in_err-answer.field-0.0 h (admits_fed c.args.item it h (subst (λ (x : SideRun). wants (state_of x) ≡ true) (sym c.self.view_is) c.requires.wants) c.requires.item) c.in_err-answer.ensures))

pub returns-in_err-answer-clause-leaves : goal.returns-in_err-answer-clause-leaves
returns-in_err-answer-clause-leaves c =
    let it : SideRun = record { trail = c.self.inside.trail; peer = c.self.inside.peer; half = c.self.inside.half; asked = c.self.inside.asked } in
    let h : IsReady it = subst (λ (x : SideRun). IsReady x) (sym c.self.view_is) c.requires.ready in
    let own : PutIsOwn (OwnOf it.peer) c.args.item = subst (λ (x : SideRun). PutIsOwn (OwnOf x.peer) c.args.item) (sym c.self.view_is) c.requires.own in
    let p = err_from_is_err_and c.from_residual.result c.from_residual.ensures.1 in
    rw (p.1, p.2)
    (let failed : Result Unit ProxyFault = Err c.in_err-answer.field-0.0 in
    subst (λ (x : SideRun). Leaves failed x (with_trail c.feed_peer-answer.new.self it)) c.self.view_is
    (λ n. fed_fell c.args.item it c.feed_peer-answer.new.self c.in_err-answer.field-0.0 h c.stands.ensures c.in_err-answer.ensures))

pub give-requires : goal.give-requires
give-requires c =
    let it : SideRun = record { trail = c.self.inside.trail; peer = c.self.inside.peer; half = c.self.inside.half; asked = c.self.inside.asked } in
    let h : IsReady it = subst (λ (x : SideRun). IsReady x) (sym c.self.view_is) c.requires.ready in
    let own : PutIsOwn (OwnOf it.peer) c.args.item = subst (λ (x : SideRun). PutIsOwn (OwnOf x.peer) c.args.item) (sym c.self.view_is) c.requires.own in
    (fed_brought c.args.item it c.feed_peer-answer.new.self h (admits_fed c.args.item it h (subst (λ (x : SideRun). wants (state_of x) ≡ true) (sym c.self.view_is) c.requires.wants) c.requires.item) own c.stands.ensures c.in_ok-answer.ensures).sound

pub returns-in-Ok-clause-works : goal.returns-in-Ok-clause-works
returns-in-Ok-clause-works c =
    let it : SideRun = record { trail = c.self.inside.trail; peer = c.self.inside.peer; half = c.self.inside.half; asked = c.self.inside.asked } in
    let h : IsReady it = subst (λ (x : SideRun). IsReady x) (sym c.self.view_is) c.requires.ready in
    let own : PutIsOwn (OwnOf it.peer) c.args.item = subst (λ (x : SideRun). PutIsOwn (OwnOf x.peer) c.args.item) (sym c.self.view_is) c.requires.own in
    let all = ended false (fed c.args.item (state_of it)) it (with_trail c.feed_peer-answer.new.self it) c.give.new.self
    (fed_brought c.args.item it c.feed_peer-answer.new.self h (admits_fed c.args.item it h (subst (λ (x : SideRun). wants (state_of x) ≡ true) (sym c.self.view_is) c.requires.wants) c.requires.item) own c.stands.ensures c.in_ok-answer.ensures) c.in-Ok.ensures.gives c.in-Ok.ensures.ready in
    subst (λ (x : SideRun). Works false (fed c.args.item (state_of x)) (state_of c.give.new.self)) c.self.view_is all.works

pub returns-in-Ok-clause-leaves : goal.returns-in-Ok-clause-leaves
returns-in-Ok-clause-leaves c =
    let it : SideRun = record { trail = c.self.inside.trail; peer = c.self.inside.peer; half = c.self.inside.half; asked = c.self.inside.asked } in
    let h : IsReady it = subst (λ (x : SideRun). IsReady x) (sym c.self.view_is) c.requires.ready in
    let own : PutIsOwn (OwnOf it.peer) c.args.item = subst (λ (x : SideRun). PutIsOwn (OwnOf x.peer) c.args.item) (sym c.self.view_is) c.requires.own in
    let all = ended false (fed c.args.item (state_of it)) it (with_trail c.feed_peer-answer.new.self it) c.give.new.self
    (fed_brought c.args.item it c.feed_peer-answer.new.self h (admits_fed c.args.item it h (subst (λ (x : SideRun). wants (state_of x) ≡ true) (sym c.self.view_is) c.requires.wants) c.requires.item) own c.stands.ensures c.in_ok-answer.ensures) c.in-Ok.ensures.gives c.in-Ok.ensures.ready in
    subst (λ (x : SideRun). Stays x c.give.new.self) c.self.view_is all.stays
