use Rattle.std.proofs.Common.{◌≡◌, false, None, Result, Err, sym, subst, ◌∙◌}
use Rattle.std.proofs.lemmas.Result.{err_from_is_err_and}
use Rattle.script_sides.specs.Sided.{state_of}
use Rattle.script_sides.specs.Answering.{Leaves, Stays, Answers}
use Rattle.side_model.specs.declared.fault.ProxyFault.{ProxyFault}
use Rattle.pair_runs.specs.Moves.{ClosedBy}
use Rattle.pair_runs.specs.Sides.{asked}
use Rattle.script_sides.proofs.Calls.{asking, word_0, ended, asks_brought, asks_stops, asks_fell, closes, closes_not}
use Rattle.script_sides.specs.Sided.{SideRun}
use Rattle.script_sides.specs.Ready.{IsReady}
use Rattle.script_sides.proofs.side.ScriptSide.close.Goals as goal

pub returns-in_err-answer-clause-closes : goal.returns-in_err-answer-clause-closes
returns-in_err-answer-clause-closes c =
    let it : SideRun = record { trail = c.self.inside.trail; peer = c.self.inside.peer; half = c.self.inside.half; asked = c.self.inside.asked } in
    let h : IsReady it = subst (λ (x : SideRun). IsReady x) (sym c.self.view_is) c.requires in
    let none : (state_of it).inside.asked ≡ false = sym h.sound.asked ∙ c.if-self.false in
    let p = err_from_is_err_and c.from_residual.result c.from_residual.ensures.1 in
    rw (p.1, p.2)
    (let failed : Result Unit ProxyFault = Err c.in_err-answer.field-0.0 in
    subst (λ (x : SideRun). Answers failed (λ stop. ClosedBy (state_of x).inside.asked stop (state_of x) (state_of (asking c.close-answer.new.self it)))) c.self.view_is
    (λ n. closes_not c.in_err-answer.field-0.0 (state_of it) (state_of (asking c.close-answer.new.self it)) none (asks_stops 0 it c.close-answer.new.self c.in_err-answer.field-0.0 h word_0 c.in_err-answer.ensures)))

pub returns-in_err-answer-clause-leaves : goal.returns-in_err-answer-clause-leaves
returns-in_err-answer-clause-leaves c =
    let it : SideRun = record { trail = c.self.inside.trail; peer = c.self.inside.peer; half = c.self.inside.half; asked = c.self.inside.asked } in
    let h : IsReady it = subst (λ (x : SideRun). IsReady x) (sym c.self.view_is) c.requires in
    let p = err_from_is_err_and c.from_residual.result c.from_residual.ensures.1 in
    rw (p.1, p.2)
    (let failed : Result Unit ProxyFault = Err c.in_err-answer.field-0.0 in
    subst (λ (x : SideRun). Leaves failed x (asking c.close-answer.new.self it)) c.self.view_is
    (λ n. asks_fell 0 it c.close-answer.new.self c.in_err-answer.field-0.0 h c.stands.ensures c.in_err-answer.ensures))

pub give-requires : goal.give-requires
give-requires c =
    let it : SideRun = record { trail = c.self.inside.trail; peer = c.self.inside.peer; half = c.self.inside.half; asked = c.self.inside.asked } in
    let h : IsReady it = subst (λ (x : SideRun). IsReady x) (sym c.self.view_is) c.requires in
    (asks_brought 0 it c.close-answer.new.self h word_0 c.stands.ensures c.in_ok-answer.ensures).sound

pub returns-in-Ok-clause-closes : goal.returns-in-Ok-clause-closes
returns-in-Ok-clause-closes c =
    let it : SideRun = record { trail = c.self.inside.trail; peer = c.self.inside.peer; half = c.self.inside.half; asked = c.self.inside.asked } in
    let h : IsReady it = subst (λ (x : SideRun). IsReady x) (sym c.self.view_is) c.requires in
    let none : (state_of it).inside.asked ≡ false = sym h.sound.asked ∙ c.if-self.false in
    let all = ended false (asked (state_of it)) it (asking c.close-answer.new.self it) c.give.new.self
    (asks_brought 0 it c.close-answer.new.self h word_0 c.stands.ensures c.in_ok-answer.ensures) c.in-Ok.ensures.gives c.in-Ok.ensures.ready in
    subst (λ (x : SideRun). ClosedBy (state_of x).inside.asked None (state_of x) (state_of c.give.new.self)) c.self.view_is (closes (state_of it) (state_of c.give.new.self) none all.works)

pub returns-in-Ok-clause-leaves : goal.returns-in-Ok-clause-leaves
returns-in-Ok-clause-leaves c =
    let it : SideRun = record { trail = c.self.inside.trail; peer = c.self.inside.peer; half = c.self.inside.half; asked = c.self.inside.asked } in
    let h : IsReady it = subst (λ (x : SideRun). IsReady x) (sym c.self.view_is) c.requires in
    let all = ended false (asked (state_of it)) it (asking c.close-answer.new.self it) c.give.new.self
    (asks_brought 0 it c.close-answer.new.self h word_0 c.stands.ensures c.in_ok-answer.ensures) c.in-Ok.ensures.gives c.in-Ok.ensures.ready in
    subst (λ (x : SideRun). Stays x c.give.new.self) c.self.view_is all.stays
