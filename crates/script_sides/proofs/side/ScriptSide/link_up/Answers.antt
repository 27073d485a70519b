use Rattle.std.proofs.Common.{◌≡◌, false, sym, ap, subst, ◌∙◌}
use Rattle.script_sides.specs.Sided.{state_of, is_up}
use Rattle.script_sides.specs.Linked.{LinesUp, LeavesUp}
use Rattle.script_sides.proofs.Links.{with_trail, up_lines, up_limited, up_leaves}
use Rattle.script_sides.specs.Sided.{SideRun}
use Rattle.script_sides.specs.Ready.{IsReady}
use Rattle.script_sides.proofs.side.ScriptSide.link_up.Goals as goal

pub returns-clause-lines : goal.returns-clause-lines
returns-clause-lines c =
    let it : SideRun = record { trail = c.self.inside.trail; peer = c.self.inside.peer; half = c.self.inside.half; asked = c.self.inside.asked } in
    let h : IsReady it = subst (λ (x : SideRun). IsReady x) (sym c.self.view_is) c.requires.ready in
    let down : is_up it ≡ false = ap is_up c.self.view_is ∙ c.requires.down in
    subst (λ (x : SideRun). LinesUp c.args.connection (state_of x) (state_of (with_trail c.link_up-answer.new.self it)) c.link_up-answer.result) c.self.view_is (up_lines it c.link_up-answer.new.self c.args.connection c.link_up-answer.result h down c.link_up-answer.ensures.calls)

pub returns-clause-limits : goal.returns-clause-limits
returns-clause-limits c =
    let it : SideRun = record { trail = c.self.inside.trail; peer = c.self.inside.peer; half = c.self.inside.half; asked = c.self.inside.asked } in
    let h : IsReady it = subst (λ (x : SideRun). IsReady x) (sym c.self.view_is) c.requires.ready in
    let down : is_up it ≡ false = ap is_up c.self.view_is ∙ c.requires.down in
    up_limited it c.link_up-answer.new.self c.args.connection c.link_up-answer.result h down c.link_up-answer.ensures.calls

pub returns-clause-leaves : goal.returns-clause-leaves
returns-clause-leaves c =
    let it : SideRun = record { trail = c.self.inside.trail; peer = c.self.inside.peer; half = c.self.inside.half; asked = c.self.inside.asked } in
    let h : IsReady it = subst (λ (x : SideRun). IsReady x) (sym c.self.view_is) c.requires.ready in
    let down : is_up it ≡ false = ap is_up c.self.view_is ∙ c.requires.down in
    subst (λ (x : SideRun). LeavesUp c.link_up-answer.result x (with_trail c.link_up-answer.new.self it)) c.self.view_is (up_leaves it c.link_up-answer.new.self c.args.connection c.link_up-answer.result h down c.stands.ensures c.link_up-answer.ensures.calls)
