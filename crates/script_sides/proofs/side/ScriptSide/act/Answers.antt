use Rattle.std.proofs.Common.{sym, subst}
use Rattle.script_sides.proofs.Acting.{ok_more, act_ready}
use Rattle.script_sides.specs.Sided.{SideRun}
use Rattle.script_sides.specs.Ready.{IsReady}
use Rattle.script_sides.proofs.side.ScriptSide.act.Goals as goal

pub returns-clause-ready : goal.returns-clause-ready
returns-clause-ready c =
    let it : SideRun = record { trail = c.self.inside.trail; peer = c.self.inside.peer; half = c.self.inside.half; asked = c.self.inside.asked } in
    let h : IsReady it = subst (λ (x : SideRun). IsReady x) (sym c.self.view_is) c.requires in
    ok_more c.act.result (act_ready it c.args.what.now c.act.new.self h) c.act.ensures
