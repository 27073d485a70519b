use Rattle.std.proofs.Common.{◌≡◌, sym, ap, subst, ◌∙◌}
use Rattle.script_sides.specs.Sided.{state_of}
use Rattle.side_model.specs.Trails.{trail_step}
use Rattle.side_model.specs.Events.{Down}
use Rattle.script_sides.proofs.Links.{running, down_ready, down_same, down_down}
use Rattle.script_sides.specs.Sided.{SideRun}
use Rattle.script_sides.specs.Ready.{IsReady}
use Rattle.script_sides.proofs.side.ScriptSide.link_down.Goals as goal

pub returns-clause-same : goal.returns-clause-same
returns-clause-same c =
    let it : SideRun = record { trail = c.self.inside.trail; peer = c.self.inside.peer; half = c.self.inside.half; asked = c.self.inside.asked } in
    let h : IsReady it = subst (λ (x : SideRun). IsReady x) (sym c.self.view_is) c.requires in
    let e : c.link_down.new.self ≡ trail_step Down it.trail = running it.trail.fault _ _ h.sound.runs.goes_on c.link_down.ensures in
    down_same it c.link_down.new.self e ∙ ap state_of c.self.view_is

pub returns-clause-ready : goal.returns-clause-ready
returns-clause-ready c =
    let it : SideRun = record { trail = c.self.inside.trail; peer = c.self.inside.peer; half = c.self.inside.half; asked = c.self.inside.asked } in
    let h : IsReady it = subst (λ (x : SideRun). IsReady x) (sym c.self.view_is) c.requires in
    let e : c.link_down.new.self ≡ trail_step Down it.trail = running it.trail.fault _ _ h.sound.runs.goes_on c.link_down.ensures in
    down_ready it c.link_down.new.self h e c.stands.ensures

pub returns-clause-down : goal.returns-clause-down
returns-clause-down c =
    let it : SideRun = record { trail = c.self.inside.trail; peer = c.self.inside.peer; half = c.self.inside.half; asked = c.self.inside.asked } in
    let h : IsReady it = subst (λ (x : SideRun). IsReady x) (sym c.self.view_is) c.requires in
    let e : c.link_down.new.self ≡ trail_step Down it.trail = running it.trail.fault _ _ h.sound.runs.goes_on c.link_down.ensures in
    down_down it c.link_down.new.self e
