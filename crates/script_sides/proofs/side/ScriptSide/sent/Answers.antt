use Rattle.std.proofs.Common.{◌≡◌, true, sym, ap, subst, ◌∙◌}
use Rattle.std.proofs.Common.{take, ◌≤◌}
use Rattle.script_sides.specs.Sided.{state_of, is_up, lent_of, room_of}
use Rattle.pair_runs.specs.Linking.{written}
use Rattle.script_sides.specs.Answering.{Stays}
use Rattle.side_model.specs.Trails.{Sends}
use Rattle.script_sides.proofs.Links.{with_trail, running, sent_is, sent_stays}
use Rattle.script_sides.specs.Sided.{SideRun}
use Rattle.script_sides.specs.Ready.{IsReady}
use Rattle.script_sides.proofs.side.ScriptSide.sent.Goals as goal

pub returns-clause-written : goal.returns-clause-written
returns-clause-written c =
    let it : SideRun = record { trail = c.self.inside.trail; peer = c.self.inside.peer; half = c.self.inside.half; asked = c.self.inside.asked } in
    let h : IsReady it = subst (λ (x : SideRun). IsReady x) (sym c.self.view_is) c.requires.ready in
    let up : is_up it ≡ true = ap is_up c.self.view_is ∙ c.requires.up in
    let few : c.args.count ≤ room_of it = subst (λ (x : SideRun). c.args.count ≤ room_of x) (sym c.self.view_is) c.requires.room in
    let d : Sends c.args.count it.trail c.link_sent.new.self = running it.trail.fault _ _ h.sound.runs.goes_on c.link_sent.ensures in
    sent_is it c.link_sent.new.self c.args.count h up few d ∙ ap (λ (x : SideRun). written (take c.args.count (lent_of x)) (state_of x)) c.self.view_is

pub returns-clause-stays : goal.returns-clause-stays
returns-clause-stays c =
    let it : SideRun = record { trail = c.self.inside.trail; peer = c.self.inside.peer; half = c.self.inside.half; asked = c.self.inside.asked } in
    let h : IsReady it = subst (λ (x : SideRun). IsReady x) (sym c.self.view_is) c.requires.ready in
    let up : is_up it ≡ true = ap is_up c.self.view_is ∙ c.requires.up in
    let few : c.args.count ≤ room_of it = subst (λ (x : SideRun). c.args.count ≤ room_of x) (sym c.self.view_is) c.requires.room in
    let d : Sends c.args.count it.trail c.link_sent.new.self = running it.trail.fault _ _ h.sound.runs.goes_on c.link_sent.ensures in
    subst (λ (x : SideRun). Stays x (with_trail c.link_sent.new.self it)) c.self.view_is (sent_stays it c.link_sent.new.self c.args.count h up few c.stands.ensures d)
