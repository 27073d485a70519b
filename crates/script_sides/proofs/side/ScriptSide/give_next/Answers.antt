use Rattle.std.proofs.Common.{sym, subst}
use Rattle.script_sides.proofs.Gives.{sound_given, sound_less}
use Rattle.script_sides.specs.Sided.{SideRun}
use Rattle.script_sides.specs.Ready.{IsSound}
use Rattle.script_sides.proofs.side.ScriptSide.give_next.Goals as goal

pub returns-in_ok-given-in-Some-clause-sound : goal.returns-in_ok-given-in-Some-clause-sound
returns-in_ok-given-in-Some-clause-sound c =
    let it : SideRun = record { trail = c.self.inside.trail; peer = c.self.inside.peer; half = c.self.inside.half; asked = c.self.inside.asked } in
    let s : IsSound it = subst (λ (x : SideRun). IsSound x) (sym c.self.view_is) c.requires in
    sound_given c.in-Some.item it c.peer_out-item.new.self c.given.new.self s c.peer_out-item.ensures.rest c.stands.ensures c.in_ok-given-in-Some.ensures.ok

pub returns-in-None-clause-sound : goal.returns-in-None-clause-sound
returns-in-None-clause-sound c =
    let it : SideRun = record { trail = c.self.inside.trail; peer = c.self.inside.peer; half = c.self.inside.half; asked = c.self.inside.asked } in
    let s : IsSound it = subst (λ (x : SideRun). IsSound x) (sym c.self.view_is) c.requires in
    sound_less it c.peer_out-item.new.self s c.peer_out-item.ensures.rest c.stands.ensures
