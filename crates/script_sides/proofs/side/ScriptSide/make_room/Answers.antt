use Rattle.std.proofs.Common.{◌≡◌, OnOk, sym, subst}
use Rattle.script_sides.specs.Sided.{lent_of}
use Rattle.script_sides.specs.Answering.{Leaves}
use Rattle.script_sides.proofs.Links.{with_trail, room_lent, room_refuses, room_leaves}
use Rattle.script_sides.specs.Sided.{SideRun}
use Rattle.script_sides.specs.Ready.{IsReady}
use Rattle.script_sides.proofs.side.ScriptSide.make_room.Goals as goal

pub returns-clause-lent : goal.returns-clause-lent
returns-clause-lent c =
    let it : SideRun = record { trail = c.self.inside.trail; peer = c.self.inside.peer; half = c.self.inside.half; asked = c.self.inside.asked } in
    let h : IsReady it = subst (λ (x : SideRun). IsReady x) (sym c.self.view_is) c.requires in
    subst (λ (x : SideRun). OnOk c.make_room-answer.result (lent_of (with_trail c.make_room-answer.new.self it) ≡ lent_of x)) c.self.view_is (room_lent it c.make_room-answer.new.self c.make_room-answer.result h c.make_room-answer.ensures)

pub returns-clause-leaves : goal.returns-clause-leaves
returns-clause-leaves c =
    let it : SideRun = record { trail = c.self.inside.trail; peer = c.self.inside.peer; half = c.self.inside.half; asked = c.self.inside.asked } in
    let h : IsReady it = subst (λ (x : SideRun). IsReady x) (sym c.self.view_is) c.requires in
    subst (λ (x : SideRun). Leaves c.make_room-answer.result x (with_trail c.make_room-answer.new.self it)) c.self.view_is (room_leaves it c.make_room-answer.new.self c.make_room-answer.result h c.stands.ensures c.make_room-answer.ensures)

pub returns-clause-refuses : goal.returns-clause-refuses
returns-clause-refuses c =
    let it : SideRun = record { trail = c.self.inside.trail; peer = c.self.inside.peer; half = c.self.inside.half; asked = c.self.inside.asked } in
    let h : IsReady it = subst (λ (x : SideRun). IsReady x) (sym c.self.view_is) c.requires in
    room_refuses it c.make_room-answer.new.self c.make_room-answer.result h c.make_room-answer.ensures
