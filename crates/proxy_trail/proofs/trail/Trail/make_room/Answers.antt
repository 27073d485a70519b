use Rattle.std.proofs.Common.{subst, Ok, Err, Some}
use Rattle.side_model.specs.Trails.{TrailState, Lends}
use Rattle.proxy_trail.specs.Kept.{state_of}
use Rattle.proxy_trail.proofs.Linking.{LentSo, room_made, room_refused}
use Rattle.proxy_trail.proofs.trail.Trail.make_room.Goals as goal

pub invariant_of-self : goal.invariant_of-self
invariant_of-self c =
    let it : LentSo (Ok tt) (state_of c.self.inside.proxy c.self.inside.book c.self.inside.fault) c.self.inside.up c.make_room.new.self c.self.inside.fault =
    room_made (state_of c.self.inside.proxy c.self.inside.book c.self.inside.fault) c.self.inside.up c.link_out.result.now c.close_room.new.self c.make_room.new.self c.self.invariant.keeps c.in_default.is (c.self.invariant.here c.in_default.is) c.close_room.ensures c.link_out.ensures c.in-Ok.ensures in
    it.kept

pub returns-in-Ok : goal.returns-in-Ok
returns-in-Ok c =
    let it : LentSo (Ok tt) (state_of c.self.inside.proxy c.self.inside.book c.self.inside.fault) c.self.inside.up c.make_room.new.self c.self.inside.fault =
    room_made (state_of c.self.inside.proxy c.self.inside.book c.self.inside.fault) c.self.inside.up c.link_out.result.now c.close_room.new.self c.make_room.new.self c.self.invariant.keeps c.in_default.is (c.self.invariant.here c.in_default.is) c.close_room.ensures c.link_out.ensures c.in-Ok.ensures in
    subst (λ (t : TrailState). Lends (Ok tt) t (state_of c.self.inside.proxy c.make_room.new.self c.self.inside.fault)) c.self.view_is it.lends

pub invariant_of-self-in-Err : goal.invariant_of-self-in-Err
invariant_of-self-in-Err c =
    let it : LentSo (Err c.reason_of-fault.result) (state_of c.self.inside.proxy c.self.inside.book c.self.inside.fault) c.self.inside.up c.make_room.new.self (Some c.reason_of-fault.result) =
    room_refused c.in-Err.why (state_of c.self.inside.proxy c.self.inside.book c.self.inside.fault) c.self.inside.up c.link_out.result.now c.close_room.new.self c.make_room.new.self c.reason_of-fault.result c.self.invariant.keeps c.in_default.is (c.self.invariant.here c.in_default.is) c.close_room.ensures
    c.link_out.ensures c.in-Err.ensures c.reason_of-fault.ensures in
    it.kept

pub returns-in-Err : goal.returns-in-Err
returns-in-Err c =
    let it : LentSo (Err c.reason_of-fault.result) (state_of c.self.inside.proxy c.self.inside.book c.self.inside.fault) c.self.inside.up c.make_room.new.self (Some c.reason_of-fault.result) =
    room_refused c.in-Err.why (state_of c.self.inside.proxy c.self.inside.book c.self.inside.fault) c.self.inside.up c.link_out.result.now c.close_room.new.self c.make_room.new.self c.reason_of-fault.result c.self.invariant.keeps c.in_default.is (c.self.invariant.here c.in_default.is) c.close_room.ensures
    c.link_out.ensures c.in-Err.ensures c.reason_of-fault.ensures in
    subst (λ (t : TrailState). Lends (Err c.reason_of-fault.result) t (state_of c.self.inside.proxy c.make_room.new.self (Some c.reason_of-fault.result))) c.self.view_is it.lends
