use Rattle.std.proofs.Common.{subst, arith, Err, Some}
use Rattle.side_model.specs.Events.{Came}
use Rattle.side_model.specs.Trails.{TrailState, TrailCalls}
use Rattle.proxy_trail.specs.Kept.{state_of}
use Rattle.proxy_trail.proofs.Calling.{Answered, few_made, good_notes}
use Rattle.proxy_trail.proofs.Linking.{Brings, came_context, came_answered, came_refused}
use Rattle.proxy_trail.proofs.trail.Trail.feed_link.Goals as goal

pub feed_link-answer-requires : goal.feed_link-answer-requires
feed_link-answer-requires c = few_made (state_of c.self.inside.proxy c.self.inside.book c.self.inside.fault) c.self.invariant.keeps c.in_default.is

pub settle-result-requires-clause-notes : goal.settle-result-requires-clause-notes
settle-result-requires-clause-notes c =
    let b : Brings (Came c.args.piece.now) (state_of c.self.inside.proxy c.self.inside.book c.self.inside.fault) c.record_read.new.book =
    came_context c.args.piece.now (state_of c.self.inside.proxy c.self.inside.book c.self.inside.fault) c.self.inside.up c.close_room.new.self c.record_read.new.book c.self.invariant.keeps c.in_default.is (λ i. omega (arith, c.type_inv.piece i)) (c.self.invariant.here c.in_default.is) c.close_room.ensures c.in-Ok.ensures.up c.in-Ok.ensures.same in
    good_notes (Came c.args.piece.now) c.feed_link-answer.result (state_of c.self.inside.proxy c.self.inside.book c.self.inside.fault) b.context c.feed_link-answer.ensures.exact.0 c.feed_link-answer.new.self c.feed_link-answer.ensures.exact.1

pub invariant_of-self : goal.invariant_of-self
invariant_of-self c =
    let it : Answered (Came c.args.piece.now) c.settle-result.result (state_of c.self.inside.proxy c.self.inside.book c.self.inside.fault) c.self.inside.up c.settle-result.new.proxy c.settle-result.new.book c.fault_in-self-inside.result =
    came_answered c.args.piece.now c.feed_link-answer.result c.settle-result.result (state_of c.self.inside.proxy c.self.inside.book c.self.inside.fault) c.self.inside.up c.close_room.new.self c.record_read.new.book c.feed_link-answer.new.self c.settle-result.new.proxy
    c.settle-result.new.book c.fault_in-self-inside.result c.self.invariant.keeps c.in_default.is (λ i. omega (arith, c.type_inv.piece i)) (c.self.invariant.here c.in_default.is) c.close_room.ensures c.in-Ok.ensures.up c.in-Ok.ensures.same c.feed_link-answer.ensures.exact c.settle-result.ensures c.fault_in-self-inside.ensures in
    it.kept

pub returns-in-Ok : goal.returns-in-Ok
returns-in-Ok c =
    let it : Answered (Came c.args.piece.now) c.settle-result.result (state_of c.self.inside.proxy c.self.inside.book c.self.inside.fault) c.self.inside.up c.settle-result.new.proxy c.settle-result.new.book c.fault_in-self-inside.result =
    came_answered c.args.piece.now c.feed_link-answer.result c.settle-result.result (state_of c.self.inside.proxy c.self.inside.book c.self.inside.fault) c.self.inside.up c.close_room.new.self c.record_read.new.book c.feed_link-answer.new.self c.settle-result.new.proxy
    c.settle-result.new.book c.fault_in-self-inside.result c.self.invariant.keeps c.in_default.is (λ i. omega (arith, c.type_inv.piece i)) (c.self.invariant.here c.in_default.is) c.close_room.ensures c.in-Ok.ensures.up c.in-Ok.ensures.same c.feed_link-answer.ensures.exact c.settle-result.ensures c.fault_in-self-inside.ensures in
    subst (λ (t : TrailState). TrailCalls (Came c.args.piece.now) c.settle-result.result t (state_of c.settle-result.new.proxy c.settle-result.new.book c.fault_in-self-inside.result)) c.self.view_is it.calls

pub invariant_of-self-in-Err : goal.invariant_of-self-in-Err
invariant_of-self-in-Err c =
    let it : Answered (Came c.args.piece.now) (Err c.reason_of-fault.result) (state_of c.self.inside.proxy c.self.inside.book c.self.inside.fault) c.self.inside.up c.self.inside.proxy c.record_read.new.book (Some c.reason_of-fault.result) =
    came_refused c.args.piece.now c.in-Err.why (state_of c.self.inside.proxy c.self.inside.book c.self.inside.fault) c.self.inside.up c.close_room.new.self c.record_read.new.book c.reason_of-fault.result c.self.invariant.keeps c.in_default.is (λ i. omega (arith, c.type_inv.piece i)) (c.self.invariant.here c.in_default.is) c.close_room.ensures c.in-Err.ensures.up c.in-Err.ensures.down c.reason_of-fault.ensures in
    it.kept

pub returns-in-Err : goal.returns-in-Err
returns-in-Err c =
    let it : Answered (Came c.args.piece.now) (Err c.reason_of-fault.result) (state_of c.self.inside.proxy c.self.inside.book c.self.inside.fault) c.self.inside.up c.self.inside.proxy c.record_read.new.book (Some c.reason_of-fault.result) =
    came_refused c.args.piece.now c.in-Err.why (state_of c.self.inside.proxy c.self.inside.book c.self.inside.fault) c.self.inside.up c.close_room.new.self c.record_read.new.book c.reason_of-fault.result c.self.invariant.keeps c.in_default.is (λ i. omega (arith, c.type_inv.piece i)) (c.self.invariant.here c.in_default.is) c.close_room.ensures c.in-Err.ensures.up c.in-Err.ensures.down c.reason_of-fault.ensures in
    subst (λ (t : TrailState). TrailCalls (Came c.args.piece.now) (Err c.reason_of-fault.result) t (state_of c.self.inside.proxy c.record_read.new.book (Some c.reason_of-fault.result))) c.self.view_is it.calls
