use Rattle.std.proofs.Common.{subst}
use Rattle.side_model.specs.Events.{Asks}
use Rattle.side_model.specs.Trails.{TrailState, TrailCalls}
use Rattle.proxy_trail.specs.Kept.{state_of}
use Rattle.proxy_trail.proofs.Calling.{Answered, answered, few_made, good_notes, asked_begins}
use Rattle.proxy_trail.proofs.trail.Trail.close.Goals as goal

pub close-answer-requires : goal.close-answer-requires
close-answer-requires c = few_made (state_of c.self.inside.proxy c.self.inside.book c.self.inside.fault) c.self.invariant.keeps c.in_default.is

pub settle-result-requires-clause-notes : goal.settle-result-requires-clause-notes
settle-result-requires-clause-notes c =
    good_notes (Asks c.args.reason) c.close-answer.result (state_of c.self.inside.proxy c.self.inside.book c.self.inside.fault) (asked_begins c.args.reason (state_of c.self.inside.proxy c.self.inside.book c.self.inside.fault) c.self.invariant.keeps c.in_default.is c.ranges.reason.fits)
    c.close-answer.ensures.exact.0 c.close-answer.new.self c.close-answer.ensures.exact.1

pub invariant_of-self : goal.invariant_of-self
invariant_of-self c =
    let it : Answered (Asks c.args.reason) c.settle-result.result (state_of c.self.inside.proxy c.self.inside.book c.self.inside.fault) c.self.inside.up c.settle-result.new.proxy c.settle-result.new.book c.fault_in-self-inside.result = answered (Asks c.args.reason) c.close-answer.result c.settle-result.result (state_of c.self.inside.proxy c.self.inside.book c.self.inside.fault) c.self.inside.up c.close-answer.new.self c.settle-result.new.proxy c.close_room.new.self c.settle-result.new.book c.fault_in-self-inside.result
    (asked_begins c.args.reason (state_of c.self.inside.proxy c.self.inside.book c.self.inside.fault) c.self.invariant.keeps c.in_default.is c.ranges.reason.fits) c.self.invariant.keeps c.ranges.reason.fits (c.self.invariant.here c.in_default.is) c.close-answer.ensures.exact c.close_room.ensures c.settle-result.ensures
    c.fault_in-self-inside.ensures in
    it.kept

pub returns : goal.returns
returns c =
    let it : Answered (Asks c.args.reason) c.settle-result.result (state_of c.self.inside.proxy c.self.inside.book c.self.inside.fault) c.self.inside.up c.settle-result.new.proxy c.settle-result.new.book c.fault_in-self-inside.result = answered (Asks c.args.reason) c.close-answer.result c.settle-result.result (state_of c.self.inside.proxy c.self.inside.book c.self.inside.fault) c.self.inside.up c.close-answer.new.self c.settle-result.new.proxy c.close_room.new.self c.settle-result.new.book c.fault_in-self-inside.result
    (asked_begins c.args.reason (state_of c.self.inside.proxy c.self.inside.book c.self.inside.fault) c.self.invariant.keeps c.in_default.is c.ranges.reason.fits) c.self.invariant.keeps c.ranges.reason.fits (c.self.invariant.here c.in_default.is) c.close-answer.ensures.exact c.close_room.ensures c.settle-result.ensures
    c.fault_in-self-inside.ensures in
    subst (λ (t : TrailState). TrailCalls (Asks c.args.reason) c.settle-result.result t (state_of c.settle-result.new.proxy c.settle-result.new.book c.fault_in-self-inside.result)) c.self.view_is it.calls
