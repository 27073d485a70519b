use Rattle.std.proofs.Common.{subst}
use Rattle.side_model.specs.Events.{Fed}
use Rattle.side_model.specs.Trails.{TrailState, TrailCalls}
use Rattle.proxy_trail.specs.Kept.{state_of}
use Rattle.proxy_trail.proofs.Calling.{Answered, answered, few_made, good_notes, fed_begins, wants_now}
use Rattle.std.proofs.Common.{ap, ◌∙◌}
use Rattle.proxy_trail.specs.Kept.{wants_peer}
use Rattle.proxy_trail.proofs.trail.Trail.feed_peer.Goals as goal

pub feed_peer-answer-requires-clause-few : goal.feed_peer-answer-requires-clause-few
feed_peer-answer-requires-clause-few c = few_made (state_of c.self.inside.proxy c.self.inside.book c.self.inside.fault) c.self.invariant.keeps c.in_default.is

pub settle-result-requires-clause-notes : goal.settle-result-requires-clause-notes
settle-result-requires-clause-notes c =
    good_notes (Fed c.args.item) c.feed_peer-answer.result (state_of c.self.inside.proxy c.self.inside.book c.self.inside.fault) (fed_begins c.args.item (state_of c.self.inside.proxy c.self.inside.book c.self.inside.fault) c.self.invariant.keeps c.in_default.is (wants_now (state_of c.self.inside.proxy c.self.inside.book c.self.inside.fault) c.in_default.is (ap wants_peer c.self.view_is ∙ c.requires.wants), c.requires.item))
    c.feed_peer-answer.ensures.exact.0 c.feed_peer-answer.new.self c.feed_peer-answer.ensures.exact.1

pub invariant_of-self : goal.invariant_of-self
invariant_of-self c =
    let it : Answered (Fed c.args.item) c.settle-result.result (state_of c.self.inside.proxy c.self.inside.book c.self.inside.fault) c.self.inside.up c.settle-result.new.proxy c.settle-result.new.book c.fault_in-self-inside.result = answered (Fed c.args.item) c.feed_peer-answer.result c.settle-result.result (state_of c.self.inside.proxy c.self.inside.book c.self.inside.fault) c.self.inside.up c.feed_peer-answer.new.self c.settle-result.new.proxy c.close_room.new.self c.settle-result.new.book c.fault_in-self-inside.result
    (fed_begins c.args.item (state_of c.self.inside.proxy c.self.inside.book c.self.inside.fault) c.self.invariant.keeps c.in_default.is (wants_now (state_of c.self.inside.proxy c.self.inside.book c.self.inside.fault) c.in_default.is (ap wants_peer c.self.view_is ∙ c.requires.wants), c.requires.item)) c.self.invariant.keeps (wants_now (state_of c.self.inside.proxy c.self.inside.book c.self.inside.fault) c.in_default.is (ap wants_peer c.self.view_is ∙ c.requires.wants), c.requires.item) (c.self.invariant.here c.in_default.is) c.feed_peer-answer.ensures.exact c.close_room.ensures c.settle-result.ensures
    c.fault_in-self-inside.ensures in
    it.kept

pub returns : goal.returns
returns c =
    let it : Answered (Fed c.args.item) c.settle-result.result (state_of c.self.inside.proxy c.self.inside.book c.self.inside.fault) c.self.inside.up c.settle-result.new.proxy c.settle-result.new.book c.fault_in-self-inside.result = answered (Fed c.args.item) c.feed_peer-answer.result c.settle-result.result (state_of c.self.inside.proxy c.self.inside.book c.self.inside.fault) c.self.inside.up c.feed_peer-answer.new.self c.settle-result.new.proxy c.close_room.new.self c.settle-result.new.book c.fault_in-self-inside.result
    (fed_begins c.args.item (state_of c.self.inside.proxy c.self.inside.book c.self.inside.fault) c.self.invariant.keeps c.in_default.is (wants_now (state_of c.self.inside.proxy c.self.inside.book c.self.inside.fault) c.in_default.is (ap wants_peer c.self.view_is ∙ c.requires.wants), c.requires.item)) c.self.invariant.keeps (wants_now (state_of c.self.inside.proxy c.self.inside.book c.self.inside.fault) c.in_default.is (ap wants_peer c.self.view_is ∙ c.requires.wants), c.requires.item) (c.self.invariant.here c.in_default.is) c.feed_peer-answer.ensures.exact c.close_room.ensures c.settle-result.ensures
    c.fault_in-self-inside.ensures in
    subst (λ (t : TrailState). TrailCalls (Fed c.args.item) c.settle-result.result t (state_of c.settle-result.new.proxy c.settle-result.new.book c.fault_in-self-inside.result)) c.self.view_is it.calls
