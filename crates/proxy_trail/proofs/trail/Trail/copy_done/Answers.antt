use Rattle.std.proofs.Common.{subst}
use Rattle.side_model.specs.Events.{Handed}
use Rattle.side_model.specs.Trails.{TrailState, TrailCalls}
use Rattle.proxy_trail.specs.Kept.{state_of}
use Rattle.proxy_trail.proofs.Calling.{Answered, answered, few_made, good_notes, handed_begins}
use Rattle.std.proofs.Common.{sym, ◌≡◌, true}
use Rattle.copy_workers.specs.Copies.{DoneState}
use Rattle.half_model.specs.Jobs.{awaits}
use Rattle.owed_groups.specs.Lending.{done_of}
use Rattle.side_model.specs.Sound.{HasLoads}
use Rattle.proxy_trail.proofs.trail.Trail.copy_done.Goals as goal

pub copy_done-answer-requires-clause-few : goal.copy_done-answer-requires-clause-few
copy_done-answer-requires-clause-few c = few_made (state_of c.self.inside.proxy c.self.inside.book c.self.inside.fault) c.self.invariant.keeps c.in_default.is

pub settle-result-requires-clause-notes : goal.settle-result-requires-clause-notes
settle-result-requires-clause-notes c =
    good_notes (Handed (done_of c.args.done)) c.copy_done-answer.result (state_of c.self.inside.proxy c.self.inside.book c.self.inside.fault) (handed_begins (done_of c.args.done) (state_of c.self.inside.proxy c.self.inside.book c.self.inside.fault) c.self.invariant.keeps c.in_default.is (subst (λ (t : TrailState). awaits t.now.kept.jobs (done_of c.args.done) ≡ true) (sym c.self.view_is) c.requires, subst (λ (d : DoneState). HasLoads (done_of d)) c.done.view_is c.done.invariant))
    c.copy_done-answer.ensures.exact.0 c.copy_done-answer.new.self c.copy_done-answer.ensures.exact.1

pub invariant_of-self : goal.invariant_of-self
invariant_of-self c =
    let it : Answered (Handed (done_of c.args.done)) c.settle-result.result (state_of c.self.inside.proxy c.self.inside.book c.self.inside.fault) c.self.inside.up c.settle-result.new.proxy c.settle-result.new.book c.fault_in-self-inside.result = answered (Handed (done_of c.args.done)) c.copy_done-answer.result c.settle-result.result (state_of c.self.inside.proxy c.self.inside.book c.self.inside.fault) c.self.inside.up c.copy_done-answer.new.self c.settle-result.new.proxy c.close_room.new.self c.settle-result.new.book c.fault_in-self-inside.result
    (handed_begins (done_of c.args.done) (state_of c.self.inside.proxy c.self.inside.book c.self.inside.fault) c.self.invariant.keeps c.in_default.is (subst (λ (t : TrailState). awaits t.now.kept.jobs (done_of c.args.done) ≡ true) (sym c.self.view_is) c.requires, subst (λ (d : DoneState). HasLoads (done_of d)) c.done.view_is c.done.invariant)) c.self.invariant.keeps (subst (λ (t : TrailState). awaits t.now.kept.jobs (done_of c.args.done) ≡ true) (sym c.self.view_is) c.requires, subst (λ (d : DoneState). HasLoads (done_of d)) c.done.view_is c.done.invariant) (c.self.invariant.here c.in_default.is) c.copy_done-answer.ensures.exact c.close_room.ensures c.settle-result.ensures
    c.fault_in-self-inside.ensures in
    it.kept

pub returns : goal.returns
returns c =
    let it : Answered (Handed (done_of c.args.done)) c.settle-result.result (state_of c.self.inside.proxy c.self.inside.book c.self.inside.fault) c.self.inside.up c.settle-result.new.proxy c.settle-result.new.book c.fault_in-self-inside.result = answered (Handed (done_of c.args.done)) c.copy_done-answer.result c.settle-result.result (state_of c.self.inside.proxy c.self.inside.book c.self.inside.fault) c.self.inside.up c.copy_done-answer.new.self c.settle-result.new.proxy c.close_room.new.self c.settle-result.new.book c.fault_in-self-inside.result
    (handed_begins (done_of c.args.done) (state_of c.self.inside.proxy c.self.inside.book c.self.inside.fault) c.self.invariant.keeps c.in_default.is (subst (λ (t : TrailState). awaits t.now.kept.jobs (done_of c.args.done) ≡ true) (sym c.self.view_is) c.requires, subst (λ (d : DoneState). HasLoads (done_of d)) c.done.view_is c.done.invariant)) c.self.invariant.keeps (subst (λ (t : TrailState). awaits t.now.kept.jobs (done_of c.args.done) ≡ true) (sym c.self.view_is) c.requires, subst (λ (d : DoneState). HasLoads (done_of d)) c.done.view_is c.done.invariant) (c.self.invariant.here c.in_default.is) c.copy_done-answer.ensures.exact c.close_room.ensures c.settle-result.ensures
    c.fault_in-self-inside.ensures in
    subst (λ (t : TrailState). TrailCalls (Handed (done_of c.args.done)) c.settle-result.result t (state_of c.settle-result.new.proxy c.settle-result.new.book c.fault_in-self-inside.result)) c.self.view_is it.calls
