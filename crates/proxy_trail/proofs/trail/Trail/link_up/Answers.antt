use Rattle.std.proofs.Common.{subst, sym, ap, ◌∙◌, ◌≡◌, ◌<◌, None, Some, Err}
use Rattle.std.specs.Prelude.{OnErr}
use Rattle.side_model.specs.Events.{Up}
use Rattle.side_model.specs.Trails.{TrailState, TrailCalls}
use Rattle.proxy_trail.specs.Kept.{state_of}
use Rattle.proxy_trail.proofs.Calling.{Answered}
use Rattle.proxy_trail.proofs.Linking.{up_answered, up_keeps_rows}
use Rattle.proxy_trail.proofs.trail.Trail.link_up.Goals as goal

pub invariant_of-self : goal.invariant_of-self
invariant_of-self c =
    let it : Answered (Up c.args.connection) c.link_up-result.result (state_of c.self.inside.proxy c.self.inside.book c.self.inside.fault) c.self.inside.up c.link_up-result.new.self c.record_line.new.book c.fault_in-self-inside.result =
    up_answered c.args.connection c.link_up-result.result (state_of c.self.inside.proxy c.self.inside.book c.self.inside.fault) c.self.inside.up c.close_room.new.self c.link_up-result.new.self c.record_line.new.book c.fault_in-self-inside.result c.self.invariant.keeps c.in_default.is
    (subst (λ (t : TrailState). t.now.live.here ≡ None) (sym c.self.view_is) (c.requires.down (ap (λ (t : TrailState). t.fault) (sym c.self.view_is) ∙ c.in_default.is)), subst (λ (t : TrailState). t.now.kept.last < c.args.connection) (sym c.self.view_is) c.requires.later, c.ranges.connection.fits)
    (c.self.invariant.here c.in_default.is) c.close_room.ensures c.in-Ok.ensures.few c.in-Ok.ensures.same c.link_up-result.ensures.exact c.link_up-result.ensures.no_memory c.fault_in-self-inside.ensures in
    it.kept

pub returns-in-Ok-clause-calls : goal.returns-in-Ok-clause-calls
returns-in-Ok-clause-calls c =
    let it : Answered (Up c.args.connection) c.link_up-result.result (state_of c.self.inside.proxy c.self.inside.book c.self.inside.fault) c.self.inside.up c.link_up-result.new.self c.record_line.new.book c.fault_in-self-inside.result =
    up_answered c.args.connection c.link_up-result.result (state_of c.self.inside.proxy c.self.inside.book c.self.inside.fault) c.self.inside.up c.close_room.new.self c.link_up-result.new.self c.record_line.new.book c.fault_in-self-inside.result c.self.invariant.keeps c.in_default.is
    (subst (λ (t : TrailState). t.now.live.here ≡ None) (sym c.self.view_is) (c.requires.down (ap (λ (t : TrailState). t.fault) (sym c.self.view_is) ∙ c.in_default.is)), subst (λ (t : TrailState). t.now.kept.last < c.args.connection) (sym c.self.view_is) c.requires.later, c.ranges.connection.fits)
    (c.self.invariant.here c.in_default.is) c.close_room.ensures c.in-Ok.ensures.few c.in-Ok.ensures.same c.link_up-result.ensures.exact c.link_up-result.ensures.no_memory c.fault_in-self-inside.ensures in
    subst (λ (t : TrailState). TrailCalls (Up c.args.connection) c.link_up-result.result t (state_of c.link_up-result.new.self c.record_line.new.book c.fault_in-self-inside.result)) c.self.view_is it.calls

pub returns-in-Ok-clause-no_line : goal.returns-in-Ok-clause-no_line
returns-in-Ok-clause-no_line c =
    let old : TrailState = state_of c.self.inside.proxy c.self.inside.book c.self.inside.fault in
    let rows : OnErr c.link_up-result.result (c.record_line.new.book.trail.lines.rows ≡ old.book.trail.lines.rows) =
    up_keeps_rows c.args.connection c.link_up-result.result old c.close_room.new.self c.record_line.new.book c.link_up-result.new.self (c.self.invariant.keeps.runs c.in_default.is)
    (subst (λ (t : TrailState). t.now.live.here ≡ None) (sym c.self.view_is) (c.requires.down (ap (λ (t : TrailState). t.fault) (sym c.self.view_is) ∙ c.in_default.is)))
    c.close_room.ensures c.in-Ok.ensures.same c.link_up-result.ensures.exact c.link_up-result.ensures.no_memory in
    subst (λ (t : TrailState). OnErr c.link_up-result.result (c.record_line.new.book.trail.lines.rows ≡ t.book.trail.lines.rows)) c.self.view_is rows
