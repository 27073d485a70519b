use Rattle.std.proofs.Common.{sym, ap, subst, ◌∙◌, ◌≤◌, take}
use Rattle.side_model.specs.Trails.{TrailState}
use Rattle.proxy_trail.specs.Kept.{state_of}
use Rattle.proxy_trail.proofs.Giving.{none_of}
use Rattle.proxy_trail.proofs.Linking.{SentSo, sent_so}
use Rattle.proxy_trail.proofs.trail.Trail.link_sent.Goals as goal

pub invariant_of-self : goal.invariant_of-self
invariant_of-self c =
    let it : SentSo c.args.count (state_of c.self.inside.proxy c.self.inside.book c.self.inside.fault) c.self.inside.up c.link_sent.new.self c.record_sent.new.book =
    sent_so c.args.count (state_of c.self.inside.proxy c.self.inside.book c.self.inside.fault) c.self.inside.up c.link_sent.new.self c.split_at.result.0.now c.record_sent.new.book c.self.invariant.keeps
    (none_of c.self.inside.fault c.if-is_some.ensures) (c.self.invariant.here (none_of c.self.inside.fault c.if-is_some.ensures))
    (subst (λ (t : TrailState). c.args.count ≤ t.book.trail.lines.room) (sym c.self.view_is) c.requires) (c.split_at.ensures.front ∙ ap (take c.args.count) c.link_out.ensures) c.record_sent.ensures.up c.record_sent.ensures.down
    c.link_sent.ensures in
    it.kept
