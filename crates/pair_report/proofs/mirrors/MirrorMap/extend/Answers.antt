use Rattle.std.proofs.Common.{ℤ, sym, ◌∙◌, ap, w32}
use Rattle.std.proofs.lemmas.Int.{to_z-of_z}
use Rattle.std.proofs.lemmas.Result.{on_ok_weaker}
use Rattle.std.specs.BTreeMap.{BTreeMap}
use Rattle.mirror_pools.specs.Mirrors.{MirrorState, mirror_grown, with_grown}
use Rattle.pair_report.proofs.MirrorSteps.{mirror_changed, mirror_absent}
use Rattle.pair_report.proofs.mirrors.MirrorMap.extend.Goals as goal

pub returns-in-Some : goal.returns-in-Some
returns-in-Some c =
    on_ok_weaker c.grow.result
    (λ is. (c.get_mut.follows.holds c.grow.new.self).0
    ∙ mirror_changed _ c.args.rid (mirror_grown c.args.size) c.self.inside.mirrors.entries c.in-Some.mirror.now c.grow.new.self
    (sym c.in-Some.ensures.value) (to_z-of_z w32 c.args.rid c.ranges.rid) is
    ∙ ap (with_grown c.args.rid c.args.size) c.self.view_is)
    c.grow.ensures

pub returns : goal.returns
returns c =
    ap (λ (m : BTreeMap ℤ MirrorState). m.entries) c.get_mut.follows.holds-at-none
    ∙ mirror_absent _ c.args.rid (mirror_grown c.args.size) c.self.inside.mirrors.entries (sym c.in_default.ensures.value) (to_z-of_z w32 c.args.rid c.ranges.rid)
    ∙ ap (with_grown c.args.rid c.args.size) c.self.view_is
