-- A frame that the connection doesn't refuse is counted.
use Rattle.std.proofs.Common.{◌≡◌, ℕ, Option, None, Some, IsSome, subst, sym, ◌∙◌, rules}
use Rattle.transfer_frames.specs.declared.frame.FrameRole.TheVariants.{Counted}
use Rattle.side_model.specs.State.{Now}
use Rattle.proxy_core.specs.Hearing.{MayHear}
use Rattle.proxy_core.proofs.Acceptings.{link_passes, joined_by}
use Rattle.proxy_core.proofs.machine.Machine.count_alone.Goals as goal

pub on_counted-requires : goal.on_counted-requires
on_counted-requires c =
    let joined : (n : ℕ) × (c.self.inside.counts.connection ≡ Some n) = joined_by c.self.inside (Counted c.args.closes) c.self.invariant.counted (subst (λ (s : Now). MayHear (Counted c.args.closes) s) (sym c.self.view_is) c.requires.passes) in
    subst (λ (o : Option ℕ). IsSome o) (sym joined.1) (search rules)

pub unreachable-requires : goal.unreachable-requires
unreachable-requires c =
    let none = link_passes c.self.inside (Counted c.args.closes) c.self.invariant.counted (subst (λ (s : Now). MayHear (Counted c.args.closes) s) (sym c.self.view_is) c.requires.passes) in
    let some = c.in-Err.ensures.exact c.self.inside.ring in
    let never : None ≡ Some c.in-Err.field-0 = sym none ∙ some in
    cc
