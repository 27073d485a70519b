-- A counted frame that the connection refuses is refused for that.
use Rattle.std.proofs.Common.{Some, refl, subst, sym, ◌∙◌, inl}
use Rattle.transfer_frames.specs.declared.frame.FrameRole.TheVariants.{Counted}
use Rattle.side_model.specs.State.{Now}
use Rattle.proxy_core.specs.Hearing.{MayHear, Refuses, cause_of, IsUp}
use Rattle.proxy_core.specs.Inside.{now_of}
use Rattle.proxy_core.proofs.Acceptings.{refused_counted, may_counted}
use Rattle.proxy_core.proofs.machine.Machine.hear_counted.Goals as goal

pub returns-in-Some : goal.returns-in-Some
returns-in-Some c =
    let it = c.self.inside in
    let up : IsUp c.args.at.connection (now_of it).live.here = subst (λ (s : Now). IsUp c.args.at.connection s.live.here) (sym c.self.view_is) c.requires.up in
    let cause = refused_counted it c.args.at.connection c.args.frame c.args.closes c.in-Some.cause up c.self.invariant.counted c.requires.counted (sym (c.refuses.ensures it.ring c.args.closes) ∙ c.in-Some.is) in
    subst (λ (s : Now). Refuses (cause_of s c.args.frame) c.args.at c.fault_at-fault.result s (now_of (record it { fault = Some c.fault_at-fault.result }))) c.self.view_is (record {
      because = inl (c.in-Some.cause, cause, c.fault_at-fault.ensures);
      halted = record { fault_is = refl; kept = refl; side = refl; token = refl };
    })

pub accept-requires-clause-passes : goal.accept-requires-clause-passes
accept-requires-clause-passes c =
    let it = c.self.inside in
    let up : IsUp c.args.at.connection (now_of it).live.here = subst (λ (s : Now). IsUp c.args.at.connection s.live.here) (sym c.self.view_is) c.requires.up in
    subst (λ (s : Now). MayHear (Counted c.args.closes) s) c.self.view_is
    (may_counted it c.args.at.connection c.args.closes up c.self.invariant.counted (sym (c.refuses.ensures it.ring c.args.closes) ∙ c.in-None.is))
