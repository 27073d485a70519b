-- What the taking half accepts is heard once it is counted.
use Rattle.std.proofs.Common.{◌≡◌, None, Some, Err, refl, subst, sym, ap, ◌∙◌, inl}
use Rattle.transfer_frames.specs.declared.frame.FrameRole.TheVariants.{Counted}
use Rattle.half_model.specs.declared.causes.TakeFault.{TakeFault}
use Rattle.send_half.specs.SendState.{tables_of}
use Rattle.side_model.specs.State.{Now}
use Rattle.take_half.specs.Accepting.{Accepted, AcceptsAfter}
use Rattle.proxy_core.specs.Hearing.{MayHear, Hears, Refuses, cause_of, fault_at}
use Rattle.proxy_core.specs.Inside.{now_of, Runs}
use Rattle.proxy_core.proofs.Acceptings.{count_heard, taken_in, accepted_of, refused_of, content_counted}
use Rattle.proxy_core.proofs.machine.Machine.accept.Goals as goal

pub count-requires-clause-passes : goal.count-requires-clause-passes
count-requires-clause-passes c = subst (λ (s : Now). MayHear (Counted c.args.closes) s) (sym c.self.view_is) c.requires.passes

pub returns-in-Ok : goal.returns-in-Ok
returns-in-Ok c =
    let it = c.self.inside in
    let running : it.fault ≡ None = ap (λ (s : Now). s.fault) c.self.view_is ∙ c.requires.running in
    let runs : Runs it.taken it.sending it.taking it.handles it.past = c.self.invariant.runs running in
    let passes : MayHear (Counted c.args.closes) (now_of it) = subst (λ (s : Now). MayHear (Counted c.args.closes) s) (sym c.self.view_is) c.requires.passes in
    let accepted : Accepted c.args.frame (tables_of it.objects it.handles it.pipes) (tables_of c.accept.new.objects c.accept.new.handles c.accept.new.pipes) it.taking c.accept.new.self =
    accepted_of it.taking.fault c.args.frame (tables_of it.objects it.handles it.pipes) (tables_of c.accept.new.objects c.accept.new.handles c.accept.new.pipes) it.taking c.accept.new.self runs.takes c.in-Ok.ensures.exact in
    subst (λ (s : Now). Hears c.count.result c.args.frame c.args.at s c.count.new.self) c.self.view_is
    (count_heard c.count.result c.args.frame c.args.at c.args.closes (now_of it) _ c.count.new.self c.requires.counted passes accepted.fine
    (taken_in it c.args.frame c.accept.new.self c.accept.new.objects c.accept.new.handles c.accept.new.pipes accepted)
    (rw c.messages_in-messages.ensures at c.count.ensures))

pub returns-in-Err-Frame : goal.returns-in-Err-Frame
returns-in-Err-Frame c =
    let it = c.self.inside in
    let running : it.fault ≡ None = ap (λ (s : Now). s.fault) c.self.view_is ∙ c.requires.running in
    let runs : Runs it.taken it.sending it.taking it.handles it.past = c.self.invariant.runs running in
    let passes : MayHear (Counted c.args.closes) (now_of it) = subst (λ (s : Now). MayHear (Counted c.args.closes) s) (sym c.self.view_is) c.requires.passes in
    let cause = content_counted (now_of it) c.args.frame c.args.closes c.in-Err-Frame.cause c.requires.counted passes
    (refused_of it.taking.fault c.args.frame c.in-Err-Frame.cause (tables_of it.objects it.handles it.pipes) (tables_of c.accept.new.objects c.accept.new.handles c.accept.new.pipes) it.taking c.accept.new.self runs.takes
    (subst (λ (fault : TakeFault). AcceptsAfter it.taking.fault (Err fault) c.args.frame (tables_of it.objects it.handles it.pipes) (tables_of c.accept.new.objects c.accept.new.handles c.accept.new.pipes) it.taking c.accept.new.self) c.in-Err-Frame.field-0-is c.in-Err-Frame.ensures.exact)) in
    subst (λ (s : Now). Refuses (cause_of s c.args.frame) c.args.at c.fault_at-fault.result s (now_of (record it {
      fault = Some c.fault_at-fault.result;
      objects = c.accept.new.objects;
      handles = c.accept.new.handles;
      pipes = c.accept.new.pipes;
      taking = c.accept.new.self;
    }))) c.self.view_is (record {
      because = inl (c.in-Err-Frame.cause, cause, c.fault_at-fault.ensures ∙ ap (fault_at c.args.at) c.in-Err-Frame.cause-is);
      halted = record { fault_is = refl; kept = refl; side = refl; token = refl };
    })
