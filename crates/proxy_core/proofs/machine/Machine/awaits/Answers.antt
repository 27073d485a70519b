-- The copies that are out are those of the half.
use Rattle.std.proofs.Common.{ap, ◌∙◌}
use Rattle.half_model.specs.Jobs.{awaits}
use Rattle.owed_groups.specs.Lending.{done_of}
use Rattle.side_model.specs.State.{Now}
use Rattle.proxy_core.proofs.Awaited.{awaits_past}
use Rattle.proxy_core.proofs.machine.Machine.awaits.Goals as goal

pub returns : goal.returns
returns c =
    c.awaits.ensures ∙ awaits_past c.self.inside.past c.self.inside.sending.jobs (done_of c.args.done.now) c.self.invariant.past
    ∙ ap (λ (s : Now). awaits s.kept.jobs (done_of c.args.done.now)) c.self.view_is
