use Rattle.std.proofs.Common.{Bool, ◌∙◌, ap}
use Rattle.wl_tables.specs.Messages.{handle_kind}
use Rattle.wl_tables.specs.Ways.{is_event}
use Rattle.take_half.proofs.PassLemmas.{tracked_passes}
use Rattle.take_half.proofs.passing.Passing.pass_one.Goals as goal

pub returns-in-Ok-clause-passes : goal.returns-in-Ok-clause-passes
returns-in-Ok-clause-passes c =
    tracked_passes c.pass_by_kind.result c.args.way c.args.objects.now.tracked c.args.message c.in-Ok.interface c.handle_kind-kind.result c.track.new.self.tracked
    c.args.self.now c.pass_by_kind.new.self c.args.handles.now
    c.in-Ok.ensures.exact
    (c.handle_kind-kind.ensures
    ∙ ap (λ (event : Bool). handle_kind c.in-Ok.interface event c.opcode.result) c.is_event.ensures
    ∙ ap (handle_kind c.in-Ok.interface (is_event c.args.way)) c.opcode.ensures)
    (c.pass_by_kind.ensures c.track.new.self.tracked)
