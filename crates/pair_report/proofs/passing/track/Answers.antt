use Rattle.wl_objects.specs.Tracking.{step}
use Rattle.pair_report.proofs.Printable.{told_from}
use Rattle.pair_report.proofs.passing.track.Goals as goal

pub returns-in-Ok-clause-told : goal.returns-in-Ok-clause-told
returns-in-Ok-clause-told c =
    told_from (step c.args.way c.args.objects.now.tracked c.args.message.now) c.in-Ok.interface c.track.new.self.tracked c.in-Ok.ensures.exact
