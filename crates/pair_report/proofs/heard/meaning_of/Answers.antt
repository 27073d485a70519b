use Rattle.std.proofs.Common.{◌∙◌, ap, List, take}
use Rattle.pair_model.specs.Lines.{Line}
use Rattle.pair_report.specs.Heard.{accepted_of, counted_on}
use Rattle.pair_report.specs.Meant.{with_frames}
use Rattle.trail_records.specs.Noting.{trail_of}
use Rattle.pair_report.proofs.Takings.{meaning_is}
use Rattle.pair_report.proofs.heard.meaning_of.Goals as goal

pub returns : goal.returns
returns c =
    c.in_ok-take_lines.ensures
    ∙ ap (λ (rows : List Line). with_frames (take c.args.kept.now.accepted (counted_on rows)) c.new-meaning.result) c.as_slice.ensures
    ∙ ap (with_frames (accepted_of (trail_of c.args.kept.now))) c.new-meaning.ensures
    ∙ meaning_is (accepted_of (trail_of c.args.kept.now))
