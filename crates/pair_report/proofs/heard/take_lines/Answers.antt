use Rattle.std.proofs.Common.{◌∙◌}
use Rattle.pair_report.proofs.Takings.{lines_taken}
use Rattle.pair_report.proofs.heard.take_lines.Goals as goal

pub loop-line-preserved : goal.loop-line-preserved
loop-line-preserved c =
    lines_taken c.args.lines.now c.loop-line.line-index c.line-item.result c.as_slice.result.now c.loop-line.left c.in_ok-left.left c.loop-line.meaning c.take_line.new.meaning
    c.loop-line-test.true c.line-item.is c.as_slice.ensures c.in_ok-left.ensures.taken c.in_ok-left.ensures.left
    ∙ c.loop-line.invariant
