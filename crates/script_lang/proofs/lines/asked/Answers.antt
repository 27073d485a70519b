use Rattle.std.proofs.Common.{sym, ◌∙◌}
use Rattle.std.specs.Option.{option_copied}
use Rattle.script_lang.proofs.LineLaws.{asked_by_cut, asked_refused, asked_answered}
use Rattle.script_lang.proofs.lines.asked.Goals as goal

pub returns-in-Ok : goal.returns-in-Ok
returns-in-Ok c =
    let line = c.args.line.now in
    asked_answered c.text_is_visible.ensures.read line c.in-Ok.what
    (sym (asked_by_cut line c.cut_at.result.0.now (option_copied c.cut_at.result.1) c.cut_at.ensures.front c.cut_at.ensures.behind) ∙ c.in-Ok.ensures)

pub returns-in-Err-Cause : goal.returns-in-Err-Cause
returns-in-Err-Cause c =
    let line = c.args.line.now in
    asked_refused line c.cut_at.result.0.now (option_copied c.cut_at.result.1) c.cut_at.ensures.front c.cut_at.ensures.behind c.first_cause.result c.in-Err-Cause.cause (rw c.in-Err-Cause.field-0-is at c.in-Err-Cause.ensures) c.first_cause.ensures
