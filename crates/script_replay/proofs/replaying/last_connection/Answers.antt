use Rattle.std.proofs.Common.{ap, sym, ◌∙◌}
use Rattle.side_model.specs.Books.{TrailRecord}
use Rattle.pair_runs.specs.Sides.{last_number}
use Rattle.script_replay.proofs.Answering.{last_row}
use Rattle.script_replay.proofs.replaying.last_connection.Goals as goal

pub returns-in-Some : goal.returns-in-Some
returns-in-Some c =
    last_row c.in-Some.line.now c.as_slice.result.now c.in-Some.ensures.value ∙ ap last_number c.as_slice.ensures ∙ ap (λ (it : TrailRecord). last_number it.lines.rows) c.record.ensures
