use Rattle.std.proofs.Common.{sym, ap, ◌∙◌}
use Rattle.script_lang.specs.Kinds.{direction, number}
use Rattle.script_lang.specs.Rows.{both, read}
use Rattle.script_lang.proofs.FieldLemmas.{pair_read}
use Rattle.script_lang.proofs.rows.direction_and_number.Goals as goal

pub returns-in-Some : goal.returns-in-Some
returns-in-Some c =
    c.both.ensures ∙ ap (λ it. both it c.number.result) c.direction.ensures ∙ ap (both (read direction c.in-Some.dir.now)) c.number.ensures
    ∙ pair_read direction (number c.args.low 1000000000) _ _ _ c.in-Some.ensures (sym c.is_number.ensures ∙ c.if-is_number.true)
