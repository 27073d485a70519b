use Rattle.std.proofs.Common.{sym, ap, ◌∙◌}
use Rattle.script_lang.specs.Kinds.{who, count}
use Rattle.script_lang.specs.Rows.{both, read}
use Rattle.script_lang.proofs.FieldLemmas.{pair_read}
use Rattle.script_lang.proofs.rows.who_and_count.Goals as goal

pub returns-in-Some : goal.returns-in-Some
returns-in-Some c =
    c.both.ensures ∙ ap (λ it. both it c.number.result) c.who.ensures ∙ ap (both (read who c.in-Some.peer.now)) c.number.ensures
    ∙ pair_read who (count) _ _ _ c.in-Some.ensures (sym c.is_number.ensures ∙ c.if-is_number.true)
