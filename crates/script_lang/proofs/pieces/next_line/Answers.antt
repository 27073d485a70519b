use Rattle.std.specs.Option.{option_copied}
use Rattle.std.proofs.Common.{[], ◌∷◌, ap, ◌∙◌, sym}
use Rattle.script_lang.specs.Pieces.{lines}
use Rattle.script_lang.proofs.PieceLemmas.{lines_some, lines_none, some_shorter}
use Rattle.script_lang.proofs.pieces.next_line.Goals as goal

pub returns-in-Some-clause-split : goal.returns-in-Some-clause-split
returns-in-Some-clause-split c =
    let is = sym c.cut_at.ensures.behind ∙ ap (option_copied) c.in-Some.is in
    ap (λ l. lines c.args.text.now) c.cut_at.ensures.front ∙ lines_some c.args.text.now _ c.requires is ∙ ap (λ l. l ∷ lines c.in-Some.rest.now) (sym c.cut_at.ensures.front)

pub returns-in-Some-clause-shorter : goal.returns-in-Some-clause-shorter
returns-in-Some-clause-shorter c = some_shorter c.args.text.now _ c.requires (sym c.cut_at.ensures.behind ∙ ap (option_copied) c.in-Some.is)

pub returns-in-None-clause-split : goal.returns-in-None-clause-split
returns-in-None-clause-split c =
    lines_none c.args.text.now c.requires (sym c.cut_at.ensures.behind ∙ ap (option_copied) c.in-None.is) ∙ ap (λ l. l ∷ lines []) (sym c.cut_at.ensures.front)
