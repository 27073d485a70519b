use Rattle.std.proofs.Common.{◌≡◌, Some, None, sym, ap, ◌∙◌}
use Rattle.std.specs.Option.{option_copied}
use Rattle.script_lang.proofs.PieceLemmas.{alone, one_cut}
use Rattle.script_lang.proofs.pieces.one_field.Goals as goal

pub returns-in-Some-others : goal.returns-in-Some-others
returns-in-Some-others c =
    let cut = one_cut (option_copied c.args.fields) c.in-Some.text.now c.cut_at.result.0.now (option_copied c.cut_at.result.1) (ap option_copied c.in-Some.is) c.cut_at.ensures.front c.cut_at.ensures.behind in
    sym (cut ∙ ap (λ others. alone c.cut_at.result.0.now (option_copied others)) c.in-Some-others.is)

pub returns-in-None-others : goal.returns-in-None-others
returns-in-None-others c =
    let cut = one_cut (option_copied c.args.fields) c.in-Some.text.now c.cut_at.result.0.now (option_copied c.cut_at.result.1) (ap option_copied c.in-Some.is) c.cut_at.ensures.front c.cut_at.ensures.behind in
    sym (cut ∙ ap (λ others. alone c.cut_at.result.0.now (option_copied others)) c.in-None-others.is)
