use Rattle.std.proofs.Common.{◌≡◌, option_map, sym, ap, ◌∙◌}
use Rattle.std.specs.Option.{option_copied}
use Rattle.script_lang.specs.Fields.{three_of, four_of}
use Rattle.script_lang.specs.Pieces.{fields_behind}
use Rattle.script_lang.proofs.PieceLemmas.{four_cut}
use Rattle.script_lang.proofs.pieces.four_fields.Goals as goal

pub returns-in_err-second : goal.returns-in_err-second
returns-in_err-second c =
    let cut = four_cut (option_copied c.args.fields) c.in_ok-fields.field-0.now c.cut_at.result.0.now (option_copied c.cut_at.result.1) (ap option_copied c.in_ok-fields.was) c.cut_at.ensures.front c.cut_at.ensures.behind in
    ap (option_map _) c.from_residual-in_err-second.ensures
    ∙ ap (option_map (λ it. (c.cut_at.result.0.now, it.0, it.1, it.2))) (ap (option_map (λ it. (it.0.now, it.1.now, it.2.now))) (sym c.in_err-second.was) ∙ c.three_fields.ensures) ∙ sym cut

pub returns : goal.returns
returns c =
    let cut = four_cut (option_copied c.args.fields) c.in_ok-fields.field-0.now c.cut_at.result.0.now (option_copied c.cut_at.result.1) (ap option_copied c.in_ok-fields.was) c.cut_at.ensures.front c.cut_at.ensures.behind in
    ap (option_map (λ it. (c.cut_at.result.0.now, it.0, it.1, it.2))) (ap (option_map (λ it. (it.0.now, it.1.now, it.2.now))) (sym c.in_ok-second.was) ∙ c.three_fields.ensures) ∙ sym cut
