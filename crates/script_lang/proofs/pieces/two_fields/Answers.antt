use Rattle.std.proofs.Common.{◌≡◌, option_map, sym, ap, ◌∙◌}
use Rattle.std.specs.Option.{option_copied}
use Rattle.script_lang.specs.Fields.{one_of, two_of}
use Rattle.script_lang.specs.Pieces.{fields_behind}
use Rattle.script_lang.proofs.PieceLemmas.{two_cut}
use Rattle.script_lang.proofs.pieces.two_fields.Goals as goal

pub returns-in_err-second : goal.returns-in_err-second
returns-in_err-second c =
    let cut = two_cut (option_copied c.args.fields) c.in_ok-fields.field-0.now c.cut_at.result.0.now (option_copied c.cut_at.result.1) (ap option_copied c.in_ok-fields.was) c.cut_at.ensures.front c.cut_at.ensures.behind in
    ap (option_map _) c.from_residual-in_err-second.ensures
    ∙ ap (option_map (λ b. (c.cut_at.result.0.now, b))) (ap option_copied (sym c.in_err-second.was) ∙ c.one_field.ensures) ∙ sym cut

pub returns : goal.returns
returns c =
    let cut = two_cut (option_copied c.args.fields) c.in_ok-fields.field-0.now c.cut_at.result.0.now (option_copied c.cut_at.result.1) (ap option_copied c.in_ok-fields.was) c.cut_at.ensures.front c.cut_at.ensures.behind in
    ap (option_map (λ b. (c.cut_at.result.0.now, b))) (ap option_copied (sym c.in_ok-second.was) ∙ c.one_field.ensures) ∙ sym cut
