use Rattle.std.proofs.Common.{ℤ, w32, to_z, of_z, Bool, [], ◌∷◌, Option, sym, ◌∙◌, ap, subst}
use Rattle.wp_outside.specs.declared.kinds.HandleKind.{HandleKind}
use Rattle.wl_tables.specs.Messages.{handle_kind}
use Rattle.wl_text.specs.Text.{CanPrint}
use Rattle.pair_report.specs.Passing.{handles_in}
use Rattle.pair_report.proofs.Printable.{can_print}
use Rattle.pair_report.proofs.passing.put_received.Goals as goal

pub put_line-requires : goal.put_line-requires
put_line-requires c =
    let rid : ℤ = to_z w32 (of_z w32 c.first_rid.result) in
    let kind = c.handle_kind-kind.ensures
    ∙ ap (λ (events : Bool). handle_kind c.in-Some.interface events c.opcode.result) c.is_event.ensures
    ∙ ap (handle_kind c.in-Some.interface _) c.opcode.ensures in
    subst (λ (k : Option HandleKind). CanPrint c.in-Some.interface c.args.way c.args.message.now (handles_in k (rid ∷ []))) (sym kind)
    (can_print c.args.way c.args.objects.now.tracked c.args.message.now c.in-Some.interface (rid ∷ []) (sym c.in-Some.is ∙ c.in_ok-track.ensures.told))
