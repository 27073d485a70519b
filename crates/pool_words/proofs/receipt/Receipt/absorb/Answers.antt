use Rattle.std.proofs.Common.{◌≡◌, ap, ◌∙◌, sym, subst, max}
use Rattle.pool_words.specs.Views.{DeskState, ReceiptState, IsReceipt, high_of, absorbed}
use Rattle.pool_words.proofs.Rows.{absorbed_is}
use Rattle.pool_words.proofs.receipt.Receipt.absorb.Goals as goal

pub invariant_of-result : goal.invariant_of-result
invariant_of-result c =
    let mine = c.self.inside.desk.view in
    let theirs = c.into_desk.result.view in
    let both = absorbed_is mine theirs c.self.invariant.0 c.into_desk.ensures.receipt in
    let view : c.absorb.new.self.view ≡ absorbed mine theirs = ap (λ (d : DeskState). d.view) c.absorb.ensures in
    let other_high = ap (λ (r : ReceiptState). r.high) c.other.view_is ∙ sym c.into_desk.ensures.same.1 in (
      subst IsReceipt (sym view) both.0,
      c.max-high.ensures ∙ (λ i. max (c.self.invariant.1 i) (other_high i)) ∙ sym both.1 ∙ ap high_of (sym view),
    )
