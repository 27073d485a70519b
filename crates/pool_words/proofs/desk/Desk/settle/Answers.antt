use Rattle.std.proofs.Common.{◌≡◌, ◌+◌, sym, ap, ◌∙◌, subst, arith}
use Rattle.pool_words.specs.Views.{DeskState, IsIdle, IsReceipt}
use Rattle.pool_words.proofs.Known.{settles}
use Rattle.pool_words.proofs.desk.Desk.settle.Goals as goal

pub join_seat-requires : goal.join_seat-requires
join_seat-requires c =
    let same : c.deref.result.now ≡ c.self.inside.pool.value = c.deref.ensures in
    let seated = c.self.invariant.0 ∙ sym (ap (λ t. t.shared.table_id) same) in
    let sized = ap (λ z. z.words) (sym seated) ∙ c.self.invariant.1 ∙ sym (ap (λ t. t.shared.key + 1) same) in
    let known = subst (IsIdle) (sym (ap (λ (d : DeskState). d.view) c.self.view_is)) c.requires.pen in
    let theirs = subst IsReceipt (sym (ap (λ (d : DeskState). d.view) c.receipt.view_is)) c.requires.receipt in
    let met = ap (λ (d : DeskState). d.pool) c.receipt.view_is ∙ c.requires.pool ∙ sym (ap (λ (d : DeskState). d.pool) c.self.view_is) ∙ seated in
    (seated, met, c.receipt.invariant.2, omega (arith, sized), settles _ _ _ c.self.inside.place.me.0 c.receipt.inside.place.me.0 known theirs)
