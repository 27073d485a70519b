use Rattle.std.proofs.Common.{◌≡◌, ◌+◌, sym, ap, ◌∙◌, subst, arith}
use Rattle.pool_words.specs.Views.{DeskState, IsReceipt}
use Rattle.pool_words.proofs.Known.{absorbs}
use Rattle.pool_words.proofs.desk.Desk.absorb.Goals as goal

pub join_seat-requires : goal.join_seat-requires
join_seat-requires c =
    let same : c.deref.result.now ≡ c.self.inside.pool.value = c.deref.ensures in
    let seated = c.self.invariant.0 ∙ sym (ap (λ t. t.shared.table_id) same) in
    let sized = ap (λ z. z.words) (sym seated) ∙ c.self.invariant.1 ∙ sym (ap (λ t. t.shared.key + 1) same) in
    let known = subst (IsReceipt) (sym (ap (λ (d : DeskState). d.view) c.self.view_is)) c.requires.receipts.0 in
    let theirs = subst IsReceipt (sym (ap (λ (d : DeskState). d.view) c.other.view_is)) c.requires.receipts.1 in
    let met = ap (λ (d : DeskState). d.pool) c.other.view_is ∙ c.requires.pool ∙ sym (ap (λ (d : DeskState). d.pool) c.self.view_is) ∙ seated in
    (seated, met, c.other.invariant.2, omega (arith, sized), absorbs _ _ _ c.self.inside.place.me.0 c.other.inside.place.me.0 known theirs)
