use Rattle.std.proofs.Common.{◌≡◌, ◌+◌, sym, ap, ◌∙◌, subst, arith}
use Rattle.pool_words.specs.Views.{DeskState, IsEye}
use Rattle.pool_words.proofs.Known.{finishes}
use Rattle.pool_words.proofs.desk.Desk.finish.Goals as goal

pub load-requires : goal.load-requires
load-requires c =
    let same : c.deref.result.now ≡ c.self.inside.pool.value = c.deref.ensures in
    let seated = c.self.invariant.0 ∙ sym (ap (λ t. t.shared.table_id) same) in
    let sized = ap (λ z. z.words) (sym seated) ∙ c.self.invariant.1 ∙ sym (ap (λ t. t.shared.key + 1) same) in
    let known = subst (IsEye) (sym (ap (λ (d : DeskState). d.view) c.self.view_is)) c.requires in
    (seated, omega (arith, sized), finishes _ _ _ c.self.inside.place.me known)
