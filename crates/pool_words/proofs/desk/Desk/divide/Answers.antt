use Rattle.std.proofs.Common.{◌+◌, sym, ap, ◌∙◌, subst, arith}
use Rattle.pool_words.specs.Views.{DeskState, IsEye}
use Rattle.pool_words.proofs.Known.{divides}
use Rattle.pool_words.proofs.desk.Desk.divide.Goals as goal

pub split_seat-place-requires : goal.split_seat-place-requires
split_seat-place-requires c =
    let same = c.deref.ensures ∙ c.in_ok-pool.ensures in
    let seated = c.self.invariant.0 ∙ sym (ap (λ t. t.shared.table_id) same) in
    let sized = ap (λ z. z.words) (sym seated) ∙ c.self.invariant.1 ∙ sym (ap (λ t. t.shared.key + 1) same) in
    let known = subst (IsEye) (sym (ap (λ (d : DeskState). d.view) c.self.view_is)) c.requires in
    (seated, omega (arith, sized), divides _ _ c.self.inside.place.me.0 known)
