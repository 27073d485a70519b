use Rattle.std.proofs.Common.{length, ◌≡◌, ◌+◌, sym, ap, ◌∙◌, subst, arith}
use Rattle.pool_words.specs.Views.{DeskState, IsIdle, history_of}
use Rattle.pool_words.proofs.Known.{announces}
use Rattle.pool_words.proofs.desk.Desk.announce.Goals as goal

pub store-requires : goal.store-requires
store-requires g c =
    let same : c.deref.result.now ≡ c.self.inside.pool.value = c.deref.ensures in
    let seated = c.self.invariant.0 ∙ sym (ap (λ t. t.shared.table_id) same) in
    let sized = ap (λ z. z.words) (sym seated) ∙ c.self.invariant.1 ∙ sym (ap (λ t. t.shared.key + 1) same) in
    let known = subst (IsIdle) (sym (ap (λ (d : DeskState). d.view) c.self.view_is)) c.requires.idle in
    let counts = c.requires.count ∙ ap (λ (d : DeskState). length (history_of d.view) + 1) (sym c.self.view_is) in
    (seated, omega (arith, sized), announces _ _ _ c.args.count g.W.Announced.write c.self.inside.place.me known counts)
