use Rattle.std.proofs.Common.{◌≡◌, ◌+◌, ◌<◌, sym, ap, ◌∙◌, subst, arith}
use Rattle.pool_words.specs.Views.{DeskState, IsEye}
use Rattle.pool_words.proofs.Known.{loads}
use Rattle.pool_words.proofs.desk.Desk.load.Goals as goal

pub load-requires : goal.load-requires
load-requires c =
    let same : c.deref.result.now ≡ c.self.inside.pool.value = c.deref.ensures in
    let seated = c.self.invariant.0 ∙ sym (ap (λ t. t.shared.table_id) same) in
    let key = ap (λ t. t.shared.key) same ∙ ap (λ (d : DeskState). d.words) c.self.view_is in
    let sized = ap (λ z. z.words) (sym seated) ∙ c.self.invariant.1 ∙ sym (ap (λ t. t.shared.key + 1) same) in
    let known = subst (IsEye) (sym (ap (λ (d : DeskState). d.view) c.self.view_is)) c.requires.eye in
    let within : c.args.word < c.deref.result.now.shared.key = omega (arith, key, c.requires.within) in
    (seated, omega (arith, sized, within), loads _ _ _ c.args.word c.self.inside.place.me known within)
