use Rattle.std.proofs.Common.{◌≡◌, sym, ap, ◌∙◌, arith}
use Rattle.copy_workers.specs.Notices.{NoticeState}
use Rattle.copy_workers.proofs.NoticeSteps.{posts}
use Rattle.copy_workers.proofs.notices.Notice.post_named.Goals as goal

pub store-requires : goal.store-requires
store-requires g c =
    let same : c.deref.result.now ≡ c.self.inside.board.value = c.deref.ensures in
    let seated = c.self.invariant.0 ∙ sym (ap (λ t. t.shared.table_id) same) in
    let sized = ap (λ z. z.words) (sym seated) ∙ c.self.invariant.1 in
    let me = c.self.inside.place.me in
    let mine = ap (λ (n : NoticeState). n.posts) c.self.view_is ∙ c.requires.poster.0 in
    let none = ap (λ (n : NoticeState). n.jobs) c.self.view_is ∙ c.requires.poster.1 in
    (seated, omega (arith, sized), posts _ _ me.0 me.1 _ mine none)
