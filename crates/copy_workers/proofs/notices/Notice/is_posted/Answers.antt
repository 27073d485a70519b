use Rattle.std.proofs.Common.{◌≡◌, sym, ap, ◌∙◌, arith}
use Rattle.copy_workers.specs.Notices.{NoticeState}
use Rattle.copy_workers.proofs.NoticeSteps.{reads}
use Rattle.copy_workers.proofs.notices.Notice.is_posted.Goals as goal

pub load-requires : goal.load-requires
load-requires c =
    let same : c.deref.result.now ≡ c.self.inside.board.value = c.deref.ensures in
    let seated = c.self.invariant.0 ∙ sym (ap (λ t. t.shared.table_id) same) in
    let sized = ap (λ z. z.words) (sym seated) ∙ c.self.invariant.1 in
    let me = c.self.inside.place.me in
    let mine = ap (λ (n : NoticeState). n.posts) c.self.view_is ∙ c.requires in
    (seated, omega (arith, sized), reads _ _ me.0 me.1 mine)
