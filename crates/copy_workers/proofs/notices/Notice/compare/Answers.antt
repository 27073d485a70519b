use Rattle.std.proofs.Common.{◌≡◌, sym, ap, ◌∙◌, arith}
use Rattle.copy_workers.specs.Notices.{NoticeState}
use Rattle.copy_workers.proofs.NoticeSteps.{hears, compares}
use Rattle.copy_workers.proofs.notices.Notice.compare.Goals as goal

pub join_seat-requires : goal.join_seat-requires
join_seat-requires c =
    let same : c.deref.result.now ≡ c.self.inside.board.value = c.deref.ensures in
    let seated = c.self.invariant.0 ∙ sym (ap (λ t. t.shared.table_id) same) in
    let sized = ap (λ z. z.words) (sym seated) ∙ c.self.invariant.1 in
    let mine = ap (λ (n : NoticeState). n.posts) c.self.view_is ∙ c.requires.0 in
    let met =
    ap (λ (n : NoticeState). n.table) c.reader.view_is ∙ c.requires.1 ∙ sym (ap (λ (n : NoticeState). n.table) c.self.view_is) ∙ seated in
    (seated, met, c.reader.invariant.2, omega (arith, sized), hears _ _ _ _ mine)

pub load-requires : goal.load-requires
load-requires c =
    let same : c.deref-2.result.now ≡ c.self.inside.board.value = c.deref-2.ensures in
    let joined = c.join_seat.ensures in
    let seated = joined.0 ∙ c.self.invariant.0 ∙ sym (ap (λ t. t.shared.table_id) same) in
    let sized = ap (λ z. z.words) (sym seated) ∙ ap (λ z. z.words) joined.0 ∙ c.self.invariant.1 in
    let me = c.join_seat.new.seat.me in
    let mine = ap (λ m. m.0.posts) joined.2 ∙ ap (λ (n : NoticeState). n.posts) c.self.view_is ∙ c.requires.0 in
    (seated, omega (arith, sized), compares _ _ me.0 me.1 mine)
