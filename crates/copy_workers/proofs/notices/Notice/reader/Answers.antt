use Rattle.std.proofs.Common.{sym, ap, ◌∙◌, arith}
use Rattle.copy_workers.proofs.NoticeSteps.{makes_reader}
use Rattle.copy_workers.proofs.notices.Notice.reader.Goals as goal

pub split_seat-place-requires : goal.split_seat-place-requires
split_seat-place-requires c =
    let same = c.deref.ensures ∙ c.in_ok-board.ensures in
    let seated = c.self.invariant.0 ∙ sym (ap (λ t. t.shared.table_id) same) in
    let sized = ap (λ z. z.words) (sym seated) ∙ c.self.invariant.1 in
    (seated, omega (arith, sized), makes_reader _ _)
