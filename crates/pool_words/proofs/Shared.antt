-- A `&` to a pen, an eye or a receipt says the same to every thread.
use denote.RattleType.{RattleType}
use denote.Param.Send.{IsSend, IsSync, sendable, whole-keyless}
use Rattle.std.proofs.Crossing.{crosses}
use Rattle.atomic_table.specs.contracts.shared.Seat as Seat
use Rattle.atomic_table.proofs.shared.Seat.TheSendSync as seat
use Rattle.atomic_table.proofs.owned.Table.TheSendSync as table
use Rattle.pool_words.specs.contracts.desk.Desk as Desk
use Rattle.pool_words.specs.contracts.pen.Pen as Pen
use Rattle.pool_words.specs.contracts.eye.Eye as Eye
use Rattle.pool_words.specs.contracts.receipt.Receipt as Receipt

-- a seat: the shares of the whole, and what is owned of it names no thread
seat-is-sync : (S V : RattleType) → IsSend S → IsSync (Seat.the_row S V)
seat-is-sync S V s = record { shared = λ d b o κ q. whole-keyless _ _ (seat.the_send S V s).owned q d b o }

pub desk-is-sync : IsSync Desk.the_row
desk-is-sync = search (sendable, crosses, seat-is-sync, table.the_sync, table.the_send) depth 30

pub pen-is-sync : IsSync Pen.the_row
pen-is-sync = search (sendable, desk-is-sync) depth 20

pub eye-is-sync : IsSync Eye.the_row
eye-is-sync = search (sendable, desk-is-sync) depth 20

pub receipt-is-sync : IsSync Receipt.the_row
receipt-is-sync = search (sendable, desk-is-sync) depth 20
