use denote.Param.Send.{sendable}
use Rattle.pool_words.proofs.Shared.{receipt-is-sync}
use Rattle.pool_words.proofs.tests.shared.high_and_number.Goals as goal

pub join-requires-send-F : goal.join-requires-send-F
join-requires-send-F g c κs within = search (sendable, receipt-is-sync) depth 20
