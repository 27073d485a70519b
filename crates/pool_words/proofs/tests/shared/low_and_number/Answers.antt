use denote.Param.Send.{sendable}
use Rattle.pool_words.proofs.Shared.{eye-is-sync}
use Rattle.pool_words.proofs.tests.shared.low_and_number.Goals as goal

pub join-requires-send-F : goal.join-requires-send-F
join-requires-send-F g c κs within = search (sendable, eye-is-sync) depth 20
