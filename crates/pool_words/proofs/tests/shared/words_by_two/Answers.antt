use denote.Param.Send.{sendable}
use Rattle.pool_words.proofs.Shared.{pen-is-sync}
use Rattle.pool_words.proofs.tests.shared.words_by_two.Goals as goal

pub join-requires-send-F : goal.join-requires-send-F
join-requires-send-F g c κs within = search (sendable, pen-is-sync) depth 20
