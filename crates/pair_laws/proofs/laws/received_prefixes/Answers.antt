use Rattle.pair_laws.proofs.Mirrors.{mirrors_are_sent}
use Rattle.pair_laws.proofs.PeerMirrors.{peer_has_mirrors}
use Rattle.pair_laws.proofs.Receiving.{receives_prefixes}
use Rattle.pair_laws.proofs.laws.received_prefixes.Goals as goal

pub returns-clause-prefixes : goal.returns-clause-prefixes
returns-clause-prefixes c = receives_prefixes

pub returns-clause-mirrors : goal.returns-clause-mirrors
returns-clause-mirrors c = mirrors_are_sent

pub returns-clause-peers : goal.returns-clause-peers
returns-clause-peers c = peer_has_mirrors
