use Rattle.pair_laws.proofs.Pipes.{has_pipe_run, silent_behind_shut, pipes_reach}
use Rattle.pair_laws.proofs.laws.pipes_reach.Goals as goal

pub returns-clause-has : goal.returns-clause-has
returns-clause-has c = has_pipe_run

pub returns-clause-reach : goal.returns-clause-reach
returns-clause-reach c = pipes_reach c.from_peer_to_peer.ensures

pub returns-clause-silent : goal.returns-clause-silent
returns-clause-silent c = silent_behind_shut c.shut_drops.ensures
