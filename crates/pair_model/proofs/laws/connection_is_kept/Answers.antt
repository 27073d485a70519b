use Rattle.pair_model.proofs.Heards.{here_counts, whole_is_sent, here_place}
use Rattle.pair_model.proofs.laws.connection_is_kept.Goals as goal

pub returns-clause-counts : goal.returns-clause-counts
returns-clause-counts c = here_counts

pub returns-clause-whole : goal.returns-clause-whole
returns-clause-whole c = whole_is_sent

pub returns-clause-place : goal.returns-clause-place
returns-clause-place c = here_place
