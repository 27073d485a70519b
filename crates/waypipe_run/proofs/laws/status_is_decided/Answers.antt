use Rattle.waypipe_run.proofs.TopLemmas.{other_words, one_is_due, status_decided, stream_decided, trial_decided}
use Rattle.waypipe_run.proofs.laws.status_is_decided.Goals as goal

pub returns-clause-words : goal.returns-clause-words
returns-clause-words c = other_words

pub returns-clause-one : goal.returns-clause-one
returns-clause-one c = one_is_due

pub returns-clause-input : goal.returns-clause-input
returns-clause-input c = status_decided

pub returns-clause-stream : goal.returns-clause-stream
returns-clause-stream c = stream_decided

pub returns-clause-trial : goal.returns-clause-trial
returns-clause-trial c = trial_decided
