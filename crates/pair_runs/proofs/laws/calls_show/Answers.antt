use Rattle.pair_runs.proofs.Showing.{wants_is, nothing_lent, kept_by_calls}
use Rattle.pair_runs.proofs.laws.calls_show.Goals as goal

pub returns-clause-wants : goal.returns-clause-wants
returns-clause-wants c = wants_is

pub returns-clause-nothing : goal.returns-clause-nothing
returns-clause-nothing c = nothing_lent

pub returns-clause-kept : goal.returns-clause-kept
returns-clause-kept c = kept_by_calls
