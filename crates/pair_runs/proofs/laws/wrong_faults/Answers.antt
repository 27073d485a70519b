use Rattle.pair_runs.proofs.WrongFaulting.{misses_handle, blames_nothing, blames_other, blames_pipe, limits_few, limits_none, refuses_unheard, blames_link}
use Rattle.pair_runs.proofs.laws.wrong_faults.Goals as goal

pub returns-clause-blames_nothing : goal.returns-clause-blames_nothing
returns-clause-blames_nothing c = blames_nothing

pub returns-clause-blames_other : goal.returns-clause-blames_other
returns-clause-blames_other c = blames_other

pub returns-clause-blames_pipe : goal.returns-clause-blames_pipe
returns-clause-blames_pipe c = blames_pipe

pub returns-clause-limits_few : goal.returns-clause-limits_few
returns-clause-limits_few c = limits_few

pub returns-clause-limits_none : goal.returns-clause-limits_none
returns-clause-limits_none c = limits_none

pub returns-clause-refuses_unheard : goal.returns-clause-refuses_unheard
returns-clause-refuses_unheard c = refuses_unheard

pub returns-clause-blames_link : goal.returns-clause-blames_link
returns-clause-blames_link c = blames_link

pub returns-clause-misses_handle : goal.returns-clause-misses_handle
returns-clause-misses_handle c = misses_handle
