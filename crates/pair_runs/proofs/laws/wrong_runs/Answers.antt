use Rattle.pair_runs.proofs.Wrongs.{skips_break, connects_again, skips_number, pushes_less, takes_free, loads_whole, leaves_waiting, holds_output, owes_loaded}
use Rattle.pair_runs.proofs.laws.wrong_runs.Goals as goal

pub returns-clause-skips_break : goal.returns-clause-skips_break
returns-clause-skips_break c = skips_break

pub returns-clause-connects_again : goal.returns-clause-connects_again
returns-clause-connects_again c = connects_again

pub returns-clause-skips_number : goal.returns-clause-skips_number
returns-clause-skips_number c = skips_number

pub returns-clause-pushes_less : goal.returns-clause-pushes_less
returns-clause-pushes_less c = pushes_less

pub returns-clause-takes_free : goal.returns-clause-takes_free
returns-clause-takes_free c = takes_free

pub returns-clause-loads_whole : goal.returns-clause-loads_whole
returns-clause-loads_whole c = loads_whole

pub returns-clause-leaves_waiting : goal.returns-clause-leaves_waiting
returns-clause-leaves_waiting c = leaves_waiting

pub returns-clause-holds_output : goal.returns-clause-holds_output
returns-clause-holds_output c = holds_output

pub returns-clause-owes_loaded : goal.returns-clause-owes_loaded
returns-clause-owes_loaded c = owes_loaded
