use Rattle.side_model.proofs.WrongCallProofs.{stops_early, misses_fault, fails_early, fails_else, forgets_ring, failed_changes, failed_goes_on, acts_behind_choice, hears_refused, takes_owing, ends_owing, ends_before, chooses_again, sends_before_ack, wants_owing, records_too_much, counts_no_weight}
use Rattle.side_model.proofs.LimitProofs.{limits_early}
use Rattle.side_model.proofs.laws.wrong_calls.Goals as goal

pub returns-clause-stops_early : goal.returns-clause-stops_early
returns-clause-stops_early c = stops_early

pub returns-clause-misses_fault : goal.returns-clause-misses_fault
returns-clause-misses_fault c = misses_fault

pub returns-clause-fails_early : goal.returns-clause-fails_early
returns-clause-fails_early c = fails_early

pub returns-clause-fails_else : goal.returns-clause-fails_else
returns-clause-fails_else c = fails_else

pub returns-clause-forgets_ring : goal.returns-clause-forgets_ring
returns-clause-forgets_ring c = forgets_ring

pub returns-clause-failed_changes : goal.returns-clause-failed_changes
returns-clause-failed_changes c = failed_changes

pub returns-clause-failed_goes_on : goal.returns-clause-failed_goes_on
returns-clause-failed_goes_on c = failed_goes_on

pub returns-clause-acts_behind_choice : goal.returns-clause-acts_behind_choice
returns-clause-acts_behind_choice c = acts_behind_choice

pub returns-clause-hears_refused : goal.returns-clause-hears_refused
returns-clause-hears_refused c = hears_refused

pub returns-clause-takes_owing : goal.returns-clause-takes_owing
returns-clause-takes_owing c = takes_owing

pub returns-clause-ends_owing : goal.returns-clause-ends_owing
returns-clause-ends_owing c = ends_owing

pub returns-clause-ends_before : goal.returns-clause-ends_before
returns-clause-ends_before c = ends_before

pub returns-clause-chooses_again : goal.returns-clause-chooses_again
returns-clause-chooses_again c = chooses_again

pub returns-clause-sends_before_ack : goal.returns-clause-sends_before_ack
returns-clause-sends_before_ack c = sends_before_ack

pub returns-clause-wants_owing : goal.returns-clause-wants_owing
returns-clause-wants_owing c = wants_owing

pub returns-clause-records_too_much : goal.returns-clause-records_too_much
returns-clause-records_too_much c = records_too_much

pub returns-clause-counts_no_weight : goal.returns-clause-counts_no_weight
returns-clause-counts_no_weight c = counts_no_weight

pub returns-clause-limits_early : goal.returns-clause-limits_early
returns-clause-limits_early c = limits_early
