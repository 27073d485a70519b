use Rattle.pair_model.proofs.Wrongs.{no_greeting, other_token, other_connection, count_above_made, greets_again, ack_above_sent, behind_close, fault_passed_by, two_lines, read_behind_stop, wrote_behind_stop, ack_keeps_nothing, sent_early, heard_early}
use Rattle.pair_model.proofs.laws.wrong_sides.Goals as goal

pub returns-clause-no_greeting : goal.returns-clause-no_greeting
returns-clause-no_greeting c = no_greeting

pub returns-clause-other_token : goal.returns-clause-other_token
returns-clause-other_token c = other_token

pub returns-clause-other_connection : goal.returns-clause-other_connection
returns-clause-other_connection c = other_connection

pub returns-clause-count_above_made : goal.returns-clause-count_above_made
returns-clause-count_above_made c = count_above_made

pub returns-clause-greets_again : goal.returns-clause-greets_again
returns-clause-greets_again c = greets_again

pub returns-clause-ack_above_sent : goal.returns-clause-ack_above_sent
returns-clause-ack_above_sent c = ack_above_sent

pub returns-clause-behind_close : goal.returns-clause-behind_close
returns-clause-behind_close c = behind_close

pub returns-clause-fault_passed_by : goal.returns-clause-fault_passed_by
returns-clause-fault_passed_by c = fault_passed_by

pub returns-clause-two_lines : goal.returns-clause-two_lines
returns-clause-two_lines c = two_lines

pub returns-clause-read_behind_stop : goal.returns-clause-read_behind_stop
returns-clause-read_behind_stop c = read_behind_stop

pub returns-clause-wrote_behind_stop : goal.returns-clause-wrote_behind_stop
returns-clause-wrote_behind_stop c = wrote_behind_stop

pub returns-clause-ack_keeps_nothing : goal.returns-clause-ack_keeps_nothing
returns-clause-ack_keeps_nothing c = ack_keeps_nothing

pub returns-clause-sent_early : goal.returns-clause-sent_early
returns-clause-sent_early c = sent_early

pub returns-clause-heard_early : goal.returns-clause-heard_early
returns-clause-heard_early c = heard_early
