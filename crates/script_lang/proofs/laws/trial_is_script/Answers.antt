use Rattle.script_lang.proofs.TrialLaws.{trial_is_script}
use Rattle.script_lang.proofs.laws.trial_is_script.Goals as goal

pub returns : goal.returns
returns c = trial_is_script c.opcode_tells_name.ensures c.interface_tells_name.ensures
