use Rattle.owed_groups.proofs.RunLemmas.{last_of}
use Rattle.owed_groups.proofs.eyes.last_end.Goals as goal

pub returns-in-Some : goal.returns-in-Some
returns-in-Some c = last_of 0 c.args.runs.now c.in-Some.run'.now c.in-Some.ensures.value
