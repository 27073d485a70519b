use Rattle.side_model.proofs.Judgings.{hears_just_those, judged_by_record, accepts_just_those}
use Rattle.side_model.proofs.laws.frames_are_judged.Goals as goal

pub returns-clause-hears : goal.returns-clause-hears
returns-clause-hears c = hears_just_those

pub returns-clause-judged : goal.returns-clause-judged
returns-clause-judged c = judged_by_record

pub returns-clause-accepts : goal.returns-clause-accepts
returns-clause-accepts c = accepts_just_those
