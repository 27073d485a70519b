use Rattle.waypipe_run.proofs.AnswerLemmas.{on_script}
use Rattle.waypipe_run.proofs.scripts.answer_text.Goals as goal

pub returns-in-Ok-clause-untouched : goal.returns-in-Ok-clause-untouched
returns-in-Ok-clause-untouched g c =
    on_script c.answer_script.result _ c.args.text c.in-Ok.script.steps c.in-Ok.ensures c.answer_script.ensures.untouched
