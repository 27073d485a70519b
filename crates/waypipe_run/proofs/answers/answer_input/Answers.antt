use Rattle.waypipe_run.proofs.AnswerLemmas.{answered, on_command}
use Rattle.waypipe_run.proofs.answers.answer_input.Goals as goal

pub returns-in-Ok-clause-reply : goal.returns-in-Ok-clause-reply
returns-in-Ok-clause-reply g c =
    let read = c.in-Ok.ensures.answer in
    answered c.answer_bytes.result c.args.task c.args.words.now _ _ c.in-Ok.bytes c.requires.asks
    (record { taken = read.0; nothing_left = read.1; no_fault = read.2; bounded = read.3 }) c.answer_bytes.ensures.reply

pub returns-in-Ok-clause-untouched : goal.returns-in-Ok-clause-untouched
returns-in-Ok-clause-untouched g c =
    let read = c.in-Ok.ensures.answer in
    on_command c.answer_bytes.result c.args.task c.args.words.now _ _ c.in-Ok.bytes c.requires.asks
    (record { taken = read.0; nothing_left = read.1; no_fault = read.2; bounded = read.3 }) c.answer_bytes.ensures.untouched
