use Rattle.waypipe_run.proofs.WordLemmas.{none_read, none_counted, never}
use Rattle.waypipe_run.proofs.words.rounds_of.Goals as goal

pub returns-else-is_count : goal.returns-else-is_count
returns-else-is_count c = none_counted c.args.word.now c.parse.result c.in-Ok.rounds c.in-Ok.is c.parse.ensures.value.0 (never c.if-is_count.ensures)

pub returns-in-Err : goal.returns-in-Err
returns-in-Err c = none_read c.args.word.now c.parse.result c.in-Err.field-0 c.in-Err.is c.parse.ensures.value.0
