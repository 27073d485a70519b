use Rattle.waypipe_run.proofs.OutcomeLemmas.{written_whole}
use Rattle.waypipe_run.proofs.plain.run_plain.Goals as goal

pub returns-in-Ok-write_all : goal.returns-in-Ok-write_all
returns-in-Ok-write_all g c =
    written_whole c.in-Ok.reply.status c.args.words.now _ _ _ _ c.in-Ok.reply.text c.in-Ok.ensures.reply (rw c.as_slice.ensures at c.in-Ok-write_all.ensures.ok)
