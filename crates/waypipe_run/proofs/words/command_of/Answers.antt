use Rattle.waypipe_run.proofs.WordLemmas.{trial_told, never}
use Rattle.waypipe_run.proofs.words.command_of.Goals as goal

pub returns-else-is_one-2 : goal.returns-else-is_one-2
returns-else-is_one-2 c =
    trial_told c.trial_of.result c.args.words.now (never c.if-is_one.ensures) (never c.if-is_two.ensures) (never c.if-is_two-2.ensures)
    (never c.if-has_both_options.ensures) (never c.if-is_one-2.ensures) c.trial_of.ensures
