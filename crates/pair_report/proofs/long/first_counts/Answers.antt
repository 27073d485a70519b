use Rattle.std.proofs.Common.{sym, ap, length}
use Rattle.pair_audit.proofs.WalkLemmas.{none_there}
use Rattle.pair_report.proofs.long.first_counts.Goals as goal

pub returns-in-len1-up-clause-written : goal.returns-in-len1-up-clause-written
returns-in-len1-up-clause-written c =
    sym (ap length (none_there c.args.connection c.args.rows.now c.line-item.result c.in-len1-up.len_at_least c.line-item.is c.if-line-connection.true c.requires).written)

pub returns-in-len1-up-clause-read : goal.returns-in-len1-up-clause-read
returns-in-len1-up-clause-read c =
    sym (ap length (none_there c.args.connection c.args.rows.now c.line-item.result c.in-len1-up.len_at_least c.line-item.is c.if-line-connection.true c.requires).read)
