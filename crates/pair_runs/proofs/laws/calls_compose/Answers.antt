use Rattle.pair_runs.proofs.More.{works_more, reads_more, part_more, writes_more, begins_first, gives_no_more}
use Rattle.pair_runs.proofs.laws.calls_compose.Goals as goal

pub returns-clause-works : goal.returns-clause-works
returns-clause-works c = works_more

pub returns-clause-reads : goal.returns-clause-reads
returns-clause-reads c = reads_more

pub returns-clause-writes : goal.returns-clause-writes
returns-clause-writes c = writes_more

pub returns-clause-first : goal.returns-clause-first
returns-clause-first c = begins_first

pub returns-clause-gives : goal.returns-clause-gives
returns-clause-gives c = gives_no_more

pub returns-clause-part : goal.returns-clause-part
returns-clause-part c = part_more
