-- The copies of the message that is owed: those of the sending half, or, where memory ran out behind
-- the last of them, those that it had then. This project's own.
use Rattle.std.specs.Prelude.{List, Option, Some, None}
use Rattle.half_model.specs.Jobs.{Job}
use Rattle.proxy_core.specs.declared.past.Past.{Past}

abbrev pub jobs_of : Option Past → List Job → List Job
jobs_of None jobs = jobs
jobs_of (Some past) jobs = past.jobs
