-- The copies that were all back when memory ran out behind them; this project's own.
use Rattle.std.specs.Prelude.{List}
use Rattle.half_model.specs.Jobs.{Job}

pub record PastJobs : Type 0 where
  pub jobs : List Job
