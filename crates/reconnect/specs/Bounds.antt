-- What holds of a side's counts at all times: this project's own.
use Rattle.std.specs.Prelude.{◌≡◌, ℕ, ◌+◌, ◌≤◌, Option, None, unwrap_or}
use Rattle.pair_model.specs.LinkFaults.{MOST_FRAMES}

-- No more frames are accepted, and no more are told and sent together, than can be counted; and
-- none is sent before the other side's RESTART is read.
pub record IsBounded (accepted : ℕ) (answer : Option ℕ) (whole : ℕ) : Type 0 where
  pub accepted_few : accepted ≤ MOST_FRAMES
  pub sent_few : unwrap_or answer 0 + whole ≤ MOST_FRAMES
  pub none_early : answer ≡ None → whole ≡ 0
