-- What a side counts on its connections, as numbers alone, and how it judges the other's frames by
-- them and by its ring; the link is this project's own.
use Rattle.std.specs.Prelude.{ℕ, ◌+◌, ◌||◌, Bool, false, List, Option, Some, None, unwrap_or}
use Rattle.pair_model.specs.LinkFaults.{Judge}
use Rattle.pair_model.specs.RingState.{RingState, ring_made}

-- the session's token; how many of the other's frames were accepted, and whether CLOSE is among
-- them; the number of the connection that was begun last, the received count of the other's RESTART
-- on it, once that was read, and how many counted frames are wholly sent there
pub record Tally : Type 0 where
  pub token : List ℕ
  pub accepted : ℕ
  pub closed : Bool
  pub connection : Option ℕ
  pub answer : Option ℕ
  pub whole : ℕ

abbrev pub tally_new : List ℕ → Tally
tally_new token = record {
  token = token;
  accepted = 0;
  closed = false;
  connection = None;
  answer = None;
  whole = 0;
}

-- a connection begins
abbrev pub tally_greet : ℕ → Tally → Tally
tally_greet connection tally =
    record tally { connection = Some connection; answer = None; whole = 0 }

-- the other's RESTART is read, with this received count
abbrev pub tally_answered : ℕ → Tally → Tally
tally_answered received tally = record tally { answer = Some received }

-- one more of the other's counted frames is accepted
abbrev pub tally_counted : Bool → Tally → Tally
tally_counted closes tally =
    record tally { accepted = tally.accepted + 1; closed = tally.closed || closes }

-- one more of the counted frames is wholly sent
abbrev pub tally_whole : Tally → Tally
tally_whole tally = record tally { whole = tally.whole + 1 }

-- what the next frame read on the connection is judged by
abbrev pub judge_of_counts : RingState → Tally → Judge
judge_of_counts ring tally = record {
  token = tally.token;
  connection = unwrap_or tally.connection 0;
  acknowledged = ring.acknowledged;
  made = ring_made ring;
  whole = tally.whole;
  accepted = tally.accepted;
  closed = tally.closed;
}
