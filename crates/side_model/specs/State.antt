-- What one proxy of the pair has between two events, as plain data; proxies and their link are this
-- project's own.
use Rattle.std.specs.Prelude.{ℕ, Bool, false, List, [], Option, None}
use Rattle.wp_outside.specs.declared.kinds.Side.{Side}
use Rattle.half_model.specs.declared.items.PeerOut.{PeerOut}
use Rattle.half_model.specs.declared.notes.Noted.{Noted}
use Rattle.half_model.specs.Content.{Taking, no_taking}
use Rattle.half_model.specs.Jobs.{Job}
use Rattle.half_model.specs.Tables.{Tables, first_tables}
use Rattle.half_model.specs.Turn.{Sending, no_sending}
use Rattle.pair_model.specs.RingState.{RingState, ring_new}
use Rattle.pair_model.specs.Steps.{Here}
use Rattle.side_model.specs.declared.fault.ProxyFault.{ProxyFault}

-- whether a proxy was asked to close, with a reason, and whether it made CLOSE then
pub data Closing : Type 0 where
  Open : Closing
  Asked : ℕ → Closing
  Made : Closing

-- What stays when the proxy fails for good.
pub record KeptPart : Type 0 where
  -- the frames that the other side is not known to have accepted
  pub ring : RingState
  -- how many of the other side's frames were accepted, and whether CLOSE was
  pub accepted : ℕ
  pub heard_close : Bool
  pub closing : Closing
  -- the number of the last connection, 0 before the first
  pub last : ℕ
  -- the copies of the message that is owed, and what was noted and not told
  pub jobs : List Job
  pub notes : List Noted

-- What is no longer spoken of then.
pub record LivePart : Type 0 where
  -- the connection that is up
  pub here : Option Here
  pub tables : Tables
  pub sending : Sending
  pub taking : Taking
  -- what its peer is to be given: the items of the other side, and behind them the receipts of its
  -- own copies
  pub items : List PeerOut
  pub receipts : List PeerOut

pub record Now : Type 0 where
  pub side : Side
  -- the session's token
  pub token : List ℕ
  -- for what it has failed
  pub fault : Option ProxyFault
  pub kept : KeptPart
  pub live : LivePart

-- at first
abbrev pub nothing_kept : KeptPart
nothing_kept = record {
  ring = ring_new;
  accepted = 0;
  heard_close = false;
  closing = Open;
  last = 0;
  jobs = [];
  notes = [];
}

abbrev pub nothing_live : Side → LivePart
nothing_live side = record {
  here = None;
  tables = first_tables side;
  sending = no_sending;
  taking = no_taking;
  items = [];
  receipts = [];
}

abbrev pub no_proxy : Side → List ℕ → Now
no_proxy side token =
    record {
      side = side;
      token = token;
      fault = None;
      kept = nothing_kept;
      live = nothing_live side;
    }
