-- What a proxy is, read off its fields, and what holds of them; this project's own.
use Rattle.std.specs.Prelude.{◌≡◌, ℕ, true, List, [], map, Option, Some, None, option_map}
use Rattle.std.specs.Prelude.{is_some}
use Rattle.half_model.specs.Jobs.{Job, all_back}
use Rattle.pair_model.specs.RingState.{RingState}
use Rattle.pair_model.specs.Steps.{Here}
use Rattle.pair_model.specs.Tally.{Tally}
use Rattle.send_half.specs.SendState.{SendState, tables_of}
use Rattle.take_half.specs.TakeState.{TakeState}
use Rattle.handle_table.specs.Table.{Table}
use Rattle.side_model.specs.State.{Now, Closing, Open, Asked, Made}
use Rattle.side_model.specs.Steps.{receipt_item}
use Rattle.proxy_core.specs.declared.link.Link.{Link}
use Rattle.proxy_core.specs.declared.closing.Closing as codes
use Rattle.proxy_core.specs.declared.closing.Closing.TheVariants as wishes
use Rattle.proxy_core.specs.declared.machine.Machine.TheInside.{Inside}
use Rattle.proxy_core.specs.declared.past.Past.{Past}
use Rattle.proxy_core.specs.Fronts.{front_bytes, is_kept, HasBytes}
use Rattle.proxy_core.specs.Jobs.{jobs_of}

abbrev pub closing_of : codes.Closing → Closing
closing_of wishes.Open = Open
closing_of (wishes.Asked reason) = Asked reason
closing_of wishes.Made = Made

-- the connection that is up
abbrev pub here_of : RingState → Tally → Link → Here
here_of ring counts link = record {
  connection = link.connection;
  received = link.received;
  answer = counts.answer;
  next = link.next;
  whole = counts.whole;
  told = link.told;
  front = front_bytes link.front link.next ring;
  counts = is_kept link.front;
  unread = link.reader.front;
  place = link.reader.place;
}

abbrev pub now_of : Inside → Now
now_of it = record {
  side = it.sending.side;
  token = it.counts.token;
  fault = it.fault;
  kept = record {
    ring = it.ring;
    accepted = it.counts.accepted;
    heard_close = it.counts.closed;
    closing = closing_of it.closing;
    last = it.last;
    jobs = jobs_of it.past it.sending.jobs;
    notes = it.notes.items;
  };
  live = record {
    here = option_map (here_of it.ring it.counts) it.link;
    tables = tables_of it.objects it.handles it.pipes;
    sending = it.sending.sending;
    taking = it.taking.taking;
    items = it.taking.items;
    receipts = map receipt_item it.sending.receipts;
  };
}

-- ---- what holds of the fields

-- while it has not failed: neither half has, and what the sending half made is taken
pub record Runs (taken : ℕ) (sending : SendState) (taking : TakeState) (handles : Table)
    (past : Option Past) : Type 0 where
  pub handles_side : handles.side ≡ sending.side
  pub taking_side : taking.side ≡ sending.side
  pub sends : sending.fault ≡ None
  pub takes : taking.fault ≡ None
  pub frames : sending.frames ≡ []
  pub noted : sending.noted ≡ []
  pub taken_is : sending.sending.taken ≡ taken
  -- no copy where nothing is owed
  pub jobs : sending.sending.owes ≡ None → sending.jobs ≡ []
  pub past_none : past ≡ None

-- the copies that were back are awaited no more
abbrev pub IsPast : Option Past → List Job → Type 0
IsPast None jobs = Unit {0}
IsPast (Some past) jobs = (all_back past.jobs ≡ true) × (jobs ≡ [])

-- the counts are those of the connection that is up
pub record IsJoined (counts : Tally) (link : Link) : Type 0 where
  pub number : counts.connection ≡ Some link.connection
  pub answered : link.answered ≡ is_some counts.answer
  pub bytes : HasBytes link.front

abbrev pub IsCounted : Tally → Option Link → Type 0
IsCounted counts None = Unit {0}
IsCounted counts (Some link) = IsJoined counts link

pub record IsWired (it : Inside) : Type 0 where
  pub runs : it.fault ≡ None → Runs it.taken it.sending it.taking it.handles it.past
  pub past : IsPast it.past it.sending.jobs
  pub counted : IsCounted it.counts it.link
