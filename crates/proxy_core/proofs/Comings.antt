-- A connection that comes up lends its RESTART, and nothing else is due then.
use Rattle.std.proofs.Common.{◌≡◌, ℕ, ◌≤◌, Bool, false, List, [], Some, None, ap, ◌∙◌}
use Rattle.std.proofs.lemmas.Bool.{le-ltb}
use Rattle.std.specs.Prelude.{if◌then◌else◌}
use Rattle.frame_stream.specs.Stream.{Stream}
use Rattle.transfer_frames.specs.declared.frame.Frame.TheVariants.{Restart}
use Rattle.transfer_frames.specs.Grammar.{spelling}
use Rattle.half_model.specs.declared.causes.Limit.TheVariants.{Connections}
use Rattle.pair_model.specs.Tally.{Tally, tally_greet}
use Rattle.side_model.specs.declared.fault.ProxyFault.TheVariants as faults
use Rattle.side_model.specs.Calls.{barred, MOST_CONNECTIONS}
use Rattle.side_model.specs.Events.{Up}
use Rattle.side_model.specs.State.{Now}
use Rattle.side_model.specs.Steps.{step}
use Rattle.proxy_core.specs.declared.link.Front.TheVariants.{Small}
use Rattle.proxy_core.specs.declared.machine.Machine.TheInside.{Inside}
use Rattle.proxy_core.specs.Inside.{now_of}

-- its number is not too great
pub up_passes : (connection : ℕ) (s : Now) → connection ≤ MOST_CONNECTIONS → barred (Up connection) s ≡ None
up_passes connection s l = ap (λ (b : Bool). if b then Some (faults.Limit Connections) else None) (le-ltb MOST_CONNECTIONS connection l)

-- the proxy with these counts, this reader and this front on it
abbrev pub with_line : Inside → ℕ → Tally → ℕ → Stream → List ℕ → Inside
with_line it connection counts accepted reader front = record it {
  counts = counts;
  last = connection;
  link = Some (record {
    connection = connection;
    received = accepted;
    answered = false;
    reader = reader;
    front = Small front;
    next = 0;
    told = accepted;
  });
}

abbrev unread : Stream
unread = record { front = []; place = 0 }

pub up_is : (it : Inside) (connection : ℕ) (counts : Tally) (accepted : ℕ) (reader : Stream) (front : List ℕ)
    → counts ≡ tally_greet connection it.counts → accepted ≡ it.counts.accepted → reader ≡ unread → front ≡ spelling (Restart it.counts.token connection it.counts.accepted)
    → now_of (with_line it connection counts accepted reader front) ≡ step (Up connection) (now_of it)
unfolding step
up_is it connection counts accepted reader front ec ea er ef =
    ap (λ (c : Tally). now_of (with_line it connection c accepted reader front)) ec
    ∙ ap (λ (n : ℕ). now_of (with_line it connection (tally_greet connection it.counts) n reader front)) ea
    ∙ ap (λ (r : Stream). now_of (with_line it connection (tally_greet connection it.counts) it.counts.accepted r front)) er
    ∙ ap (λ (f : List ℕ). now_of (with_line it connection (tally_greet connection it.counts) it.counts.accepted unread f)) ef
