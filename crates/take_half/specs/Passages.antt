-- What messages of the other side leave as they pass, and what the call answers that passes them;
-- this project's own.
use Rattle.std.specs.Prelude.{◌≡◌, ℤ, List, [], Result, Ok, Err}
use Rattle.wl_objects.specs.Entries.{Tracked}
use Rattle.transfer_frames.specs.declared.cause.FrameCause.{FrameCause}
use Rattle.pipe_relay.specs.Pipes.{Rids}
use Rattle.half_model.specs.declared.causes.TakeFault.{TakeFault}
use Rattle.half_model.specs.declared.causes.TakeFault.TheVariants as faults
use Rattle.half_model.specs.declared.items.PeerOut.{PeerOut}
use Rattle.half_model.specs.Content.{Passage}

-- a passage but for the objects
pub record PassingState : Type 0 where
  pub waiting : List ℤ
  pub held : Rids
  pub given : List PeerOut

abbrev pub no_passage : PassingState
no_passage = record { waiting = []; held = []; given = [] }

abbrev pub passage : Tracked → PassingState → Passage
passage tracked s =
    record { tracked = tracked; waiting = s.waiting; held = s.held; given = s.given }

-- messages pass as they are to, and want of memory may come at any time
abbrev pub Passes : Result Unit TakeFault → Result Passage FrameCause → Passage → Type 0
Passes (Ok done) told after = told ≡ Ok after
Passes (Err (faults.Frame cause)) told after = told ≡ Err cause
Passes (Err faults.Memory) told after = Unit {0}
