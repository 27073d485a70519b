-- Faults with which no run ends, and no move; this project's own.
use Rattle.std.specs.Prelude.{◌≡◌, ◌≢◌, ℕ, ◌<◌, List, [], ◌∷◌, length, Some}
use Rattle.std.specs.List.{AllByRecursion}
use Rattle.wp_outside.specs.declared.kinds.Side.{Side}
use Rattle.transfer_frames.specs.declared.cause.FrameCause.{FrameCause}
use Rattle.handle_table.specs.declared.handles.Handle.{Handle}
use Rattle.half_model.specs.declared.causes.Limit.TheVariants.{Connections, Input, Lines}
use Rattle.half_model.specs.declared.causes.PeerCause.{PeerCause}
use Rattle.half_model.specs.declared.causes.PeerCause.TheVariants.{HandleMissing, PipeUnknown}
use Rattle.half_model.specs.declared.items.PeerIn.{PeerIn}
use Rattle.half_model.specs.declared.items.PeerIn.TheVariants as items
use Rattle.script_lang.specs.declared.steps.Step.{Step}
use Rattle.side_model.specs.declared.fault.ProxyFault.{ProxyFault}
use Rattle.side_model.specs.declared.fault.ProxyFault.TheVariants.{Frame, Peer, Limit}
use Rattle.side_model.specs.Calls.{MOST_CONNECTIONS}
use Rattle.pair_runs.specs.Moves.{Take, LoadAll, Connect, Close, Moves}
use Rattle.pair_runs.specs.Putting.{items_put}
use Rattle.pair_runs.specs.Runs.{Played, Fails, Runs}
use Rattle.pair_runs.specs.States.{State, side_at, connections}

-- a run that ends with this fault of this side
pub record Ends (side : Side) (fault : ProxyFault) (steps : List Step) (played : List Played)
    (last : State) : Type 0 where
  pub runs : Runs steps played last (Fails (record { side = side; fault = fault }))

-- a message was refused though its peer put nothing
abbrev pub BlamesNothing : Type 0
BlamesNothing = (side : Side) (index : ℕ) (cause : PeerCause) (steps : List Step)
    (played : List Played) (last : State) → Ends side (Peer index cause) steps played last
    → items_put side played ≡ [] → ⊥

-- a message was refused that was taken, or that others stand before which were not
abbrev pub BlamesOther : Type 0
BlamesOther = (side : Side) (index : ℕ) (cause : PeerCause) (steps : List Step)
    (played : List Played) (last : State) → Ends side (Peer index cause) steps played last
    → index ≢ length (side_at side last).book.trail.taken → ⊥

-- the first message had no handle though its peer had put one before it
abbrev pub MissesHandle : Type 0
MissesHandle = (side : Side) (handle : Handle) (more : List PeerIn) (steps : List Step)
    (played : List Played) (last : State) → Ends side (Peer 0 HandleMissing) steps played last
    → items_put side played ≡ items.Handle handle ∷ more → ⊥

-- an item for a pipe was refused though none was put
abbrev pub IsNoPipe : PeerIn → Type 0
IsNoPipe (items.Pipe item) = ⊥
IsNoPipe item = Unit {0}

abbrev pub BlamesPipe : Type 0
BlamesPipe = (side : Side) (index : ℕ) (steps : List Step) (played : List Played) (last : State)
    → Ends side (Peer index PipeUnknown) steps played last
    → AllByRecursion IsNoPipe (items_put side played) → ⊥

-- the limit of connections was met with fewer of them, or one that no side has
abbrev pub LimitsFew : Type 0
LimitsFew = (side : Side) (steps : List Step) (played : List Played) (last : State)
    → Ends side (Limit Connections) steps played last → connections last < MOST_CONNECTIONS → ⊥

pub record LimitsNone : Type 0 where
  pub input : (side : Side) (steps : List Step) (played : List Played) (last : State)
      → Ends side (Limit Input) steps played last → ⊥
  pub lines : (side : Side) (steps : List Step) (played : List Played) (last : State)
      → Ends side (Limit Lines) steps played last → ⊥

-- a frame was refused where none was heard
pub record RefusesUnheard : Type 0 where
  pub takes : (side whose : Side) (most connection place : ℕ) (cause : FrameCause) (s t : State)
      → Moves (Take side most) s t (Some (record {
        side = whose;
        fault = Frame connection place cause;
      })) → ⊥
  pub closes : (side whose : Side) (connection place : ℕ) (cause : FrameCause) (s t : State)
      → Moves (Close side) s t (Some (record {
        side = whose;
        fault = Frame connection place cause;
      })) → ⊥
  pub loads : (side whose : Side) (connection place : ℕ) (cause : FrameCause) (s t : State)
      → Moves (LoadAll side) s t (Some (record {
        side = whose;
        fault = Frame connection place cause;
      })) → ⊥

-- a message was refused where a connection was made, or bytes were written
pub record BlamesLink : Type 0 where
  pub connects : (side : Side) (index : ℕ) (cause : PeerCause) (s t : State)
      → Moves Connect s t (Some (record { side = side; fault = Peer index cause })) → ⊥
