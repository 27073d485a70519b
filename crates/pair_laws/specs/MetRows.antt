-- Worked rows: two pairs of sides that agree, computed from their events, so that what the laws of a
-- pair ask for can be met. The messages are those of wayland.xml, the link is this project's own.
use Rattle.std.specs.Prelude.{ℕ, ◌+◌, List, [], ◌∷◌, ◌++◌, length, codes, Option, Some, None}
use Rattle.wp_outside.specs.declared.kinds.Side.TheVariants.{Near, Far}
use Rattle.wl_wire.specs.declared.arguments.Arg.TheVariants as arg
use Rattle.wl_wire.specs.declared.faults.ObjectFault.TheVariants.{UnknownObject}
use Rattle.wl_wire.specs.Building.{built}
use Rattle.transfer_frames.specs.declared.cause.FrameCause.TheVariants.{PeerMessage}
use Rattle.transfer_frames.specs.declared.frame.Frame.{Frame}
use Rattle.transfer_frames.specs.declared.frame.Frame.TheVariants as frames
use Rattle.transfer_frames.specs.Grammar.{spelling}
use Rattle.half_model.specs.Rows.{get_registry, bind}
use Rattle.side_model.specs.declared.fault.ProxyFault.{ProxyFault}
use Rattle.side_model.specs.declared.fault.ProxyFault.TheVariants as faults
use Rattle.side_model.specs.Events.{Event, Up, Came, Went, Gave}
use Rattle.side_model.specs.Running.{Run, begins, calls, MOST_DUE}
use Rattle.side_model.specs.WorkedRows.{TOKEN, puts}
use Rattle.pair_laws.specs.Everything.{Drained}
use Rattle.pair_laws.specs.Pairs.{OneSide, IsPair}

-- what a run leaves
abbrev pub ended : Run → Option ProxyFault → OneSide
ended run fault = record { token = TOKEN; book = run.book; fault = fault }

-- the first frame of each side
abbrev pub restart : List ℕ
restart = spelling (frames.Restart TOKEN 1 0)

abbrev pub sends : Frame → Event
sends frame = Went (length (spelling frame))

-- ---- a message is refused

-- the application makes a registry, and then binds one of its globals
abbrev pub makes_registry : Frame
makes_registry = frames.Protocol get_registry

abbrev pub binds : Frame
binds = frames.Protocol (bind 1 (codes "wl_compositor") 6 3)

-- the compositor gives the registry's id free
abbrev pub delete_id : List ℕ
delete_id = built 1 1 (arg.Uint 2 ∷ [])

abbrev pub binding_events : List Event
binding_events =
    Up 1 ∷ puts get_registry ∷ Went (length restart) ∷ Came restart ∷ sends makes_registry
    ∷ puts (bind 1 (codes "wl_compositor") 6 3)
    ∷ sends binds
    ∷ []

unfoldable pub binding : Run
binding = calls MOST_DUE binding_events (begins Near TOKEN)

abbrev pub deleting_events : List Event
deleting_events =
    Up 1 ∷ Went (length restart) ∷ Came (restart ++ spelling makes_registry) ∷ puts delete_id
    ∷ Came (spelling binds)
    ∷ []

unfoldable pub deleting : Run
deleting = calls MOST_DUE deleting_events (begins Far TOKEN)

-- it does so before it has heard the second message, which its side refuses then
abbrev pub unknown_object : ProxyFault
unknown_object =
    faults.Frame 1 (length restart + length (spelling makes_registry)) (PeerMessage UnknownObject)

abbrev pub RefusesBind : Type 0
RefusesBind = IsPair (ended binding None) (ended deleting (Some unknown_object))

-- ---- all is received

-- the first message alone goes over the link, and its ACK comes back
abbrev pub showing_events : List Event
showing_events =
    Up 1 ∷ puts get_registry ∷ Went (length restart) ∷ Came restart ∷ sends makes_registry
    ∷ Came (spelling (frames.Ack 1))
    ∷ []

unfoldable pub showing : Run
showing = calls MOST_DUE showing_events (begins Near TOKEN)

abbrev pub giving_events : List Event
giving_events =
    Up 1 ∷ Went (length restart) ∷ Came (restart ++ spelling makes_registry)
    ∷ sends (frames.Ack 1)
    ∷ Gave
    ∷ []

unfoldable pub giving : Run
giving = calls MOST_DUE giving_events (begins Far TOKEN)

pub record ReceivesAll : Type 0 where
  pub pair : IsPair (ended showing None) (ended giving None)
  pub drained : Drained (ended showing None) (ended giving None) pair
