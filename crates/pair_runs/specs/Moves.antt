-- What moves in a run, one thing after another: items, words, bytes, connections. The moves are
-- this project's own.
use Rattle.std.specs.Prelude.{◌≡◌, ℕ, suc, ◌<◌, ◌||◌, ◌&&◌, not, nat_lt, if◌then◌else◌, Bool}
use Rattle.std.specs.Prelude.{true, false, is_none, List, [], ◌∷◌, ◌++◌, take, drop, length}
use Rattle.std.specs.Prelude.{slice_set, Option, Some, None, option_map, ◌⊎◌}
use Rattle.wp_outside.specs.declared.kinds.Direction.{Direction}
use Rattle.wp_outside.specs.declared.kinds.Side.{Side}
use Rattle.wp_outside.specs.declared.kinds.Side.TheVariants.{Near, Far}
use Rattle.half_model.specs.declared.items.PeerIn.{PeerIn}
use Rattle.side_model.specs.Calls.{MOST_CONNECTIONS}
use Rattle.side_model.specs.declared.fault.ProxyFault.{ProxyFault}
use Rattle.side_model.specs.Shows.{is_empty}
use Rattle.pair_runs.specs.Kept.{Kept}
use Rattle.pair_runs.specs.Linking.{with_line, Writes, WritesInPart, Reads, ReadsInPart}
use Rattle.pair_runs.specs.Loading.{Loads, LoadsAll}
use Rattle.pair_runs.specs.Sides.{SideState, asked, ring_in}
use Rattle.pair_runs.specs.States.{State, Lanes, Fault, no_lanes, side_at, with_side, wire_at}
use Rattle.pair_runs.specs.States.{with_wire, lane_at, on_lane, writer, reader, connections}
use Rattle.pair_runs.specs.Taking.{Taker, TakesAll}
use Rattle.pair_runs.specs.Whys.{RefusesLine, RefusesPiece}
use Rattle.pair_runs.specs.Working.{Works, WorksInPart}

-- one thing that moves; counts of bytes and of words are the greatest ones
pub data Move : Type 0 where
  -- a peer puts items on its wire, and its side takes from it
  Put : Side → List PeerIn → Move
  Take : Side → ℕ → Move
  -- words of the copies that are awaited are loaded: so many, or all of one side
  Load : ℕ → Move
  LoadAll : Side → Move
  -- a connection is made, in any case or where a frame is kept; it breaks
  Connect : Move
  ConnectIfHeld : Move
  Break : Move
  -- bytes go onto the line, and off it; one that waits there is replaced
  Push : Direction → ℕ → Move
  Pull : Direction → ℕ → Move
  Spoil : Direction → ℕ → ℕ → Move
  -- a side is asked to close
  Close : Side → Move

-- this side has met this fault, or none has
abbrev pub at_side : Side → Option ProxyFault → Option Fault
at_side side stop = option_map (λ fault. record { side = side; fault = fault }) stop

-- ---- wires and copies

-- one side alone has changed, with its wire
abbrev pub Taken : Side → ℕ → State → State → Option Fault → Type 0
Taken side most s t stop =
    (b : Taker) × ((fault : Option ProxyFault)
    × TakesAll most (record { side = side_at side s; wire = wire_at side s }) b fault
    × (t ≡ with_side side b.side (with_wire side b.wire s)) × (stop ≡ at_side side fault))

-- the near side's words are loaded first, and those that are over are the far side's
abbrev pub LoadedThen : SideState → ℕ → Option ProxyFault → State → State → Option Fault → Type 0
LoadedThen near over (Some fault) s t stop =
    (t ≡ record s { near = near }) × (stop ≡ at_side Near (Some fault))
LoadedThen near over None s t stop =
    (far : SideState) × ((rest : ℕ) × ((fault : Option ProxyFault) × Loads over s.far far rest fault
    × (t ≡ record s { near = near; far = far }) × (stop ≡ at_side Far fault)))

abbrev pub Loaded : ℕ → State → State → Option Fault → Type 0
Loaded words s t stop =
    (near : SideState) × ((over : ℕ) × ((fault : Option ProxyFault)
    × Loads words s.near near over fault × LoadedThen near over fault s t stop))

abbrev pub LoadedAll : Side → State → State → Option Fault → Type 0
LoadedAll side s t stop =
    (b : SideState) × ((fault : Option ProxyFault) × LoadsAll (side_at side s) b fault
    × (t ≡ with_side side b s) × (stop ≡ at_side side fault))

-- ---- connections

-- whether a side keeps frames
abbrev pub holds : SideState → Bool
holds it = not (is_empty (ring_in it.book.trail).frames)

-- with a line more, or not yet
abbrev pub LineInPart : ℕ → SideState → SideState → Type 0
LineInPart connection a b = (b.book ≡ a.book) ⊎ (b.book ≡ (with_line connection a).book)

-- the side that meets the fault has the line or not; the near side comes first
abbrev pub ConnectFails : Side → ℕ → State → State → Type 0
ConnectFails Near connection s t =
    (b : SideState) × LineInPart connection s.near b × (t ≡ record s { near = b })
ConnectFails Far connection s t =
    (b : SideState) × LineInPart connection s.far b
    × (t ≡ record s { near = with_line connection s.near; far = b })

-- the next connection is made; there is none above the greatest
abbrev pub ConnectBy : Option Fault → State → State → Type 0
ConnectBy None s t =
    (connections s < MOST_CONNECTIONS)
    × (t ≡ record s {
      near = with_line (suc (connections s)) s.near;
      far = with_line (suc (connections s)) s.far;
      line = Some no_lanes;
    })
ConnectBy (Some it) s t =
    RefusesLine (suc (connections s)) it.fault (side_at it.side s).book.trail
    × ConnectFails it.side (suc (connections s)) s t

abbrev pub ConnectedBy : Bool → State → State → Option Fault → Type 0
ConnectedBy true s t stop = ConnectBy stop s t
ConnectedBy false s t stop = (t ≡ s) × (stop ≡ None)

-- it is made only where none is up, and this holds
abbrev pub Connected : Bool → State → State → Option Fault → Type 0
Connected makes s t stop = ConnectedBy (is_none s.line && makes) s t stop

-- ---- the line

-- bytes of the side that writes are put at the end of a lane, if a connection is up
abbrev pub WritesBy : Option ProxyFault → ℕ → List ℕ → SideState → SideState → Type 0
WritesBy None most bytes a b = Writes most bytes a b
WritesBy (Some fault) most bytes a b =
    WritesInPart most bytes a b × RefusesPiece fault b.book.trail

abbrev pub PushedOn : Option Lanes → Direction → ℕ → State → State → Option Fault → Type 0
PushedOn None dir most s t stop = (t ≡ s) × (stop ≡ None)
PushedOn (Some lanes) dir most s t stop =
    (bytes : List ℕ) × ((b : SideState) × ((fault : Option ProxyFault)
    × WritesBy fault most bytes (side_at (writer dir) s) b
    × (t ≡ on_lane dir (λ lane. lane ++ bytes) (with_side (writer dir) b s))
    × (stop ≡ at_side (writer dir) fault)))

-- as many bytes as wait, up to a count, go to the side that reads
abbrev pub PulledBy : Option ProxyFault → Direction → List ℕ → State → State → Type 0
PulledBy None dir bytes s t =
    (b : SideState) × Reads bytes (side_at (reader dir) s) b
    × (t ≡ on_lane dir (λ lane. drop (length bytes) lane) (with_side (reader dir) b s))
PulledBy (Some fault) dir bytes s t =
    (b : SideState) × ((pulled : List ℕ)
    × ReadsInPart bytes fault pulled (side_at (reader dir) s) b
    × (t ≡ on_lane dir (λ lane. drop (length pulled) lane) (with_side (reader dir) b s)))

abbrev pub PulledOff : Option Lanes → Direction → ℕ → State → State → Option Fault → Type 0
PulledOff None dir most s t stop = (t ≡ s) × (stop ≡ None)
PulledOff (Some lanes) dir most s t stop =
    (fault : Option ProxyFault) × PulledBy fault dir (take most (lane_at dir lanes)) s t
    × (stop ≡ at_side (reader dir) fault)

-- a byte that waits is replaced, if so many wait
abbrev pub spoiled : ℕ → ℕ → List ℕ → List ℕ
spoiled offset byte lane = if nat_lt offset (length lane) then slice_set lane offset byte else lane

-- ---- to close

-- a second time changes nothing
abbrev pub ClosedBy : Bool → Option ProxyFault → SideState → SideState → Type 0
ClosedBy true None a b = b ≡ a
ClosedBy true (Some fault) a b = ⊥
ClosedBy false None a b = Works false (asked a) b
ClosedBy false (Some fault) a b = WorksInPart false None fault (asked a) b

abbrev pub Closed : Side → State → State → Option Fault → Type 0
Closed side s t stop =
    (b : SideState) × ((fault : Option ProxyFault)
    × ClosedBy (side_at side s).inside.asked fault (side_at side s) b
    × (t ≡ with_side side b s) × (stop ≡ at_side side fault))

-- ---- all moves

-- what a move changes, and the fault that it meets, if it meets one
abbrev pub Changes : Move → State → State → Option Fault → Type 0
Changes (Put side put) s t stop =
    (t ≡ with_wire side (wire_at side s ++ put) s) × (stop ≡ None)
Changes (Take side most) s t stop = Taken side most s t stop
Changes (Load words) s t stop = Loaded words s t stop
Changes (LoadAll side) s t stop = LoadedAll side s t stop
Changes Connect s t stop = Connected true s t stop
Changes ConnectIfHeld s t stop = Connected (holds s.near || holds s.far) s t stop
Changes Break s t stop = (t ≡ record s { line = None }) × (stop ≡ None)
Changes (Push dir most) s t stop = PushedOn s.line dir most s t stop
Changes (Pull dir most) s t stop = PulledOff s.line dir most s t stop
Changes (Spoil dir offset byte) s t stop =
    (t ≡ on_lane dir (spoiled offset byte) s) × (stop ≡ None)
Changes (Close side) s t stop = Closed side s t stop

-- and the records of both sides are kept
pub record Moves (move : Move) (s t : State) (stop : Option Fault) : Type 0 where
  pub changes : Changes move s t stop
  pub kept : Kept stop t

-- one after the other, up to the first fault
abbrev pub MovesAll : List Move → State → State → Option Fault → Type 0
MovesAll [] s t stop = (t ≡ s) × (stop ≡ None)
MovesAll (move ∷ moves) s t stop =
    ((fault : Fault) × Moves move s t (Some fault) × (stop ≡ Some fault))
    ⊎ ((between : State) × Moves move s between None × MovesAll moves between t stop)
