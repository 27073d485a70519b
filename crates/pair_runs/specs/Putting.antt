-- What the peers of a run put on their wires by its lines, and what waits of it in a side that took
-- some messages; messages are Wayland's, the items beside them are this project's own.
use Rattle.std.specs.Prelude.{◌≡◌, List, [], ◌∷◌, ◌++◌, map, flat_map}
use Rattle.std.specs.List.{AllByRecursion}
use Rattle.wp_outside.specs.declared.kinds.Side.{Side}
use Rattle.wp_outside.specs.declared.kinds.Side.TheVariants.{Near, Far}
use Rattle.wl_wire.specs.Wire.{IsMessage}
use Rattle.wl_objects.specs.Entries.{Tracked, first_objects}
use Rattle.half_model.specs.declared.items.PeerIn.{PeerIn}
use Rattle.half_model.specs.declared.items.PeerIn.TheVariants as items
use Rattle.half_model.specs.Inlet.{Inlet, no_inlet, with_item}
use Rattle.side_model.specs.Books.{Book}
use Rattle.pair_runs.specs.Leaving.{Leaves, Passes}
use Rattle.pair_runs.specs.Moves.{Move, Put}
use Rattle.pair_runs.specs.Runs.{Played, moves_of}

-- ---- what is put

-- the items of this peer
abbrev pub if_its : Side → Side → List PeerIn → List PeerIn
if_its Near Near put = put
if_its Far Far put = put
if_its peer side put = []

abbrev pub items_of_move : Side → Move → List PeerIn
items_of_move peer (Put side put) = if_its peer side put
items_of_move peer move = []

abbrev pub items_of_moves : Side → List Move → List PeerIn
items_of_moves peer moves = flat_map (items_of_move peer) moves

abbrev pub items_by : Side → Played → List PeerIn
items_by peer it = items_of_moves peer (moves_of it.what it.puts)

-- all that a peer puts by a script's lines, in order
abbrev pub items_put : Side → List Played → List PeerIn
items_put peer played = flat_map (items_by peer) played

-- ---- byte by byte

abbrev pub spread_item : PeerIn → List PeerIn
spread_item (items.Bytes bytes) = map (λ byte. items.Bytes (byte ∷ [])) bytes
spread_item item = item ∷ []

abbrev pub spread : List PeerIn → List PeerIn
spread put = flat_map spread_item put

-- ---- what waits

-- an inlet with these items, one after another
abbrev pub with_items : List PeerIn → Inlet → Inlet
with_items [] inlet = inlet
with_items (item ∷ others) inlet = with_items others (with_item item inlet)

abbrev pub inlet_of : List PeerIn → Inlet
inlet_of put = with_items put no_inlet

-- Of all that a peer put, byte by byte, the first items are in, and the others are still to come.
-- The messages were taken of what is in that these records have, in an order of passing that they
-- tell, behind which these objects are tracked; and this waits.
pub record TakenOf (side : Side) (put : List PeerIn) (book : Book) (waits : Inlet)
    (objects : Tracked) (others : List PeerIn) : Type 0 where
  pub side_is : book.trail.side ≡ side
  pub ins : List PeerIn
  pub split : ins ++ others ≡ spread put
  pub whole : AllByRecursion IsMessage book.trail.taken
  pub left : Leaves book.trail.taken (inlet_of ins) waits
  pub passes : Passes side left.uses first_objects objects [] book.order
