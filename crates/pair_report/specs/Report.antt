-- The report of a pair of proxies: what both peers sent and received, and what both sides and
-- their link did. It is told by their records: what was received, the mirrors and the pipes are
-- what the frames mean that a side accepted. The report is this project's own.
use Rattle.std.specs.Prelude.{ℕ, zero, suc, ℤ, Bool, true, false, List, [], ◌∷◌, ◌++◌, length}
use Rattle.std.specs.Prelude.{reverse}
use Rattle.std.specs.List.{flat_map}
use Rattle.wp_outside.specs.declared.kinds.Direction.TheVariants.{Up, Down}
use Rattle.wp_outside.specs.declared.kinds.Side.{Side}
use Rattle.wp_outside.specs.declared.kinds.Side.TheVariants.{Near, Far}
use Rattle.wl_objects.specs.Entries.{first_objects}
use Rattle.pair_model.specs.Lines.{Line, written_on, read_on}
use Rattle.mirror_pools.specs.Mirrors.{MirrorsState}
use Rattle.pipe_relay.specs.Pipes.{Rids, has_rid}
use Rattle.half_model.specs.Meaning.{Flow}
use Rattle.half_model.specs.PeerState.{PeerState, flow_at}
use Rattle.side_model.specs.Books.{Book, TrailRecord}
use Rattle.pair_laws.specs.Passing.{passing}
use Rattle.proxy_trail.specs.declared.pair.PairRecord.{PairRecord}
use Rattle.pair_report.specs.declared.options.Got.{Got}
use Rattle.pair_report.specs.declared.options.Got.TheVariants as got
use Rattle.pair_report.specs.declared.options.ReportOptions.{ReportOptions}
use Rattle.pair_report.specs.Heard.{accepted_of}
use Rattle.pair_report.specs.Meant.{Meant, Flows, meaning, with_pipe, shut_from}
use Rattle.pair_report.specs.Lines.{counts_lines, side_line, lane_line, mirror_line, pipe_line}
use Rattle.pair_report.specs.Lines.{hex_line}
use Rattle.pair_report.specs.Passing.{text_lines}

-- ---- what is reported

-- one side: its records, the order in which messages passed, and what its peer was given
pub record SideTold : Type 0 where
  pub book : Book
  pub peer : PeerState

pub record PairTold : Type 0 where
  pub near : SideTold
  pub far : SideTold
  -- the greatest number of a connection
  pub connections : ℕ

abbrev pub told_of : PairRecord → PairTold
told_of pair = record {
  near = record { book = pair.near.book; peer = pair.application };
  far = record { book = pair.far.book; peer = pair.compositor };
  connections = pair.connections;
}

-- what the frames mean that a side accepted
abbrev pub meant_at : SideTold → Meant
meant_at it = meaning (accepted_of it.book.trail)

-- ---- counts

abbrev pub counts_of : PairTold → List ℕ
counts_of pair = counts_lines pair.connections
    (length pair.near.book.trail.taken) (length (meant_at pair.near).messages)
    (length pair.far.book.trail.taken) (length (meant_at pair.far).messages)

abbrev pub side_of : Side → TrailRecord → List ℕ
side_of side trail = side_line side (length trail.made) trail.acknowledged trail.accepted

abbrev pub sides_of : PairTold → List ℕ
sides_of pair = side_of Near pair.near.book.trail ++ side_of Far pair.far.book.trail

-- what went over a connection: up from the near side to the far one, and down
abbrev pub link_lines : ℕ → (near far : List Line) → List ℕ
link_lines connection near far =
    lane_line connection Up (length (written_on connection near)) (length (read_on connection far))
    ++ lane_line connection Down (length (written_on connection far))
    (length (read_on connection near))

-- so many connections from 1 on
abbrev pub links : ℕ → (near far : List Line) → List ℕ
links zero near far = []
links (suc connection) near far =
    links connection near far ++ link_lines (suc connection) near far

abbrev pub links_of : PairTold → List ℕ
links_of pair =
    links pair.connections pair.near.book.trail.lines.rows pair.far.book.trail.lines.rows

-- ---- files

abbrev pub mirror_lines : MirrorsState → List ℕ
mirror_lines mirrors = flat_map (λ it. mirror_line it.0 it.1) mirrors

-- the rids of the near side's files are above 0 and those of the far side's below it, and go from 0
-- on; the far side has the mirrors of the near one's
abbrev pub mirrors_of : PairTold → List ℕ
mirrors_of pair =
    mirror_lines (meant_at pair.far).mirrors
    ++ mirror_lines (reverse (meant_at pair.near).mirrors)

-- ---- pipes

-- a pipe is reported where it was opened or something came of it
abbrev pub begun : Rids → Flows → Flows
begun [] flows = flows
begun (rid ∷ rids) flows = begun rids (with_pipe rid flows)

-- the pipes of an owner's side, by what it accepted and what the other one did
abbrev pub pipes_at : (owner other : SideTold) → Flows
pipes_at owner other = begun (meant_at other).opened (meant_at owner).flows

-- what the frames mean that a side accepted, with all pipes of its peer
abbrev pub seen_at : (owner other : SideTold) → Meant
seen_at owner other = record (meant_at owner) { flows = pipes_at owner other }

-- of a pipe that its owner's side shut counts what the owner was given
abbrev pub flow_shown : Bool → PeerState → ℤ → Flow → Flow
flow_shown true peer rid flow = flow_at rid peer.pipes
flow_shown false peer rid flow = flow

abbrev pub owner_line : Rids → PeerState → ℤ × Flow → List ℕ
owner_line shut peer one =
    let is_shut = has_rid one.0 shut in
    let shown = flow_shown is_shut peer one.0 one.1 in
    pipe_line one.0 is_shut shown.bytes shown.ended

abbrev pub pipe_lines : SideTold → Flows → List ℕ
pipe_lines owner flows =
    flat_map (owner_line (shut_from owner.book.trail.made []) owner.peer) flows

abbrev pub pipes_of : PairTold → List ℕ
pipes_of pair =
    pipe_lines pair.near (pipes_at pair.near pair.far)
    ++ pipe_lines pair.far (reverse (pipes_at pair.far pair.near))

-- ---- all of this

abbrev pub long_of : PairTold → List ℕ
long_of pair = sides_of pair ++ (links_of pair ++ (mirrors_of pair ++ pipes_of pair))

abbrev pub long_if : Bool → PairTold → List ℕ
long_if true pair = long_of pair
long_if false pair = []

-- ---- messages

-- the messages that the peer beside a side received, with the rids that they take
abbrev pub got_of : Got → Side → Book → List (List ℕ) → List ℤ → List ℕ
got_of got.Hexadecimal side book messages rids = flat_map (hex_line side) messages
got_of got.Text side book messages rids =
    text_lines side (passing side book.order book.trail.taken messages) first_objects rids
got_of got.LeftOut side book messages rids = []

abbrev pub got_at : Got → Side → SideTold → List ℕ
got_at got side it = got_of got side it.book (meant_at it).messages (meant_at it).rids

-- the report without its last line
abbrev pub report_of : ReportOptions → PairTold → List ℕ
report_of options pair =
    counts_of pair ++ (long_if options.long pair
    ++ (got_at options.got Far pair.far ++ got_at options.got Near pair.near))
