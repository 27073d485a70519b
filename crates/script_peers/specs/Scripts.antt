-- What the lines of a script come to for one peer: the items that they put on its wire, one behind
-- another, and what it owns behind them. The language of scripts is this project's own.
use Rattle.std.specs.Prelude.{◌≡◌, ℕ, List, [], ◌∷◌, ◌++◌, map, if◌then◌else◌}
use Rattle.std.specs.List.{flat_map}
use Rattle.wp_outside.specs.declared.kinds.Side.{Side}
use Rattle.pool_words.specs.Views.{PoolId, PenState}
use Rattle.shm_pools.specs.Files.{FileState}
use Rattle.half_model.specs.declared.items.PeerIn.{PeerIn}
use Rattle.half_model.specs.declared.items.PeerIn.TheVariants as items
use Rattle.script_lang.specs.declared.steps.Step.{Step}
use Rattle.script_lang.specs.declared.steps.StepKind.{StepKind}
use Rattle.script_peers.specs.Owning.{Owned, owns_nothing}
use Rattle.script_peers.specs.Peers.{ScriptedPeer}
use Rattle.script_peers.specs.Putting.{is_own, items_by, owned_after}

-- what a line puts on a peer's wire, and what the peer owns behind it
abbrev pub put_by : Side → Owned → StepKind → List PeerIn
put_by side own what = if is_own side what then items_by own what else []

abbrev pub owned_by : Side → PoolId → StepKind → Owned → Owned
owned_by side pool what own = if is_own side what then owned_after pool what own else own

-- lines put these items, and change what a peer owns from old to new; a new segment is of a pool of
-- its own
abbrev pub Puts : Side → List Step → Owned → List PeerIn → Owned → Type 0
Puts side [] old items new = (items ≡ []) × (new ≡ old)
Puts side (it ∷ steps) old items new =
    (pool : PoolId) × (rest : List PeerIn) × (items ≡ put_by side old it.what ++ rest)
    × Puts side steps (owned_by side pool it.what old) rest new

-- ---- what lines alone decide

-- what a peer owns but for what was settled, which no line sees
abbrev pub unsettled_pen : PenState → PenState
unsettled_pen pen = record pen { settled = [] }

abbrev pub unsettled_file : FileState → FileState
unsettled_file f = record f { segments = map unsettled_pen f.segments }

abbrev pub unsettled : Owned → Owned
unsettled own = record own { files = map unsettled_file own.files }

-- items with their bytes one by one, so that it doesn't matter where pieces were cut
pub data Grain : Type 0 where
  Byte : ℕ → Grain
  Whole : PeerIn → Grain

abbrev pub grains_of : PeerIn → List Grain
grains_of (items.Bytes bytes) = map Byte bytes
grains_of item = Whole item ∷ []

abbrev pub grains : List PeerIn → List Grain
grains all = flat_map grains_of all

-- the bytes among items
abbrev pub bytes_of : PeerIn → List ℕ
bytes_of (items.Bytes bytes) = bytes
bytes_of item = []

abbrev pub bytes_in : List PeerIn → List ℕ
bytes_in all = flat_map bytes_of all

-- a peer behind lines, of whose items these left its wire: those that left and those that wait are
-- what the lines put, and it owns what the lines come to
pub record IsBehind (steps : List Step) (left : List PeerIn) (peer : ScriptedPeer) : Type 0 where
  pub put : List PeerIn
  pub lines : Puts peer.side steps owns_nothing put (unsettled peer.own)
  pub parts : grains put ≡ grains left ++ grains peer.wire
