-- What the pen, an eye and a receipt of a pool know, as plain data, and how each kind of step
-- changes it.
use Rattle.std.specs.Prelude.{◌≡◌, ℕ, ◌+◌, max, List, [], ◌∷◌, ◌++◌, length, map}
use Rattle.atomic_table.specs.Seated.{TableId}
use Rattle.pool_words.specs.declared.views.Write.{Write}
use Rattle.pool_words.specs.declared.views.Sight.{Sight}
use Rattle.pool_words.specs.declared.views.Load.{Load}
use Rattle.pool_words.specs.declared.views.View.{View}
use Rattle.pool_words.specs.declared.views.View.TheVariants.{Writing, Seeing, Shown, Spent}

-- which pool it is: no two pools share it
abbrev pub PoolId : Type 0
PoolId = TableId

-- the name of no pool
abbrev pub no_pool : PoolId
no_pool = record {
  words = 0;
  slots = 0;
  views_name = 0;
  atom = 0;
  block = 0;
  offset = 0;
  slot_names = [];
}

-- a pen: the writes made through it, in order, and the loads that it settled
pub record PenState : Type 0 where
  pub pool : PoolId
  pub number : ℕ
  pub words : ℕ
  pub history : List Write
  pub settled : List Load

-- an eye: the count of writes at its note, and its loads in order
pub record EyeState : Type 0 where
  pub pool : PoolId
  pub number : ℕ
  pub words : ℕ
  pub low : ℕ
  pub seen : List Sight

-- a receipt: the greatest count at a finish of its eyes, and their loads
pub record ReceiptState : Type 0 where
  pub pool : PoolId
  pub number : ℕ
  pub high : ℕ
  pub loads : List Load

-- a seat at the table of a pool of so many words
pub record DeskState : Type 0 where
  pub pool : PoolId
  pub words : ℕ
  pub view : View

abbrev pub write : ℕ → ℕ → Write
write i v = record { word = i; value = v }

abbrev pub sight : ℕ → ℕ → Sight
sight i v = record { word = i; value = v }

-- what an eye saw, with the counts at its note and at its finish
abbrev pub load : ℕ → ℕ → Sight → Load
load low high s = record { word = s.word; value = s.value; low = low; high = high }

-- the loads of a row of words, from word i on
abbrev pub sights : ℕ → List ℕ → List Sight
sights i [] = []
sights i (v ∷ vs) = sight i v ∷ sights (i + 1) vs

abbrev pub history_of : View → List Write
history_of (Writing h n settled) = h
history_of _ = []

abbrev pub settled_of : View → List Load
settled_of (Writing h n settled) = settled
settled_of _ = []

abbrev pub low_of : View → ℕ
low_of (Seeing low seen) = low
low_of _ = 0

abbrev pub seen_of : View → List Sight
seen_of (Seeing low seen) = seen
seen_of _ = []

abbrev pub high_of : View → ℕ
high_of (Shown high loads) = high
high_of _ = 0

abbrev pub loads_of : View → List Load
loads_of (Shown high loads) = loads
loads_of _ = []

-- the eye that a note of this pen is
abbrev pub note_of : PenState → EyeState
note_of p = record {
  pool = p.pool;
  number = p.number;
  words = p.words;
  low = length p.history;
  seen = [];
}

-- the pen that made one write more
abbrev pub wrote : PenState → ℕ → ℕ → PenState
wrote p i v = record p { history = p.history ++ write i v ∷ [] }

-- the pen that settled one receipt more
abbrev pub took : PenState → ReceiptState → PenState
took p r = record p { settled = p.settled ++ r.loads }

-- the receipt of this eye, where it finished at this count of writes
abbrev pub receipt_of : EyeState → ℕ → ReceiptState
receipt_of e high = record {
  pool = e.pool;
  number = e.number;
  high = high;
  loads = map (load e.low high) e.seen;
}

-- both receipts, each load as it was
abbrev pub joined : ReceiptState → ReceiptState → ReceiptState
joined r other = record {
  pool = r.pool;
  number = r.number;
  high = max r.high other.high;
  loads = r.loads ++ other.loads;
}

-- a pen between two writes
abbrev pub IsIdle : View → Type 0
IsIdle v = v ≡ Writing (history_of v) (length (history_of v)) (settled_of v)

-- a pen that announced this write last, and has not stored it
abbrev pub IsPending : ℕ → ℕ → View → Type 0
IsPending i x v =
    (h : List Write) × (settled : List Load)
    × (v ≡ Writing (h ++ write i x ∷ []) (length h) settled)

abbrev pub IsEye : View → Type 0
IsEye v = v ≡ Seeing (low_of v) (seen_of v)

abbrev pub IsReceipt : View → Type 0
IsReceipt v = v ≡ Shown (high_of v) (loads_of v)

-- 1 announce: the pen gains a write, which is not stored yet
abbrev pub announced : Write → View → View
announced w (Writing h n settled) = Writing (h ++ w ∷ []) n settled
announced w v = v

-- 2 write: all of the pen's writes are stored
abbrev pub stored : View → View
stored (Writing h n settled) = Writing h (length h) settled
stored v = v

-- 3 load: the eye gains the load of a word
abbrev pub loaded : ℕ → ℕ → View → View
loaded i x (Seeing low seen) = Seeing low (seen ++ sight i x ∷ [])
loaded i x v = v

-- 4 finish: the eye becomes a receipt of its loads, with this count of writes
abbrev pub finished : ℕ → View → View
finished high (Seeing low seen) = Shown high (map (load low high) seen)
finished high v = v

-- 5 note: an eye that has loaded nothing, at the pen's count of writes
abbrev pub noted : View → View
noted (Writing h n settled) = Seeing (length h) []
noted v = Spent

-- 6 split: an eye that has loaded nothing, at the same count of writes
abbrev pub divided : View → View
divided (Seeing low seen) = Seeing low []
divided v = Spent

-- 7 absorb: the loads of both receipts, each as it was, and the greater count
abbrev pub absorbed : View → View → View
absorbed (Shown high loads) (Shown other more) = Shown (max high other) (loads ++ more)
absorbed v w = v

-- 8 settle: the pen gains the loads of a receipt
abbrev pub settling : View → View → View
settling (Writing h n settled) (Shown high loads) = Writing h n (settled ++ loads)
settling v w = v
