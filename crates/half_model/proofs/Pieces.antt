-- A run of blocks is cut into pieces without a gap, and not into many.
use Rattle.std.proofs.Common.{◌≡◌, ℕ, zero, suc, ◌+◌, ◌-◌, ◌*◌, ◌<◌, ◌≤◌, Bool, false, ◌||◌, List, [], ◌∷◌, ◌++◌, length, min, refl, sym, ap, ◌∙◌, arith, length-append}
use Rattle.std.specs.List.{AllByRecursion}
use Rattle.block_intervals.specs.declared.run.Run.{Run}
use Rattle.block_intervals.specs.Sets.{has, lies_within, RisesFrom}
use Rattle.block_intervals.proofs.RunLemmas.{has-append}
use Rattle.half_model.specs.Filling.{MOST_BLOCKS, pieces_from, pieces_count, pieces_of_run, pieces_of, Ascends}
use Rattle.half_model.proofs.Runs.{EndBy, AreFew}

-- the pieces go from a block to another one, each from where the one before it ends, and none is too long
abbrev pub Goes : ℕ → List Run → ℕ → Type 0
Goes first [] end = first ≡ end
Goes first (piece ∷ pieces) end =
    (piece.first ≡ first) × (first < piece.end) × (piece.end ≤ first + MOST_BLOCKS) × Goes piece.end pieces end

-- so many pieces are just enough
abbrev Enough : ℕ → ℕ → ℕ → Type 0
Enough zero first end = first ≡ end
Enough (suc count) first end = (first + MOST_BLOCKS * count < end) × (end ≤ first + MOST_BLOCKS * count + MOST_BLOCKS)

goes_from : (count first end : ℕ) → Enough count first end → Goes first (pieces_from count first end) end
goes_from zero first end h = h
goes_from (suc zero) first end h = (refl, omega (arith, h.0, h.1), omega arith, omega (arith, h.0, h.1))
goes_from (suc (suc count)) first end h =
    let next : min (first + MOST_BLOCKS) end ≡ first + MOST_BLOCKS = omega (arith, h.0, h.1) in
    let rest : Goes (first + MOST_BLOCKS) (pieces_from (suc count) (first + MOST_BLOCKS) end) end =
    goes_from (suc count) (first + MOST_BLOCKS) end (omega (arith, h.0), omega (arith, h.1)) in
    let P : ℕ → Type 0 = λ n. Goes n (pieces_from (suc count) (first + MOST_BLOCKS) end) end in
    (refl, omega (arith, h.0, h.1), omega arith, rw next rest)

length-pieces_from : (count first end : ℕ) → length (pieces_from count first end) ≡ count
length-pieces_from zero first end = refl
length-pieces_from (suc count) first end = let e = length-pieces_from count (first + MOST_BLOCKS) end in omega (arith, e)

-- a run that is not empty has at least one piece
record Cut (run : Run) : Type 0 where
  before : ℕ
  count : pieces_count (run.end - run.first) ≡ suc before
  more : run.first + MOST_BLOCKS * before < run.end
  enough : run.end ≤ run.first + MOST_BLOCKS * before + MOST_BLOCKS

cut_run : (run : Run) → run.first < run.end → Cut run
cut_run run l = go (pieces_count (run.end - run.first)) refl
  where
    go : (count : ℕ) → pieces_count (run.end - run.first) ≡ count → Cut run
    go zero e = absurd (omega (arith, e))
    go (suc before) e = record { before = before; count = e; more = omega (arith, e); enough = omega (arith, e) }

pub goes_run : (run : Run) → run.first < run.end → Goes run.first (pieces_of_run run) run.end
goes_run run l =
    let c : Cut run = cut_run run l in
    rw c.count (goes_from (suc c.before) run.first run.end (c.more, c.enough))

few_run : (run : Run) → run.first < run.end → MOST_BLOCKS * length (pieces_of_run run) + run.first + 1 ≤ run.end + MOST_BLOCKS
few_run run l =
    let c : Cut run = cut_run run l in
    let n : length (pieces_of_run run) ≡ suc c.before = length-pieces_from (pieces_count (run.end - run.first)) run.first run.end ∙ c.count in
    omega (arith, c.more, n)

-- ---- all runs

ascend_goes : (first mid high : ℕ) (pieces others : List Run) → Goes first pieces mid → Ascends mid others high → Ascends first (pieces ++ others) high
ascend_goes first mid high [] others g h = rw g h
ascend_goes first mid high (piece ∷ pieces) others g h =
    (omega (arith, g.0), omega (arith, g.0, g.1), ascend_goes piece.end mid high pieces others g.3 h)

ascend_from : (low at high : ℕ) (runs : List Run) → low ≤ at → low ≤ high → RisesFrom at runs → EndBy high runs → Ascends low (pieces_of runs) high
ascend_from low at high [] l m r e = m
ascend_from low at high (run ∷ runs) l m r e =
    let rest : Ascends run.end (pieces_of runs) high = ascend_from run.end (run.end + 1) high runs (omega arith) e.0 r.2 e.1 in
    lower low run.first (pieces_of_run run ++ pieces_of runs) high (omega (arith, r.0)) (ascend_goes run.first run.end high (pieces_of_run run) (pieces_of runs) (goes_run run r.1) rest)
  where
    lower : (low first : ℕ) (pieces : List Run) (high : ℕ) → low ≤ first → Ascends first pieces high → Ascends low pieces high
    lower low first [] high l h = omega (arith, h)
    lower low first (piece ∷ pieces) high l h = (omega (arith, h.0), h.1, h.2)

pub ascend_pieces : (high : ℕ) (runs : List Run) → RisesFrom 0 runs → EndBy high runs → Ascends 0 (pieces_of runs) high
ascend_pieces high runs r e = ascend_from 0 0 high runs (omega arith) (omega arith) r e

few_from : (low at high : ℕ) (runs : List Run) → low ≤ at → low ≤ high → RisesFrom at runs → EndBy high runs
    → MOST_BLOCKS * length (pieces_of runs) + length runs + low ≤ high + MOST_BLOCKS * length runs
few_from low at high [] l m r e = omega (arith, m)
few_from low at high (run ∷ runs) l m r e =
    let rest = few_from run.end (run.end + 1) high runs (omega arith) e.0 r.2 e.1 in
    let one = few_run run r.1 in
    let n : length (pieces_of (run ∷ runs)) ≡ length (pieces_of_run run) + length (pieces_of runs) = length-append (pieces_of_run run) (pieces_of runs) in
    omega (arith, rest, one, n, r.0)

-- a file of at most 64 MiB is filled by at most 1,087 pieces
pub few_pieces : (high : ℕ) (runs : List Run) → high ≤ 1048576 → AreFew runs high → length (pieces_of runs) ≤ 1087
few_pieces high runs l few = omega (arith, l, few.few, few_from 0 0 high runs (omega arith) (omega arith) few.rise few.end)

-- ---- which blocks they have

has_goes : (block first mid : ℕ) (pieces : List Run) → Goes first pieces mid → (first ≤ mid) × (has block pieces ≡ lies_within first mid block)
has_goes block first mid [] g = (omega (arith, g), sym (lies_none first mid block g))
  where
    lies_none : (first mid block : ℕ) → first ≡ mid → lies_within first mid block ≡ false
    lies_none first mid block e = grind (arith, e)
has_goes block first mid (piece ∷ pieces) g =
    let rest = has_goes block piece.end mid pieces g.3 in
    (omega (arith, rest.0, g.1), grind (arith, rest.0, rest.1, g.0, g.1))

has_from : (block low : ℕ) (runs : List Run) → RisesFrom low runs → has block (pieces_of runs) ≡ has block runs
has_from block low [] r = refl
has_from block low (run ∷ runs) r =
    has-append block (pieces_of_run run) (pieces_of runs)
    ∙ ap (λ (b : Bool). b || has block (pieces_of runs)) ((has_goes block run.first run.end (pieces_of_run run) (goes_run run r.1)).1)
    ∙ ap (λ (b : Bool). lies_within run.first run.end block || b) (has_from block (run.end + 1) runs r.2)

-- the pieces have just the blocks of the runs
pub has_pieces : (block : ℕ) (runs : List Run) → RisesFrom 0 runs → has block (pieces_of runs) ≡ has block runs
has_pieces block runs r = has_from block 0 runs r

-- ---- how long they are

abbrev pub AreShort : List Run → Type 0
AreShort pieces = AllByRecursion (λ piece. piece.end ≤ piece.first + MOST_BLOCKS) pieces

short_append : (xs ys : List Run) → AreShort xs → AreShort ys → AreShort (xs ++ ys)
short_append [] ys h k = k
short_append (x ∷ xs) ys h k = (h.0, short_append xs ys h.1 k)

short_goes : (first mid : ℕ) (pieces : List Run) → Goes first pieces mid → AreShort pieces
short_goes first mid [] g = tt
short_goes first mid (piece ∷ pieces) g = (omega (arith, g.0, g.2), short_goes piece.end mid pieces g.3)

short_from : (low : ℕ) (runs : List Run) → RisesFrom low runs → AreShort (pieces_of runs)
short_from low [] r = tt
short_from low (run ∷ runs) r =
    short_append (pieces_of_run run) (pieces_of runs) (short_goes run.first run.end (pieces_of_run run) (goes_run run r.1)) (short_from (run.end + 1) runs r.2)

pub short_pieces : (runs : List Run) → RisesFrom 0 runs → AreShort (pieces_of runs)
short_pieces runs r = short_from 0 runs r

-- ---- how many blocks they have

abbrev pub blocks_in : List Run → ℕ
blocks_in [] = 0
blocks_in (piece ∷ pieces) = (piece.end - piece.first) + blocks_in pieces
