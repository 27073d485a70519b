-- What follows of the words of shared memory from the writes alone: of memory that a Wayland client
-- hands over by wl_shm.
use Rattle.std.specs.Prelude.{◌≡◌, ◌≢◌, ℕ, ◌≤◌, List, ◌∷◌, ◌++◌, length, take, All}
use Rattle.pool_words.specs.declared.views.Write.{Write}
use Rattle.pool_words.specs.declared.views.Load.{Load}
use Rattle.pool_words.specs.History.{at, Stood, HasStood, Untouched}

-- the last write that names a word gives its value
abbrev pub LastWriteStands : Type 0
LastWriteStands = (before after : List Write) (w : Write) → All (λ u. u.word ≢ w.word) after
    → at (before ++ w ∷ after) (length (before ++ w ∷ after)) w.word ≡ w.value

-- a word that none of the first k writes names is 0 after them
abbrev pub UnnamedIsZero : Type 0
UnnamedIsZero = (h : List Write) (k i : ℕ) → All (λ w. w.word ≢ i) (take k h) → at h k i ≡ 0

-- what was written later changes nothing that stood before
abbrev pub LaterWritesLeave : Type 0
LaterWritesLeave = (h more : List Write) (k i : ℕ) → k ≤ length h → at (h ++ more) k i ≡ at h k i

-- a word that no write from low to high names is the same at both ends
abbrev pub UntouchedStays : Type 0
UntouchedStays =
    (h : List Write) (low high i : ℕ) → low ≤ high → Untouched h low high i
    → at h high i ≡ at h low i

-- what stood in such a word is what it held at low
abbrev pub UntouchedIsCommitted : Type 0
UntouchedIsCommitted =
    (h : List Write) (low high i v : ℕ) → Stood h low high i v → Untouched h low high i
    → v ≡ at h low i

-- a load that has stood has stood in each longer history
abbrev pub StoodStays : Type 0
StoodStays = (h more : List Write) (l : Load) → HasStood h l → HasStood (h ++ more) l
