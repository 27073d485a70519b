-- What the words of shared memory held: of memory that a Wayland client hands over by wl_shm, as it
-- was after each of the client's writes.
use Rattle.std.specs.Prelude.{◌≡◌, ◌≢◌, ℕ, ◌==◌, ◌≤◌, List, [], ◌∷◌, length, take, drop, All}
use Rattle.std.specs.Prelude.{if◌then◌else◌}
use Rattle.pool_words.specs.declared.views.Write.{Write}
use Rattle.pool_words.specs.declared.views.Sight.{Sight}
use Rattle.pool_words.specs.declared.views.Load.{Load}

-- what word i holds after these writes, where it held v before them
abbrev pub held_after : List Write → ℕ → ℕ → ℕ
held_after [] i v = v
held_after (w ∷ ws) i v = held_after ws i (if w.word == i then w.value else v)

-- word i after the first k writes: the value of the last of them that names i, or 0
abbrev pub at : List Write → ℕ → ℕ → ℕ
at history k i = held_after (take k history) i 0

-- word i had the value v after some number of writes from low to high
abbrev pub Stood : List Write → ℕ → ℕ → ℕ → ℕ → Type 0
Stood history low high i v = (k : ℕ) × (low ≤ k) × (k ≤ high) × (at history k i ≡ v)

-- what a finished eye loaded stood there between its note and its finish, and its finish lies
-- within the history
abbrev pub HasStood : List Write → Load → Type 0
HasStood history l = (l.high ≤ length history) × Stood history l.low l.high l.word l.value

-- what an eye loaded stood there since its note
abbrev pub HasStoodSince : List Write → ℕ → Sight → Type 0
HasStoodSince history low s = Stood history low (length history) s.word s.value

-- no write with a number above low and up to high names word i
abbrev pub Untouched : List Write → ℕ → ℕ → ℕ → Type 0
Untouched history low high i = All (λ w. w.word ≢ i) (drop low (take high history))
