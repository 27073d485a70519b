-- What one write to a link answers, and how its counts move. This project's own, after the call
-- `write` of Rust's standard library on a socket that doesn't block.
use Rattle.std.specs.Prelude.{◌≡◌, ℕ, ⊤}
use Rattle.wp_outside.specs.Counts.{Rose}
use Rattle.link_ends.specs.Counts.{grown, KeptLink}
use Rattle.link_ends.specs.declared.links.LinkWrite.{LinkWrite}
use Rattle.link_ends.specs.declared.links.LinkWrite.TheVariants.{Bytes, Again, Failed}
use Rattle.link_ends.specs.declared.link_counts.LinkCounts.{LinkCounts}

-- one fact for each answer, the first of the count of bytes
abbrev pub MatchWrite : LinkWrite → (ℕ → Type 0) → Type 0 → Type 0 → Type 0
MatchWrite (Bytes n) P Q R = P n
MatchWrite Again P Q R = Q
MatchWrite Failed P Q R = R

-- a fact of the count of bytes that a write took, where it took some
abbrev pub IfWritten : LinkWrite → (ℕ → Type 0) → Type 0
IfWritten answer P = MatchWrite answer P ⊤ ⊤

-- the counts after a write with this answer
abbrev pub after_write : LinkWrite → LinkCounts → LinkCounts
after_write (Bytes n) counts = record counts { taken = grown counts.taken n }
after_write Again counts = record counts { pauses = grown counts.pauses 1 }
after_write Failed counts = record counts { faults = grown counts.faults 1 }

-- the count of bytes taken after a write with this answer
abbrev pub taken_after : LinkWrite → ℕ → ℕ
taken_after (Bytes n) taken = grown taken n
taken_after Again taken = taken
taken_after Failed taken = taken

-- what each link's counts do in a write: the bytes that were taken are counted, each other answer has
-- its cause by a count that rose, and no count falls
pub record WriteMoved (answer : LinkWrite) (old new : LinkCounts) : Type 0 where
  pub given : new.given ≡ old.given
  pub taken : new.taken ≡ taken_after answer old.taken
  pub cause : MatchWrite answer (λ _. ⊤) (Rose old.pauses new.pauses) (Rose old.faults new.faults)
  pub kept : KeptLink old new
