-- What one read of a link answers, and how its counts move. This project's own, after the call
-- `read` of Rust's standard library on a socket that doesn't block.
use Rattle.std.specs.Prelude.{◌≡◌, ℕ, ⊤}
use Rattle.wp_outside.specs.Counts.{Rose}
use Rattle.link_ends.specs.Counts.{grown, KeptLink}
use Rattle.link_ends.specs.declared.links.LinkRead.{LinkRead}
use Rattle.link_ends.specs.declared.links.LinkRead.TheVariants.{Bytes, Again, Ended, Failed}
use Rattle.link_ends.specs.declared.link_counts.LinkCounts.{LinkCounts}

-- one fact for each answer, the first of the count of bytes
abbrev pub MatchRead : LinkRead → (ℕ → Type 0) → Type 0 → Type 0 → Type 0 → Type 0
MatchRead (Bytes n) P Q R S = P n
MatchRead Again P Q R S = Q
MatchRead Ended P Q R S = R
MatchRead Failed P Q R S = S

-- a fact of the count of bytes that a read gave, where it gave some
abbrev pub IfRead : LinkRead → (ℕ → Type 0) → Type 0
IfRead answer P = MatchRead answer P ⊤ ⊤ ⊤

-- how many bytes a read gave
abbrev pub count_read : LinkRead → ℕ
count_read (Bytes n) = n
count_read Again = 0
count_read Ended = 0
count_read Failed = 0

-- the counts after a read with this answer
abbrev pub after_read : LinkRead → LinkCounts → LinkCounts
after_read (Bytes n) counts = record counts { given = grown counts.given n }
after_read Again counts = record counts { pauses = grown counts.pauses 1 }
after_read Ended counts = record counts { ends = grown counts.ends 1 }
after_read Failed counts = record counts { faults = grown counts.faults 1 }

-- the count of bytes given after a read with this answer
abbrev pub given_after : LinkRead → ℕ → ℕ
given_after (Bytes n) given = grown given n
given_after Again given = given
given_after Ended given = given
given_after Failed given = given

-- what each link's counts do in a read: the bytes that were given are counted, each other answer has
-- its cause by a count that rose, and no count falls
pub record ReadMoved (answer : LinkRead) (old new : LinkCounts) : Type 0 where
  pub given : new.given ≡ given_after answer old.given
  pub taken : new.taken ≡ old.taken
  pub cause : MatchRead answer (λ _. ⊤) (Rose old.pauses new.pauses) (Rose old.ends new.ends)
      (Rose old.faults new.faults)
  pub kept : KeptLink old new
