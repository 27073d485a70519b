-- What contracts see of a line and a dial in memory. This project's own.
use Rattle.std.specs.Prelude.{ℕ, Bool, Option}
use Rattle.link_ends.specs.declared.link_counts.LinkCounts.{LinkCounts}
use Rattle.link_ends.specs.declared.dial_counts.DialCounts.{DialCounts}

-- one end of a line in memory: its counts, the bytes that it knows to wait for it, the free places
-- that it knows of, and how many bytes more it is given before its line is cut
pub record MemoryEnd : Type 0 where
  pub counts : LinkCounts
  pub items : ℕ
  pub places : ℕ
  pub until_cut : Option ℕ

-- a dial: its counts, the number of its last connection, 0 before the first, and whether it has left
pub record Caller : Type 0 where
  pub counts : DialCounts
  pub latest : ℕ
  pub has_left : Bool
