-- What a link, a dial and a pair of dials have counted, and how each answer moves the counts. This
-- project's own: the Wayland standard speaks of one stream and counts nothing.
use Rattle.std.specs.Prelude.{ℕ, ◌+◌, ◌-◌, ◌^◌, ◌≤◌, Bool, true, if◌then◌else◌, nat_lt, min}
use Rattle.link_ends.specs.declared.link_counts.LinkCounts.{LinkCounts}
use Rattle.link_ends.specs.declared.dial_counts.DialCounts.{DialCounts}
use Rattle.link_ends.specs.declared.pair_counts.SideCounts.{SideCounts}

-- a count that grew by so many, up to the last value of 64 bits
abbrev pub grown : ℕ → ℕ → ℕ
grown count by = min (count + by) (2 ^ 64 - 1)

-- a link that nothing was asked of
abbrev pub no_link_counts : LinkCounts
no_link_counts = record { given = 0; taken = 0; pauses = 0; ends = 0; faults = 0 }

-- a dial that nothing was asked of
abbrev pub no_dial_counts : DialCounts
no_dial_counts =
    record { lines_out = 0; given = 0; taken = 0; broken_lines = 0; partings = 0; faults = 0 }

-- one side of a pair of dials that took none back
abbrev pub no_side_counts : SideCounts
no_side_counts = record { given = 0; taken = 0; broken_lines = 0; partings = 0; faults = 0 }

-- whether the line with these counts ended or failed
abbrev pub is_broken : LinkCounts → Bool
is_broken line = if nat_lt 0 line.ends then true else nat_lt 0 line.faults

-- a dial that took back the line with these counts
abbrev pub after_back : LinkCounts → DialCounts → DialCounts
after_back line dial =
    record dial {
      lines_out = dial.lines_out - 1;
      given = grown dial.given line.given;
      taken = grown dial.taken line.taken;
      broken_lines = if is_broken line then grown dial.broken_lines 1 else dial.broken_lines;
    }

-- one side of a pair that took back the dial with these counts
abbrev pub after_close : DialCounts → SideCounts → SideCounts
after_close dial side =
    record {
      given = grown side.given dial.given;
      taken = grown side.taken dial.taken;
      broken_lines = grown side.broken_lines dial.broken_lines;
      partings = grown side.partings dial.partings;
      faults = grown side.faults dial.faults;
    }

-- no pause, end or fault of a link was taken away
pub record KeptLink (old new : LinkCounts) : Type 0 where
  pub pauses : old.pauses ≤ new.pauses
  pub ends : old.ends ≤ new.ends
  pub faults : old.faults ≤ new.faults

-- a pair of dials: the counts of both sides, and how often it failed
pub record PairTotals : Type 0 where
  pub near : SideCounts
  pub far : SideCounts
  pub faults : ℕ
