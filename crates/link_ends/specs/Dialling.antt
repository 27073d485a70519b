-- What one dial answers, and how its counts move. This project's own: the Wayland standard has one
-- connection, and here a link may break and be made anew.
use Rattle.std.specs.Prelude.{◌≡◌, ℕ, ◌+◌, ◌≤◌, ⊤, Bool, true, false}
use Rattle.wp_outside.specs.Counts.{Rose}
use Rattle.link_ends.specs.Counts.{no_dial_counts}
use Rattle.link_ends.specs.declared.dials.Dialled.{Dialled}
use Rattle.link_ends.specs.declared.dials.Dialled.TheVariants.{Link, Gone, Failed, Memory}
use Rattle.link_ends.specs.declared.dial_counts.DialCounts.{DialCounts}

-- one fact for each answer but want of memory, the first of the connection's number and the line
abbrev pub MatchDialled : {K : Type 0} → Dialled K → (ℕ → K → Type 0) → Type 0 → Type 0 → Type 0
MatchDialled (Link connection line) P Q R = P connection line
MatchDialled Gone P Q R = Q
MatchDialled Failed P Q R = R
MatchDialled Memory P Q R = ⊤

-- a fact of the connection's number and the line, where a dial gave one
abbrev pub IfLink : {K : Type 0} → Dialled K → (ℕ → K → Type 0) → Type 0
IfLink answer P = MatchDialled answer P ⊤ ⊤

-- the count of lines out after a dial with this answer
abbrev pub lines_after : {K : Type 0} → Dialled K → ℕ → ℕ
lines_after (Link connection line) lines_out = lines_out + 1
lines_after Gone lines_out = lines_out
lines_after Failed lines_out = lines_out
lines_after Memory lines_out = lines_out

-- what each dial's counts do in a dial: a line that is given is out, the other side's parting is
-- answered only to who heard its last word, and it and a failure have their cause by a count that
-- rose; bytes and broken lines stay, and no count falls
pub record DialMoved {K : Type 0} (answer : Dialled K) (heard : Bool) (old new : DialCounts)
    : Type 0 where
  pub lines_out : new.lines_out ≡ lines_after answer old.lines_out
  pub given : new.given ≡ old.given
  pub taken : new.taken ≡ old.taken
  pub broken_lines : new.broken_lines ≡ old.broken_lines
  pub cause : MatchDialled answer (λ _ _. ⊤) ((heard ≡ true) × Rose old.partings new.partings)
      (Rose old.faults new.faults)
  pub partings : old.partings ≤ new.partings
  pub faults : old.faults ≤ new.faults

-- a dial as `open` gives it: all its counts are 0, and it hasn't left
abbrev pub IsFresh : DialCounts → Bool → Type 0
IsFresh counts has_left = (counts ≡ no_dial_counts) × (has_left ≡ false)
