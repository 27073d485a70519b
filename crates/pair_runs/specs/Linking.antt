-- How bytes go from a side onto the line and from the line into a side; this project's own.
use Rattle.std.specs.Prelude.{◌≡◌, ◌≢◌, ℕ, ◌≤◌, true, List, [], ◌∷◌, ◌++◌, take, length}
use Rattle.std.specs.Prelude.{None, ◌⊎◌}
use Rattle.pair_model.specs.Lines.{Line}
use Rattle.pair_model.specs.Quiet.{NoFront}
use Rattle.pair_model.specs.Steps.{on_last, with_written, with_read}
use Rattle.side_model.specs.declared.fault.ProxyFault.{ProxyFault}
use Rattle.side_model.specs.Sound.{MOST_PIECE}
use Rattle.pair_runs.specs.Sides.{SideState, TOKEN, rows_of, on_rows, last_number, link_record}
use Rattle.pair_runs.specs.Whys.{RefusesMore}
use Rattle.pair_runs.specs.Working.{Works, InPart, WorksInPart}

-- ---- a connection

abbrev pub new_line : ℕ → Line
new_line connection = record { connection = connection; written = []; read = [] }

abbrev pub with_line : ℕ → SideState → SideState
with_line connection it = on_rows (λ rows. rows ++ new_line connection ∷ []) it

-- ---- onto the line

abbrev pub written : List ℕ → SideState → SideState
written bytes it = on_rows (on_last (with_written bytes)) it

-- Up to so many bytes are written on the last connection, fewer only where then nothing is to be
-- sent.
pub record Writes (most : ℕ) (bytes : List ℕ) (a b : SideState) : Type 0 where
  pub up : rows_of a ≢ []
  pub few : length bytes ≤ most
  pub is : b ≡ written bytes a
  pub all : (length bytes ≡ most) ⊎ NoFront TOKEN (last_number (rows_of b)) (link_record b)

-- or some of them, and then the front is too heavy
pub record WritesInPart (most : ℕ) (bytes : List ℕ) (a b : SideState) : Type 0 where
  pub few : length bytes ≤ most
  pub is : b ≡ written bytes a

-- ---- from the line

abbrev pub read : List ℕ → SideState → SideState
read bytes it = on_rows (on_last (with_read bytes)) it

-- bytes are read on the last connection, and the side hears what they have
abbrev pub Reads : List ℕ → SideState → SideState → Type 0
Reads [] a b = b ≡ a
Reads (byte ∷ bytes) a b = (rows_of a ≢ []) × Works true (read (byte ∷ bytes) a) b

-- Bytes of these are pulled up to a fault; those of the last piece may be refused.
pub record ReadsInPart (bytes : List ℕ) (fault : ProxyFault) (pulled : List ℕ) (a b : SideState)
    : Type 0 where
  pub few : length pulled ≤ length bytes
  pub front : pulled ≡ take (length pulled) bytes
  pub got : List ℕ
  pub refused : List ℕ
  pub split : pulled ≡ got ++ refused
  pub piece : length refused ≤ MOST_PIECE
  pub because : refused ≢ [] → RefusesMore (length refused) fault b.book.trail
  pub part : InPart (read got a) b
  pub why : refused ≡ [] → WorksInPart true None fault (read got a) b
