-- What one side of a link may have written and read, and which frames that makes it accept and
-- keep; the link's frames are this project's own.
use Rattle.std.specs.Prelude.{◌≡◌, ℕ, ◌==◌, ◌<◌, ◌≤◌, suc, zero, cond, List, [], ◌∷◌, ◌++◌, Option}
use Rattle.std.specs.Prelude.{Some, None, Ok, Bool, false, max, drop, length, ◌⊎◌}
use Rattle.std.specs.List.{AllByRecursion}
use Rattle.std.specs.Option.{MatchOption}
use Rattle.plain_lists.specs.Fronts.{IsFront}
use Rattle.transfer_frames.specs.declared.frame.Frame.{Frame}
use Rattle.transfer_frames.specs.declared.frame.Frame.TheVariants.{Restart}
use Rattle.transfer_frames.specs.Front.{front}
use Rattle.transfer_frames.specs.Grammar.{IsFrame}
use Rattle.pair_model.specs.Lines.{Line, SideRecord, Stop, Rising, written_on, read_on}
use Rattle.pair_model.specs.Rows.{spellings, counted, acks, told, reply, NoGreeting, Rise, Reads}
use Rattle.pair_model.specs.LinkFaults.{Unrefused, has_closed}
use Rattle.pair_model.specs.Order.{InTime, HeardLate}

-- ---- what was written

-- What may have been written on a connection: RESTART and the frames sent after it, but for some
-- bytes still to be written. Nothing is sent while the other's RESTART was not read. Then the
-- counted frames sent are those made from its received count on, none left out, and each in its
-- time; and each ACK tells more than was told before, and no more than was accepted.
pub record Wrote (token : List ℕ) (connection received upto : ℕ) (made : List Frame) (due : List ℕ)
    (seen : List Frame) (written : List ℕ) : Type 0 where
  pub sent : List Frame
  pub left : List ℕ
  pub bytes : written ++ left ≡ spellings (Restart token connection received ∷ sent)
  pub frames : AllByRecursion IsFrame (Restart token connection received ∷ sent)
  pub greets : NoGreeting sent
  pub order : MatchOption (reply seen) (sent ≡ []) (λ p. IsFront (counted sent) (drop p made))
  pub tells : Rise received (acks sent) upto
  pub in_time : MatchOption (reply seen) (Unit {0}) (λ p. InTime due received p sent)

-- ---- what was read

-- where reading stopped on connection c, if it did there
abbrev pub stop_on : ℕ → Option Stop → Option ℕ
stop_on c None = None
stop_on c (Some stop) = cond (stop.connection == c) (Some stop.place) None

-- nothing is read or written on a connection behind the one where reading stopped
abbrev pub Ends : Option Stop → List Line → Type 0
Ends None lines = Unit {0}
Ends (Some stop) lines =
    (c : ℕ) → stop.connection < c → (read_on c lines ≡ []) × (written_on c lines ≡ [])

-- where reading did not stop, no fault stands behind the frames seen, but at most a part of a frame
abbrev pub Waits : Option ℕ → List ℕ → List Frame → Type 0
Waits None read seen = (rest : List ℕ) → read ≡ spellings seen ++ rest → front rest ≡ Ok None
Waits (Some place) read seen = Unit {0}

-- the counted frames seen on the connections below c, in order: those accepted before connection c
abbrev pub accepted_below : (ℕ → List Frame) → ℕ → List Frame
accepted_below seen zero = []
accepted_below seen (suc c) = accepted_below seen c ++ counted (seen c)

-- the greatest count told in the frames seen on the connections below c
abbrev pub told_below : (ℕ → List Frame) → ℕ → ℕ
told_below seen zero = 0
told_below seen (suc c) = max (told_below seen c) (told (seen c))

-- what a side has seen by connection: the frames of the bytes read, and none from a bound on
pub record Sees (side : SideRecord) (bound : ℕ) (seen : ℕ → List Frame) : Type 0 where
  pub reads : (c : ℕ) → Reads (stop_on c side.stop) (read_on c side.lines) (seen c)
  pub past : (c : ℕ) → bound ≤ c → read_on c side.lines ≡ []

-- ---- both

-- What a side may have written and read, and what it accepted and knows to be accepted.
pub record Wire (token : List ℕ) (side : SideRecord) : Type 0 where
  pub seen : ℕ → List Frame
  pub bound : ℕ
  -- each connection has one line, and what was read on it are the frames seen
  pub numbers : Rising 1 side.lines
  pub sees : Sees side bound seen
  pub waits : (c : ℕ) → Waits (stop_on c side.stop) (read_on c side.lines) (seen c)
  pub ends : Ends side.stop side.lines
  -- no frame seen is refused, and the counted ones are accepted, each no earlier than it may be
  pub passes : (c : ℕ) → Unrefused token c (length side.made) (told_below seen c)
      (accepted_below seen c) (seen c) (written_on c side.lines)
  pub late : (c : ℕ) → HeardLate side.ahead (told_below seen c) (accepted_below seen c) (seen c)
  pub accepted : side.accepted ≡ length (accepted_below seen bound)
  pub ahead_accepted : length side.ahead ≡ side.accepted
  pub closed : side.closed ≡ has_closed (accepted_below seen bound)
  pub acknowledged : side.acknowledged ≡ told_below seen bound
  pub known : side.acknowledged ≤ length side.made
  -- on each connection nothing is written, or what may be, by what was accepted before it and up to
  -- it
  pub wrote : (c : ℕ) → (written_on c side.lines ≡ [])
      ⊎ Wrote token c (length (accepted_below seen c)) (length (accepted_below seen (suc c)))
      side.made side.due (seen c) (written_on c side.lines)
  pub due_made : length side.due ≡ length side.made
  pub due_accepted : AllByRecursion (λ count. count ≤ side.accepted) side.due

-- What a side keeps to be sent again: the frames made from the acknowledged count on. One that has
-- failed for good may keep further ones behind them, which are not among those made and never
-- written.
pub record Kept (side : SideRecord) (has_failed : Bool) (kept : List Frame) : Type 0 where
  pub further : List Frame
  pub kept_is : kept ≡ drop side.acknowledged side.made ++ further
  pub none : has_failed ≡ false → further ≡ []

-- The counted frames among those that a side has seen, connection by connection.
pub record Accepts (side : SideRecord) (frames : List Frame) : Type 0 where
  pub seen : ℕ → List Frame
  pub bound : ℕ
  pub sees : Sees side bound seen
  pub frames_are : frames ≡ accepted_below seen bound
