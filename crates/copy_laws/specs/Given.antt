-- Which copies of a proxy's record had their receipts given to its peer, and what it is that these
-- are settled there; copies and receipts are this project's own.
use Rattle.std.specs.Prelude.{ℕ, ◌-◌, ℤ, List, length, take, All, Contains}
use Rattle.std.specs.List.{AllByRecursion}
use Rattle.pool_words.specs.declared.views.Load.{Load}
use Rattle.pool_words.specs.History.{HasStood}
use Rattle.half_model.specs.declared.items.PeerOut.{PeerOut}
use Rattle.half_model.specs.declared.items.PeerOut.TheVariants as outputs
use Rattle.half_model.specs.declared.notes.CopyRecord.{CopyRecord}
use Rattle.mirror_laws.specs.StoodLaws.{Histories, loads_of}
use Rattle.side_model.specs.Events.{Event, Gave}
use Rattle.side_model.specs.Trails.{TrailState}

-- all copies but the last ones, whose receipts wait
abbrev pub given_copies : TrailState → List CopyRecord
given_copies t =
    take (length t.book.trail.copies - length t.now.live.receipts) t.book.trail.copies

-- nothing is given to the peer by this event
abbrev pub GivesNothing : Event → Type 0
GivesNothing Gave = ⊥
GivesNothing event = Unit {0}

-- ---- settled

-- what a peer settled, by its own number for a file, and by the file's segment
abbrev pub Settlements : Type 0
Settlements = ℤ → ℕ → List Load

-- what was settled stood
abbrev pub AreStood : Settlements → Histories → Type 0
AreStood settled histories =
    (number : ℤ) (segment : ℕ) → All (HasStood (histories number segment)) (settled number segment)

-- each load of a copy is settled in its segment
abbrev pub IsSettled : Settlements → CopyRecord → Type 0
IsSettled settled copy =
    AllByRecursion (λ it. Contains (settled copy.file copy.segment) it) (loads_of copy)

-- all loads of a receipt are settled; of another item this says nothing
abbrev pub ItemIsSettled : Settlements → PeerOut → Type 0
ItemIsSettled settled (outputs.Receipt number segment receipt) =
    AllByRecursion (λ it. Contains (settled number segment) it) receipt.loads
ItemIsSettled settled item = Unit {0}

-- what was settled stays so
abbrev pub SettlesMore : Settlements → Settlements → Type 0
SettlesMore settled more =
    (number : ℤ) (segment : ℕ) (it : Load) → Contains (settled number segment) it
    → Contains (more number segment) it

-- each copy whose receipt was given is settled
abbrev pub TrailSettled : Settlements → TrailState → Type 0
TrailSettled settled t = AllByRecursion (IsSettled settled) (given_copies t)
