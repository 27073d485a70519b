-- What holds of the copies whose receipts were given: each call but that which gives an item leaves
-- them, and this one gives the receipt of the next copy; this project's own.
use Rattle.std.specs.Prelude.{◌≡◌, ℕ, ◌≤◌, List, [], ◌∷◌, ◌++◌, Some, None, Result}
use Rattle.wp_outside.specs.declared.kinds.Side.{Side}
use Rattle.half_model.specs.declared.items.PeerOut.{PeerOut}
use Rattle.half_model.specs.declared.notes.CopyRecord.{CopyRecord}
use Rattle.mirror_laws.specs.StoodLaws.{Histories, AllStood}
use Rattle.side_model.specs.declared.fault.ProxyFault.{ProxyFault}
use Rattle.side_model.specs.Events.{Event, Gave}
use Rattle.side_model.specs.Follows.{IsReceiptOf}
use Rattle.side_model.specs.Shows.{next_item}
use Rattle.side_model.specs.Trails.{TrailState, Keeps, no_records, TrailCalls, trail_step}
use Rattle.side_model.specs.Trails.{Sends, Lends}
use Rattle.copy_laws.specs.Given.{given_copies, GivesNothing, Settlements, AreStood}
use Rattle.copy_laws.specs.Given.{ItemIsSettled, SettlesMore, TrailSettled}

-- ---- calls that give nothing

-- at first no receipt was given
abbrev pub NoneGivenAtFirst : Type 0
NoneGivenAtFirst = (side : Side) (token : List ℕ) → given_copies (no_records side token) ≡ []

-- a call that may fail, but does not
abbrev pub CallsLeaveGiven : Type 0
CallsLeaveGiven =
    (event : Event) (result : Result Unit ProxyFault) (old new : TrailState)
    → GivesNothing event → Keeps old → TrailCalls event result old new → new.fault ≡ None
    → given_copies new ≡ given_copies old

-- the connection goes down, a copy is lent
abbrev pub StepsLeaveGiven : Type 0
StepsLeaveGiven =
    (event : Event) (old : TrailState) → GivesNothing event → Keeps old → old.fault ≡ None
    → given_copies (trail_step event old) ≡ given_copies old

-- bytes are lent, and sent
abbrev pub LendsLeaveGiven : Type 0
LendsLeaveGiven =
    (result : Result Unit ProxyFault) (old new : TrailState) → Lends result old new
    → given_copies new ≡ given_copies old

abbrev pub SendsLeaveGiven : Type 0
SendsLeaveGiven =
    (n : ℕ) (old new : TrailState) → old.fault ≡ None → Keeps old
    → n ≤ old.book.trail.lines.room → Sends n old new → given_copies new ≡ given_copies old

-- ---- an item is given

-- one more copy, of which the item is the receipt
pub record GivesCopy (item : PeerOut) (old : TrailState) : Type 0 where
  pub copy : CopyRecord
  pub is : IsReceiptOf copy item
  pub row : given_copies (trail_step Gave old) ≡ given_copies old ++ copy ∷ []

pub record GaveIsCopy : Type 0 where
  pub item : (old : TrailState) (item : PeerOut) (more : List PeerOut)
      → old.now.live.items ≡ item ∷ more
      → given_copies (trail_step Gave old) ≡ given_copies old
  pub receipt : (old : TrailState) (item : PeerOut) (more : List PeerOut)
      → Keeps old → old.fault ≡ None → old.now.live.items ≡ []
      → old.now.live.receipts ≡ item ∷ more → GivesCopy item old

-- once all receipts were given, these are all copies of the record
abbrev pub AllAreGiven : Type 0
AllAreGiven =
    (t : TrailState) → t.now.live.receipts ≡ [] → given_copies t ≡ t.book.trail.copies

-- ---- settled

-- who settles each receipt that it is given has each copy settled whose receipt was given,
abbrev pub GaveIsSettled : Type 0
GaveIsSettled =
    (settled more : Settlements) (old : TrailState) (item : PeerOut) → Keeps old
    → old.fault ≡ None → next_item old.now.live ≡ Some item → TrailSettled settled old
    → SettlesMore settled more → ItemIsSettled more item → TrailSettled more (trail_step Gave old)

-- which stays so where more is settled,
abbrev pub MoreIsSettled : Type 0
MoreIsSettled =
    (settled more : Settlements) (t : TrailState) → SettlesMore settled more
    → TrailSettled settled t → TrailSettled more t

-- and so each of these copies stood
abbrev pub SettledHasStood : Type 0
SettledHasStood =
    (settled : Settlements) (histories : Histories) (t : TrailState)
    → AreStood settled histories → TrailSettled settled t → AllStood histories (given_copies t)
