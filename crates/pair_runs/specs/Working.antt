-- What one call of a side may change beside what it was called for, by the messages that it takes
-- and the frames that it makes and hears. Messages are Wayland's; all else is this project's own.
use Rattle.std.specs.Prelude.{◌≡◌, ◌≢◌, ℕ, ◌≤◌, Bool, false, List, [], ◌++◌, Option}
use Rattle.std.specs.List.{AllByRecursion}
use Rattle.plain_lists.specs.Fronts.{IsFront}
use Rattle.wl_wire.specs.Wire.{joined, IsMessage}
use Rattle.half_model.specs.declared.items.PeerIn.{PeerIn}
use Rattle.side_model.specs.declared.fault.ProxyFault.{ProxyFault}
use Rattle.side_model.specs.Books.{TrailRecord}
use Rattle.pair_runs.specs.Leaving.{Leaves, Passes}
use Rattle.pair_runs.specs.Sides.{Inside, SideState}
use Rattle.pair_runs.specs.Whys.{Why}

-- messages are taken from the front of what waits inside, with some of its handles and notes
pub record Takes (took : List (List ℕ)) (a b : Inside) : Type 0 where
  pub messages : AllByRecursion IsMessage took
  pub inlet : Leaves took a.inlet b.inlet
  pub asked : b.asked ≡ a.asked
  pub none : took ≡ [] → b.inlet ≡ a.inlet

-- the copies that are awaited stay while no message is taken; a message is taken only where none
-- are, and none of its own is loaded yet
pub record Awaits (took : List (List ℕ)) (a b : SideState) : Type 0 where
  pub stay : took ≡ [] → (b.copies ≡ a.copies) × (b.loaded ≡ a.loaded)
  pub begin : took ≢ [] → (a.copies ≡ []) × (b.loaded ≡ 0)

-- the records grow at their ends: those of what is taken by just that; what was accepted stays so
pub record Grows (took : List (List ℕ)) (a b : TrailRecord) : Type 0 where
  pub side : b.side ≡ a.side
  pub taken : b.taken ≡ a.taken ++ took
  pub made : IsFront a.made b.made
  pub copies : IsFront a.copies b.copies
  pub lines : b.lines ≡ a.lines
  pub accepted : a.accepted ≤ b.accepted

-- where no frame is heard and no message is given, the records of what is heard and given stay, and
-- the order of passing and the objects while none is taken
pub record Silent (took : List (List ℕ)) (a b : SideState) : Type 0 where
  pub accepted : b.book.trail.accepted ≡ a.book.trail.accepted
  pub acknowledged : b.book.trail.acknowledged ≡ a.book.trail.acknowledged
  pub given : b.book.trail.given ≡ a.book.trail.given
  pub order : took ≡ [] → b.book.order ≡ a.book.order
  pub objects : took ≡ [] → b.inside.objects ≡ a.inside.objects

-- What a call may change that may hear frames, or one that may not.
pub record Works (hears : Bool) (a b : SideState) : Type 0 where
  pub took : List (List ℕ)
  pub inside : Takes took a.inside b.inside
  pub awaits : Awaits took a b
  pub trail : Grows took a.book.trail b.book.trail
  pub order : IsFront a.book.order b.book.order
  pub passes : Passes a.book.trail.side inside.inlet.uses a.inside.objects b.inside.objects
      a.book.order b.book.order
  pub silent : hears ≡ false → Silent took a b

-- What a call leaves of the records that meets a fault, behind some of what it came to. What waits
-- inside is no longer spoken of.
pub record InPart (a b : SideState) : Type 0 where
  pub took : List (List ℕ)
  pub messages : AllByRecursion IsMessage took
  pub bytes : IsFront (joined took) a.inside.inlet.bytes
  pub trail : Grows took a.book.trail b.book.trail
  pub order : IsFront a.book.order b.book.order

-- And why it meets the fault; the call may hear frames, or brings an item of the peer.
pub record WorksInPart (hears : Bool) (item : Option PeerIn) (fault : ProxyFault) (a b : SideState)
    : Type 0 where
  pub part : InPart a b
  pub why : Why b.book.trail.side hears item fault part.took a.inside a.book.order
      b.book
