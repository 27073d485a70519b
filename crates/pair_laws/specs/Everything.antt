-- That a pair which is drained, or in which each side accepted the other's CLOSE, has received
-- everything. Messages are Wayland's; frames and records are this project's own.
use Rattle.std.specs.Prelude.{◌≡◌, true, [], length, None}
use Rattle.wp_outside.specs.declared.kinds.Side.{Side}
use Rattle.wp_outside.specs.declared.kinds.Side.TheVariants.{Near, Far}
use Rattle.wl_objects.specs.Registry.{first_state, visible}
use Rattle.half_model.specs.Story.{accepted_in, messages_in}
use Rattle.half_model.specs.StoryLaws.{now}
use Rattle.pair_model.specs.LinkFaults.{has_closed}
use Rattle.side_model.specs.Trails.{TrailState, Keeps}
use Rattle.pair_laws.specs.Passing.{passing_by}
use Rattle.pair_laws.specs.Pairs.{OneSide, IsLawful, IsPair}
use Rattle.pair_laws.specs.Received.{received_by, sent_by, messages}

-- ---- drained

-- each message of the frames that a side accepted was given
abbrev pub GaveAll : (side : Side) (it : OneSide) → IsLawful side it → Type 0
GaveAll side it law = it.book.trail.given ≡ length (messages_in (accepted_in law.story))

-- A side knows that all its frames were accepted, waits for no copy, so that the frames of the last
-- message it took are made, and has given all.
pub record IsDrained (side : Side) (it : OneSide) (law : IsLawful side it) : Type 0 where
  pub known : it.book.trail.acknowledged ≡ length it.book.trail.made
  pub owes : (now side law.story).owes ≡ None
  pub gave : GaveAll side it law

pub record Drained (near far : OneSide) (pair : IsPair near far) : Type 0 where
  pub near_drained : IsDrained Near near pair.one_law
  pub far_drained : IsDrained Far far pair.other_law

-- ---- closed

-- a side accepted the other's CLOSE, and has given all
pub record HeardClose (side : Side) (it : OneSide) (law : IsLawful side it) : Type 0 where
  pub heard : has_closed (accepted_in law.story) ≡ true
  pub gave : GaveAll side it law

pub record BothClosed (near far : OneSide) (pair : IsPair near far) : Type 0 where
  pub near_heard : HeardClose Near near pair.one_law
  pub far_heard : HeardClose Far far pair.other_law

-- ---- everything

-- The compositor has received all that the near side took, the application all that the registry
-- view shows of the far side's order, and each side has accepted all that the other made.
pub record HasAll (near far : OneSide) (pair : IsPair near far) : Type 0 where
  pub up : messages (received_by Far far pair.other_law) ≡ near.book.trail.taken
  pub up_rids : received_by Far far pair.other_law ≡ sent_by Near near pair.one_law
  pub up_frames : accepted_in pair.other_law.story ≡ near.book.trail.made
  pub down : messages (received_by Near near pair.one_law)
      ≡ visible first_state (passing_by Far far pair.other_law)
  pub down_rids : received_by Near near pair.one_law ≡ sent_by Far far pair.other_law
  pub down_frames : accepted_in pair.one_law.story ≡ far.book.trail.made

abbrev pub DrainedHasEverything : Type 0
DrainedHasEverything = (near far : OneSide) (pair : IsPair near far)
    → Drained near far pair → HasAll near far pair

abbrev pub ClosedHasEverything : Type 0
ClosedHasEverything = (near far : OneSide) (pair : IsPair near far)
    → BothClosed near far pair → HasAll near far pair

-- ---- from a proxy

-- a proxy with its records, as one side
abbrev pub side_with : TrailState → OneSide
side_with t = record { token = t.now.token; book = t.book; fault = t.fault }

-- its records are lawful, and those of a drained side
pub record IsLawfulDrained (side : Side) (it : OneSide) : Type 0 where
  pub law : IsLawful side it
  pub drained : IsDrained side it law

-- where a proxy has not failed, and its ring is empty, no message is owed and nothing is left to be
-- given, its records are those of a drained side
abbrev pub EmptyIsDrained : Type 0
EmptyIsDrained = (t : TrailState) → Keeps t → t.fault ≡ None
    → t.now.kept.ring.frames ≡ [] → t.now.live.sending.owes ≡ None → t.now.live.items ≡ []
    → IsLawfulDrained t.now.side (side_with t)
