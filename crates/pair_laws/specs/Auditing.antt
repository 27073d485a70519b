-- What two sides have heard of each other where they agree on the bytes of their link; frames and
-- records are this project's own.
use Rattle.std.specs.Prelude.{◌≤◌}
use Rattle.plain_lists.specs.Fronts.{IsFront}
use Rattle.wp_outside.specs.declared.kinds.Side.{Side}
use Rattle.half_model.specs.Story.{accepted_in}
use Rattle.pair_laws.specs.Pairs.{OneSide, Joined}

-- The frames that each side accepted are the first ones that the other made, and neither knows of
-- more frames than the other accepted.
pub record EachHeard (one_side other_side : Side) (one other : OneSide)
    (both : Joined one_side other_side one other) : Type 0 where
  pub one_heard : IsFront (accepted_in both.one_law.story) other.book.trail.made
  pub other_heard : IsFront (accepted_in both.other_law.story) one.book.trail.made
  pub one_knows : one.book.trail.acknowledged ≤ other.book.trail.accepted
  pub other_knows : other.book.trail.acknowledged ≤ one.book.trail.accepted

abbrev pub Audited : Type 0
Audited = (one_side other_side : Side) (one other : OneSide)
    (both : Joined one_side other_side one other) → EachHeard one_side other_side one other both
