use Rattle.std.proofs.Common.{◌≡◌, true, List, ℕ, ◌++◌, ◌∙◌, ap}
use Rattle.wp_outside.specs.Lines.{lane_with_spoiled}
use Rattle.wp_outside.specs.Kept.{KeptLane, shown_lane}
use Rattle.wp_outside.proofs.LaneSteps.{spoiled_again, spoiled_first}
use Rattle.wp_outside.proofs.stored_lanes.StoredLane.spoil.Goals as goal

pub returns-then-self-clause-lane : goal.returns-then-self-clause-lane
returns-then-self-clause-lane c =
    let inside = c.self.inside in
    spoiled_again inside.pushed.items inside.given inside.was_spoiled inside.replaced.items c.args.offset c.args.byte c.if-self.true
    ∙ ap (λ (lane : KeptLane). lane_with_spoiled c.args.offset c.args.byte (shown_lane true lane)) c.self.view_is

pub returns-clause-lane : goal.returns-clause-lane
returns-clause-lane c =
    let inside = c.self.inside in
    let copied : c.append_reserved.new.items.items ≡ inside.pushed.items =
    c.append_reserved.ensures.items ∙ ap (λ (front : List ℕ). front ++ c.as_slice.result.now) (c.self.invariant.none c.if-self.false) ∙ c.as_slice.ensures.value in
    spoiled_first inside.pushed.items inside.given inside.was_spoiled inside.replaced.items c.append_reserved.new.items.items c.args.offset c.args.byte c.if-self.false copied
    ∙ ap (λ (lane : KeptLane). lane_with_spoiled c.args.offset c.args.byte (shown_lane true lane)) c.self.view_is
