use Rattle.std.proofs.Common.{true, ◌∙◌, ap}
use Rattle.wp_outside.specs.Lines.{lane_with_pulled}
use Rattle.wp_outside.specs.Kept.{KeptLane, shown_lane}
use Rattle.wp_outside.specs.contracts.stored_lanes.StoredLane.{the_view}
use Rattle.wp_outside.proofs.LaneSteps.{pulled_shown}
use Rattle.wp_outside.proofs.stored_lanes.StoredLane.pull.Goals as goal

pub returns-clause-lane : goal.returns-clause-lane
returns-clause-lane c =
    let n = c.copy_front-count.result in
    pulled_shown (the_view c.self.inside) n
    ∙ ap (λ (lane : KeptLane). lane_with_pulled n (shown_lane true lane)) c.self.view_is
