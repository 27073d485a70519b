use Rattle.wl_objects.proofs.Parts.{track_goes_on, front_is_tracked}
use Rattle.wl_objects.proofs.laws.tracked_in_parts.Goals as goal

pub returns-clause-goes_on : goal.returns-clause-goes_on
returns-clause-goes_on c = track_goes_on

pub returns-clause-front : goal.returns-clause-front
returns-clause-front c = front_is_tracked
