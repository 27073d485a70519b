use Rattle.wl_objects.proofs.Shown.{event_is_viewed, request_is_not_shown}
use Rattle.wl_objects.proofs.WholeShown.{shown_is_whole}
use Rattle.wl_objects.proofs.laws.shown_one_by_one.Goals as goal

pub returns-clause-event : goal.returns-clause-event
returns-clause-event c = event_is_viewed

pub returns-clause-request : goal.returns-clause-request
returns-clause-request c = request_is_not_shown

pub returns-clause-whole : goal.returns-clause-whole
returns-clause-whole c = shown_is_whole
