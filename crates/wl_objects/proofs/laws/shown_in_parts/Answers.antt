use Rattle.wl_objects.proofs.Shown.{state_is_tracked, state_goes_on, visible_goes_on}
use Rattle.wl_objects.proofs.laws.shown_in_parts.Goals as goal

pub returns-clause-tracked : goal.returns-clause-tracked
returns-clause-tracked c = state_is_tracked

pub returns-clause-state : goal.returns-clause-state
returns-clause-state c = state_goes_on

pub returns-clause-visible : goal.returns-clause-visible
returns-clause-visible c = visible_goes_on
