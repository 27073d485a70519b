use Rattle.side_model.proofs.Sounds.{sound_at_first, sound_outside}
use Rattle.side_model.proofs.SoundsInside.{sound_inside}
use Rattle.side_model.proofs.laws.numbers_are_kept.Goals as goal

pub returns-clause-first : goal.returns-clause-first
returns-clause-first c = sound_at_first

pub returns-clause-outside : goal.returns-clause-outside
returns-clause-outside c = sound_outside

pub returns-clause-inside : goal.returns-clause-inside
returns-clause-inside c = sound_inside
