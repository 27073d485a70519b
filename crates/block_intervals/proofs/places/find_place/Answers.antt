use Rattle.block_intervals.proofs.PlaceLemmas.{touched_found}
use Rattle.block_intervals.proofs.places.find_place.Goals as goal

pub returns-in-None : goal.returns-in-None
returns-in-None c =
    touched_found _ _ _ _ c.requires.rises c.requires.some c.ending_before.ensures.within c.beginning_until.ensures.within c.ending_before.ensures.before c.ending_before.ensures.from_there c.beginning_until.ensures.until c.beginning_until.ensures.after
