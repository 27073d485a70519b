use Rattle.side_model.proofs.Stopping.{lawful_stops}
use Rattle.side_model.proofs.laws.stops_are_lawful.Goals as goal

pub returns : goal.returns
returns c = lawful_stops
