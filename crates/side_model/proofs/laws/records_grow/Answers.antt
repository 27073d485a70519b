use Rattle.side_model.proofs.Weighing.{weight_grows}
use Rattle.side_model.proofs.Noting.{notes_grow}
use Rattle.side_model.proofs.Feeding.{takes_in_order}
use Rattle.side_model.proofs.laws.records_grow.Goals as goal

pub returns-clause-weight : goal.returns-clause-weight
returns-clause-weight c = weight_grows

pub returns-clause-notes : goal.returns-clause-notes
returns-clause-notes c = notes_grow

pub returns-clause-takes : goal.returns-clause-takes
returns-clause-takes c = takes_in_order
