use Rattle.owed_groups.proofs.RunLemmas.{runs_in_file, pieces_in_file}
use Rattle.owed_groups.proofs.pieces.pieces_of.Goals as goal

pub cut_runs-requires : goal.cut_runs-requires
cut_runs-requires c = runs_in_file 0 c.args.runs.now c.requires.rises c.requires.ends

pub returns-clause-lie : goal.returns-clause-lie
returns-clause-lie c = pieces_in_file c.args.runs.now c.in_ok-pieces.pieces c.requires.rises c.requires.ends c.in_ok-pieces.ensures
