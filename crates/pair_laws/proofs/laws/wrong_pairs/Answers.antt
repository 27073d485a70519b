use Rattle.pair_laws.proofs.Wrongs.{accepts_twice, leaves_out, accepts_unmade, knows_too_much, refuses_else, receives_another, receives_other_rid, hears_early, misses_one, fills_unstood, gives_unput, ends_pipe_early}
use Rattle.pair_laws.proofs.laws.wrong_pairs.Goals as goal

pub returns-clause-accepts_twice : goal.returns-clause-accepts_twice
returns-clause-accepts_twice c = accepts_twice

pub returns-clause-leaves_out : goal.returns-clause-leaves_out
returns-clause-leaves_out c = leaves_out

pub returns-clause-accepts_unmade : goal.returns-clause-accepts_unmade
returns-clause-accepts_unmade c = accepts_unmade

pub returns-clause-knows_too_much : goal.returns-clause-knows_too_much
returns-clause-knows_too_much c = knows_too_much

pub returns-clause-refuses_else : goal.returns-clause-refuses_else
returns-clause-refuses_else c = refuses_else

pub returns-clause-receives_another : goal.returns-clause-receives_another
returns-clause-receives_another c = receives_another

pub returns-clause-receives_other_rid : goal.returns-clause-receives_other_rid
returns-clause-receives_other_rid c = receives_other_rid

pub returns-clause-hears_early : goal.returns-clause-hears_early
returns-clause-hears_early c = hears_early

pub returns-clause-misses_one : goal.returns-clause-misses_one
returns-clause-misses_one c = misses_one

pub returns-clause-fills_unstood : goal.returns-clause-fills_unstood
returns-clause-fills_unstood c = fills_unstood

pub returns-clause-gives_unput : goal.returns-clause-gives_unput
returns-clause-gives_unput c = gives_unput c.pipes_reach.ensures.reach

pub returns-clause-ends_pipe_early : goal.returns-clause-ends_pipe_early
returns-clause-ends_pipe_early c = ends_pipe_early c.pipes_reach.ensures.reach
