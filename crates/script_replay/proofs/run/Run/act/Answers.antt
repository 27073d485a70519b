use Rattle.script_replay.proofs.run.Run.act.Goals as goal

pub returns-in-Ok-act-clause-near : goal.returns-in-Ok-act-clause-near
returns-in-Ok-act-clause-near c = record { acts = c.in-Ok.ensures.acts; same = c.in-Ok.ensures.same; ready = c.in-Ok.ensures.ready }

pub returns-in-Ok-act-clause-far : goal.returns-in-Ok-act-clause-far
returns-in-Ok-act-clause-far c = record { acts = c.in-Ok-act.ensures.acts; same = c.in-Ok-act.ensures.same; ready = c.in-Ok-act.ensures.ready }
