use Rattle.std.proofs.Common.{List, subst}
use Rattle.script_lang.specs.declared.steps.Step.{Step}
use Rattle.script_replay.specs.Outcome.{Replays}
use Rattle.script_replay.proofs.Answering.{replays}
use Rattle.script_replay.proofs.replaying.replay.Goals as goal

pub play-requires-clause-ready : goal.play-requires-clause-ready
play-requires-clause-ready g c =
    c.in-Ok-new.ensures.ready (g.L.LinkStore.line c.args.line.now) (λ connection. (g.met.L.LinkStore.honest c.args.line.now connection).fresh (c.requires connection))

pub returns-in-Ok-play : goal.returns-in-Ok-play
returns-in-Ok-play g c =
    let before = g.L.LinkStore.line c.args.line.now in
    let after = g.L.LinkStore.line c.play.new.line in
    subst (λ (steps : List Step). Replays steps after c.record_of.result) c.as_slice.ensures
    (replays c.as_slice.result.now c.in-Ok-new.run' c.play.new.run before after c.in-Ok-play.end c.record_of.result (c.in-Ok-new.ensures.first before) c.in-Ok-play.ensures c.record_of.ensures)
