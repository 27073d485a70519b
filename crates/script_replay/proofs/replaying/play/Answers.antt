use Rattle.std.proofs.Common.{◌+◌, drop, refl, ◌∙◌, sym, arith}
use Rattle.std.proofs.Math.ListN.{drop_of_length-le}
use Rattle.script_replay.specs.Standing.{state_of}
use Rattle.script_replay.proofs.Ending.{leads_first, leads_more, ready_more, plays_stop, plays_end, line_stops, end_stops, next_step}
use Rattle.script_replay.proofs.replaying.play.Goals as goal

pub loop-step-init : goal.loop-step-init
loop-step-init g c = record {
  leads = leads_first c.args.steps.now (drop 0 c.args.steps.now) (state_of c.args.run.now (g.L.LinkStore.line c.args.line.now)) refl;
  ready = c.requires.ready;
  some = omega arith;
  sized = c.requires.sized;
}

pub returns-then-is_stop : goal.returns-then-is_stop
returns-then-is_stop g c =
    let steps = c.args.steps.now in
    let i = c.loop-step.step-index in
    plays_stop steps (drop i steps) (drop (i + 1) steps) c.step-item.result c.loop-step.most c.args.run.now c.loop-step.run (g.L.LinkStore.line c.args.line.now) (g.L.LinkStore.line c.loop-step.line)
    (next_step steps i c.step-item.result c.loop-step-test.true c.step-item.is) (sym c.is_stop.ensures ∙ c.if-is_stop.true) c.loop-step.invariant.leads c.loop-step.invariant.ready

pub returns-in-Err : goal.returns-in-Err
returns-in-Err g c =
    let steps = c.args.steps.now in
    let i = c.loop-step.step-index in
    line_stops steps (drop i steps) (drop (i + 1) steps) c.step-item.result c.loop-step.most c.args.run.now c.loop-step.run c.does.new.self
    (g.L.LinkStore.line c.args.line.now) (g.L.LinkStore.line c.loop-step.line) (g.L.LinkStore.line c.does.new.line) c.in-Err.stop c.ended.result
    (next_step steps i c.step-item.result c.loop-step-test.true c.step-item.is) (sym c.is_stop.ensures ∙ c.if-is_stop.false) c.loop-step.invariant.leads c.loop-step.invariant.ready c.in-Err.ensures c.ended.ensures

pub loop-step-preserved : goal.loop-step-preserved
loop-step-preserved g c =
    let steps = c.args.steps.now in
    let i = c.loop-step.step-index in
    record {
      leads = leads_more steps (drop i steps) (drop (i + 1) steps) c.step-item.result c.loop-step.most c.size_after-most.result (state_of c.args.run.now (g.L.LinkStore.line c.args.line.now)) c.loop-step.run c.does.new.self
          (g.L.LinkStore.line c.loop-step.line) (g.L.LinkStore.line c.does.new.line)
          (next_step steps i c.step-item.result c.loop-step-test.true c.step-item.is) (sym c.is_stop.ensures ∙ c.if-is_stop.false) c.size_after-most.ensures.value c.loop-step.invariant.leads c.loop-step.invariant.ready c.in-Ok.ensures;
      ready = ready_more c.step-item.result c.loop-step.run c.does.new.self (g.L.LinkStore.line c.loop-step.line) (g.L.LinkStore.line c.does.new.line) c.loop-step.invariant.ready c.in-Ok.ensures;
      some = c.size_after-most.ensures.some c.loop-step.invariant.some;
      sized = omega (arith, c.loop-step.invariant.sized, c.does.auto.room);
    }

pub returns-in-Ok-settle : goal.returns-in-Ok-settle
returns-in-Ok-settle g c =
    plays_end c.args.steps.now (drop c.loop-step.step-index c.args.steps.now) c.loop-step.most c.args.run.now c.loop-step.run c.settle.new.self (g.L.LinkStore.line c.args.line.now) (g.L.LinkStore.line c.loop-step.line) (g.L.LinkStore.line c.settle.new.line)
    (drop_of_length-le c.args.steps.now (omega arith)) c.loop-step.invariant.leads c.loop-step.invariant.ready c.in-Ok-settle.ensures

pub returns-in-Err-settle : goal.returns-in-Err-settle
returns-in-Err-settle g c =
    end_stops c.args.steps.now (drop c.loop-step.step-index c.args.steps.now) c.loop-step.most c.args.run.now c.loop-step.run c.settle.new.self
    (g.L.LinkStore.line c.args.line.now) (g.L.LinkStore.line c.loop-step.line) (g.L.LinkStore.line c.settle.new.line) c.in-Err-settle.stop c.ended-in-Err-settle.result
    (drop_of_length-le c.args.steps.now (omega arith)) c.loop-step.invariant.leads c.loop-step.invariant.ready c.in-Err-settle.ensures c.ended-in-Err-settle.ensures
