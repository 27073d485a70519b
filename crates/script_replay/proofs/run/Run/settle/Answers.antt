use Rattle.std.proofs.Common.{Bool, subst}
use Rattle.script_replay.specs.Settling.{ChangedIf}
use Rattle.script_replay.specs.Standing.{state_of}
use Rattle.script_replay.proofs.Settling.{leads_first, leads_more, round_less, settles_here, settle_stops}
use Rattle.script_replay.proofs.run.Run.settle.Goals as goal

pub rounds-init : goal.rounds-init
rounds-init g c = record {
  leads = leads_first c.args.most (state_of c.args.self.now (g.L.LinkStore.line c.args.line.now));
  ready = c.requires.ready;
}

pub rounds-smaller : goal.rounds-smaller
rounds-smaller g c =
    let now = state_of c.rounds.self (g.L.LinkStore.line c.rounds.line) in
    let next = state_of c.round.new.self (g.L.LinkStore.line c.round.new.line) in
    round_less c.args.most now next (c.in-Ok-true.ensures.moves c.rounds.invariant.ready).did (subst (λ (moved : Bool). ChangedIf moved now next) c.in-Ok-true.field-0-test c.in-Ok-true.ensures.moved)

pub rounds-preserved : goal.rounds-preserved
rounds-preserved g c =
    let first = state_of c.args.self.now (g.L.LinkStore.line c.args.line.now) in
    let now = state_of c.rounds.self (g.L.LinkStore.line c.rounds.line) in
    let next = state_of c.round.new.self (g.L.LinkStore.line c.round.new.line) in
    let went = c.in-Ok-true.ensures.moves c.rounds.invariant.ready in
    record {
      leads = leads_more c.args.most first now next c.rounds.invariant.leads went.did (subst (λ (moved : Bool). ChangedIf moved now next) c.in-Ok-true.field-0-test c.in-Ok-true.ensures.moved);
      ready = went.stays;
    }

pub returns-in-Ok-false : goal.returns-in-Ok-false
returns-in-Ok-false g c = λ _.
    let first = state_of c.args.self.now (g.L.LinkStore.line c.args.line.now) in
    let now = state_of c.rounds.self (g.L.LinkStore.line c.rounds.line) in
    let next = state_of c.round.new.self (g.L.LinkStore.line c.round.new.line) in
    let went = c.in-Ok-false.ensures.moves c.rounds.invariant.ready in
    record {
      did = settles_here c.args.most first now next c.rounds.invariant.leads went.did (subst (λ (moved : Bool). ChangedIf moved now next) c.in-Ok-false.field-0-test c.in-Ok-false.ensures.moved);
      stays = went.stays;
    }

pub returns-in-Err : goal.returns-in-Err
returns-in-Err g c =
    settle_stops Bool (Unit {0}) c.in-Err.stop c.args.most c.args.self.now c.rounds.self c.round.new.self (g.L.LinkStore.line c.args.line.now) (g.L.LinkStore.line c.rounds.line) (g.L.LinkStore.line c.round.new.line)
    c.rounds.invariant.leads c.rounds.invariant.ready c.in-Err.ensures.moves
