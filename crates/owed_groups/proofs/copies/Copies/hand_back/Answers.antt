use Rattle.std.proofs.Common.{◌≡◌, ◌∙◌, true, List, ap, arith}
use Rattle.copy_workers.specs.Copies.{DoneState}
use Rattle.half_model.specs.Jobs.{Job, awaits, handed}
use Rattle.owed_groups.specs.Lending.{done_of}
use Rattle.owed_groups.proofs.SlotLemmas.{awaited_place, hand_back_step, some_missing}
use Rattle.owed_groups.proofs.copies.Copies.hand_back.Goals as goal

pub overflow_sub-place : goal.overflow_sub-place
overflow_sub-place c =
    let id = ap (λ (d : DoneState). d.id) c.done.view_is in
    let e : awaits c.self.inside.slots.items (done_of c.args.done) ≡ true = ap (λ (jobs : List Job). awaits jobs (done_of c.args.done)) c.self.view_is ∙ c.requires in
    let within = awaited_place c.self.inside.first c.self.inside.slots.items (done_of c.args.done) c.self.invariant.numbered e in
    omega (arith, id, within.0)

pub index_mut-requires : goal.index_mut-requires
index_mut-requires c =
    let id = ap (λ (d : DoneState). d.id) c.done.view_is in
    let e : awaits c.self.inside.slots.items (done_of c.args.done) ≡ true = ap (λ (jobs : List Job). awaits jobs (done_of c.args.done)) c.self.view_is ∙ c.requires in
    let within = awaited_place c.self.inside.first c.self.inside.slots.items (done_of c.args.done) c.self.invariant.numbered e in
    omega (arith, id, within.0, within.1)

pub overflow_sub-self : goal.overflow_sub-self
overflow_sub-self c =
    let e : awaits c.self.inside.slots.items (done_of c.args.done) ≡ true = ap (λ (jobs : List Job). awaits jobs (done_of c.args.done)) c.self.view_is ∙ c.requires in
    let some = some_missing c.self.inside.slots.items (done_of c.args.done) e in
    omega (arith, some, c.self.invariant.lacks)

pub invariant_of-self : goal.invariant_of-self
invariant_of-self c =
    let id = ap (λ (d : DoneState). d.id) c.done.view_is in
    let e : awaits c.self.inside.slots.items (done_of c.args.done) ≡ true = ap (λ (jobs : List Job). awaits jobs (done_of c.args.done)) c.self.view_is ∙ c.requires in
    (hand_back_step c.self.inside.first c.self.inside.given c.self.inside.left _ c.self.inside.slots.items (done_of c.args.done) c.index_mut.result.now c.hand_back.new.self
    c.self.invariant e (omega (arith, id)) c.index_mut.ensures.value c.hand_back.ensures).1

pub returns : goal.returns
returns c =
    let id = ap (λ (d : DoneState). d.id) c.done.view_is in
    let e : awaits c.self.inside.slots.items (done_of c.args.done) ≡ true = ap (λ (jobs : List Job). awaits jobs (done_of c.args.done)) c.self.view_is ∙ c.requires in
    (hand_back_step c.self.inside.first c.self.inside.given c.self.inside.left _ c.self.inside.slots.items (done_of c.args.done) c.index_mut.result.now c.hand_back.new.self
    c.self.invariant e (omega (arith, id)) c.index_mut.ensures.value c.hand_back.ensures).0
    ∙ ap (λ (jobs : List Job). handed (done_of c.args.done) jobs) c.self.view_is
