use Rattle.std.proofs.Common.{◌∙◌, ◌-◌, List, ap, arith}
use Rattle.std.proofs.lemmas.Bool.{le-ltb}
use Rattle.copy_workers.specs.Copies.{DoneState}
use Rattle.half_model.specs.Jobs.{Job, awaits}
use Rattle.owed_groups.specs.Lending.{done_of}
use Rattle.owed_groups.proofs.SlotLemmas.{absent_before, absent_behind, present_at}
use Rattle.owed_groups.proofs.copies.Copies.awaits.Goals as goal

pub returns-then-done-self : goal.returns-then-done-self
returns-then-done-self c =
    let id = ap (λ (d : DoneState). d.id) c.done.view_is in
    absent_before c.self.inside.first c.self.inside.slots.items (done_of c.args.done.now) c.self.invariant.numbered (omega (arith, id, c.if-done-self.true))
    ∙ ap (λ (jobs : List Job). awaits jobs (done_of c.args.done.now)) c.self.view_is

pub returns-then-place-len : goal.returns-then-place-len
returns-then-place-len c =
    let id = ap (λ (d : DoneState). d.id) c.done.view_is in
    c.is_done.ensures
    ∙ present_at c.self.inside.first _ c.self.inside.slots.items (done_of c.args.done.now) c.index.result.now c.self.invariant.numbered
    (omega (arith, id, c.if-done-self.false)) (omega (arith, id)) (omega (arith, c.if-place-len.true, c.len.ensures)) c.index.ensures
    ∙ ap (λ (jobs : List Job). awaits jobs (done_of c.args.done.now)) c.self.view_is

pub returns-else-place-len : goal.returns-else-place-len
returns-else-place-len c =
    let id = ap (λ (d : DoneState). d.id) c.done.view_is in
    le-ltb (c.done.inside.id - c.self.inside.first) c.len.result c.if-place-len.false
    ∙ absent_behind c.self.inside.first (c.done.inside.id - c.self.inside.first) c.self.inside.slots.items (done_of c.args.done.now) c.self.invariant.numbered
    (omega (arith, id, c.if-done-self.false)) (omega (arith, id)) (omega (arith, c.if-place-len.false, c.len.ensures))
    ∙ ap (λ (jobs : List Job). awaits jobs (done_of c.args.done.now)) c.self.view_is
