use Rattle.std.proofs.Common.{◌*◌, ◌<◌, List, length, ap, ◌∙◌, sym, subst, arith}
use Rattle.std.specs.Prelude.{All, OnOk}
use Rattle.std.proofs.lemmas.List.{get_or_default, get_or-set_same}
use Rattle.pool_words.specs.History.{HasStood}
use Rattle.pool_words.specs.Views.{PenState}
use Rattle.shm_pools.specs.Files.{FileState, no_pen}
use Rattle.shm_pools.proofs.Segments.{whole_set, after_settle}
use Rattle.shm_pools.proofs.file.FilePen.settle.Goals as goal

pub invariant_of-self : goal.invariant_of-self
invariant_of-self c =
    let ps : List PenState = c.self.inside.pens.items in
    let lt : c.args.segment < length ps = omega (arith, ap (λ (f : FileState). length f.segments) c.self.view_is, c.requires.within) in
    let here = c.index_mut.ensures.value ∙ get_or_default ps c.args.segment c.index_mut.result.now no_pen lt in
    let after = after_settle c.settle.result c.index_mut.result.now c.settle.new.self c.args.r c.settle.ensures.ok c.settle.ensures.unchanged in
    let set = whole_set c.self.inside.number ps c.args.segment c.settle.new.self c.self.invariant.1 lt
    (after.0 ∙ ap (λ (p : PenState). p.words) here) (after.1 ∙ ap (λ (p : PenState). p.number) here) in
    (c.self.invariant.0 ∙ ap (λ n. 8 * n) (sym set.0), set.1)

pub returns-clause-whole : goal.returns-clause-whole
returns-clause-whole c = (invariant_of-self c).1

pub returns-clause-stood : goal.returns-clause-stood
returns-clause-stood c =
    let ps : List PenState = c.self.inside.pens.items in
    let lt : c.args.segment < length ps = omega (arith, ap (λ (f : FileState). length f.segments) c.self.view_is, c.requires.within) in
    subst (λ (p : PenState). OnOk c.settle.result (All (HasStood p.history) p.settled))
    (sym (get_or-set_same ps c.args.segment c.settle.new.self no_pen lt)) c.settle.ensures.stood
