use Rattle.std.proofs.Common.{◌*◌, ◌<◌, List, length, ap, ◌∙◌, sym, subst}
use Rattle.std.proofs.lemmas.List.{get_or_default}
use Rattle.pool_words.specs.Views.{PenState}
use Rattle.shm_pools.specs.Files.{no_pen}
use Rattle.shm_pools.proofs.Segments.{whole_set, after_write}
use Rattle.shm_pools.proofs.file.FilePen.write.Goals as goal

pub invariant_of-self : goal.invariant_of-self
invariant_of-self c =
    let ps : List PenState = c.self.inside.pens.items in
    let place = c.place_of-place.result in
    let lt : place.segment < length ps = subst (λ (qs : List PenState). place.segment < length qs) c.as_slice.ensures.value c.place_of-place.ensures.segment_there in
    let here = c.index_mut.ensures.value ∙ get_or_default ps place.segment c.index_mut.result.now no_pen lt in
    let after = after_write c.write.result c.index_mut.result.now c.write.new.self place.word c.args.v c.write.ensures.ok c.write.ensures.unchanged in
    let set = whole_set c.self.inside.number ps place.segment c.write.new.self c.self.invariant.1 lt
    (after.0 ∙ ap (λ (p : PenState). p.words) here) (after.1 ∙ ap (λ (p : PenState). p.number) here) in
    (c.self.invariant.0 ∙ ap (λ n. 8 * n) (sym set.0), set.1)

pub returns-clause-whole : goal.returns-clause-whole
returns-clause-whole c = (invariant_of-self c).1
