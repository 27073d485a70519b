use Rattle.std.proofs.Common.{◌≡◌, ◌<◌, ℤ, List, length, ap, refl, sym, ◌∙◌, subst, w32}
use Rattle.std.proofs.lemmas.Int.{to_z-of_z}
use Rattle.std.proofs.lemmas.List.{get_or_default}
use Rattle.std.proofs.lemmas.Result.{on_ok_weaker}
use Rattle.shm_pools.specs.Files.{FileState}
use Rattle.script_peers.specs.Owning.{no_file, place_of, filled}
use Rattle.script_peers.proofs.OwnLemmas.{sound_set, changed_there, changed_nowhere}
use Rattle.script_peers.proofs.own_files.OwnFiles.fill.Goals as goal

pub invariant_of-self : goal.invariant_of-self
invariant_of-self c =
    let files : List FileState = c.self.inside.files.items in
    let within : c.in-Some.place < length files = subst (λ (fs : List FileState). c.in-Some.place < length fs) (sym c.self.view_is) c.in-Some.ensures.within in
    let here = c.index_mut.ensures.value ∙ get_or_default files c.in-Some.place c.index_mut.result.now no_file within in
    sound_set c.self.inside.numbers.keys files c.in-Some.place c.fill.new.self c.self.invariant
    (c.fill.ensures.number ∙ ap (λ (f : FileState). f.number) here) c.fill.ensures.stood

pub returns-in-Some : goal.returns-in-Some
returns-in-Some c =
    let named = ap (λ (n : ℤ). place_of n c.args.self.now) (to_z-of_z w32 c.args.number c.ranges.number) in
    let files : List FileState = c.self.inside.files.items in
    let step = filled c.args.first c.args.count c.args.value in
    let within : c.in-Some.place < length files = subst (λ (fs : List FileState). c.in-Some.place < length fs) (sym c.self.view_is) c.in-Some.ensures.within in
    let here = c.index_mut.ensures.value ∙ get_or_default files c.in-Some.place c.index_mut.result.now no_file within in
    on_ok_weaker c.fill.result
    (λ (is : c.fill.new.self ≡ step c.index_mut.result.now). changed_there step files c.args.self.now c.args.number c.in-Some.place c.fill.new.self c.self.view_is (c.in-Some.ensures.place ∙ named) (is ∙ ap step here))
    c.fill.ensures.ok

pub returns-in-None : goal.returns-in-None
returns-in-None c =
    let named = ap (λ (n : ℤ). place_of n c.args.self.now) (to_z-of_z w32 c.args.number c.ranges.number) in
    changed_nowhere (filled c.args.first c.args.count c.args.value) c.args.self.now c.args.self.now c.args.number refl (c.in-None.ensures.place ∙ named)
