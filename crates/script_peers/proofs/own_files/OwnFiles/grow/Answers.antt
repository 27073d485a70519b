use Rattle.std.proofs.Common.{◌≡◌, ◌<◌, ℤ, List, length, ap, refl, sym, ◌∙◌, subst, w32}
use Rattle.std.proofs.lemmas.Int.{to_z-of_z}
use Rattle.std.proofs.lemmas.List.{get_or_default}
use Rattle.std.proofs.lemmas.Result.{on_ok_weaker}
use Rattle.pool_words.specs.Views.{PoolId, no_pool}
use Rattle.shm_pools.specs.Files.{FileState}
use Rattle.script_peers.specs.Owning.{no_file, place_of, grown}
use Rattle.script_peers.proofs.OwnLemmas.{sound_set, changed_there, changed_nowhere}
use Rattle.script_peers.proofs.own_files.OwnFiles.grow.Goals as goal

pub invariant_of-self : goal.invariant_of-self
invariant_of-self c =
    let files : List FileState = c.self.inside.files.items in
    let within : c.in-Some.place < length files = subst (λ (fs : List FileState). c.in-Some.place < length fs) (sym c.self.view_is) c.in-Some.ensures.within in
    let here = c.index_mut.ensures.value ∙ get_or_default files c.in-Some.place c.index_mut.result.now no_file within in
    sound_set c.self.inside.numbers.keys files c.in-Some.place c.grow.new.self c.self.invariant
    (c.grow.ensures.number ∙ ap (λ (f : FileState). f.number) here) c.grow.ensures.stood

pub returns-in-Some : goal.returns-in-Some
returns-in-Some c =
    let named = ap (λ (n : ℤ). place_of n c.args.self.now) (to_z-of_z w32 c.args.number c.ranges.number) in
    let files : List FileState = c.self.inside.files.items in
    let within : c.in-Some.place < length files = subst (λ (fs : List FileState). c.in-Some.place < length fs) (sym c.self.view_is) c.in-Some.ensures.within in
    let here = c.index_mut.ensures.value ∙ get_or_default files c.in-Some.place c.index_mut.result.now no_file within in
    on_ok_weaker c.grow.result
    (λ (it : (pool : PoolId) × (c.grow.new.self ≡ grown pool c.args.bytes c.index_mut.result.now)). (
      it.0,
      changed_there (grown it.0 c.args.bytes) files c.args.self.now c.args.number c.in-Some.place c.grow.new.self c.self.view_is (c.in-Some.ensures.place ∙ named)
          (it.1 ∙ ap (grown it.0 c.args.bytes) here),
    ))
    c.grow.ensures.ok

pub returns-in-None : goal.returns-in-None
returns-in-None c =
    let named = ap (λ (n : ℤ). place_of n c.args.self.now) (to_z-of_z w32 c.args.number c.ranges.number) in (
      no_pool,
      changed_nowhere (grown no_pool c.args.bytes) c.args.self.now c.args.self.now c.args.number refl (c.in-None.ensures.place ∙ named),
    )
