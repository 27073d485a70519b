use Rattle.std.proofs.Common.{◌≡◌, ◌<◌, ℤ, List, length, Some, None, ap, sym, ◌∙◌, subst, w32}
use Rattle.std.proofs.lemmas.Int.{to_z-of_z}
use Rattle.std.proofs.lemmas.List.{get_or_default}
use Rattle.shm_pools.specs.Files.{FileState, after_settle}
use Rattle.script_peers.specs.Owning.{no_file, file_at, place_of, IsReceiptIn}
use Rattle.script_peers.proofs.OwnLemmas.{sound_set, changed_there}
use Rattle.script_peers.proofs.own_files.OwnFiles.settle.Goals as goal

pub settle-requires : goal.settle-requires
settle-requires c =
    let named = ap (λ (n : ℤ). place_of n c.args.self.now) (to_z-of_z w32 c.args.number c.ranges.number) in
    let files : List FileState = c.self.inside.files.items in
    let within : c.in-Some.place < length files = subst (λ (fs : List FileState). c.in-Some.place < length fs) (sym c.self.view_is) c.in-Some.ensures.within in
    let here = c.index_mut.ensures.value ∙ get_or_default files c.in-Some.place c.index_mut.result.now no_file within in
    let found : Some c.in-Some.place ≡ Some c.requires.place = c.in-Some.ensures.place ∙ named ∙ c.requires.found in
    let same : c.in-Some.place ≡ c.requires.place = cc in
    subst (IsReceiptIn c.args.segment c.args.receipt)
    (sym (here ∙ ap (λ (fs : List FileState). file_at fs c.in-Some.place) c.self.view_is ∙ ap (file_at c.args.self.now) same))
    c.requires.fits

pub invariant_of-self : goal.invariant_of-self
invariant_of-self c =
    let files : List FileState = c.self.inside.files.items in
    let within : c.in-Some.place < length files = subst (λ (fs : List FileState). c.in-Some.place < length fs) (sym c.self.view_is) c.in-Some.ensures.within in
    let here = c.index_mut.ensures.value ∙ get_or_default files c.in-Some.place c.index_mut.result.now no_file within in
    sound_set c.self.inside.numbers.keys files c.in-Some.place c.settle.new.self c.self.invariant
    (ap (λ (f : FileState). f.number) (c.settle.ensures.settled ∙ ap (λ (f : FileState). after_settle f c.args.segment c.args.receipt) here)) c.settle.ensures.stood

pub unreachable-requires : goal.unreachable-requires
unreachable-requires c =
    let named = ap (λ (n : ℤ). place_of n c.args.self.now) (to_z-of_z w32 c.args.number c.ranges.number) in
    let missing : None ≡ Some c.requires.place = c.in-None.ensures.place ∙ named ∙ c.requires.found in
    let never : ⊥ = cc in never

pub returns-clause-settled : goal.returns-clause-settled
returns-clause-settled c =
    let named = ap (λ (n : ℤ). place_of n c.args.self.now) (to_z-of_z w32 c.args.number c.ranges.number) in
    let files : List FileState = c.self.inside.files.items in
    let step : FileState → FileState = λ f. after_settle f c.args.segment c.args.receipt in
    let within : c.in-Some.place < length files = subst (λ (fs : List FileState). c.in-Some.place < length fs) (sym c.self.view_is) c.in-Some.ensures.within in
    let here = c.index_mut.ensures.value ∙ get_or_default files c.in-Some.place c.index_mut.result.now no_file within in
    changed_there step files c.args.self.now c.args.number c.in-Some.place c.settle.new.self c.self.view_is (c.in-Some.ensures.place ∙ named)
    (c.settle.ensures.settled ∙ ap step here)

pub returns-clause-sound : goal.returns-clause-sound
returns-clause-sound c = (invariant_of-self c).1
