use Rattle.std.proofs.Common.{◌≡◌, ℤ, List, None, ap, sym, ◌∙◌, subst, w32}
use Rattle.std.proofs.lemmas.Int.{to_z-of_z}
use Rattle.std.specs.Ordering.{int_eq}
use Rattle.indexmap.specs.IndexSet.{insert_key}
use Rattle.shm_pools.specs.Files.{FileState}
use Rattle.script_peers.specs.Owning.{place_of, numbers_of, AreSound}
use Rattle.script_peers.proofs.OwnLemmas.{sound_push}
use Rattle.script_peers.proofs.own_files.OwnFiles.make.Goals as goal

pub invariant_of-self-in-Ok : goal.invariant_of-self-in-Ok
invariant_of-self-in-Ok c =
    let files : List FileState = c.self.inside.files.items in
    let raw = ap (λ (f : FileState). f.number) c.in_ok-file.ensures.new.1 in
    let named : c.in_ok-file.file.number ≡ c.args.number = raw ∙ to_z-of_z w32 c.args.number c.ranges.number in
    let none : place_of c.in_ok-file.file.number files ≡ None =
    ap (λ (n : ℤ). place_of n files) named ∙ ap (place_of c.args.number) c.self.view_is ∙ c.requires.new
    in
    let made = sound_push c.self.inside.numbers.keys c.insert.new.self.keys files c.in_ok-file.file c.self.invariant none c.in_ok-file.ensures.stood
    (c.in-Ok.ensures.keys ∙ ap (insert_key int_eq c.self.inside.numbers.keys) (sym raw)) c.in-Ok.ensures.unique in
    subst (λ (fs : List FileState). (c.insert.new.self.keys ≡ numbers_of fs) × AreSound fs) (sym c.in_ok-push.ensures.items) made
