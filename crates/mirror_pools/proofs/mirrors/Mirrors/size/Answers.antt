use Rattle.std.proofs.Common.{◌≡◌, ℕ, ℤ, Some, None, sym, ◌∙◌, ap, w32}
use Rattle.std.proofs.lemmas.Int.{to_z-of_z}
use Rattle.std.specs.Option.{option_map}
use Rattle.mirror_pools.specs.Mirrors.{MirrorState, mirror_at}
use Rattle.mirror_pools.proofs.MirrorLemmas.{size_at-sizes_of}
use Rattle.mirror_pools.proofs.mirrors.Mirrors.size.Goals as goal

pub returns-in-Some-clause-exact : goal.returns-in-Some-clause-exact
returns-in-Some-clause-exact c =
    let found : Some c.in-Some.mirror.now ≡ mirror_at c.args.rid c.args.self.now =
    c.in-Some.ensures.value
    ∙ ap (λ (rid : ℤ). mirror_at rid c.self.inside.mirrors.entries) (to_z-of_z w32 c.args.rid c.ranges.rid)
    ∙ ap (mirror_at c.args.rid) c.self.view_is
    in
    ap (λ (n : ℕ). Some n) c.size.ensures
    ∙ ap (option_map (λ (it : MirrorState). it.size)) found
    ∙ sym (size_at-sizes_of c.args.rid c.args.self.now)

pub returns-in-None-clause-exact : goal.returns-in-None-clause-exact
returns-in-None-clause-exact c =
    let none : mirror_at c.args.rid c.args.self.now ≡ None =
    sym (
    c.in-None.ensures.value
    ∙ ap (λ (rid : ℤ). mirror_at rid c.self.inside.mirrors.entries) (to_z-of_z w32 c.args.rid c.ranges.rid)
    ∙ ap (mirror_at c.args.rid) c.self.view_is)
    in
    sym (size_at-sizes_of c.args.rid c.args.self.now ∙ ap (option_map (λ (it : MirrorState). it.size)) none)
