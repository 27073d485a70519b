use Rattle.std.proofs.Common.{ℤ, position, ap, ◌∙◌, w32}
use Rattle.std.specs.Ordering.{int_eq}
use Rattle.std.proofs.lemmas.Int.{to_z-of_z}
use Rattle.script_peers.specs.Owning.{numbers_of}
use Rattle.script_peers.proofs.own_files.OwnFiles.place.Goals as goal

pub returns-clause-place : goal.returns-clause-place
returns-clause-place c =
    c.get_index_of.ensures.index
    ∙ ap (λ (number : ℤ). position (int_eq number) c.self.inside.numbers.keys) (to_z-of_z w32 c.args.number c.ranges.number)
    ∙ ap (position (int_eq c.args.number)) (c.self.invariant.0 ∙ ap numbers_of c.self.view_is)
