use Rattle.std.proofs.Common.{w32, ap, ◌∙◌}
use Rattle.std.proofs.lemmas.Int.{to_z-of_z}
use Rattle.script_lang.specs.Names.{thing_of}
use Rattle.script_lang.proofs.names.PeerNames.thing.Goals as goal

pub returns : goal.returns
unfolding thing_of
returns c =
    let same = to_z-of_z w32 c.args.number c.ranges.number in
    let found = rw same at c.get.ensures.value in
    c.copied.ensures ∙ found ∙ ap (λ owned. thing_of owned c.args.number) c.self.view_is
