use Rattle.std.proofs.Common.{ℤ, ◌∙◌, ap, w32}
use Rattle.std.proofs.lemmas.Int.{to_z-of_z}
use Rattle.pipe_relay.specs.Pipes.{has_rid}
use Rattle.take_half.specs.TakeState.{TakeState}
use Rattle.take_half.proofs.half.TakeHalf.holds.Goals as goal

pub returns : goal.returns
returns c =
    c.holds.ensures
    ∙ ap (λ (rid : ℤ). has_rid rid c.self.inside.passing.held) (to_z-of_z w32 c.args.rid c.ranges.rid)
    ∙ ap (λ (s : TakeState). has_rid c.args.rid s.taking.held) c.self.view_is
