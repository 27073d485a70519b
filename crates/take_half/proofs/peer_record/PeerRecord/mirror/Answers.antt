use Rattle.std.proofs.Common.{ℤ, ◌∙◌, ap, w32}
use Rattle.std.proofs.lemmas.Int.{to_z-of_z}
use Rattle.mirror_pools.specs.Mirrors.{bytes_at}
use Rattle.half_model.specs.PeerState.{PeerState}
use Rattle.take_half.proofs.peer_record.PeerRecord.mirror.Goals as goal

pub returns : goal.returns
returns c =
    c.bytes.ensures.exact
    ∙ ap (λ (rid : ℤ). bytes_at rid c.self.inside.mirrors) (to_z-of_z w32 c.args.rid c.ranges.rid)
    ∙ ap (λ (s : PeerState). bytes_at c.args.rid s.mirrors) c.self.view_is
