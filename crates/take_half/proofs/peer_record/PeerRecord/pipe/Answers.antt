use Rattle.std.proofs.Common.{ℤ, ◌∙◌, ap, w32, int_cmp}
use Rattle.std.proofs.lemmas.Int.{to_z-of_z}
use Rattle.std.specs.BTreeMap.{is_at}
use Rattle.std.specs.Map.{lookup}
use Rattle.half_model.specs.PeerState.{PeerState}
use Rattle.take_half.proofs.peer_record.PeerRecord.pipe.Goals as goal

pub returns : goal.returns
returns c =
    c.get.ensures
    ∙ ap (λ (rid : ℤ). lookup (is_at (int_cmp rid)) c.self.inside.pipes) (to_z-of_z w32 c.args.rid c.ranges.rid)
    ∙ ap (λ (s : PeerState). lookup (is_at (int_cmp c.args.rid)) s.pipes) c.self.view_is
