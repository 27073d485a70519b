use Rattle.std.proofs.Common.{◌≡◌, ℤ, None, Some, sym, ◌∙◌, ap, w32}
use Rattle.std.proofs.lemmas.Int.{to_z-of_z}
use Rattle.std.proofs.lemmas.Result.{on_ok_weaker}
use Rattle.mirror_pools.specs.Mirrors.{MirrorsState, sizes_of, with_opened}
use Rattle.mirror_pools.specs.Sizes.{open_cause}
use Rattle.half_model.specs.PeerState.{PeerState, if_good, with_mirrors}
use Rattle.take_half.proofs.peer_record.PeerRecord.open_file.Goals as goal

pub returns-in-Ok-clause-ok : goal.returns-in-Ok-clause-ok
returns-in-Ok-clause-ok c =
    let now = c.args.self.now in
    let key = to_z-of_z w32 c.args.rid c.ranges.rid in
    let fine : open_cause c.args.rid c.args.size (sizes_of now.mirrors) ≡ None =
    sym (ap (λ (s : PeerState). open_cause c.args.rid c.args.size (sizes_of s.mirrors)) c.self.view_is)
    ∙ sym (ap (λ (rid : ℤ). open_cause rid c.args.size (sizes_of c.self.inside.mirrors)) key)
    ∙ c.in-Ok.ensures
    in
    on_ok_weaker c.open.result
    (λ e. ap (λ (m : MirrorsState). with_mirrors m (record { messages = c.self.inside.messages; handles = c.self.inside.handles; mirrors = c.self.inside.mirrors; pipes = c.self.inside.pipes; settled = c.self.inside.settled }))
    (e ∙ ap (λ (rid : ℤ). with_opened rid c.args.size c.self.inside.mirrors) key)
    ∙ ap (λ (s : PeerState). with_mirrors (with_opened c.args.rid c.args.size s.mirrors) s) c.self.view_is
    ∙ sym (ap (λ o. if_good o (with_mirrors (with_opened c.args.rid c.args.size now.mirrors) now) now) fine))
    c.open.ensures.ok

pub returns-in-Err-clause-ok : goal.returns-in-Err-clause-ok
returns-in-Err-clause-ok c =
    let now = c.args.self.now in
    let key = to_z-of_z w32 c.args.rid c.ranges.rid in
    let refused : open_cause c.args.rid c.args.size (sizes_of now.mirrors) ≡ Some c.in-Err.field-0 =
    sym (ap (λ (s : PeerState). open_cause c.args.rid c.args.size (sizes_of s.mirrors)) c.self.view_is)
    ∙ sym (ap (λ (rid : ℤ). open_cause rid c.args.size (sizes_of c.self.inside.mirrors)) key)
    ∙ c.in-Err.ensures
    in
    sym (ap (λ o. if_good o (with_mirrors (with_opened c.args.rid c.args.size now.mirrors) now) now) refused)
