use Rattle.std.proofs.Common.{◌≡◌, ◌+◌, ℕ, ℤ, length, Option, None, Some, not, sym, ◌∙◌, ap, subst, w32}
use Rattle.std.proofs.lemmas.Int.{to_z-of_z}
use Rattle.std.specs.Option.{is_some}
use Rattle.mirror_pools.specs.Mirrors.{MirrorsState, sizes_of, with_filled}
use Rattle.mirror_pools.specs.Sizes.{IsSound, fill_cause, size_at}
use Rattle.half_model.specs.PeerState.{PeerState, with_mirrors}
use Rattle.take_half.proofs.RecordLemmas.{good, refused, fill_tested, nothing_filled, outside_of_words}
use Rattle.take_half.proofs.peer_record.PeerRecord.fill_file.Goals as goal

pub returns-then-is_none : goal.returns-then-is_none
returns-then-is_none c =
    let now = c.args.self.now in
    let end = c.args.start + length c.args.bytes.now in
    let next = with_mirrors (with_filled c.args.rid c.args.start c.args.bytes.now now.mirrors) now in
    let found : c.size.result ≡ size_at c.args.rid (sizes_of now.mirrors) =
    c.size.ensures.exact
    ∙ ap (λ (rid : ℤ). size_at rid (sizes_of c.self.inside.mirrors)) (to_z-of_z w32 c.args.rid c.ranges.rid)
    ∙ ap (λ (s : PeerState). size_at c.args.rid (sizes_of s.mirrors)) c.self.view_is
    in
    nothing_filled c.args.rid end (sizes_of now.mirrors) next now
    (sym (ap (λ (o : Option ℕ). is_some o) found) ∙ c.is_none.ensures ∙ ap not c.if-is_none.true)

pub returns-in_default : goal.returns-in_default
returns-in_default c =
    let now = c.args.self.now in
    let end = c.args.start + length c.args.bytes.now in
    let next = with_mirrors (with_filled c.args.rid c.args.start c.args.bytes.now now.mirrors) now in
    let sound : IsSound (sizes_of now.mirrors) = subst (λ (s : PeerState). IsSound (sizes_of s.mirrors)) c.self.view_is c.size.ensures.sound in
    outside_of_words c.args.rid end (sizes_of now.mirrors) next now sound c.in_default.ensures

pub returns-in-Ok : goal.returns-in-Ok
returns-in-Ok c =
    let now = c.args.self.now in
    let key = to_z-of_z w32 c.args.rid c.ranges.rid in
    let end = c.args.start + length c.args.bytes.now in
    let fine : fill_cause c.args.rid end (sizes_of now.mirrors) ≡ None =
    sym (ap (λ (s : PeerState). fill_cause c.args.rid end (sizes_of s.mirrors)) c.self.view_is)
    ∙ fill_tested _ c.args.rid c.in-Some.end end (sizes_of c.self.inside.mirrors) None key c.in-Some.ensures.1 c.in-Ok.ensures
    in
    ap (λ (m : MirrorsState). with_mirrors m (record { messages = c.self.inside.messages; handles = c.self.inside.handles; mirrors = c.self.inside.mirrors; pipes = c.self.inside.pipes; settled = c.self.inside.settled }))
    (c.fill.ensures ∙ ap (λ (rid : ℤ). with_filled rid c.args.start c.args.bytes.now c.self.inside.mirrors) key)
    ∙ ap (λ (s : PeerState). with_mirrors (with_filled c.args.rid c.args.start c.args.bytes.now s.mirrors) s) c.self.view_is
    ∙ good (fill_cause c.args.rid end (sizes_of now.mirrors)) (with_mirrors (with_filled c.args.rid c.args.start c.args.bytes.now now.mirrors) now) now fine

pub returns-in-Err : goal.returns-in-Err
returns-in-Err c =
    let now = c.args.self.now in
    let key = to_z-of_z w32 c.args.rid c.ranges.rid in
    let end = c.args.start + length c.args.bytes.now in
    let told : fill_cause c.args.rid end (sizes_of now.mirrors) ≡ Some c.in-Err.field-0 =
    sym (ap (λ (s : PeerState). fill_cause c.args.rid end (sizes_of s.mirrors)) c.self.view_is)
    ∙ fill_tested _ c.args.rid c.in-Some.end end (sizes_of c.self.inside.mirrors) (Some c.in-Err.field-0) key c.in-Some.ensures.1 c.in-Err.ensures
    in
    refused (fill_cause c.args.rid end (sizes_of now.mirrors)) c.in-Err.field-0 (with_mirrors (with_filled c.args.rid c.args.start c.args.bytes.now now.mirrors) now) now told
