use Rattle.std.proofs.Common.{ℤ, sym, ◌∙◌, ap, w32, SFits, rules}
use Rattle.std.proofs.lemmas.Int.{to_z-of_z}
use Rattle.std.proofs.lemmas.Result.{on_ok_weaker}
use Rattle.transfer_frames.specs.declared.frame.Frame.{Frame}
use Rattle.transfer_frames.specs.declared.frame.Frame.TheVariants.{ExtendFile, Fill}
use Rattle.mirror_pools.specs.Mirrors.{MirrorsState, with_grown, with_filled}
use Rattle.pair_report.specs.Meant.{Meant, with_frame}
use Rattle.pair_report.proofs.meaning.Meaning.take.Goals as goal

pub returns-in-ExtendFile : goal.returns-in-ExtendFile
returns-in-ExtendFile c =
    let inside = c.self-in-ExtendFile.inside in
    let at : MirrorsState → Meant = λ mirrors. record { messages = inside.messages; rids = inside.rids; mirrors = mirrors; opened = inside.opened.keys; flows = inside.flows } in
    let fits : SFits w32 c.in-ExtendFile.rid = search rules in
    on_ok_weaker c.extend.result
    (λ is. ap at (is ∙ ap (λ (k : ℤ). with_grown k c.in-ExtendFile.size inside.mirrors) (to_z-of_z w32 c.in-ExtendFile.rid fits))
    ∙ ap (with_frame (ExtendFile c.in-ExtendFile.rid c.in-ExtendFile.size)) c.self-in-ExtendFile.view_is
    ∙ ap (λ (f : Frame). with_frame f c.args.self.now) (sym c.in-ExtendFile.is))
    c.extend.ensures

pub returns-in-Fill : goal.returns-in-Fill
returns-in-Fill c =
    let inside = c.self-in-Fill.inside in
    let at : MirrorsState → Meant = λ mirrors. record { messages = inside.messages; rids = inside.rids; mirrors = mirrors; opened = inside.opened.keys; flows = inside.flows } in
    let fits : SFits w32 c.in-Fill.rid = search rules in
    on_ok_weaker c.fill.result
    (λ is. ap at (is
    ∙ ap (λ (k : ℤ). with_filled k c.in-Fill.start c.as_slice-in-Fill.result.now inside.mirrors) (to_z-of_z w32 c.in-Fill.rid fits)
    ∙ ap (λ bytes. with_filled c.in-Fill.rid c.in-Fill.start bytes inside.mirrors) c.as_slice-in-Fill.ensures)
    ∙ ap (with_frame (Fill c.in-Fill.rid c.in-Fill.start c.in-Fill.end c.in-Fill.bytes)) c.self-in-Fill.view_is
    ∙ ap (λ (f : Frame). with_frame f c.args.self.now) (sym c.in-Fill.is))
    c.fill.ensures
