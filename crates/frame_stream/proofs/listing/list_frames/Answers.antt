use Rattle.std.proofs.Common.{◌≡◌, ℕ, ◌+◌, List, ◌++◌, Option, Ok, Err, None, length, sym, ap, subst, ◌∙◌}
use Rattle.std.specs.Prelude.{IfSome}
use Rattle.transfer_frames.specs.declared.frame.Frame.{Frame}
use Rattle.transfer_frames.specs.declared.cause.FrameCause.{FrameCause}
use Rattle.transfer_frames.specs.declared.cause.DecodeFault.{DecodeFault}
use Rattle.transfer_frames.specs.Front.{front, Answers, Takes}
use Rattle.frame_stream.specs.declared.listing.StreamEnd.TheVariants.{Fault}
use Rattle.frame_stream.specs.Listing.{IsListing}
use Rattle.frame_stream.proofs.ListingLaws.{Listed, ended, shorter, listed-none, listed-more, listed-rest, listed-fault}
use Rattle.frame_stream.proofs.listing.list_frames.Goals as goal

pub frames-init : goal.frames-init
frames-init c = subst (Listed c.args.bytes.now 0) (sym c.new-lines.ensures) (listed-none c.args.bytes.now)

pub frames-smaller : goal.frames-smaller
frames-smaller c =
    let takes = subst (λ (found : Option (Frame × ℕ)). IfSome found (λ x. Takes c.split_at.result.1.now x.0 x.1)) c.in-Ok-Some.field-0-is c.in-Ok-Some.ensures.taken in
    shorter c.args.bytes.now c.frames.place c.in-Ok-Some.frame c.in-Ok-Some.length (rw (sym c.split_at.ensures.back) takes)

pub frames-preserved : goal.frames-preserved
frames-preserved c =
    let takes = subst (λ (found : Option (Frame × ℕ)). IfSome found (λ x. Takes c.split_at.result.1.now x.0 x.1)) c.in-Ok-Some.field-0-is c.in-Ok-Some.ensures.taken in
    subst (Listed c.args.bytes.now (c.frames.place + c.in-Ok-Some.length)) (sym (c.in_ok-lines-in-Ok-Some.ensures ∙ ap (λ (text : List ℕ). text ++ ended c.frames.place c.in-Ok-Some.frame) c.reserve.ensures))
    (listed-more c.args.bytes.now c.frames.place c.frames.lines c.in-Ok-Some.frame c.in-Ok-Some.length c.frames.invariant (rw (sym c.split_at.ensures.back) takes))

pub returns-in-Ok-None : goal.returns-in-Ok-None
returns-in-Ok-None c =
    let none : front c.split_at.result.1.now ≡ Ok None = rw c.in-Ok-None.field-0-is at c.in-Ok-None.ensures.exact in
    listed-rest c.args.bytes.now c.frames.place c.frames.lines _ c.frames.invariant (ap front (sym c.split_at.ensures.back) ∙ none) (ap length c.split_at.ensures.back)

pub returns-in-Err-Frame : goal.returns-in-Err-Frame
returns-in-Err-Frame c =
    let told : front c.split_at.result.1.now ≡ Err c.in-Err-Frame.cause = subst (λ (fault : DecodeFault). Answers (Err fault) (front c.split_at.result.1.now)) c.in-Err-Frame.field-0-is c.in-Err-Frame.ensures.exact in
    subst (λ (cause : FrameCause). IsListing c.args.bytes.now (record { lines = c.frames.lines; stream_end = Fault c.frames.place cause })) (sym c.in-Err-Frame.cause-is)
    (listed-fault c.args.bytes.now c.frames.place c.frames.lines c.in-Err-Frame.cause c.frames.invariant (ap front (sym c.split_at.ensures.back) ∙ told))
