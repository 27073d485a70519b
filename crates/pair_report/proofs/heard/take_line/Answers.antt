use Rattle.std.proofs.Common.{◌≡◌, ℕ, ◌-◌, Option, Some, None, Ok, Err, arith, length, take, sym, ap, ◌∙◌, subst}
use Rattle.std.specs.Prelude.{IfSome}
use Rattle.transfer_frames.specs.declared.frame.Frame.{Frame}
use Rattle.transfer_frames.specs.Front.{front, Takes}
use Rattle.pair_model.specs.Rows.{counted}
use Rattle.pair_report.specs.Heard.{frames_in}
use Rattle.pair_report.specs.Meant.{with_frames}
use Rattle.pair_report.proofs.FrameRows.{frames_none, frames_fault, shorter}
use Rattle.pair_report.proofs.Takings.{one_taken, one_left, none_taken, none_left}
use Rattle.pair_report.proofs.heard.take_line.Goals as goal

pub loop-left-smaller : goal.loop-left-smaller
loop-left-smaller c =
    let takes : Takes c.loop-left.rest.now c.in-Ok-Some.frame c.in-Ok-Some.length =
    subst (λ (found : Option (Frame × ℕ)). IfSome found (λ x. Takes c.loop-left.rest.now x.0 x.1)) c.in-Ok-Some.field-0-is c.in-Ok-Some.ensures.taken in
    omega (arith, shorter c.loop-left.rest.now c.in-Ok-Some.frame c.in-Ok-Some.length takes, ap length c.split_at.ensures.back)

pub loop-left-preserved : goal.loop-left-preserved
loop-left-preserved c =
    let rest = c.loop-left.rest.now in
    let takes : Takes rest c.in-Ok-Some.frame c.in-Ok-Some.length =
    subst (λ (found : Option (Frame × ℕ)). IfSome found (λ x. Takes rest x.0 x.1)) c.in-Ok-Some.field-0-is c.in-Ok-Some.ensures.taken in
    let found : front rest ≡ Ok (Some c.in-Ok-Some.frame) = rw c.in-Ok-Some.field-0-is at c.in-Ok-Some.ensures.exact in
    let left : ℕ = c.loop-left.left - c.in_ok-left-in-Ok-Some.field-0 in
    record {
      taken =
          ap (λ bytes. with_frames (take left (counted (frames_in bytes))) c.take_counted.new.meaning) c.split_at.ensures.back
          ∙ one_taken rest c.in-Ok-Some.frame c.in-Ok-Some.length c.loop-left.left c.in_ok-left-in-Ok-Some.field-0 c.loop-left.meaning c.take_counted.new.meaning
          c.loop-left-test.true found takes c.in_ok-left-in-Ok-Some.ensures.taken c.in_ok-left-in-Ok-Some.ensures.count
          ∙ c.loop-left.invariant.taken;
      left =
          ap (λ bytes. left - length (counted (frames_in bytes))) c.split_at.ensures.back
          ∙ one_left rest c.in-Ok-Some.frame c.in-Ok-Some.length c.loop-left.left c.in_ok-left-in-Ok-Some.field-0 found takes c.in_ok-left-in-Ok-Some.ensures.count
          ∙ c.loop-left.invariant.left;
    }

pub returns-in-Ok-None-clause-taken : goal.returns-in-Ok-None-clause-taken
returns-in-Ok-None-clause-taken c =
    let rest = c.loop-left.rest.now in
    let none : front rest ≡ Ok None = rw c.in-Ok-None.field-0-is at c.in-Ok-None.ensures.exact in
    sym (none_taken rest c.loop-left.left c.loop-left.meaning (frames_none rest none)) ∙ c.loop-left.invariant.taken

pub returns-in-Ok-None-clause-left : goal.returns-in-Ok-None-clause-left
returns-in-Ok-None-clause-left c =
    let rest = c.loop-left.rest.now in
    let none : front rest ≡ Ok None = rw c.in-Ok-None.field-0-is at c.in-Ok-None.ensures.exact in
    sym (none_left rest c.loop-left.left (frames_none rest none)) ∙ c.loop-left.invariant.left

pub returns-in-Err-Frame-clause-taken : goal.returns-in-Err-Frame-clause-taken
returns-in-Err-Frame-clause-taken c =
    let rest = c.loop-left.rest.now in
    let told : front rest ≡ Err c.in-Err-Frame.field-0-0 = rw c.in-Err-Frame.field-0-is at c.in-Err-Frame.ensures.exact in
    sym (none_taken rest c.loop-left.left c.loop-left.meaning (frames_fault rest c.in-Err-Frame.field-0-0 told)) ∙ c.loop-left.invariant.taken

pub returns-in-Err-Frame-clause-left : goal.returns-in-Err-Frame-clause-left
returns-in-Err-Frame-clause-left c =
    let rest = c.loop-left.rest.now in
    let told : front rest ≡ Err c.in-Err-Frame.field-0-0 = rw c.in-Err-Frame.field-0-is at c.in-Err-Frame.ensures.exact in
    sym (none_left rest c.loop-left.left (frames_fault rest c.in-Err-Frame.field-0-0 told)) ∙ c.loop-left.invariant.left
