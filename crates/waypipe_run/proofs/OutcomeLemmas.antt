-- What is replied, once it is written, is what the program's call owes: a reply's status is neither want of memory nor a write that failed.
use Rattle.std.proofs.Common.{◌≡◌, ℕ, List, Bool, true, false, ⊎_elim, refl, ap, ◌∙◌, String}
use Rattle.std.specs.declared.alloc.Global.{Global}
use Rattle.wp_outside.specs.Counts.{Rose}
use Rattle.wp_outside.specs.Lines.{Line}
use Rattle.wp_outside.specs.Pieces.{held_with}
use Rattle.proxy_trail.specs.declared.pair.PairEnd.{PairEnd}
use Rattle.proxy_trail.specs.declared.pair.PairEnd.TheVariants as ends
use Rattle.side_model.specs.declared.fault.ProxyFault.{ProxyFault}
use Rattle.side_model.specs.declared.fault.ProxyFault.TheVariants as faults
use Rattle.pair_report.specs.declared.options.ReportOptions.{ReportOptions}
use Rattle.script_lang.specs.declared.steps.Step.{Step}
use Rattle.wp_outside.specs.declared.kinds.Side.{Side}
use Rattle.waypipe_run.specs.Moving.{WroteFront}
use Rattle.waypipe_run.specs.Reports.{options_of, trial_options}
use Rattle.waypipe_run.specs.Endings.{status_by, status_of}
use Rattle.waypipe_run.specs.Top.{Outside, Output, Outcome, Printed, Replies, RepliesToStream, RepliesToText, Reported}
use Rattle.waypipe_run.specs.declared.status.Status.{Status}
use Rattle.waypipe_run.specs.declared.status.Status.TheVariants as status
use Rattle.waypipe_run.proofs.ReplyLemmas.{each_reply}

abbrev is_reply : Status → Bool
is_reply status.Memory = false
is_reply status.WriteFault = false
is_reply _ = true

fault_is_reply : (side : Side) (fault : ProxyFault) → (status_by side fault ≡ status.Memory → ⊥) → is_reply (status_by side fault) ≡ true
fault_is_reply side (faults.Frame connection place cause) had = refl
fault_is_reply side (faults.Peer index cause) had = refl
fault_is_reply side (faults.Limit which) had = refl
fault_is_reply side faults.Memory had = absurd (had refl)

end_is_reply : (end : PairEnd) → (status_of end ≡ status.Memory → ⊥) → is_reply (status_of end) ≡ true
end_is_reply ends.Drained had = refl
end_is_reply ends.Stopped had = refl
end_is_reply ends.Closed had = refl
end_is_reply ends.LinkFault had = refl
end_is_reply (ends.Fault side fault) had = fault_is_reply side fault had

report_is_reply : (options : ReportOptions) (steps : List Step) (answer : Status) (line : ℕ → Line) (text : List ℕ) → Reported options steps answer line text → is_reply answer ≡ true
report_is_reply options steps answer line text is =
    ap is_reply is.ends.answered ∙ end_is_reply is.pair.end (λ e. is.ends.had_memory (is.ends.answered ∙ e))

text_is_reply : (options : ReportOptions) (answer : Status) (bytes : List ℕ) (before after : ℕ → Line) (text : List ℕ) → RepliesToText options answer bytes before after text → is_reply answer ≡ true
text_is_reply options answer bytes before after text replies = ⊎_elim
    (λ replayed. report_is_reply options replayed.steps answer after text replayed.reported)
    (λ others. ⊎_elim (λ none. ap is_reply none.answered) (λ long. ap is_reply long.answered) others)
    replies

stream_is_reply : (answer : Status) (bytes text : List ℕ) → RepliesToStream answer bytes text → is_reply answer ≡ true
stream_is_reply answer bytes text replies = ⊎_elim (λ is. ap is_reply is.answered) (λ is. ap is_reply is.answered) replies

reply_is_reply : (answer : Status) (words : List (String Global)) (old new : Outside) (text : List ℕ) → Replies answer words old new text → is_reply answer ≡ true
reply_is_reply answer words old new text replies = each_reply answer words old new text replies
    (λ usage. ap is_reply usage.answered)
    (λ fault. ap is_reply fault.answered)
    (λ limit. ap is_reply limit.answered)
    (λ answered. text_is_reply (options_of answered.texts answered.long) answer answered.bytes old.line new.line text answered.replies)
    (λ listed. stream_is_reply answer listed.bytes text listed.replies)
    (λ tried. report_is_reply trial_options tried.reported.steps answer new.line text tried.reported.reported)

false_true : false ≡ true → ⊥
false_true e = cc

printed : (answer : Status) (words : List (String Global)) (old new : Outside) (out written : Output) → is_reply answer ≡ true → Printed answer words old new out written → Outcome answer words old new out written
printed status.Memory words old new out written is it = absurd (false_true is)
printed status.WriteFault words old new out written is it = absurd (false_true is)
printed status.Done words old new out written is it = it
printed status.Usage words old new out written is it = it
printed status.ReadFault words old new out written is it = it
printed (status.Script line cause) words old new out written is it = it
printed (status.Peer side index cause) words old new out written is it = it
printed (status.Frame reader connection place cause) words old new out written is it = it
printed (status.Limit which) words old new out written is it = it
printed status.LinkFault words old new out written is it = it
printed (status.LinkDiffers connection direction place wrote read) words old new out written is it = it

-- a reply whose whole text was written
pub written_whole : (answer : Status) (words : List (String Global)) (old new : Outside) (out written : Output) (text : List ℕ) → Replies answer words old new text → written.held ≡ held_with out.held text → Outcome answer words old new out written
written_whole answer words old new out written text replies whole =
    printed answer words old new out written (reply_is_reply answer words old new text replies) (record { text = text; replies = replies; whole = whole })

-- a reply of which a part was written
pub written_part : (answer : Status) (words : List (String Global)) (old new : Outside) (out written : Output) (text : List ℕ) → Replies answer words old new text → Rose out.faults written.faults → WroteFront out.held written.held text → Outcome status.WriteFault words old new out written
written_part answer words old new out written text replies rose front =
    record { answer = answer; text = text; replies = replies; rose = rose; front = front }
