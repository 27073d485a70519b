use Rattle.std.proofs.Common.{◌≡◌, ◌/◌, ◌++◌, ◌∙◌, ap, sym, subst, take, List, IfOk}
use Rattle.std.specs.List.{AllZip}
use Rattle.std.proofs.lemmas.List.{take-append-drop}
use Rattle.copy_workers.specs.declared.copies.CopyJob.{CopyJob}
use Rattle.copy_workers.specs.Copies.{DoneState, IsCopyOf}
use Rattle.copy_workers.proofs.Remainders.{zipped, zip_moved}
use Rattle.copy_workers.proofs.threads.+copy_halves+fn-copy_halves-join+arg2+fn-copy_halves-join+arg3.Goals as goal

pub returns : goal.returns
returns g t c =
    let jobs : List CopyJob = c.args.jobs.items in
    let half = c.len-2.result / 2 in
    let front : List CopyJob = c.split_off.new.self.items in
    let behind : List CopyJob = c.in_ok-behind.behind.items in
    let dones : List DoneState = c.in_ok-dones.dones.items in
    let more : List DoneState = c.in_ok-more.more.items in
    let first : AllZip IsCopyOf front dones = subst (λ r. IfOk r (λ d. AllZip IsCopyOf front d.items)) c.in_ok-dones.was c.join-front.ensures.first in
    let second : AllZip IsCopyOf behind more = subst (λ r. IfOk r (λ d. AllZip IsCopyOf behind d.items)) c.in_ok-more.was c.join-front.ensures.second in
    let whole : front ++ behind ≡ jobs =
    ap (λ (l : List CopyJob). l ++ behind) c.in_ok-behind.ensures.items ∙ ap (λ (l : List CopyJob). take half jobs ++ l) c.in_ok-behind.ensures.tail ∙ take-append-drop half jobs in
    zip_moved (sym whole) c.in_ok-append.ensures.items (zipped front dones behind more first second)
