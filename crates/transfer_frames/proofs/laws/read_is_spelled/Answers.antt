use Rattle.std.proofs.Common.{sym, ap, ◌∙◌, length}
use Rattle.transfer_frames.specs.Numbers.{word_of}
use Rattle.transfer_frames.specs.Faults.{first_fault, frame_length}
use Rattle.transfer_frames.specs.Front.{frame_in}
use Rattle.transfer_frames.proofs.FrameLaws.{found, spelled_no_fault, spelled_frame, spelled_length}
use Rattle.transfer_frames.proofs.laws.read_is_spelled.Goals as goal

pub returns-clause-again : goal.returns-clause-again
returns-clause-again c = λ frame bytes spelled.
    (ap first_fault spelled.1 ∙ spelled_no_fault frame spelled.0, ap frame_in spelled.1 ∙ spelled_frame frame spelled.0, ap length spelled.1 ∙ spelled_length frame spelled.0 ∙ ap (λ x. frame_length (word_of x)) (sym spelled.1))

pub returns-clause-so : goal.returns-clause-so
returns-clause-so c = λ bytes fits whole none.
    let f = found bytes fits whole none in
    (f.frame, f.read, f.spelled)
