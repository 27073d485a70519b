-- What the program's call owes: over the bytes that were read, the bytes that were written and what
-- the link tells. The messages are those of the Wayland wire format.
use Rattle.std.specs.Prelude.{◌≡◌, ◌⊎◌, ℕ, ◌<◌, ◌≤◌, Bool, List, [], ◌++◌, length, String}
use Rattle.std.specs.Prelude.{Option, Some, None, Ok, Err}
use Rattle.std.specs.List.{flat_map}
use Rattle.std.specs.declared.alloc.Global.{Global}
use Rattle.transfer_frames.specs.Grammar.{spelling}
use Rattle.transfer_frames.specs.Front.{front}
use Rattle.transfer_frames.specs.declared.frame.Frame.{Frame}
use Rattle.transfer_frames.specs.declared.cause.FrameCause.{FrameCause}
use Rattle.frame_stream.specs.Listing.{Lists, text_of}
use Rattle.script_lang.specs.Grammar.{steps_of}
use Rattle.script_lang.specs.Trial.{trial_text}
use Rattle.script_lang.specs.declared.causes.ScriptCause.{ScriptCause}
use Rattle.script_lang.specs.declared.causes.ScriptCause.TheVariants.{NotBuilt}
use Rattle.script_lang.specs.declared.causes.ScriptRead.TheVariants as read
use Rattle.script_lang.specs.declared.steps.Step.{Step}
use Rattle.proxy_trail.specs.declared.pair.PairRecord.{PairRecord}
use Rattle.script_replay.specs.Outcome.{Replays}
use Rattle.pair_report.specs.Report.{report_of, told_of}
use Rattle.pair_report.specs.declared.options.ReportOptions.{ReportOptions}
use Rattle.wp_outside.specs.Counts.{Rose}
use Rattle.wp_outside.specs.Lines.{Line, Same}
use Rattle.wp_outside.specs.Pieces.{IfTold, held_with}
use Rattle.waypipe_run.specs.Built.{first_unbuilt}
use Rattle.waypipe_run.specs.Endings.{EndsReport}
use Rattle.waypipe_run.specs.Moving.{Took, MOST_INPUT, TookNoMore, WroteFront}
use Rattle.waypipe_run.specs.Reports.{options_of, trial_options}
use Rattle.waypipe_run.specs.Texts.{usage_text, read_failed_text, script_text, limit_text}
use Rattle.waypipe_run.specs.Texts.{frame_text, rest_text}
use Rattle.waypipe_run.specs.Words.{IsReplay, IsTrial, IsFrames, IsCommand, AsksInput}
use Rattle.half_model.specs.declared.causes.Limit.TheVariants.{Input, Lines}
use Rattle.waypipe_run.specs.declared.status.Reader.TheVariants as reader
use Rattle.waypipe_run.specs.declared.status.Status.{Status}
use Rattle.waypipe_run.specs.declared.status.Status.TheVariants as status
use Rattle.waypipe_run.specs.declared.words.Task.{Task}

-- what the input and the link tell at a moment: the bytes that are left, how many reads failed, and
-- what went over each connection
pub record Outside : Type 0 where
  pub left : Option (List ℕ)
  pub faults : ℕ
  pub line : ℕ → Line

abbrev pub outside : Option (List ℕ) → ℕ → (ℕ → Line) → Outside
outside left faults line = record { left = left; faults = faults; line = line }

-- what an output tells: the bytes that were written, and how many writes failed
pub record Output : Type 0 where
  pub held : Option (List ℕ)
  pub faults : ℕ

-- ---- a script

-- What a replay prints, and the status that it answers: it left a pair of proxies with their
-- records, of which the text is the report. That the pair is the end of a run of the script, and
-- what the link tells of it, is `Replays`; what holds of each such pair is said by laws.
pub record Reported
    (options : ReportOptions) (steps : List Step) (answer : Status) (line : ℕ → Line)
    (text : List ℕ) : Type 0 where
  pub pair : PairRecord
  pub replays : Replays steps line pair
  pub ends : EndsReport pair.end answer (report_of options (told_of pair)) text

-- the lines of a text are this script, and all of them are run
pub record IsScript (bytes : List ℕ) (steps : List Step) : Type 0 where
  pub spelled : steps_of bytes ≡ Ok steps
  pub built : first_unbuilt steps ≡ None

-- a text that is a script is replayed
pub record IsReplayed
    (options : ReportOptions) (answer : Status) (bytes : List ℕ) (after : ℕ → Line)
    (text : List ℕ) : Type 0 where
  pub steps : List Step
  pub script : IsScript bytes steps
  pub reported : Reported options steps answer after text

-- the line of a text for which it is not replayed: the first that is no line of a script, with its
-- first cause; or, of a script, the first that is not run
abbrev pub Refused : List ℕ → ℕ → ScriptCause → Type 0
Refused bytes line cause =
    (steps_of bytes ≡ Err (read.Fault line cause))
    ⊎ ((steps : List Step)
    × (steps_of bytes ≡ Ok steps)
    × (first_unbuilt steps ≡ Some line)
    × (cause ≡ NotBuilt))

-- such a text; nothing went over the link
pub record IsNoScript
    (answer : Status) (bytes : List ℕ) (before after : ℕ → Line) (text : List ℕ) : Type 0 where
  pub line : ℕ
  pub cause : ScriptCause
  pub refused : Refused bytes line cause
  pub answered : answer ≡ status.Script line cause
  pub untouched : Same before after
  pub printed : text ≡ script_text line cause

-- a text of too many lines
pub record IsTooLong
    (answer : Status) (bytes : List ℕ) (before after : ℕ → Line) (text : List ℕ) : Type 0 where
  pub above : steps_of bytes ≡ Err read.Lines
  pub answered : answer ≡ status.Limit Lines
  pub untouched : Same before after
  pub printed : text ≡ limit_text Lines

-- what a text is answered with
abbrev pub RepliesToText : ReportOptions → Status → List ℕ → (before after : ℕ → Line) → List ℕ
    → Type 0
RepliesToText options answer bytes before after text =
    IsReplayed options answer bytes after text
    ⊎ (IsNoScript answer bytes before after text ⊎ IsTooLong answer bytes before after text)

-- ---- a trial

-- the script of so many rounds is replayed
pub record TrialReported
    (rounds : ℕ) (answer : Status) (after : ℕ → Line) (text : List ℕ) : Type 0 where
  pub steps : List Step
  pub script : steps_of (trial_text rounds) ≡ Ok steps
  pub reported : Reported trial_options steps answer after text

-- ---- a stream of frames

-- at the end of a stream stands no fault: the lines of its frames, and the count of the bytes
-- behind them
pub record Listed (answer : Status) (bytes text : List ℕ) : Type 0 where
  pub frames : List Frame
  pub rest : List ℕ
  pub lists : Lists bytes frames rest
  pub waits : front rest ≡ Ok None
  pub answered : answer ≡ status.Done
  pub printed : text ≡ text_of 0 frames ++ rest_text (length rest)

-- the lines of the frames before a fault, and the line that says where it stands
pub record ListedFault (answer : Status) (bytes text : List ℕ) : Type 0 where
  pub frames : List Frame
  pub rest : List ℕ
  pub cause : FrameCause
  pub lists : Lists bytes frames rest
  pub fault : front rest ≡ Err cause
  pub answered : answer ≡ status.Frame reader.Input 0 (length (flat_map spelling frames)) cause
  pub printed : text
      ≡ text_of 0 frames ++ frame_text reader.Input 0 (length (flat_map spelling frames)) cause

-- what a stream of frames is answered with
abbrev pub RepliesToStream : Status → List ℕ → List ℕ → Type 0
RepliesToStream answer bytes text = Listed answer bytes text ⊎ ListedFault answer bytes text

-- ---- the whole call, before its text is written

-- these are all bytes of the input, no read failed, and there are no more than the program reads
pub record ReadWhole (old new : Outside) (bytes : List ℕ) : Type 0 where
  pub taken : Took old.left new.left bytes
  pub nothing_left : IfTold new.left (λ rest. rest ≡ [])
  pub no_fault : new.faults ≡ old.faults
  pub bounded : length bytes ≤ MOST_INPUT

-- words that are no command: nothing is read
pub record IsUsage
    (answer : Status) (words : List (String Global)) (old new : Outside) (text : List ℕ)
    : Type 0 where
  pub no_command : IsCommand words → ⊥
  pub answered : answer ≡ status.Usage
  pub untouched : new ≡ old
  pub printed : text ≡ usage_text

-- a read failed
pub record IsReadFault
    (answer : Status) (words : List (String Global)) (old new : Outside) (text : List ℕ)
    : Type 0 where
  pub task : Task
  pub asks : AsksInput task words
  pub answered : answer ≡ status.ReadFault
  pub rose : Rose old.faults new.faults
  pub one_more : TookNoMore old.left new.left
  pub untouched : Same old.line new.line
  pub printed : text ≡ read_failed_text

-- there are more bytes than the program reads
pub record IsLimit
    (answer : Status) (words : List (String Global)) (old new : Outside) (text : List ℕ)
    : Type 0 where
  pub task : Task
  pub asks : AsksInput task words
  pub answered : answer ≡ status.Limit Input
  pub above : IfTold old.left (λ left. MOST_INPUT < length left)
  pub one_more : TookNoMore old.left new.left
  pub no_fault : new.faults ≡ old.faults
  pub untouched : Same old.line new.line
  pub printed : text ≡ limit_text Input

-- a text that was read whole is answered
pub record IsAnswer
    (answer : Status) (words : List (String Global)) (old new : Outside) (text : List ℕ)
    : Type 0 where
  pub texts : Bool
  pub long : Bool
  pub asks : IsReplay texts long words
  pub bytes : List ℕ
  pub read : ReadWhole old new bytes
  pub replies : RepliesToText (options_of texts long) answer bytes old.line new.line text

-- nothing of the input was read
pub record Unread (old new : Outside) : Type 0 where
  pub left : new.left ≡ old.left
  pub faults : new.faults ≡ old.faults

-- a trial is answered
pub record IsTried
    (answer : Status) (words : List (String Global)) (old new : Outside) (text : List ℕ)
    : Type 0 where
  pub rounds : ℕ
  pub asks : IsTrial rounds words
  pub unread : Unread old new
  pub reported : TrialReported rounds answer new.line text

-- a stream of frames that was read whole is answered; nothing goes over the link
pub record IsListed
    (answer : Status) (words : List (String Global)) (old new : Outside) (text : List ℕ)
    : Type 0 where
  pub asks : IsFrames words
  pub bytes : List ℕ
  pub read : ReadWhole old new bytes
  pub untouched : Same old.line new.line
  pub replies : RepliesToStream answer bytes text

-- a status and its text, by what they come from
abbrev pub Replies : Status → List (String Global) → (old new : Outside) → List ℕ → Type 0
Replies answer words old new text =
    IsUsage answer words old new text
    ⊎ (IsReadFault answer words old new text
    ⊎ (IsLimit answer words old new text
    ⊎ (IsAnswer answer words old new text
    ⊎ (IsListed answer words old new text ⊎ IsTried answer words old new text))))

-- ---- the whole call

-- a status, with its whole text written
pub record Printed
    (answer : Status) (words : List (String Global)) (old new : Outside) (out written : Output)
    : Type 0 where
  pub text : List ℕ
  pub replies : Replies answer words old new text
  pub whole : written.held ≡ held_with out.held text

-- another status, whose text was written up to a write that failed
pub record PartlyPrinted
    (words : List (String Global)) (old new : Outside) (out written : Output) : Type 0 where
  pub answer : Status
  pub text : List ℕ
  pub replies : Replies answer words old new text
  pub rose : Rose out.faults written.faults
  pub front : WroteFront out.held written.held text

-- the whole input was read, and is a script of which all lines are run
pub record MayReplay (words : List (String Global)) (old new : Outside) : Type 0 where
  pub texts : Bool
  pub long : Bool
  pub asks : IsReplay texts long words
  pub bytes : List ℕ
  pub read : ReadWhole old new bytes
  pub steps : List Step
  pub script : IsScript bytes steps

-- or the words ask for a trial, and nothing was read
pub record MayTry (words : List (String Global)) (old new : Outside) : Type 0 where
  pub rounds : ℕ
  pub asks : IsTrial rounds words
  pub unread : Unread old new

-- memory ran out: nothing was written, no more was read than in any other call, and nothing went
-- over the link, unless a replay had come so far
pub record OutOfMemory
    (words : List (String Global)) (old new : Outside) (out written : Output) : Type 0 where
  pub one_more : TookNoMore old.left new.left
  pub untouched : Same old.line new.line ⊎ (MayReplay words old new ⊎ MayTry words old new)
  pub unwritten : written ≡ out

-- what the call owes
abbrev pub Outcome : Status → List (String Global)
    → (old new : Outside) → (out written : Output) → Type 0
Outcome status.Memory words old new out written = OutOfMemory words old new out written
Outcome status.WriteFault words old new out written = PartlyPrinted words old new out written
Outcome answer words old new out written = Printed answer words old new out written
