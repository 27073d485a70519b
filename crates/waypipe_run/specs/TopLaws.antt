-- Laws of the program's call: which status an input calls for, that it is one, and that no other
-- one comes but by an outside fault or for want of memory.
use Rattle.std.specs.Prelude.{◌≡◌, ℕ, ◌<◌, ◌≤◌, Option, Some, None, Result, Ok, Err, ◌⊎◌}
use Rattle.std.specs.Prelude.{List, length, nat_lt, if◌then◌else◌, Bool, String}
use Rattle.std.specs.List.{flat_map}
use Rattle.std.specs.declared.alloc.Global.{Global}
use Rattle.transfer_frames.specs.Grammar.{spelling}
use Rattle.transfer_frames.specs.Front.{front}
use Rattle.transfer_frames.specs.declared.frame.Frame.{Frame}
use Rattle.transfer_frames.specs.declared.cause.FrameCause.{FrameCause}
use Rattle.frame_stream.specs.Listing.{Lists}
use Rattle.script_lang.specs.Grammar.{steps_of}
use Rattle.script_lang.specs.Trial.{trial_text}
use Rattle.script_lang.specs.declared.causes.ScriptCause.TheVariants.{NotBuilt}
use Rattle.script_lang.specs.declared.causes.ScriptRead.{ScriptRead}
use Rattle.script_lang.specs.declared.causes.ScriptRead.TheVariants as read
use Rattle.script_lang.specs.declared.steps.Step.{Step}
use Rattle.pair_runs.specs.Runs.{Played, End, Runs}
use Rattle.pair_runs.specs.States.{State}
use Rattle.script_replay.specs.Playing.{kept_end}
use Rattle.wp_outside.specs.Counts.{Rose}
use Rattle.waypipe_run.specs.Built.{first_unbuilt}
use Rattle.waypipe_run.specs.Endings.{status_of}
use Rattle.waypipe_run.specs.Moving.{MOST_INPUT}
use Rattle.waypipe_run.specs.Top.{Outside, Output, Outcome, IsScript}
use Rattle.waypipe_run.specs.Words.{IsReplay, IsTrial, IsFrames, IsCommand}
use Rattle.half_model.specs.declared.causes.Limit.TheVariants.{Input, Lines}
use Rattle.waypipe_run.specs.declared.status.Reader.TheVariants as reader
use Rattle.waypipe_run.specs.declared.status.Status.{Status}
use Rattle.waypipe_run.specs.declared.status.Status.TheVariants as status

-- the status that a run of a script calls for
pub record RunsTo (steps : List Step) (answer : Status) : Type 0 where
  pub played : List Played
  pub last : State
  pub end : End
  pub runs : Runs steps played last end
  pub answered : answer ≡ status_of (kept_end end)

-- the status of a script, by its first line that is not run, or by its run
abbrev pub DueOfBuilt : Option ℕ → List Step → Status → Type 0
DueOfBuilt (Some line) steps answer = answer ≡ status.Script line NotBuilt
DueOfBuilt None steps answer = RunsTo steps answer

-- the status of a text, by what reading it comes to
abbrev pub DueOfRead : Result (List Step) ScriptRead → Status → Type 0
DueOfRead (Ok steps) answer = DueOfBuilt (first_unbuilt steps) steps answer
DueOfRead (Err (read.Fault line cause)) answer = answer ≡ status.Script line cause
DueOfRead (Err read.Lines) answer = answer ≡ status.Limit Lines
DueOfRead (Err read.Memory) answer = ⊥

-- the status that an input calls for
abbrev pub Due : List ℕ → Status → Type 0
Due bytes answer =
    ((MOST_INPUT < length bytes) × (answer ≡ status.Limit Input))
    ⊎ ((length bytes ≤ MOST_INPUT) × DueOfRead (steps_of bytes) answer)

-- an input that is no script to be run calls for one status
abbrev pub OneIsDue : Type 0
OneIsDue = (bytes : List ℕ) (one other : Status) → ((steps : List Step) → IsScript bytes steps → ⊥)
    → Due bytes one → Due bytes other → one ≡ other

-- want of memory, or a write that failed
abbrev pub Hindered : Status → (out written : Output) → Type 0
Hindered answer out written =
    (answer ≡ status.Memory) ⊎ ((answer ≡ status.WriteFault) × Rose out.faults written.faults)

-- words that are no command are always answered so
abbrev pub OtherWords : Type 0
OtherWords =
    (answer : Status) (words : List (String Global)) (old new : Outside) (out written : Output)
    → Outcome answer words old new out written
    → (IsCommand words → ⊥)
    → (answer ≡ status.Usage) ⊎ Hindered answer out written

-- a read that failed
abbrev pub ReadFailed : Status → (old new : Outside) → Type 0
ReadFailed answer old new = (answer ≡ status.ReadFault) × Rose old.faults new.faults

-- the command is answered by the status that its input calls for, unless a read failed
abbrev pub StatusOfInput : Type 0
StatusOfInput =
    (texts long : Bool) (answer : Status) (words : List (String Global)) (old new : Outside)
    (out written : Output) (bytes : List ℕ)
    → Outcome answer words old new out written
    → IsReplay texts long words
    → old.left ≡ Some bytes
    → Due bytes answer ⊎ (Hindered answer out written ⊎ ReadFailed answer old new)

-- the status of a stream, by what stands behind its whole frames
abbrev pub status_of_front : Result (Option Frame) FrameCause → ℕ → Status
status_of_front (Ok found) place = status.Done
status_of_front (Err cause) place = status.Frame reader.Input 0 place cause

-- the status that a stream of frames calls for
abbrev pub status_of_stream : List ℕ → List Frame → List ℕ → Status
status_of_stream bytes frames rest =
    if nat_lt MOST_INPUT (length bytes)
    then status.Limit Input
    else status_of_front (front rest) (length (flat_map spelling frames))

-- the listing of a stream is answered by the status that the stream calls for, unless a read failed
abbrev pub StatusOfStream : Type 0
StatusOfStream =
    (answer : Status) (words : List (String Global)) (old new : Outside) (out written : Output)
    (bytes : List ℕ) (frames : List Frame) (rest : List ℕ)
    → Outcome answer words old new out written
    → IsFrames words
    → old.left ≡ Some bytes
    → Lists bytes frames rest
    → (answer ≡ status_of_stream bytes frames rest)
    ⊎ (Hindered answer out written ⊎ ReadFailed answer old new)

-- a trial is answered by the status that a run of its script calls for
abbrev pub StatusOfTrial : Type 0
StatusOfTrial =
    (rounds : ℕ) (answer : Status) (words : List (String Global)) (old new : Outside)
    (out written : Output)
    → Outcome answer words old new out written
    → IsTrial rounds words
    → ((steps : List Step) × (steps_of (trial_text rounds) ≡ Ok steps) × RunsTo steps answer)
    ⊎ Hindered answer out written
