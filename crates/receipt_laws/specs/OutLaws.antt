-- What holds of a proxy that lends one copy at a time: its other calls leave that copy out, and
-- what is handed back of it is awaited; this project's own.
use Rattle.std.specs.Prelude.{◌≡◌, ℕ, List, true, Option, Some, None, Result, Ok}
use Rattle.wp_outside.specs.declared.kinds.Side.{Side}
use Rattle.pool_words.specs.Views.{EyeState}
use Rattle.copy_workers.specs.Copies.{DoneState, IsCopyOf}
use Rattle.copy_workers.specs.declared.copies.CopyJob.{CopyJob}
use Rattle.half_model.specs.Jobs.{Job, Waits, Done, first_waiting, awaits}
use Rattle.owed_groups.specs.Lending.{IsLentFor, done_of}
use Rattle.side_model.specs.declared.fault.ProxyFault.{ProxyFault}
use Rattle.side_model.specs.Events.{Event, Handed, Lent}
use Rattle.side_model.specs.State.{Now}
use Rattle.side_model.specs.Steps.{step}
use Rattle.side_model.specs.Trails.{TrailState, no_records, TrailCalls, trail_step, Sends, Lends}
use Rattle.receipt_laws.specs.Lending.{OneOut, CopiesAre, TrailCopies, LeavesCopies, IsBackOf}

-- ---- one event

-- one by which no copy is lent or handed back leaves the copy out,
abbrev pub EventsLeave : Type 0
EventsLeave =
    (event : Event) (out : Option Job) (s : Now) → LeavesCopies event → CopiesAre out s
    → CopiesAre out (step event s)

-- and all jobs as they are, where one is out
abbrev pub EventsSame : Type 0
EventsSame =
    (event : Event) (job : Job) (s : Now) → LeavesCopies event → CopiesAre (Some job) s
    → (step event s).kept.jobs ≡ s.kept.jobs

-- the first copy that waits goes out, if one does
pub record LentGoesOut : Type 0 where
  pub one : (job : Job) (s : Now) → CopiesAre None s → first_waiting s.kept.jobs ≡ Some job
      → CopiesAre (Some job) (step Lent s)
  pub none : (s : Now) → CopiesAre None s → first_waiting s.kept.jobs ≡ None
      → CopiesAre None (step Lent s)

-- the copy that is out is handed back
abbrev pub HandedIsIn : Type 0
HandedIsIn =
    (job : Job) (done : Done) (s : Now) → CopiesAre (Some job) s → awaits s.kept.jobs done ≡ true
    → CopiesAre None (step (Handed done) s)

-- ---- what is awaited

-- a copy that was made of what was lent is what was asked for,
abbrev pub CopyIsBack : Type 0
CopyIsBack =
    (job : Job) (copy : CopyJob) (done : DoneState) → IsLentFor job copy → IsCopyOf copy done
    → IsBackOf job copy.eye (done_of done)

-- and is awaited
abbrev pub BackIsAwaited : Type 0
BackIsAwaited =
    (job : Job) (eye : EyeState) (done : Done) (jobs : List Job) → OneOut job jobs
    → job.state ≡ Waits eye → IsBackOf job eye done → awaits jobs done ≡ true

-- ---- calls of a proxy with its records

-- at first
abbrev pub NoneOutAtFirst : Type 0
NoneOutAtFirst = (side : Side) (token : List ℕ) → TrailCopies None (no_records side token)

-- calls that may fail leave the copy out,
abbrev pub CallsLeave : Type 0
CallsLeave =
    (event : Event) (result : Result Unit ProxyFault) (out : Option Job) (old new : TrailState)
    → LeavesCopies event → TrailCopies out old → TrailCalls event result old new
    → TrailCopies out new

-- and all jobs as they are
abbrev pub CallsSame : Type 0
CallsSame =
    (event : Event) (job : Job) (old new : TrailState) → LeavesCopies event → old.fault ≡ None
    → TrailCopies (Some job) old → TrailCalls event (Ok tt) old new
    → new.now.kept.jobs ≡ old.now.kept.jobs

-- the connection goes down, an item is given
abbrev pub StepsLeave : Type 0
StepsLeave =
    (event : Event) (out : Option Job) (old : TrailState) → LeavesCopies event
    → TrailCopies out old → TrailCopies out (trail_step event old)

-- bytes are lent, and sent
abbrev pub LendsLeave : Type 0
LendsLeave =
    (result : Result Unit ProxyFault) (out : Option Job) (old new : TrailState)
    → TrailCopies out old → Lends result old new → TrailCopies out new

abbrev pub SendsLeave : Type 0
SendsLeave =
    (n : ℕ) (out : Option Job) (old new : TrailState) → old.fault ≡ None → TrailCopies out old
    → Sends n old new → TrailCopies out new

-- a copy is lent
pub record CallsLend : Type 0 where
  pub one : (job : Job) (old : TrailState) → TrailCopies None old
      → first_waiting old.now.kept.jobs ≡ Some job → TrailCopies (Some job) (trail_step Lent old)
  pub none : (old : TrailState) → TrailCopies None old → first_waiting old.now.kept.jobs ≡ None
      → TrailCopies None (trail_step Lent old)

-- and handed back
abbrev pub CallsHand : Type 0
CallsHand =
    (job : Job) (done : Done) (result : Result Unit ProxyFault) (old new : TrailState)
    → TrailCopies (Some job) old → awaits old.now.kept.jobs done ≡ true
    → TrailCalls (Handed done) result old new → TrailCopies None new
