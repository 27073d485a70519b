-- What holds of each replay that is reported: what both peers have received, in which orders, and
-- what is left where it drained. Messages are those of the Wayland protocol; proxies, records and
-- scripts are this project's own.
use Rattle.std.specs.Prelude.{◌≡◌, ℕ, List, None}
use Rattle.plain_lists.specs.Fronts.{IsFront}
use Rattle.wl_objects.specs.Registry.{first_state, visible}
use Rattle.wl_tables.specs.declared.way.Way.{Way}
use Rattle.wl_wire.specs.Wire.{cut}
use Rattle.wp_outside.specs.Lines.{Line}
use Rattle.wp_outside.specs.declared.kinds.Side.{Side}
use Rattle.wp_outside.specs.declared.kinds.Side.TheVariants.{Near, Far}
use Rattle.script_lang.specs.Puts.{puts, before_stop}
use Rattle.script_lang.specs.declared.steps.Step.{Step}
use Rattle.pair_laws.specs.Passing.{passing}
use Rattle.pair_runs.specs.Completing.{NeverAsked}
use Rattle.pair_runs.specs.Faults.{Caused}
use Rattle.pair_runs.specs.Headline.{Receives}
use Rattle.pair_runs.specs.Kept.{Kept}
use Rattle.pair_runs.specs.Orders.{Allowed}
use Rattle.pair_runs.specs.Putting.{items_put}
use Rattle.pair_runs.specs.Quiet.{IsDone}
use Rattle.pair_runs.specs.RunLaws.{fault_by}
use Rattle.pair_runs.specs.Runs.{Drained, Fails}
use Rattle.pair_runs.specs.States.{Fault, side_at, connections}
use Rattle.pair_report.specs.Report.{SideTold, PairTold, meant_at, told_of}
use Rattle.pair_report.specs.declared.options.ReportOptions.{ReportOptions}
use Rattle.proxy_trail.specs.declared.pair.PairRecord.{PairRecord}
use Rattle.script_replay.specs.Outcome.{Replays}
use Rattle.waypipe_run.specs.Built.{first_unbuilt}
use Rattle.waypipe_run.specs.Top.{Reported, TrialReported}
use Rattle.waypipe_run.specs.declared.status.Status.{Status}

-- the messages that a side passed, in order: those that it took from its peer, and those of the
-- frames that it accepted, which are the ones that the report tells as received
abbrev pub passed_at : Side → SideTold → List (Way × List ℕ)
passed_at side it = passing side it.book.order it.book.trail.taken (meant_at it).messages

-- What the report tells as received: the compositor has the first messages that the script's lines
-- put on the application's wire, each once and in order; the application the first that the registry
-- view shows of the far side's order, in which the events are the first ones that the lines put on
-- the compositor's wire.
pub record ReceivesFirst (steps : List Step) (pair : PairTold) : Type 0 where
  pub up : IsFront (meant_at pair.far).messages (cut (puts Near steps))
  pub down : IsFront (meant_at pair.near).messages (visible first_state (passed_at Far pair.far))
  pub events : IsFront pair.far.book.trail.taken (cut (puts Far steps))

-- Where nothing moved any more, the script has no line `stop`. A side that no line asks to close has
-- taken each message that the script's lines put on its peer's wire. The compositor has received all
-- that the near side took, and the application all that the registry view shows of the far side's
-- order.
pub record HasReceivedAll (steps : List Step) (pair : PairTold) : Type 0 where
  pub no_stop : before_stop steps ≡ steps
  pub requests : NeverAsked Near steps → pair.near.book.trail.taken ≡ cut (puts Near steps)
  pub events : NeverAsked Far steps → pair.far.book.trail.taken ≡ cut (puts Far steps)
  pub up : (meant_at pair.far).messages ≡ pair.near.book.trail.taken
  pub down : (meant_at pair.near).messages ≡ visible first_state (passed_at Far pair.far)

-- All that is claimed of a replay.
pub record Holds (steps : List Step) (line : ℕ → Line) (pair : PairRecord)
    (it : Replays steps line pair) : Type 0 where
  pub received : ReceivesFirst steps (told_of pair)
  -- what was given to the peers, each message with the rid of its handle
  pub given : Receives steps it.last (fault_by it.end)
  -- the messages passed in allowed orders
  pub allowed : Allowed steps (passed_at Near (told_of pair).near) (passed_at Far (told_of pair).far)
  -- the records are lawful: what was written, accepted and kept
  pub kept : Kept (fault_by it.end) it.last
  -- where a side met a fault, its cause stands
  pub caused : (fault : Fault) → it.end ≡ Fails fault
      → Caused fault.side (items_put fault.side it.played) (side_at fault.side it.last).book
      (connections it.last) fault.fault
  -- and where nothing moved any more, nothing is left to move
  pub drained : it.end ≡ Drained → HasReceivedAll steps (told_of pair) × IsDone it.last

-- Of a script whose lines are all run.
abbrev pub ReplaysHold : Type 0
ReplaysHold =
    (options : ReportOptions) (steps : List Step) (answer : Status) (line : ℕ → Line)
    (text : List ℕ)
    → first_unbuilt steps ≡ None
    → (it : Reported options steps answer line text)
    → Holds steps line it.pair it.replays

-- Of a trial, whose lines all are.
abbrev pub TrialsHold : Type 0
TrialsHold =
    (rounds : ℕ) (answer : Status) (line : ℕ → Line) (text : List ℕ)
    → (it : TrialReported rounds answer line text)
    → Holds it.steps line it.reported.pair it.reported.replays
