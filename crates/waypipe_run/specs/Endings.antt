-- How a replay of a pair of proxies ends: its status and the last line of its report. This project's
-- own.
use Rattle.std.specs.Prelude.{◌≡◌, ◌≢◌, List, [], ◌++◌, ℕ}
use Rattle.proxy_trail.specs.declared.pair.PairEnd.{PairEnd}
use Rattle.proxy_trail.specs.declared.pair.PairEnd.TheVariants as ends
use Rattle.side_model.specs.declared.fault.ProxyFault.{ProxyFault}
use Rattle.side_model.specs.declared.fault.ProxyFault.TheVariants as faults
use Rattle.wp_outside.specs.declared.kinds.Side.{Side}
use Rattle.wp_outside.specs.declared.kinds.Side.TheVariants.{Near, Far}
use Rattle.waypipe_run.specs.Texts.{drained_text, stopped_text, closed_text, link_failed_text}
use Rattle.waypipe_run.specs.Texts.{peer_text, frame_text, limit_text}
use Rattle.waypipe_run.specs.declared.status.Reader.{Reader}
use Rattle.waypipe_run.specs.declared.status.Reader.TheVariants as reader
use Rattle.waypipe_run.specs.declared.status.Status.{Status}
use Rattle.waypipe_run.specs.declared.status.Status.TheVariants as status

abbrev pub reader_of : Side → Reader
reader_of Near = reader.Near
reader_of Far = reader.Far

-- the status that a fault of a side gives, and its line
abbrev pub status_by : Side → ProxyFault → Status
status_by side (faults.Frame connection place cause) =
    status.Frame (reader_of side) connection place cause
status_by side (faults.Peer index cause) = status.Peer side index cause
status_by side (faults.Limit which) = status.Limit which
status_by side faults.Memory = status.Memory

abbrev pub line_by : Side → ProxyFault → List ℕ
line_by side (faults.Frame connection place cause) =
    frame_text (reader_of side) connection place cause
line_by side (faults.Peer index cause) = peer_text side index cause
line_by side (faults.Limit which) = limit_text which
line_by side faults.Memory = []

-- the status that an end gives, and the last line
abbrev pub status_of : PairEnd → Status
status_of ends.Drained = status.Done
status_of ends.Stopped = status.Done
status_of ends.Closed = status.Done
status_of ends.LinkFault = status.LinkFault
status_of (ends.Fault side fault) = status_by side fault

abbrev pub last_line : PairEnd → List ℕ
last_line ends.Drained = drained_text
last_line ends.Stopped = stopped_text
last_line ends.Closed = closed_text
last_line ends.LinkFault = link_failed_text
last_line (ends.Fault side fault) = line_by side fault

-- a status, and a report with its last line; there is none where a side had no memory
pub record EndsByFault (side : Side) (fault : ProxyFault) (answer : Status) (report text : List ℕ)
    : Type 0 where
  pub answered : answer ≡ status_by side fault
  pub had_memory : answer ≢ status.Memory
  pub printed : text ≡ report ++ line_by side fault

pub record EndsReport (end : PairEnd) (answer : Status) (report text : List ℕ) : Type 0 where
  pub answered : answer ≡ status_of end
  pub had_memory : answer ≢ status.Memory
  pub printed : text ≡ report ++ last_line end
