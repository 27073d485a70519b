-- Laws of what a report is told by: of lawful records the frames are those that their story
-- accepts, and what is reported of mirrors and pipes is what these frames mean, said for one rid
-- alone. This project's own.
use Rattle.std.specs.Prelude.{◌≡◌, ℕ, ℤ, List, Option}
use Rattle.wp_outside.specs.declared.kinds.Side.{Side}
use Rattle.transfer_frames.specs.declared.frame.Frame.{Frame}
use Rattle.mirror_pools.specs.Meaning.{mirror}
use Rattle.mirror_pools.specs.Mirrors.{bytes_at}
use Rattle.half_model.specs.Meaning.{Flow, flow}
use Rattle.half_model.specs.PeerState.{flow_at}
use Rattle.half_model.specs.Story.{accepted_in}
use Rattle.side_model.specs.declared.fault.ProxyFault.{ProxyFault}
use Rattle.side_model.specs.Books.{Book}
use Rattle.side_model.specs.Records.{Law}
use Rattle.pair_report.specs.Heard.{accepted_of}
use Rattle.pair_report.specs.Meant.{meaning}

-- what is computed of the bytes that a side read is what its story accepted, fault or not
abbrev pub AcceptedIsTold : Type 0
AcceptedIsTold = (side : Side) (token : List ℕ) (book : Book) (fault : Option ProxyFault)
    (law : Law side token book fault) → accepted_of book.trail ≡ accepted_in law.story

-- the bytes of each mirror
abbrev pub MirrorsAreMeant : Type 0
MirrorsAreMeant = (frames : List Frame) (rid : ℤ)
    → bytes_at rid (meaning frames).mirrors ≡ mirror rid frames

-- the bytes and the end of each pipe
pub record FlowIs (shown meant : Flow) : Type 0 where
  pub bytes : shown.bytes ≡ meant.bytes
  pub ended : shown.ended ≡ meant.ended

abbrev pub FlowsAreMeant : Type 0
FlowsAreMeant = (frames : List Frame) (rid : ℤ)
    → FlowIs (flow_at rid (meaning frames).flows) (flow rid frames)
