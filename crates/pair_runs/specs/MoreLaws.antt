-- That calls of a proxy one after another are one move of a run, where a proxy begins, and which
-- calls bring nothing for its peer; this project's own.
use Rattle.std.specs.Prelude.{◌≡◌, ℕ, List, ◌++◌, Bool, true, None, Ok}
use Rattle.wp_outside.specs.declared.kinds.Side.{Side}
use Rattle.half_model.specs.declared.items.PeerIn.{PeerIn}
use Rattle.half_model.specs.Jobs.{Done}
use Rattle.side_model.specs.declared.fault.ProxyFault.{ProxyFault}
use Rattle.side_model.specs.Events.{Fed, Handed, Asks}
use Rattle.side_model.specs.Trails.{TrailState, no_records, TrailCalls}
use Rattle.pair_runs.specs.Linking.{written, read}
use Rattle.pair_runs.specs.Sides.{SideState, first_side, side_seen}
use Rattle.pair_runs.specs.WorkLaws.{RunsOn}
use Rattle.pair_runs.specs.Working.{Works, InPart, WorksInPart}

-- calls behind calls
abbrev pub WorksMore : Type 0
WorksMore = (hears : Bool) (a b c : SideState) → Works hears a b → Works hears b c
    → Works hears a c

-- pieces that are read one behind the other are read as one
abbrev pub ReadsMore : Type 0
ReadsMore = (one other : List ℕ) (a b c : SideState) → Works true (read one a) b
    → Works true (read other b) c
    → Works true (read (one ++ other) a) c

-- and where the last call meets a fault
pub record PartMore : Type 0 where
  pub part : (a b c : SideState) → Works true a b → InPart b c → InPart a c
  pub works : (fault : ProxyFault) (a b c : SideState) → Works true a b
      → WorksInPart true None fault b c → WorksInPart true None fault a c
  pub reads : (fault : ProxyFault) (one other : List ℕ) (a b c : SideState)
      → Works true (read one a) b → WorksInPart true None fault (read other b) c
      → WorksInPart true None fault (read (one ++ other) a) c

-- and so are those that are written
abbrev pub WritesMore : Type 0
WritesMore = (one other : List ℕ) (a : SideState)
    → written other (written one a) ≡ written (one ++ other) a

-- a proxy with empty records is a side at first
abbrev pub BeginsFirst : Type 0
BeginsFirst = (half : ℕ) (side : Side) (token : List ℕ)
    → side_seen half (no_records side token) ≡ first_side side

-- where no frame can be heard nothing more is to be given but receipts
pub record GivesNoMore : Type 0 where
  pub fed : (item : PeerIn) (old new : TrailState) → RunsOn old
      → TrailCalls (Fed item) (Ok tt) old new → new.now.live.items ≡ old.now.live.items
  pub asks : (reason : ℕ) (old new : TrailState) → RunsOn old
      → TrailCalls (Asks reason) (Ok tt) old new → new.now.live.items ≡ old.now.live.items
  pub handed : (done : Done) (old new : TrailState) → RunsOn old
      → TrailCalls (Handed done) (Ok tt) old new → new.now.live.items ≡ old.now.live.items
