-- What the calls of a proxy with its records are in a run: each good one works as its move says,
-- and each bad one in part. Messages are Wayland's; proxies, records and runs are this project's
-- own.
use Rattle.std.specs.Prelude.{◌≡◌, ℕ, ◌<◌, ◌≤◌, List, [], take, length, Some, None}
use Rattle.std.specs.Prelude.{Ok, Err, true, false, ◌⊎◌}
use Rattle.std.specs.List.{AllByRecursion}
use Rattle.std.specs.Option.{MatchOption}
use Rattle.half_model.specs.declared.items.PeerIn.{PeerIn}
use Rattle.half_model.specs.Jobs.{Done, is_out, all_back, handed}
use Rattle.pair_model.specs.Quiet.{NoFront}
use Rattle.pair_model.specs.Steps.{Here}
use Rattle.half_model.specs.declared.causes.Limit.TheVariants.{Connections}
use Rattle.side_model.specs.declared.fault.ProxyFault.{ProxyFault}
use Rattle.side_model.specs.declared.fault.ProxyFault.TheVariants.{Limit}
use Rattle.side_model.specs.Calls.{MOST_CONNECTIONS}
use Rattle.side_model.specs.Events.{Fed, Handed, Lent, Up, Down, Came, Gave, Asks}
use Rattle.side_model.specs.Follows.{is_message}
use Rattle.side_model.specs.Shows.{wants_peer, next_item, front_of}
use Rattle.side_model.specs.Sound.{Admits}
use Rattle.side_model.specs.Trails.{TrailState, Keeps, TrailCalls, trail_step, Sends, Lends}
use Rattle.pair_runs.specs.Kept.{GoesOn, HasFailed}
use Rattle.pair_runs.specs.Linking.{with_line, written, read}
use Rattle.pair_runs.specs.Moves.{LineInPart}
use Rattle.pair_runs.specs.Sides.{SideState, TOKEN, fed, asked, all_loaded, wants, side_seen}
use Rattle.pair_runs.specs.Sides.{rows_of, last_number, link_record}
use Rattle.pair_runs.specs.Whys.{RefusesMore, RefusesLine, RefusesPiece}
use Rattle.pair_runs.specs.Working.{Works, InPart, WorksInPart}

-- a proxy that runs on
pub record RunsOn (t : TrailState) : Type 0 where
  pub goes_on : t.fault ≡ None
  pub keeps : Keeps t

-- ---- good calls

-- an item of its peer
abbrev pub FedWorks : Type 0
FedWorks = (half : ℕ) (item : PeerIn) (old new : TrailState) → RunsOn old
    → Admits (Fed item) old.now
    → TrailCalls (Fed item) (Ok tt) old new
    → Works false (fed item (side_seen half old)) (side_seen half new)

-- a piece of what comes on the connection that is up
abbrev pub CameWorks : Type 0
CameWorks = (half : ℕ) (piece : List ℕ) (here : Here) (old new : TrailState) → RunsOn old
    → Admits (Came piece) old.now
    → old.now.live.here ≡ Some here
    → TrailCalls (Came piece) (Ok tt) old new
    → Works true (read piece (side_seen half old)) (side_seen half new)

-- the wish to close
abbrev pub AsksWorks : Type 0
AsksWorks = (half reason : ℕ) (old new : TrailState) → RunsOn old
    → Admits (Asks reason) old.now
    → TrailCalls (Asks reason) (Ok tt) old new
    → Works false (asked (side_seen half old)) (side_seen half new)

-- a connection comes up, or goes down
abbrev pub UpIs : Type 0
UpIs = (half connection : ℕ) (old new : TrailState) → RunsOn old → old.now.live.here ≡ None
    → TrailCalls (Up connection) (Ok tt) old new
    → side_seen half new ≡ with_line connection (side_seen half old)

abbrev pub DownIs : Type 0
DownIs = (half : ℕ) (old : TrailState)
    → side_seen half (trail_step Down old) ≡ side_seen half old

-- room is made for the front, and bytes of it are written
abbrev pub LendsIs : Type 0
LendsIs = (half : ℕ) (old new : TrailState) → RunsOn old → Lends (Ok tt) old new
    → side_seen half new ≡ side_seen half old

abbrev pub SendsIs : Type 0
SendsIs = (half n : ℕ) (here : Here) (old new : TrailState) → RunsOn old
    → old.now.live.here ≡ Some here → n ≤ old.book.trail.lines.room
    → Sends n old new
    → side_seen half new ≡ written (take n here.front) (side_seen half old)

-- an item is given: none but a message changes anything
pub record GaveWorks : Type 0 where
  pub works : (half : ℕ) (old : TrailState)
      → Works true (side_seen half old) (side_seen half (trail_step Gave old))
  pub silent : (half : ℕ) (old : TrailState)
      → MatchOption (next_item old.now.live) (Unit {0}) (λ item. is_message item ≡ false)
      → side_seen half (trail_step Gave old) ≡ side_seen half old

-- ---- copies

-- The first copy that waits is lent, of which nothing is loaded then.
abbrev pub LentIs : Type 0
LentIs = (old : TrailState) → side_seen 0 (trail_step Lent old) ≡ side_seen 0 old

-- A copy that is out is handed back, with as many words as are loaded of it; others are awaited
abbrev pub HandedIs : Type 0
HandedIs = (half : ℕ) (done : Done) (old new : TrailState) → RunsOn old
    → half ≡ length done.words → all_back (handed done old.now.kept.jobs) ≡ false
    → TrailCalls (Handed done) (Ok tt) old new
    → side_seen half new ≡ side_seen half old

-- or it is the last one.
abbrev pub HandedWorks : Type 0
HandedWorks = (half : ℕ) (done : Done) (old new : TrailState) → RunsOn old
    → Admits (Handed done) old.now
    → all_back (handed done old.now.kept.jobs) ≡ true
    → TrailCalls (Handed done) (Ok tt) old new
    → Works false (all_loaded (side_seen half old)) (side_seen half new)

-- Where no copy is out, it is no matter how many words are loaded of it.
abbrev pub NoneOut : Type 0
NoneOut = (half other : ℕ) (t : TrailState)
    → AllByRecursion (λ job. is_out job.state ≡ false) t.now.kept.jobs
    → side_seen half t ≡ side_seen other t

-- ---- calls that meet a fault

-- a piece of so many bytes is read, or it is refused
abbrev pub FailsInPart : ℕ → ProxyFault → SideState → SideState → SideState → Type 0
FailsInPart size fault old done new =
    (RefusesMore size fault new.book.trail × InPart old new)
    ⊎ WorksInPart true None fault done new

abbrev pub FedFails : Type 0
FedFails = (half : ℕ) (item : PeerIn) (fault : ProxyFault) (old new : TrailState) → RunsOn old
    → old.now.token ≡ TOKEN → Admits (Fed item) old.now
    → TrailCalls (Fed item) (Err fault) old new
    → WorksInPart false (Some item) fault (fed item (side_seen half old)) (side_seen half new)

abbrev pub CameFails : Type 0
CameFails = (half : ℕ) (piece : List ℕ) (here : Here) (fault : ProxyFault) (old new : TrailState)
    → RunsOn old → old.now.token ≡ TOKEN → Admits (Came piece) old.now
    → old.now.live.here ≡ Some here
    → TrailCalls (Came piece) (Err fault) old new
    → FailsInPart (length piece) fault (side_seen half old) (read piece (side_seen half old))
    (side_seen half new)

abbrev pub AsksFails : Type 0
AsksFails = (half reason : ℕ) (fault : ProxyFault) (old new : TrailState) → RunsOn old
    → old.now.token ≡ TOKEN → Admits (Asks reason) old.now
    → TrailCalls (Asks reason) (Err fault) old new
    → WorksInPart false None fault (asked (side_seen half old)) (side_seen half new)

abbrev pub HandedFails : Type 0
HandedFails = (half : ℕ) (done : Done) (fault : ProxyFault) (old new : TrailState) → RunsOn old
    → old.now.token ≡ TOKEN → Admits (Handed done) old.now
    → TrailCalls (Handed done) (Err fault) old new
    → WorksInPart false None fault (side_seen half old) (side_seen half new)

-- a connection has its line, or not; and why it is refused
abbrev pub UpFails : Type 0
UpFails = (half connection : ℕ) (fault : ProxyFault) (old new : TrailState) → RunsOn old
    → old.now.live.here ≡ None
    → TrailCalls (Up connection) (Err fault) old new
    → LineInPart connection (side_seen half old) (side_seen half new)
    × RefusesLine connection fault (side_seen half old).book.trail

-- there is none above the greatest, and that is the one cause of its limit
pub record UpLimits : Type 0 where
  pub good : (connection : ℕ) (old new : TrailState) → RunsOn old
      → TrailCalls (Up connection) (Ok tt) old new → connection ≤ MOST_CONNECTIONS
  pub bad : (connection : ℕ) (old new : TrailState) → RunsOn old → old.now.live.here ≡ None
      → TrailCalls (Up connection) (Err (Limit Connections)) old new
      → MOST_CONNECTIONS < connection

-- no room is made for the front, which only these faults are the cause of
abbrev pub LendsFails : Type 0
LendsFails = (half : ℕ) (fault : ProxyFault) (old new : TrailState) → RunsOn old
    → Lends (Err fault) old new
    → RefusesPiece fault (side_seen half new).book.trail
    × (side_seen half new ≡ side_seen half old)

-- the records of a side that has failed are lawful
abbrev pub KeptByFault : Type 0
KeptByFault = (half : ℕ) (fault : ProxyFault) (t : TrailState) → Keeps t → t.fault ≡ Some fault
    → t.now.token ≡ TOKEN → HasFailed t.now.side (side_seen half t) fault

-- ---- what a proxy shows

-- it takes from its peer just where its side in the run wants to
abbrev pub WantsIs : Type 0
WantsIs = (half : ℕ) (t : TrailState) → RunsOn t → wants (side_seen half t) ≡ wants_peer t.now

-- where it lends nothing, there is nothing to be sent
abbrev pub NothingLent : Type 0
NothingLent = (half : ℕ) (here : Here) (t : TrailState) → RunsOn t → t.now.token ≡ TOKEN
    → t.now.live.here ≡ Some here → front_of t.now ≡ []
    → NoFront TOKEN (last_number (rows_of (side_seen half t))) (link_record (side_seen half t))

-- where it has given all, its records are kept as those of a side in a run
abbrev pub KeptByCalls : Type 0
KeptByCalls = (half : ℕ) (t : TrailState) → RunsOn t → t.now.token ≡ TOKEN
    → t.now.live.items ≡ [] → GoesOn t.now.side (side_seen half t)
