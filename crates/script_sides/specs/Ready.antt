-- What a side of a replay keeps between two calls: its proxy runs on and has given all, and the
-- copy that is out is the one whose words are being loaded; this project's own.
use Rattle.std.specs.Prelude.{◌≡◌, ◌<◌, ℕ, ℤ, [], Option, Some, None}
use Rattle.std.specs.List.{AllByRecursion}
use Rattle.half_model.specs.Jobs.{Job, Waits}
use Rattle.pair_runs.specs.Kept.{GoesOn}
use Rattle.pair_runs.specs.Sides.{TOKEN, last_number}
use Rattle.pair_runs.specs.WorkLaws.{RunsOn}
use Rattle.pool_words.specs.Views.{ReceiptState}
use Rattle.receipt_laws.specs.Lending.{CopiesAre}
use Rattle.receipt_laws.specs.Owning.{EyeIsOwn, PutIsOwn, AllOwn}
use Rattle.script_peers.specs.Owning.{IsOwnReceipt}
use Rattle.script_peers.specs.Peers.{ScriptedPeer}
use Rattle.script_sides.specs.Halves.{HalfState}
use Rattle.script_sides.specs.Sided.{SideRun, state_of}
use Rattle.side_model.specs.State.{Now}

-- a receipt that can be settled with this peer
abbrev pub OwnOf : ScriptedPeer → ℤ → ℕ → ReceiptState → Type 0
OwnOf peer number segment receipt = IsOwnReceipt number segment receipt peer.own.files

-- the copy that is out is one of this job, with an eye of the peer's own, and is not loaded whole
pub record IsHalf (peer : ScriptedPeer) (s : Now) (half : HalfState) : Type 0 where
  pub job : Job
  pub copies : CopiesAre (Some job) s
  pub eye : job.state ≡ Waits half.eye
  pub id : half.id ≡ job.id
  pub first : half.first ≡ job.part.first
  pub count : half.count ≡ job.part.count
  pub own : EyeIsOwn (OwnOf peer) job.part.file job.part.segment half.eye
  pub begun : half.loaded < half.count

-- no other is out
abbrev pub HalfFits : ScriptedPeer → Now → Option HalfState → Type 0
HalfFits peer s None = CopiesAre None s
HalfFits peer s (Some half) = IsHalf peer s half

-- its proxy runs on, and its receipts, and those of what its peer put on the wire, can be settled
-- with the peer
pub record IsSound (it : SideRun) : Type 0 where
  pub side : it.trail.now.side ≡ it.peer.side
  pub token : it.trail.now.token ≡ TOKEN
  pub runs : RunsOn it.trail
  pub last : it.trail.now.kept.last ≡ last_number it.trail.book.trail.lines.rows
  pub own : AllOwn (OwnOf it.peer) it.trail.now
  pub wire : AllByRecursion (PutIsOwn (OwnOf it.peer)) it.peer.wire
  pub half : HalfFits it.peer it.trail.now it.half
  pub asked : it.asked ≡ (state_of it).inside.asked

-- and all was given to the peer
pub record IsReady (it : SideRun) : Type 0 where
  pub sound : IsSound it
  pub items : it.trail.now.live.items ≡ []
  pub receipts : it.trail.now.live.receipts ≡ []

-- between two calls a side is as one of a run that has not failed
abbrev pub ReadyGoesOn : Type 0
ReadyGoesOn = (it : SideRun) → IsReady it → GoesOn it.peer.side (state_of it)
