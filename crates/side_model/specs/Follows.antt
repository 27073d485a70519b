-- How the records of a side follow its proxy while it has not failed; this project's own.
use Rattle.std.specs.Prelude.{◌≡◌, ℕ, ◌≤◌, Bool, true, false, is_none, length, map}
use Rattle.std.specs.Prelude.{List, [], ◌∷◌, ◌++◌, Option, Some, None, count_by}
use Rattle.std.specs.List.{AllByRecursion}
use Rattle.std.specs.Option.{MatchOption}
use Rattle.transfer_frames.specs.declared.frame.Frame.{Frame}
use Rattle.transfer_frames.specs.Numbers.{IsBytes, IsWord}
use Rattle.pool_words.specs.Views.{ReceiptState, sights, load}
use Rattle.half_model.specs.declared.items.PeerOut.{PeerOut}
use Rattle.half_model.specs.declared.items.PeerOut.TheVariants as outputs
use Rattle.half_model.specs.declared.notes.CopyRecord.{CopyRecord}
use Rattle.half_model.specs.Group.{Owed}
use Rattle.half_model.specs.Jobs.{Job, JobState, Waits, IsOut, IsBack}
use Rattle.half_model.specs.Log.{Mark, LogState, log_new}
use Rattle.half_model.specs.Story.{accepted_in, items_from}
use Rattle.half_model.specs.StoryLaws.{now, IsStory}
use Rattle.half_model.specs.Turn.{waits_in}
use Rattle.half_model.specs.TurnLaws.{log_of, JobsOf}
use Rattle.pair_model.specs.Lines.{SideRecord}
use Rattle.pair_model.specs.LinkFaults.{MOST_FRAMES}
use Rattle.pair_model.specs.RingState.{IsRingOf}
use Rattle.pair_model.specs.Steps.{Here, Stands, HeardBy}
use Rattle.pair_model.specs.Wire.{Wire, Accepts}
use Rattle.side_model.specs.Books.{Book}
use Rattle.side_model.specs.Places.{places_in, side_of}
use Rattle.side_model.specs.Records.{TellsStory}
use Rattle.side_model.specs.Shows.{has_made_close}
use Rattle.side_model.specs.State.{Now, Closing, Open, Asked, Made}

-- both halves of a proxy, as a story comes to them
abbrev pub log_state : Now → LogState
log_state s = log_of s.live.tables s.live.sending s.live.taking (has_made_close s.kept.closing)

-- ---- the link

-- what was written and read, and these frames accepted: on the connection that is up, or on those
-- before
pub record Rests (token : List ℕ) (side : SideRecord) (accepted : List Frame) : Type 0 where
  pub wire : Wire token side
  pub accepts : Accepts side accepted

pub record GoesOn (token : List ℕ) (side : SideRecord) (accepted : List Frame) (here : Here)
    : Type 0 where
  pub stands : Stands token side here
  pub heard : HeardBy side here accepted

abbrev pub LinkFollows : List ℕ → SideRecord → List Frame → Option Here → Type 0
LinkFollows token side accepted here =
    MatchOption here (Rests token side accepted) (GoesOn token side accepted)

-- ---- what the peer is given

abbrev pub is_message : PeerOut → Bool
is_message (outputs.Bytes message) = true
is_message item = false

-- the items of the story that are left to be given follow those that were, of which so many are
-- messages
pub record GivesItems (all left : List PeerOut) (given : ℕ) : Type 0 where
  pub gone : List PeerOut
  pub row : gone ++ left ≡ all
  pub counts : given ≡ count_by is_message gone

-- a receipt stands for just the loads of one copy
pub record IsReceiptOf (copy : CopyRecord) (item : PeerOut) : Type 0 where
  pub receipt : ReceiptState
  pub is : item ≡ outputs.Receipt copy.file copy.segment receipt
  pub high : receipt.high ≡ copy.high
  pub loads : receipt.loads ≡ map (load copy.low copy.high) (sights copy.first copy.words)

-- one receipt for each copy, in order
abbrev pub AreReceipts : List CopyRecord → List PeerOut → Type 0
AreReceipts [] [] = Unit {0}
AreReceipts [] (item ∷ items) = ⊥
AreReceipts (copy ∷ copies) [] = ⊥
AreReceipts (copy ∷ copies) (item ∷ items) = IsReceiptOf copy item × AreReceipts copies items

-- those left to be given follow those that were
pub record GivesReceipts (copies : List CopyRecord) (left : List PeerOut) : Type 0 where
  pub gone : List PeerOut
  pub all : AreReceipts copies (gone ++ left)

-- ---- copies and CLOSE

-- a job that is back has a receipt for just its words
abbrev pub HasReceipt : Job → JobState → Type 0
HasReceipt job (Waits eye) = Unit {0}
HasReceipt job IsOut = Unit {0}
HasReceipt job (IsBack words receipt) =
    receipt.loads ≡ map (load job.low receipt.high) (sights job.part.first words)

abbrev pub JobsFollow : Option Owed → List Job → Type 0
JobsFollow None jobs = Unit {0}
JobsFollow (Some owed) jobs =
    JobsOf owed jobs × AllByRecursion (λ job. HasReceipt job job.state) jobs

-- the reason is a word; once CLOSE is made nothing is owed and nothing waits
abbrev pub ClosingFollows : Closing → Bool → Bool → Type 0
ClosingFollows Open owes_none waits = Unit {0}
ClosingFollows (Asked reason) owes_none waits = IsWord reason
ClosingFollows Made owes_none waits = (owes_none ≡ true) × (waits ≡ false)

-- ---- all of it

pub record Follows (s : Now) (book : Book) : Type 0 where
  -- the record tells a story that follows the rules, and the two halves are where it comes to
  pub story : List Mark
  pub tells : TellsStory s.side story book
  pub log : IsStory s.side story
  pub after : now s.side story ≡ log_state s
  pub taken : s.live.sending.taken ≡ length book.trail.taken
  pub jobs : JobsFollow s.live.sending.owes s.kept.jobs
  pub closes : ClosingFollows s.kept.closing (is_none s.live.sending.owes) (waits_in s.live.sending)
  -- what was written and read, and the counts of it
  pub link : LinkFollows s.token (side_of book.trail (places_in story) None)
      (accepted_in story) s.live.here
  pub ring : IsRingOf book.trail.made s.kept.ring
  pub accepted : book.trail.accepted ≡ s.kept.accepted
  pub acknowledged : book.trail.acknowledged ≡ s.kept.ring.acknowledged
  pub closed : (places_in story).closed ≡ s.kept.heard_close
  pub few : s.kept.accepted ≤ MOST_FRAMES
  pub token : length s.token ≡ 16
  pub numbers : AllByRecursion (λ line. line.connection ≤ s.kept.last) book.trail.lines.rows
  pub bytes : MatchOption s.live.here (Unit {0}) (λ here. IsBytes here.unread)
  -- what the peer is given
  pub items : GivesItems (items_from (log_new s.side) story) s.live.items book.trail.given
  pub receipts : GivesReceipts book.trail.copies s.live.receipts
