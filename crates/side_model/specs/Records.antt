-- What the records of one side are at any moment, by the story that they tell; the messages are
-- Wayland's, all else is this project's own.
use Rattle.std.specs.Prelude.{◌≡◌, ◌≢◌, ℕ, ◌≤◌, min, length, map, List, [], ◌++◌, Bool, true, false}
use Rattle.std.specs.Prelude.{Option, Some, None}
use Rattle.wp_outside.specs.declared.kinds.Side.{Side}
use Rattle.wl_tables.specs.declared.way.Way.{Way}
use Rattle.transfer_frames.specs.declared.cause.FrameCause.{FrameCause}
use Rattle.transfer_frames.specs.declared.frame.Frame.{Frame}
use Rattle.half_model.specs.declared.causes.Limit.{Limit}
use Rattle.half_model.specs.declared.causes.Limit.TheVariants as limits
use Rattle.half_model.specs.Content.{content_fault}
use Rattle.half_model.specs.Log.{Mark, LogState, log_new, Logs, log_after}
use Rattle.half_model.specs.Story.{taken_in, made_in, copies_in, heard_in, accepted_in, order_in}
use Rattle.pair_model.specs.Lines.{SideRecord, Stop}
use Rattle.pair_model.specs.Refusals.{Refused}
use Rattle.pair_model.specs.RingState.{RingState, IsRingOf}
use Rattle.pair_model.specs.Rows.{told}
use Rattle.pair_model.specs.Steps.{MOST_PLACE}
use Rattle.pair_model.specs.Wire.{Wire, Accepts}
use Rattle.side_model.specs.declared.fault.ProxyFault.{ProxyFault}
use Rattle.side_model.specs.declared.fault.ProxyFault.TheVariants as faults
use Rattle.side_model.specs.Books.{Book, TrailRecord, weight, MOST_WEIGHT}
use Rattle.side_model.specs.Places.{places_in, side_of}

-- ---- what a story tells

-- the ways of the order of passing
abbrev pub ways_in : Side → List Mark → List Way
ways_in side story = map (λ passed. passed.0) (order_in side story)

-- the record and the order are those of this story
pub record TellsStory (side : Side) (story : List Mark) (book : Book) : Type 0 where
  pub side_is : book.trail.side ≡ side
  pub taken : book.trail.taken ≡ taken_in story
  pub made : book.trail.made ≡ made_in story
  pub copies : book.trail.copies ≡ copies_in story
  pub accepted : book.trail.accepted ≡ length (accepted_in story)
  pub acknowledged : book.trail.acknowledged ≡ told (heard_in story)
  pub order : book.order ≡ ways_in side story

-- for which cause a side that has come so far refuses what a frame says
abbrev pub content_in : LogState → Frame → Option FrameCause
content_in state frame = content_fault state.tables state.taking frame

-- ---- where reading stopped

-- a frame was refused, with this cause, at this place
pub record FrameStop (connection place : ℕ) (cause : FrameCause) (state : LogState) (token : List ℕ)
    (side : SideRecord) (stop : Option Stop) : Type 0 where
  pub exact : ℕ
  pub place_is : place ≡ min exact MOST_PLACE
  pub stop_is : stop ≡ Some (record { connection = connection; place = exact; cause = Some cause })
  pub refused : Refused (λ accepted. content_in state) token side
      (record { connection = connection; place = exact; cause = Some cause })

-- where memory ran out, reading may have stopped anywhere
abbrev pub NoCause : Option Stop → Type 0
NoCause None = Unit {0}
NoCause (Some stop) = stop.cause ≡ None

abbrev pub StopsBy : Option ProxyFault → LogState → List ℕ → SideRecord → Option Stop → Type 0
StopsBy None state token side stop = stop ≡ None
StopsBy (Some (faults.Frame connection place cause)) state token side stop =
    FrameStop connection place cause state token side stop
StopsBy (Some (faults.Peer index cause)) state token side stop = stop ≡ None
StopsBy (Some (faults.Limit which)) state token side stop = stop ≡ None
StopsBy (Some faults.Memory) state token side stop = NoCause stop

-- the message of the peer that is refused stands behind those that were taken
abbrev pub IndexIs : Option ProxyFault → TrailRecord → Type 0
IndexIs None trail = Unit {0}
IndexIs (Some (faults.Frame connection place cause)) trail = Unit {0}
IndexIs (Some (faults.Peer index cause)) trail = index ≡ length trail.taken
IndexIs (Some (faults.Limit which)) trail = Unit {0}
IndexIs (Some faults.Memory) trail = Unit {0}

-- ---- all of it

-- What the records of a side keep at any moment, whether it has failed or not.
pub record Law (side : Side) (token : List ℕ) (book : Book) (fault : Option ProxyFault)
    : Type 0 where
  -- they tell a story that follows the rules
  pub story : List Mark
  pub tells : TellsStory side story book
  pub log : Logs (log_new side) story
  -- what was written and read is what may be, up to the place where reading stopped
  pub stop : Option Stop
  pub wire : Wire token (side_of book.trail (places_in story) stop)
  pub heard : Accepts (side_of book.trail (places_in story) stop) (accepted_in story)
  pub stops : StopsBy fault (log_after (log_new side) story) token
      (side_of book.trail (places_in story) stop) stop
  pub index : IndexIs fault book.trail
  pub weighs : weight book.trail ≤ MOST_WEIGHT

-- only a side that fails at the limit of its records, or for want of memory, may hold more frames
-- than it recorded
abbrev pub is_trail : Limit → Bool
is_trail limits.Trail = true
is_trail which = false

abbrev pub holds_more : Option ProxyFault → Bool
holds_more None = false
holds_more (Some (faults.Frame connection place cause)) = false
holds_more (Some (faults.Peer index cause)) = false
holds_more (Some (faults.Limit which)) = is_trail which
holds_more (Some faults.Memory) = true

-- The ring holds the frames of the record from the acknowledged count on, and further ones only
-- behind such a fault; where memory ran out it may be ahead of the count in the record.
pub record KeptRing (made : List Frame) (acknowledged : ℕ) (fault : Option ProxyFault)
    (ring : RingState) : Type 0 where
  pub further : List Frame
  pub ring_is : IsRingOf (made ++ further) ring
  pub none : holds_more fault ≡ false → further ≡ []
  pub known : fault ≢ Some faults.Memory → ring.acknowledged ≡ acknowledged
