-- Rows of frames, and the bytes that a side reads of them; the link's frames are this project's
-- own.
use Rattle.std.specs.Prelude.{◌≡◌, ℕ, ◌<◌, ◌≤◌, List, [], ◌∷◌, ◌++◌, Option, Some, None, Bool, true}
use Rattle.std.specs.Prelude.{false, max, length}
use Rattle.std.specs.List.{flat_map, filter, filter_map, AllByRecursion}
use Rattle.std.specs.Option.{MatchOption}
use Rattle.transfer_frames.specs.declared.frame.Frame.{Frame}
use Rattle.transfer_frames.specs.declared.frame.FrameRole.{FrameRole}
use Rattle.transfer_frames.specs.declared.frame.FrameRole.TheVariants.{Counted, Tells, Greets}
use Rattle.transfer_frames.specs.Grammar.{role, IsFrame, spelling}
use Rattle.transfer_frames.specs.Laws.{NoFrame}

-- ---- what a frame is to its connection

-- every frame but ACK and RESTART is counted: a side numbers the counted frames that it makes from
-- 0 on
abbrev pub is_counted : FrameRole → Bool
is_counted (Counted closes) = true
is_counted (Tells count) = false
is_counted (Greets token connection received) = false

-- RESTART comes first on a connection, and never again
abbrev pub is_greeting : FrameRole → Bool
is_greeting (Counted closes) = false
is_greeting (Tells count) = false
is_greeting (Greets token connection received) = true

-- the count of accepted frames that an ACK tells
abbrev pub ack_in : FrameRole → Option ℕ
ack_in (Counted closes) = None
ack_in (Tells count) = Some count
ack_in (Greets token connection received) = None

-- the count of accepted frames that a RESTART tells
abbrev pub received_in : FrameRole → Option ℕ
received_in (Counted closes) = None
received_in (Tells count) = None
received_in (Greets token connection received) = Some received

-- the count that either of them tells
abbrev pub count_in : FrameRole → ℕ
count_in (Counted closes) = 0
count_in (Tells count) = count
count_in (Greets token connection received) = received

-- ---- the same for rows of frames

-- the bytes of the frames, one after another
abbrev pub spellings : List Frame → List ℕ
spellings frames = flat_map spelling frames

-- the counted ones
abbrev pub counted : List Frame → List Frame
counted frames = filter (λ frame. is_counted (role frame)) frames

-- the counts of the ACK frames
abbrev pub acks : List Frame → List ℕ
acks frames = filter_map (λ frame. ack_in (role frame)) frames

-- the greatest count told, 0 where none is
abbrev pub told : List Frame → ℕ
told [] = 0
told (frame ∷ frames) = max (count_in (role frame)) (told frames)

-- the received count of the first RESTART: among the frames seen on a connection, the other's reply
abbrev pub first_count : Option ℕ → Option ℕ → Option ℕ
first_count None other = other
first_count (Some count) other = Some count

abbrev pub reply : List Frame → Option ℕ
reply [] = None
reply (frame ∷ frames) = first_count (received_in (role frame)) (reply frames)

-- no RESTART is among them
abbrev pub NoGreeting : List Frame → Type 0
NoGreeting frames = AllByRecursion (λ frame. is_greeting (role frame) ≡ false) frames

-- all of them are counted
abbrev pub AllCounted : List Frame → Type 0
AllCounted frames = AllByRecursion (λ frame. is_counted (role frame) ≡ true) frames

-- counts that rise above low and are at most high
abbrev pub Rise : ℕ → List ℕ → ℕ → Type 0
Rise low [] high = Unit {0}
Rise low (count ∷ counts) high = (low < count) × (count ≤ high) × Rise count counts high

-- ---- bytes as a row of frames

-- The bytes read are the whole frames seen, and then a rest at whose front no whole frame stands,
-- or which begins where reading stopped.
pub record Reads (stop : Option ℕ) (read : List ℕ) (seen : List Frame) : Type 0 where
  pub frames : AllByRecursion IsFrame seen
  pub rest : List ℕ
  pub bytes : read ≡ spellings seen ++ rest
  pub ends : MatchOption stop (NoFrame rest) (λ place. place ≡ length (spellings seen))
