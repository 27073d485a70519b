-- The two facts on the order in which messages pass at a side, and what they give over both sides:
-- what a side had heard when it took a message, the other one had made when it heard that message.
-- Messages are Wayland's; frames and records are this project's own.
use Rattle.std.specs.Prelude.{◌≡◌, ℕ, ◌+◌, ◌<◌, ◌≤◌, Bool, true, false, max, List, [], ◌∷◌, ◌++◌}
use Rattle.std.specs.Prelude.{length, drop, Option, ◌⊎◌}
use Rattle.std.specs.List.{AllByRecursion}
use Rattle.plain_lists.specs.Fronts.{IsFront}
use Rattle.wp_outside.specs.declared.kinds.Side.{Side}
use Rattle.handle_table.specs.declared.handles.Handle.{Handle}
use Rattle.transfer_frames.specs.declared.frame.Frame.{Frame}
use Rattle.transfer_frames.specs.declared.frame.Frame.TheVariants.{Protocol, Restart}
use Rattle.transfer_frames.specs.Grammar.{role}
use Rattle.half_model.specs.declared.notes.CopyRecord.{CopyRecord}
use Rattle.half_model.specs.Log.{Mark, Taken, Heard, Grouped, Dropped}
use Rattle.wl_tables.specs.Ways.{own_way}
use Rattle.wl_tables.specs.declared.way.Way.{Way}
use Rattle.half_model.specs.Sides.{other_side, other_way}
use Rattle.half_model.specs.Story.{made_in, accepted_in, messages_in, shown_of}
use Rattle.half_model.specs.StoryLaws.{IsStory}
use Rattle.pair_model.specs.Lines.{written_on}
use Rattle.pair_model.specs.Rows.{spellings, counted, is_counted, told}
use Rattle.pair_model.specs.Wire.{Sees, accepted_below, told_below}
use Rattle.pair_laws.specs.Passing.{of_way, shown_by, passing_by}
use Rattle.pair_laws.specs.Pairs.{OneSide, IsLawful, Sends, lines_of, link_of}

-- ---- a message in a story

-- such a mark neither takes a message nor makes a group
abbrev pub goes_by : Mark → Bool
goes_by (Taken message handle segments) = false
goes_by (Heard frame) = true
goes_by (Grouped frames copies) = false
goes_by (Dropped rid) = true

-- A message was taken behind these earlier marks, and among all frames made its PROTOCOL frame has
-- this index.
pub record Shows (story : List Mark) (message : List ℕ) (index : ℕ) : Type 0 where
  pub earlier : List Mark
  pub handle : Option Handle
  pub segments : List ℕ
  -- its group is the next one that was made, and has these frames before and behind the message's
  pub between : List Mark
  pub waits : AllByRecursion (λ mark. goes_by mark ≡ true) between
  pub before : List Frame
  pub shown : List ℕ
  pub after : List Frame
  pub copies : List CopyRecord
  pub later : List Mark
  pub split : story ≡ earlier ++ Taken message handle segments ∷ (between
      ++ Grouped (before ++ Protocol shown ∷ after) copies ∷ later)
  pub index_is : index ≡ length (made_in earlier) + length before

-- the story up to where it was taken
abbrev pub up_to_taken : {story : List Mark} {message : List ℕ} {index : ℕ}
    → Shows story message index → List Mark
up_to_taken {story} {message} {index} shows =
    shows.earlier ++ Taken message shows.handle shows.segments ∷ []

-- each PROTOCOL frame that was made is that of a message taken
abbrev pub EachIsShown : Type 0
EachIsShown = (side : Side) (story : List Mark) (front : List Frame) (shown : List ℕ)
    (later : List Frame)
    → IsStory side story → made_in story ≡ front ++ Protocol shown ∷ later
    → (message : List ℕ) × Shows story message (length front)

-- ---- the first fact

-- What a side wrote on a connection are RESTART and the frames sent behind it, but for some bytes
-- still to be written; the counted ones among them are those made from an index on. Where one of
-- them is a message's, a RESTART or an ACK before it tells as many frames as were accepted when the
-- message was taken, or more.
pub record WroteInTime (side : Side) (it : OneSide) (law : IsLawful side it) (connection : ℕ)
    : Type 0 where
  pub received : ℕ
  pub sent : List Frame
  pub left : List ℕ
  pub bytes : written_on connection (lines_of it) ++ left
      ≡ spellings (Restart it.token connection received ∷ sent)
  pub first : ℕ
  pub counted_are : IsFront (counted sent) (drop first it.book.trail.made)
  pub in_time : (before : List Frame) (frame : Frame) (after : List Frame)
      → sent ≡ before ++ frame ∷ after → is_counted (role frame) ≡ true
      → (message : List ℕ) (shows : Shows law.story message (first + length (counted before)))
      → length (accepted_in shows.earlier)
      ≤ told (Restart it.token connection received ∷ before)

abbrev pub WritesInTime : Type 0
WritesInTime = (side : Side) (it : OneSide) (law : IsLawful side it) (connection : ℕ)
    → (written_on connection (lines_of it) ≡ []) ⊎ WroteInTime side it law connection

-- ---- the second fact

-- A frame that was heard behind these earlier marks was read on a connection, behind these frames;
-- with the greatest count told before it, its messages stand in the order behind each message taken
-- whose frame is among so many first ones made.
pub record HeardBehind (side : Side) (it : OneSide) (law : IsLawful side it)
    (earlier : List Mark) (frame : Frame) : Type 0 where
  pub seen : ℕ → List Frame
  pub bound : ℕ
  pub sees : Sees (link_of side it law) bound seen
  pub connection : ℕ
  pub before : List Frame
  pub after : List Frame
  pub read : seen connection ≡ before ++ frame ∷ after
  pub place : length (accepted_in earlier)
      ≡ length (accepted_below seen connection ++ counted before)
  pub behind : (message : List ℕ) (index : ℕ) (shows : Shows law.story message index)
      → index < max (told_below seen connection) (told before)
      → IsFront (up_to_taken shows) earlier

abbrev pub HearsBehind : Type 0
HearsBehind = (side : Side) (it : OneSide) (law : IsLawful side it)
    (earlier : List Mark) (frame : Frame) (later : List Mark)
    → law.story ≡ earlier ++ Heard frame ∷ later → is_counted (role frame) ≡ true
    → HeardBehind side it law earlier frame

-- ---- both sides

-- What the sender of a message had heard when it took it, the hearer had made when it heard it: the
-- frames, and so the messages, of those that the hearer has to show.
pub record WasMade (hearing_side : Side) (known earlier : List Mark) : Type 0 where
  pub frames : IsFront (accepted_in known) (made_in earlier)
  pub messages : IsFront (messages_in (accepted_in known)) (shown_of hearing_side earlier)

abbrev pub HeardWasMade : Type 0
HeardWasMade = (side : Side) (sender hearer : OneSide) (both : Sends side sender hearer)
    (earlier : List Mark) (frame : Frame) (later : List Mark) (message : List ℕ)
    → both.other_law.story ≡ earlier ++ Heard frame ∷ later → is_counted (role frame) ≡ true
    → (shows : Shows both.one_law.story message (length (accepted_in earlier)))
    → WasMade (other_side side) shows.earlier earlier

-- The same by the two orders alone. At a message of a direction, which is the same in both orders
-- where as many were shown before it in the sender's as were heard in the hearer's: what the sender
-- had heard before it are the first of what the hearer had shown before it.
abbrev pub KeepsOrder : Side → List (Way × List ℕ) → List (Way × List ℕ) → Type 0
KeepsOrder side sender hearer =
    (known rest earlier later : List (Way × List ℕ)) (sent heard : List ℕ)
    → sender ≡ known ++ (own_way side, sent) ∷ rest
    → hearer ≡ earlier ++ (own_way side, heard) ∷ later
    → length (shown_by side known) ≡ length (of_way (own_way side) earlier)
    → IsFront (of_way (other_way side) known) (shown_by (other_side side) earlier)

abbrev pub OrdersAreKept : Type 0
OrdersAreKept = (side : Side) (sender hearer : OneSide) (both : Sends side sender hearer)
    → KeepsOrder side (passing_by side sender both.one_law)
    (passing_by (other_side side) hearer both.other_law)
