-- What a story of one side tells: its messages, its frames, its copies and the order in which
-- messages passed its tracking; the messages are Wayland's, all else is this project's own.
use Rattle.std.specs.Prelude.{ℕ, List, [], ◌∷◌, ◌++◌, ℤ, map, Option, Some, None, option_to_list}
use Rattle.std.specs.Prelude.{option_map, option_and_then, Result, Ok, Err}
use Rattle.std.specs.List.{flat_map}
use Rattle.wp_outside.specs.declared.kinds.Side.{Side}
use Rattle.wp_outside.specs.declared.kinds.Side.TheVariants.{Near, Far}
use Rattle.wl_wire.specs.Wire.{cut}
use Rattle.wl_tables.specs.declared.way.Way.{Way}
use Rattle.wl_objects.specs.Registry.{first_state, visible}
use Rattle.handle_table.specs.declared.handles.Handle.{Handle}
use Rattle.transfer_frames.specs.declared.frame.Frame.{Frame}
use Rattle.transfer_frames.specs.declared.frame.Frame.TheVariants.{Protocol}
use Rattle.pair_model.specs.Rows.{counted}
use Rattle.half_model.specs.declared.items.PeerOut.{PeerOut}
use Rattle.half_model.specs.declared.notes.CopyRecord.{CopyRecord}
use Rattle.half_model.specs.Content.{heard}
use Rattle.half_model.specs.Group.{Owed}
use Rattle.half_model.specs.Log.{Mark, Taken, Heard, Grouped, LogState, log_next}
use Rattle.half_model.specs.Planning.{Plan, Refusal, plan}
use Rattle.half_model.specs.Shm.{Passing, passing_of}
use Rattle.half_model.specs.Sides.{other_way}
use Rattle.wl_tables.specs.Ways.{own_way}

-- ---- by mark

abbrev pub taken_by : Mark → List (List ℕ)
taken_by (Taken message handle segments) = message ∷ []
taken_by mark = []

abbrev pub made_by : Mark → List Frame
made_by (Grouped frames copies) = frames
made_by mark = []

abbrev pub copies_by : Mark → List CopyRecord
copies_by (Grouped frames copies) = copies
copies_by mark = []

abbrev pub heard_by : Mark → List Frame
heard_by (Heard frame) = frame ∷ []
heard_by mark = []

-- the messages of a frame
abbrev pub messages_of : Frame → List (List ℕ)
messages_of (Protocol bytes) = cut bytes
messages_of frame = []

-- the messages of a mark that pass the side's tracking, each with its way
abbrev pub passed_by : Side → Mark → List (Way × List ℕ)
passed_by side (Taken message handle segments) = (own_way side, message) ∷ []
passed_by side (Heard frame) = map (λ message. (other_way side, message)) (messages_of frame)
passed_by side mark = []

-- ---- by story

-- the messages taken, the frames made, the copies that went into them, the frames heard
abbrev pub taken_in : List Mark → List (List ℕ)
taken_in story = flat_map taken_by story

abbrev pub made_in : List Mark → List Frame
made_in story = flat_map made_by story

abbrev pub copies_in : List Mark → List CopyRecord
copies_in story = flat_map copies_by story

abbrev pub heard_in : List Mark → List Frame
heard_in story = flat_map heard_by story

-- the counted frames among those heard
abbrev pub accepted_in : List Mark → List Frame
accepted_in story = counted (heard_in story)

-- the order of passing
abbrev pub order_in : Side → List Mark → List (Way × List ℕ)
order_in side story = flat_map (passed_by side) story

-- the messages in frames
abbrev pub messages_in : List Frame → List (List ℕ)
messages_in frames = flat_map messages_of frames

-- what the other side is to have of a side's order: of the near side all requests, of the far side
-- the events that the registry view shows
abbrev pub shown_of : Side → List Mark → List (List ℕ)
shown_of Near story = taken_in story
shown_of Far story = visible first_state (order_in Far story)

-- the message that is owed, if it is shown
abbrev pub owed_messages : Option Owed → List (List ℕ)
owed_messages None = []
owed_messages (Some owed) = option_to_list owed.shown

-- ---- with the states

-- a message as it is shown, with the rid of its handle
abbrev pub Sent : Type 0
Sent = List ℕ × Option ℤ

abbrev pub rid_of_passing : Option Passing → Option ℤ
rid_of_passing passing = option_map (λ it. it.rid) passing

abbrev pub rid_sent : LogState → Option Handle → Option ℤ
rid_sent s handle = option_and_then (λ it. rid_of_passing (passing_of s.tables.handles it)) handle

abbrev pub sent_by_plan : LogState → Option Handle → Result Plan Refusal → List Sent
sent_by_plan s handle (Ok it) =
    map (λ message. (message, rid_sent s handle)) (option_to_list it.shown)
sent_by_plan s handle (Err refusal) = []

abbrev pub sent_by : LogState → Mark → List Sent
sent_by s (Taken message handle segments) =
    sent_by_plan s handle (plan s.tables s.shm message handle)
sent_by s mark = []

-- the messages that are shown of those taken, each with its rid
abbrev pub sent_from : LogState → List Mark → List Sent
sent_from s [] = []
sent_from s (mark ∷ marks) = sent_by s mark ++ sent_from (log_next s mark) marks

-- what the peer is given of the frames heard
abbrev pub given_by : LogState → Mark → List PeerOut
given_by s (Heard frame) = (heard s.tables s.taking frame).given
given_by s mark = []

abbrev pub items_from : LogState → List Mark → List PeerOut
items_from s [] = []
items_from s (mark ∷ marks) = given_by s mark ++ items_from (log_next s mark) marks
