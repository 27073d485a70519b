-- With which rids the handles of messages are sent: a handle's rid is its number in the order of
-- first passing. Handles stand for Wayland's `fd` arguments, rids are this project's own.
use Rattle.std.specs.Prelude.{◌≡◌, List, [], ◌∷◌, ℤ, length, filter_map, position, Option, None}
use Rattle.std.specs.Prelude.{unwrap_or}
use Rattle.wp_outside.specs.declared.kinds.Side.{Side}
use Rattle.handle_table.specs.Table.{is_handle, rid_at, passed_found}
use Rattle.handle_table.specs.declared.handles.Handle.{Handle}
use Rattle.half_model.specs.Log.{Mark, Taken}
use Rattle.half_model.specs.StoryLaws.{IsStory}
use Rattle.pair_laws.specs.Received.{sent_in}

-- the handles of the messages that a side took, in order
abbrev pub handle_by : Mark → Option Handle
handle_by (Taken message handle segments) = handle
handle_by mark = None

abbrev pub handles_in : List Mark → List Handle
handles_in story = filter_map handle_by story

-- behind these handles that were passed, each once: a handle's rid is that of its place among them,
-- or of the next one
abbrev pub rids_behind : Side → List Handle → List Handle → List ℤ
rids_behind side passed [] = []
rids_behind side passed (handle ∷ handles) =
    let place = position (is_handle handle) passed in
    rid_at side (unwrap_or place (length passed))
    ∷ rids_behind side (passed_found passed handle place) handles

-- the rids of the messages that a side sent are those of the handles, in order
abbrev pub RidsInOrder : Type 0
RidsInOrder = (side : Side) (story : List Mark) → IsStory side story
    → filter_map (λ it. it.1) (sent_in side story) ≡ rids_behind side [] (handles_in story)
