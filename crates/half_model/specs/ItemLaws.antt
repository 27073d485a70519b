-- The law that a peer is given what the other side's frames mean: the messages with their rids, the
-- bytes of each mirror, and the bytes and the ends of each pipe. Messages are Wayland's, all else
-- is this project's own.
use Rattle.std.specs.Prelude.{◌≡◌, ℕ, true, false, if◌then◌else◌, ℤ, List, [], ◌∷◌, ◌++◌, Option}
use Rattle.std.specs.Prelude.{Some, None, option_map}
use Rattle.std.specs.Ordering.{int_eq}
use Rattle.plain_lists.specs.Fronts.{IsFront}
use Rattle.wp_outside.specs.declared.kinds.Side.{Side}
use Rattle.half_model.specs.declared.items.PeerOut.{PeerOut}
use Rattle.half_model.specs.declared.items.PeerOut.TheVariants as items
use Rattle.wp_outside.specs.declared.pipe_items.PipeItem.{PipeItem}
use Rattle.wp_outside.specs.declared.pipe_items.PipeItem.TheVariants as pipe_items
use Rattle.half_model.specs.Log.{Mark, log_new}
use Rattle.half_model.specs.Meaning.{none_carried, carry_all, Flow}
use Rattle.mirror_pools.specs.Mirrors.{replaced, widened}
use Rattle.mirror_pools.specs.Meaning.{mirror}
use Rattle.half_model.specs.Meaning.{no_flow, flow}
use Rattle.pipe_relay.specs.Pipes.{has_rid}
use Rattle.mirror_pools.specs.Sizes.{rounded}
use Rattle.half_model.specs.Story.{Sent, heard_in, items_from}
use Rattle.half_model.specs.StoryLaws.{now, IsStory}

-- what the peer of a side was given
abbrev pub given_in : Side → List Mark → List PeerOut
given_in side story = items_from (log_new side) story

-- the messages among items, each with the rid of the handle right before it
abbrev pub sent_among : Option ℤ → List PeerOut → List Sent
sent_among rid [] = []
sent_among rid (items.Handle handle ∷ rest) = sent_among (Some handle.number) rest
sent_among rid (items.Bytes message ∷ rest) = (message, rid) ∷ sent_among None rest
sent_among rid (item ∷ rest) = sent_among rid rest

-- the bytes of the file of a rid behind items
abbrev pub file_item : ℤ → PeerOut → Option (List ℕ) → Option (List ℕ)
file_item rid (items.Opened other size) bytes =
    if int_eq other rid then Some (widened (rounded size) []) else bytes
file_item rid (items.Grown other size) bytes =
    if int_eq other rid then option_map (widened (rounded size)) bytes else bytes
file_item rid (items.Filled other start piece) bytes =
    if int_eq other rid then option_map (replaced start piece) bytes else bytes
file_item rid item bytes = bytes

abbrev pub file_items : ℤ → List PeerOut → Option (List ℕ) → Option (List ℕ)
file_items rid [] bytes = bytes
file_items rid (item ∷ rest) bytes = file_items rid rest (file_item rid item bytes)

-- what came of the pipe of a rid behind items
abbrev pub pipe_piece : ℤ → PipeItem → Flow → Flow
pipe_piece rid (pipe_items.Bytes other piece) flow =
    if int_eq other rid then record flow { bytes = flow.bytes ++ piece } else flow
pipe_piece rid (pipe_items.End other) flow =
    if int_eq other rid then record flow { ended = true } else flow
pipe_piece rid (pipe_items.Shut other) flow =
    if int_eq other rid then record flow { shut = true } else flow

abbrev pub pipe_item : ℤ → PeerOut → Flow → Flow
pipe_item rid (items.Pipe item) flow = pipe_piece rid item flow
pipe_item rid item flow = flow

abbrev pub pipe_items_of : ℤ → List PeerOut → Flow → Flow
pipe_items_of rid [] flow = flow
pipe_items_of rid (item ∷ rest) flow = pipe_items_of rid rest (pipe_item rid item flow)

-- What a peer was given is what the frames mean that its side heard. Of a pipe that the peer has
-- shut it was given a front of the bytes.
pub record ItemsAreMeant : Type 0 where
  pub messages : (side : Side) (story : List Mark) → IsStory side story
      → sent_among None (given_in side story) ≡ (carry_all side story none_carried).given
  pub files : (side : Side) (story : List Mark) (rid : ℤ) → IsStory side story
      → file_items rid (given_in side story) None ≡ mirror rid (heard_in story)
  pub pipes : (side : Side) (story : List Mark) (rid : ℤ) → IsStory side story
      → has_rid rid (now side story).tables.pipes.left ≡ false
      → pipe_items_of rid (given_in side story) no_flow ≡ flow rid (heard_in story)
  pub fronts : (side : Side) (story : List Mark) (rid : ℤ) → IsStory side story
      → IsFront (pipe_items_of rid (given_in side story) no_flow).bytes
      (flow rid (heard_in story)).bytes
