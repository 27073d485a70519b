-- That a pipe has from peer to peer what was written to it, where two sides agree on the bytes of
-- their link; pipes and their frames are this project's own.
use Rattle.std.specs.Prelude.{◌≡◌, ℤ, false, List, [], ◌∷◌, ◌++◌, Option, Some, None}
use Rattle.std.specs.List.{filter, filter_map, list_any}
use Rattle.plain_lists.specs.Fronts.{IsFront}
use Rattle.wp_outside.specs.declared.kinds.Side.{Side}
use Rattle.wp_outside.specs.declared.pipe_items.PipeItem.{PipeItem}
use Rattle.wp_outside.specs.declared.pipe_items.PipeItem.TheVariants as items
use Rattle.transfer_frames.specs.declared.frame.Frame.{Frame}
use Rattle.transfer_frames.specs.declared.frame.Frame.TheVariants.{PipeShutR}
use Rattle.half_model.specs.declared.items.PeerOut.{PeerOut}
use Rattle.half_model.specs.declared.items.PeerOut.TheVariants as outputs
use Rattle.half_model.specs.ItemLaws.{given_in}
use Rattle.half_model.specs.Log.{Mark, Grouped}
use Rattle.half_model.specs.Sides.{other_side}
use Rattle.half_model.specs.Story.{made_in, accepted_in}
use Rattle.half_model.specs.StoryLaws.{IsStory}
use Rattle.pipe_relay.specs.Pipes.{no_pipes, is_of_pipe}
use Rattle.pipe_relay.specs.Rows as rows
use Rattle.pipe_relay.specs.Rows.{PipeStep, Happens, put_in, pieces_in, is_end_of}
use Rattle.pair_laws.specs.Pairs.{OneSide, Sends}

-- ---- one side

-- the frames that speak of open pipes, and the items of pipes among those that a peer is given
abbrev pub of_pipes : List Frame → List Frame
of_pipes frames = filter is_of_pipe frames

abbrev pub pipe_item_of : PeerOut → Option PipeItem
pipe_item_of (outputs.Pipe item) = Some item
pipe_item_of item = None

abbrev pub pipe_items_in : List PeerOut → List PipeItem
pipe_items_in given = filter_map pipe_item_of given

-- What happened at the pipes of a side along its story: which write ends were passed, what it heard
-- of pipes, and what its peer put, with the pieces that were dropped and left no mark.
pub record IsPipeRun (side : Side) (story : List Mark) (steps : List PipeStep) : Type 0 where
  pub happens : Happens no_pipes steps
  pub made : rows.made_in no_pipes steps ≡ of_pipes (made_in story)
  pub heard : rows.heard_in steps ≡ of_pipes (accepted_in story)
  pub gives : rows.given_in no_pipes steps ≡ pipe_items_in (given_in side story)

-- each story has one
abbrev pub HasPipeRun : Type 0
HasPipeRun = (side : Side) (story : List Mark) → IsStory side story
    → (steps : List PipeStep) × IsPipeRun side story steps

-- once the peer has closed its reading end, of which a frame is made, it is given no piece and no
-- end of that pipe
pub record IsSilent (rid : ℤ) (given : List PipeItem) : Type 0 where
  pub pieces : pieces_in rid given ≡ []
  pub end : list_any (is_end_of rid) given ≡ false

abbrev pub SilentBehindShut : Type 0
SilentBehindShut = (side : Side) (story earlier later : List Mark) (rid : ℤ)
    (behind : List PeerOut)
    → IsStory side story → story ≡ earlier ++ Grouped (PipeShutR rid ∷ []) [] ∷ later
    → given_in side story ≡ given_in side earlier ++ behind
    → IsSilent rid (pipe_items_in behind)

-- ---- both sides

-- The pieces of a pipe that one peer was given are the first that the other one put, and its end
-- stands only behind all of them.
pub record KeepsPipe (rid : ℤ) (put given : List PipeItem) : Type 0 where
  pub pieces : IsFront (pieces_in rid given) (pieces_in rid put)
  pub end : (front rest : List PipeItem) → given ≡ front ++ items.End rid ∷ rest
      → pieces_in rid front ≡ pieces_in rid put

-- so it is of what the sender's peer put, and what the hearer's peer was given so far
abbrev pub PipesReach : Type 0
PipesReach = (side : Side) (sender hearer : OneSide) (both : Sends side sender hearer)
    (steps : List PipeStep) (given : List PeerOut) (rid : ℤ)
    → IsPipeRun side both.one_law.story steps
    → IsFront given (given_in (other_side side) both.other_law.story)
    → KeepsPipe rid (put_in steps) (pipe_items_in given)
