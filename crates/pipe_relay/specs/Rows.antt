-- What happens at the pipes of one side, one thing after another, and what comes of it: the frames
-- that it makes and the items that its peer is given; this project's own.
use Rattle.std.specs.Prelude.{◌≡◌, ℕ, Bool, false, if◌then◌else◌, ℤ, List, [], ◌∷◌, ◌++◌, Option}
use Rattle.std.specs.Prelude.{Some, None, option_to_list}
use Rattle.std.specs.Ordering.{int_eq}
use Rattle.std.specs.List.{filter_map, flat_map}
use Rattle.wp_outside.specs.declared.pipe_items.PipeItem.{PipeItem}
use Rattle.wp_outside.specs.declared.pipe_items.PipeItem.TheVariants as items
use Rattle.transfer_frames.specs.declared.frame.Frame.{Frame}
use Rattle.transfer_frames.specs.declared.frame.Frame.TheVariants as frames
use Rattle.pipe_relay.specs.Pipes.{PipesState, with_own, with_other, is_unknown, frame_of_item}
use Rattle.pipe_relay.specs.Pipes.{after_item, pipe_cause, after_pipe_frame, item_of_frame}

-- a write end is passed by this side's peer, or by the other side's; this side's peer does
-- something at an end; a frame of the other side is accepted
pub data PipeStep : Type 0 where
  OpensOwn : ℤ → PipeStep
  OpensOther : ℤ → PipeStep
  Puts : PipeItem → PipeStep
  Hears : Frame → PipeStep

-- nothing that is refused happens
abbrev pub MayHappen : PipesState → PipeStep → Type 0
MayHappen pipes (OpensOwn rid) = Unit {0}
MayHappen pipes (OpensOther rid) = Unit {0}
MayHappen pipes (Puts item) = is_unknown pipes item ≡ false
MayHappen pipes (Hears frame) = pipe_cause pipes frame ≡ None

abbrev pub after_step : PipesState → PipeStep → PipesState
after_step pipes (OpensOwn rid) = with_own rid pipes
after_step pipes (OpensOther rid) = with_other rid pipes
after_step pipes (Puts item) = after_item pipes item
after_step pipes (Hears frame) = after_pipe_frame pipes frame

-- a row of steps that may happen, from a state on, and the state that it leaves
abbrev pub Happens : PipesState → List PipeStep → Type 0
Happens pipes [] = Unit {0}
Happens pipes (step ∷ steps) = MayHappen pipes step × Happens (after_step pipes step) steps

abbrev pub after_steps : PipesState → List PipeStep → PipesState
after_steps pipes [] = pipes
after_steps pipes (step ∷ steps) = after_steps (after_step pipes step) steps

-- ---- what goes in

abbrev pub put_at : PipeStep → List PipeItem
put_at (Puts item) = item ∷ []
put_at (OpensOwn rid) = []
put_at (OpensOther rid) = []
put_at (Hears frame) = []

-- the items that the peer put
abbrev pub put_in : List PipeStep → List PipeItem
put_in steps = flat_map put_at steps

abbrev pub heard_at : PipeStep → List Frame
heard_at (Hears frame) = frame ∷ []
heard_at (OpensOwn rid) = []
heard_at (OpensOther rid) = []
heard_at (Puts item) = []

-- the frames that were accepted
abbrev pub heard_in : List PipeStep → List Frame
heard_in steps = flat_map heard_at steps

-- ---- what comes out

abbrev pub made_at : PipesState → PipeStep → List Frame
made_at pipes (Puts item) = option_to_list (frame_of_item pipes item)
made_at pipes (OpensOwn rid) = []
made_at pipes (OpensOther rid) = []
made_at pipes (Hears frame) = []

-- the frames that were made
abbrev pub made_in : PipesState → List PipeStep → List Frame
made_in pipes [] = []
made_in pipes (step ∷ steps) = made_at pipes step ++ made_in (after_step pipes step) steps

abbrev pub given_at : PipesState → PipeStep → List PipeItem
given_at pipes (Hears frame) = option_to_list (item_of_frame pipes frame)
given_at pipes (OpensOwn rid) = []
given_at pipes (OpensOther rid) = []
given_at pipes (Puts item) = []

-- the items that the peer was given
abbrev pub given_in : PipesState → List PipeStep → List PipeItem
given_in pipes [] = []
given_in pipes (step ∷ steps) = given_at pipes step ++ given_in (after_step pipes step) steps

-- ---- one pipe

abbrev pub piece_of : ℤ → PipeItem → Option (List ℕ)
piece_of rid (items.Bytes other bytes) = if int_eq other rid then Some bytes else None
piece_of rid (items.End other) = None
piece_of rid (items.Shut other) = None

-- the pieces of a pipe among items
abbrev pub pieces_in : ℤ → List PipeItem → List (List ℕ)
pieces_in rid all = filter_map (piece_of rid) all

abbrev pub transfer_of : ℤ → Frame → Option (List ℕ)
transfer_of rid (frames.PipeTransfer other bytes) = if int_eq other rid then Some bytes else None
transfer_of rid frame = None

-- the pieces of a pipe among frames, one a PIPE_TRANSFER
abbrev pub transfers_in : ℤ → List Frame → List (List ℕ)
transfers_in rid all = filter_map (transfer_of rid) all

-- whether an item is the end of a pipe, and whether it closes a pipe's reading end
abbrev pub is_end_of : ℤ → PipeItem → Bool
is_end_of rid (items.End other) = int_eq other rid
is_end_of rid (items.Bytes other bytes) = false
is_end_of rid (items.Shut other) = false

abbrev pub is_shut_of : ℤ → PipeItem → Bool
is_shut_of rid (items.Shut other) = int_eq other rid
is_shut_of rid (items.Bytes other bytes) = false
is_shut_of rid (items.End other) = false

-- whether a frame tells that a pipe's reading end was closed
abbrev pub tells_shut_of : ℤ → Frame → Bool
tells_shut_of rid (frames.PipeShutR other) = int_eq other rid
tells_shut_of rid frame = false
