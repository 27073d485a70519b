-- What holds of a pipe from peer to peer: its owner is given what the other peer wrote, piece by
-- piece, its end behind all of it, and nothing once it has closed its own end. This project's own.
use Rattle.std.specs.Prelude.{◌≡◌, false, ℤ, List, [], ◌∷◌, ◌++◌}
use Rattle.std.specs.List.{list_any}
use Rattle.plain_lists.specs.Fronts.{IsFront}
use Rattle.wp_outside.specs.declared.pipe_items.PipeItem.{PipeItem}
use Rattle.wp_outside.specs.declared.pipe_items.PipeItem.TheVariants as items
use Rattle.pipe_relay.specs.Pipes.{PipesState, no_pipes}
use Rattle.pipe_relay.specs.Rows.{PipeStep, Puts, Happens, after_steps, put_in, heard_in, made_in}
use Rattle.pipe_relay.specs.Rows.{given_in, pieces_in, transfers_in, is_end_of, is_shut_of}
use Rattle.pipe_relay.specs.Rows.{tells_shut_of}

-- what a writer's side made goes to its reader's side, which has accepted it up to a place
pub record Joined (writer reader : List PipeStep) : Type 0 where
  pub writes : Happens no_pipes writer
  pub reads : Happens no_pipes reader
  pub link : IsFront (heard_in reader) (made_in no_pipes writer)

pub record FromPeerToPeer : Type 0 where
  -- the pieces that the owner is given are the first that the other peer wrote
  pub pieces : (writer reader : List PipeStep) (rid : ℤ) → Joined writer reader
      → IsFront (pieces_in rid (given_in no_pipes reader)) (pieces_in rid (put_in writer))
  -- before its end all of them are given
  pub end : (writer reader : List PipeStep) (rid : ℤ) → Joined writer reader
      → (front rest : List PipeItem) → given_in no_pipes reader ≡ front ++ items.End rid ∷ rest
      → pieces_in rid front ≡ pieces_in rid (put_in writer)

-- One PIPE_TRANSFER a piece: while the writer's side has heard of no shut, its frames have each
-- piece that was written; later ones are dropped.
pub record OneFramePerPiece : Type 0 where
  pub first : (steps : List PipeStep) (rid : ℤ)
      → IsFront (transfers_in rid (made_in no_pipes steps)) (pieces_in rid (put_in steps))
  pub all : (steps : List PipeStep) (rid : ℤ)
      → list_any (tells_shut_of rid) (heard_in steps) ≡ false
      → transfers_in rid (made_in no_pipes steps) ≡ pieces_in rid (put_in steps)

-- behind a shut of a pipe
abbrev pub behind_shut : List PipeStep → ℤ → PipesState
behind_shut front rid = after_steps no_pipes (front ++ Puts (items.Shut rid) ∷ [])

-- The owner is given each piece that its side accepts until it closes its end, and from then on no
-- piece and no end.
pub record ShutDrops : Type 0 where
  pub before : (steps : List PipeStep) (rid : ℤ)
      → list_any (is_shut_of rid) (put_in steps) ≡ false
      → pieces_in rid (given_in no_pipes steps) ≡ transfers_in rid (heard_in steps)
  pub pieces : (front rest : List PipeStep) (rid : ℤ)
      → pieces_in rid (given_in (behind_shut front rid) rest) ≡ []
  pub end : (front rest : List PipeStep) (rid : ℤ)
      → list_any (is_end_of rid) (given_in (behind_shut front rid) rest) ≡ false
