-- What it means that a side of a link, which is this project's own, has nothing to send, that all
-- was read, and that nothing is kept.
use Rattle.std.specs.Prelude.{◌≡◌, ℕ, suc, List, [], ◌∷◌, None, drop, length}
use Rattle.std.specs.Option.{MatchOption}
use Rattle.std.specs.List.{AllByRecursion}
use Rattle.transfer_frames.specs.declared.frame.Frame.{Frame}
use Rattle.transfer_frames.specs.declared.frame.Frame.TheVariants.{Restart}
use Rattle.transfer_frames.specs.Grammar.{IsFrame}
use Rattle.pair_model.specs.Lines.{SideRecord, read_on, written_on}
use Rattle.pair_model.specs.Rows.{spellings, counted, acks, reply}
use Rattle.pair_model.specs.Wire.{accepted_below, Sees}

-- the last of some counts, or the one before them
abbrev pub last_told : ℕ → List ℕ → ℕ
last_told before [] = before
last_told before (count ∷ counts) = last_told count counts

-- A side has nothing to send on a connection: RESTART and the frames sent after it are wholly
-- written. Where the other's RESTART was read there, all frames made are sent, and all accepted are
-- told.
pub record NoFront (token : List ℕ) (connection : ℕ) (side : SideRecord) : Type 0 where
  pub seen : ℕ → List Frame
  pub bound : ℕ
  pub sees : Sees side bound seen
  pub sent : List Frame
  pub frames : AllByRecursion IsFrame
      (Restart token connection (length (accepted_below seen connection)) ∷ sent)
  pub bytes : written_on connection side.lines
      ≡ spellings (Restart token connection (length (accepted_below seen connection)) ∷ sent)
  pub done : MatchOption (reply (seen connection)) (sent ≡ []) (λ p.
      (counted sent ≡ drop p side.made)
      × (last_told (length (accepted_below seen connection)) (acks sent)
      ≡ length (accepted_below seen (suc connection))))

-- All that was written on a connection was read, and neither side stopped reading.
pub record AllRead (connection : ℕ) (near far : SideRecord) : Type 0 where
  pub up : read_on connection far.lines ≡ written_on connection near.lines
  pub down : read_on connection near.lines ≡ written_on connection far.lines
  pub near_reads : near.stop ≡ None
  pub far_reads : far.stop ≡ None

-- Both sides know that all their frames were accepted.
pub record DrainedLink (near far : SideRecord) : Type 0 where
  pub near_known : near.acknowledged ≡ length near.made
  pub far_known : far.acknowledged ≡ length far.made
