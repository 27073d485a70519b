-- What a side may have written on a connection of the link, which is this project's own, said by
-- cases: a part of RESTART, or RESTART, whole frames and a rest.
use Rattle.std.specs.Prelude.{◌≡◌, ℕ, ◌<◌, List, [], ◌∷◌, ◌++◌, drop, length, ◌⊎◌}
use Rattle.std.specs.Option.{MatchOption}
use Rattle.std.specs.List.{AllByRecursion}
use Rattle.plain_lists.specs.Fronts.{IsFront}
use Rattle.transfer_frames.specs.declared.frame.Frame.{Frame}
use Rattle.transfer_frames.specs.declared.frame.Frame.TheVariants.{Restart}
use Rattle.transfer_frames.specs.Grammar.{IsFrame, spelling}
use Rattle.pair_model.specs.Rows.{spellings, counted, acks, reply, NoGreeting, Rise}
use Rattle.pair_model.specs.Order.{InTime}

-- These frames may follow RESTART: none greets; none is there while the other's RESTART was not
-- read; the counted ones are those made from its received count on, each in its time; the counts
-- told rise.
pub record MayFollow (received upto : ℕ) (made : List Frame) (due : List ℕ) (seen sent : List Frame)
    : Type 0 where
  pub frames : AllByRecursion IsFrame sent
  pub greets : NoGreeting sent
  pub order : MatchOption (reply seen) (sent ≡ []) (λ p. IsFront (counted sent) (drop p made))
  pub tells : Rise received (acks sent) upto
  pub in_time : MatchOption (reply seen) (Unit {0}) (λ p. InTime due received p sent)

-- some bytes of one more frame, not all of them
pub record PartOf (received upto : ℕ) (made : List Frame) (due : List ℕ) (seen sent : List Frame)
    (rest : List ℕ) : Type 0 where
  pub frame : Frame
  pub more : List ℕ
  pub bytes : rest ++ more ≡ spelling frame
  pub proper : 0 < length more
  pub follows : MayFollow received upto made due seen (sent ++ frame ∷ [])

-- the rest behind the whole frames sent: none, or the beginning of one more
abbrev pub IsRest : ℕ → ℕ → List Frame → List ℕ → List Frame → List Frame → List ℕ → Type 0
IsRest received upto made due seen sent rest =
    (rest ≡ []) ⊎ PartOf received upto made due seen sent rest

-- RESTART, whole frames, and a rest
pub record Whole (greeting : List ℕ) (received upto : ℕ) (made : List Frame) (due : List ℕ)
    (seen : List Frame) (written : List ℕ) : Type 0 where
  pub sent : List Frame
  pub rest : List ℕ
  pub bytes : written ≡ greeting ++ (spellings sent ++ rest)
  pub follows : MayFollow received upto made due seen sent
  pub ends : IsRest received upto made due seen sent rest

-- a part of RESTART, or RESTART and what follows it
pub record ByCases (token : List ℕ) (connection received upto : ℕ) (made : List Frame)
    (due : List ℕ) (seen : List Frame) (written : List ℕ) : Type 0 where
  pub greeting : IsFrame (Restart token connection received)
  pub cases : IsFront written (spelling (Restart token connection received))
      ⊎ Whole (spelling (Restart token connection received)) received upto made due seen written
