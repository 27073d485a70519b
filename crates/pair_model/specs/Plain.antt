-- What a side of a link, which is this project's own, heard from the other, as its lines tell it.
use Rattle.std.specs.Prelude.{◌≡◌, ℕ, List, ◌++◌, None, max}
use Rattle.transfer_frames.specs.declared.frame.Frame.{Frame}
use Rattle.pair_model.specs.declared.plain.PlainLine.{PlainLine}
use Rattle.pair_model.specs.Lines.{Line, SideRecord}
use Rattle.pair_model.specs.Rows.{counted, told, Reads}
use Rattle.pair_model.specs.Wire.{accepted_below, told_below, Sees}
use Rattle.pair_model.specs.StepLaws.{side_new}

abbrev pub line_of : PlainLine → Line
line_of line = record { connection = line.connection; written = line.written; read = line.read }

-- The bytes read on one connection add their counted frames, and the greatest count told in them.
pub record HearsLine (read : List ℕ) (frames : List Frame) (acknowledged : ℕ) (more : List Frame)
    (most : ℕ) : Type 0 where
  pub seen : List Frame
  pub reads : Reads None read seen
  pub frames_are : more ≡ frames ++ counted seen
  pub most_is : most ≡ max acknowledged (told seen)

-- a side that has these lines, and made nothing
abbrev pub side_with : List Line → SideRecord
side_with lines = record side_new { lines = lines }

-- These are the frames that a side with these lines accepted, and the greatest count that it was
-- told.
pub record Hears (lines : List Line) (frames : List Frame) (acknowledged : ℕ) : Type 0 where
  pub seen : ℕ → List Frame
  pub bound : ℕ
  pub sees : Sees (side_with lines) bound seen
  pub frames_are : frames ≡ accepted_below seen bound
  pub acknowledged_is : acknowledged ≡ told_below seen bound
