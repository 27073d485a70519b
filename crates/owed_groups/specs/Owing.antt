-- What is owed for a message, and the copies that it waits for, by the eyes of its file; this
-- project's own.
use Rattle.std.specs.Prelude.{◌≡◌, ℕ, List, true, false, Option, Some, None}
use Rattle.pool_words.specs.Views.{EyeState}
use Rattle.transfer_frames.specs.declared.frame.Frame.{Frame}
use Rattle.half_model.specs.Filling.{covers, parts_of, pieces_of}
use Rattle.half_model.specs.Group.{Owed}
use Rattle.half_model.specs.Jobs.{jobs_of}
use Rattle.half_model.specs.Showing.{Filling}
use Rattle.owed_groups.specs.declared.owing.Owing.{Owing}
use Rattle.owed_groups.specs.JobSteps.{eyes_words}

abbrev pub owed_with : List Frame → Filling → Option (List ℕ) → List EyeState → Owed
owed_with before filling shown eyes = record {
  before = before;
  rid = filling.file.rid;
  file = filling.file.number;
  pieces = pieces_of filling.runs;
  segments = eyes_words eyes;
  shown = shown;
}

-- the eyes cover the blocks, and this is owed, with these copies
pub record IsOwing (next : ℕ) (before : List Frame) (filling : Filling) (shown : Option (List ℕ))
    (eyes : List EyeState) (it : Owing) : Type 0 where
  pub covered : covers filling.runs (eyes_words eyes) ≡ true
  pub owed : it.owed ≡ owed_with before filling shown eyes
  pub copies :
      it.copies
      ≡ jobs_of next eyes (parts_of filling.file.number (eyes_words eyes) (pieces_of filling.runs))

-- nothing is owed where the eyes do not cover the blocks
abbrev pub Owes : ℕ → List Frame → Filling → Option (List ℕ) → List EyeState → Option Owing → Type 0
Owes next before filling shown eyes None = covers filling.runs (eyes_words eyes) ≡ false
Owes next before filling shown eyes (Some it) = IsOwing next before filling shown eyes it
