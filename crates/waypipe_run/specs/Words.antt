-- The words of the command line that the program knows. They are this project's own.
use Rattle.std.specs.Prelude.{◌≡◌, ◌⊎◌, ℕ, ◌≤◌, Bool, true, false, List, [], ◌∷◌, String, string_bytes}
use Rattle.std.specs.Prelude.{codes, decimal}
use Rattle.std.specs.declared.alloc.Global.{Global}
use Rattle.waypipe_run.specs.declared.words.Command.{Command}
use Rattle.waypipe_run.specs.declared.words.Command.TheVariants.{Input, Trial}
use Rattle.waypipe_run.specs.declared.words.Task.{Task}
use Rattle.waypipe_run.specs.declared.words.Task.TheVariants.{Replay, Frames}

-- the words after the program's name are these
abbrev pub AreWords : List (List ℕ) → List (String Global) → Type 0
AreWords [] [] = Unit {0}
AreWords (text ∷ texts) (word ∷ words) = (string_bytes word ≡ text) × AreWords texts words
AreWords _ _ = ⊥

-- the word `replay`, and these options behind it, each once and in any order
abbrev pub IsReplay : (texts long : Bool) → List (String Global) → Type 0
IsReplay false false words = AreWords (codes "replay" ∷ []) words
IsReplay true false words = AreWords (codes "replay" ∷ codes "--text" ∷ []) words
IsReplay false true words = AreWords (codes "replay" ∷ codes "--long" ∷ []) words
IsReplay true true words =
    AreWords (codes "replay" ∷ codes "--text" ∷ codes "--long" ∷ []) words
    ⊎ AreWords (codes "replay" ∷ codes "--long" ∷ codes "--text" ∷ []) words

-- a word is a count of rounds from 1 to 500, in decimal without leading zeros
pub record IsCount (rounds : ℕ) (word : List ℕ) : Type 0 where
  pub some : 1 ≤ rounds
  pub few : rounds ≤ 500
  pub is : word ≡ decimal rounds

-- the word `trial`, and such a count
abbrev pub IsTrial : ℕ → List (String Global) → Type 0
IsTrial rounds (name ∷ count ∷ []) =
    (string_bytes name ≡ codes "trial") × IsCount rounds (string_bytes count)
IsTrial rounds words = ⊥

-- the one word `frames`
abbrev pub IsFrames : List (String Global) → Type 0
IsFrames words = AreWords (codes "frames" ∷ []) words

-- the words ask to do this with the input
abbrev pub AsksInput : Task → List (String Global) → Type 0
AsksInput (Replay texts long) words = IsReplay texts long words
AsksInput Frames words = IsFrames words

-- the words ask for this command
abbrev pub Asks : Command → List (String Global) → Type 0
Asks (Input task) words = AsksInput task words
Asks (Trial rounds) words = IsTrial rounds words

-- some command
abbrev pub IsCommand : List (String Global) → Type 0
IsCommand words = (command : Command) × Asks command words
