-- How much was read of a source or written to a sink, over many calls. This project's own: the
-- Wayland standard says nothing of files.
use Rattle.std.specs.Prelude.{◌≡◌, ℕ, ◌+◌, ◌<◌, ◌≤◌, Option, Some, None, Bool, true, false}
use Rattle.std.specs.Prelude.{List, [], ◌++◌, length, take, Result, Ok, Err}
use Rattle.wp_outside.specs.Counts.{Rose}
use Rattle.wp_outside.specs.Pieces.{IfTold, held_with}
use Rattle.waypipe_run.specs.declared.reading.ReadFault.{ReadFault}
use Rattle.waypipe_run.specs.declared.reading.ReadFault.TheVariants.{Failed, TooLong, Memory}

-- these bytes were taken of what was left, where it is told
abbrev pub Took : Option (List ℕ) → Option (List ℕ) → List ℕ → Type 0
Took None new bytes = new ≡ None
Took (Some left) None bytes = ⊥
Took (Some left) (Some rest) bytes = left ≡ bytes ++ rest

-- the greatest count of bytes that the program reads
abbrev pub MOST_INPUT : ℕ
MOST_INPUT = 16777216

-- all that was left was taken and no read failed; or a read failed; or more was left than the
-- program reads; or memory ran out
abbrev pub ReadsInput : Result (List ℕ) ReadFault
    → (old new : Option (List ℕ)) → (before now : ℕ) → Type 0
ReadsInput (Ok bytes) old new before now =
    Took old new bytes
    × IfTold new (λ rest. rest ≡ [])
    × (now ≡ before)
    × (length bytes ≤ MOST_INPUT)
ReadsInput (Err Failed) old new before now = Rose before now
ReadsInput (Err TooLong) old new before now =
    IfTold old (λ left. MOST_INPUT < length left) × (now ≡ before)
ReadsInput (Err Memory) old new before now = Unit {0}

-- no more bytes were taken than so many, where it is told
abbrev pub TookAtMost : ℕ → Option (List ℕ) → Option (List ℕ) → Type 0
TookAtMost most old new = IfTold old (λ left. IfTold new (λ rest. length left ≤ length rest + most))

-- one byte above the limit is taken at most
abbrev pub TookNoMore : Option (List ℕ) → Option (List ℕ) → Type 0
TookNoMore old new = TookAtMost (MOST_INPUT + 1) old new

-- a text was written, whole or up to a write that failed
pub record WroteFront (old new : Option (List ℕ)) (text : List ℕ) : Type 0 where
  pub count : ℕ
  pub front : new ≡ held_with old (take count text)

-- bytes came behind those that were there, at least one and no more than there was room for
pub record Came (room : ℕ) (bytes more : List ℕ) (old new : Option (List ℕ)) : Type 0 where
  pub piece : List ℕ
  pub behind : more ≡ bytes ++ piece
  pub some : 1 ≤ length piece
  pub fits : length piece ≤ room
  pub taken : Took old new piece

-- one more read: bytes came; or none is left; or it failed; or memory ran out for what came
abbrev pub ReadsMore : Result Bool ReadFault → (room : ℕ) → (bytes more : List ℕ)
    → (old new : Option (List ℕ)) → (before now : ℕ) → Type 0
ReadsMore (Ok true) room bytes more old new before now =
    Came room bytes more old new × (now ≡ before)
ReadsMore (Ok false) room bytes more old new before now =
    (more ≡ bytes) × Took old new [] × IfTold new (λ rest. rest ≡ []) × (now ≡ before)
ReadsMore (Err Failed) room bytes more old new before now =
    Rose before now × TookAtMost room old new
ReadsMore (Err TooLong) room bytes more old new before now = ⊥
ReadsMore (Err Memory) room bytes more old new before now = TookAtMost room old new
