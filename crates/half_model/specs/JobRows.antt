-- Worked rows of copies: which one is lent next, what is taken back, and in which order copies and
-- receipts stand in a group. This project's own.
use Rattle.std.specs.Prelude.{◌≡◌, ℕ, true, false, List, [], ◌∷◌, ◌++◌, pos, map, replicate}
use Rattle.std.specs.Prelude.{Option, Some, None, option_map}
use Rattle.pool_words.specs.Views.{EyeState, ReceiptState, no_pool}
use Rattle.transfer_frames.specs.declared.frame.Frame.TheVariants.{Fill}
use Rattle.half_model.specs.Filling.{parts_of, words_bytes}
use Rattle.half_model.specs.Group.{Owed}
use Rattle.half_model.specs.Jobs.{Job, Done, jobs_of, lent, handed, awaits, first_waiting}
use Rattle.half_model.specs.Turn.{MadeGroup, group_due}

-- three blocks of the file 6 with the rid 1, in segments of 12 and 20 words
abbrev pub owed : Owed
owed = record {
  before = [];
  rid = pos 1;
  file = pos 6;
  pieces = record { first = 0; end = 3 } ∷ [];
  segments = 12 ∷ 20 ∷ [];
  shown = None;
}

abbrev pub eye : ℕ → ℕ → ℕ → EyeState
eye number words low =
    record { pool = no_pool; number = number; words = words; low = low; seen = [] }

-- two copies, with the numbers 5 and 6
abbrev pub jobs : List Job
jobs = jobs_of 5 (eye 2 12 3 ∷ eye 4 20 1 ∷ []) (parts_of owed.file owed.segments owed.pieces)

abbrev pub receipt : ℕ → ReceiptState
receipt number = record { pool = no_pool; number = number; high = 9; loads = [] }

abbrev pub first_done : Done
first_done = record { id = 5; first = 0; words = replicate 12 1; low = 3; receipt = receipt 2 }

abbrev pub second_done : Done
second_done = record { id = 6; first = 0; words = replicate 12 2; low = 1; receipt = receipt 4 }

-- the numbers of the copies that go out
abbrev pub next_id : List Job → Option ℕ
next_id waiting = option_map (λ job. job.id) (first_waiting waiting)

-- in order, each once
pub record LentRows : Type 0 where
  pub first : next_id jobs ≡ Some 5
  pub second : next_id (lent jobs) ≡ Some 6
  pub none : next_id (lent (lent jobs)) ≡ None
  pub back : next_id (handed first_done (lent jobs)) ≡ Some 6

-- a copy is awaited while it is out, as just what it is
pub record AwaitedRows : Type 0 where
  pub waits : awaits jobs first_done ≡ false
  pub out : awaits (lent jobs) first_done ≡ true
  pub other : awaits (lent jobs) second_done ≡ false
  pub back : awaits (handed first_done (lent jobs)) first_done ≡ false
  pub wrong : map (awaits (lent jobs)) (
      record first_done { id = 6 }
      ∷ record first_done { first = 1 }
      ∷ record first_done { words = replicate 11 1 }
      ∷ record first_done { low = 4 }
      ∷ record first_done { receipt = receipt 3 }
      ∷ [])
      ≡ false ∷ false ∷ false ∷ false ∷ false ∷ []

-- the group, whichever copy comes back first
abbrev pub due : List Job → Option MadeGroup
due all = group_due (Some owed) all

pub record GroupRows : Type 0 where
  pub early : due (handed second_done (lent (lent jobs))) ≡ None
  pub whole : due (handed first_done (handed second_done (lent (lent jobs)))) ≡ Some (record {
    frames = Fill (pos 1) 0 192 (words_bytes (replicate 12 1 ++ replicate 12 2)) ∷ [];
    copies =
        record { file = pos 6; segment = 0; first = 0; words = replicate 12 1; low = 3; high = 9 }
        ∷ record { file = pos 6; segment = 1; first = 0; words = replicate 12 2; low = 1; high = 9 }
        ∷ [];
    receipts =
        record { number = pos 6; segment = 0; receipt = receipt 2 }
        ∷ record { number = pos 6; segment = 1; receipt = receipt 4 }
        ∷ [];
  })
