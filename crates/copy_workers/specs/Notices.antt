-- The rule of the notice that a crew is closed, which its chief posts and its workers read; this
-- project's own.
use Rattle.std.specs.Prelude.{◌≡◌, ◌≢◌, ◌⊎◌, ℕ, Bool, true, false, if◌then◌else◌}
use Rattle.std.specs.Prelude.{Option, Some, None, List, is_some, slice_index, length}
use mathlib.Core.Option.{some}
use lib.ListN.{get_elem?}
use Rattle.atomic_table.specs.Seated.{TableId}
use Rattle.atomic_table.specs.Table.{State, Step, Me}
use Rattle.copy_workers.specs.declared.copies.CopyJob.{CopyJob}
use Rattle.copy_workers.specs.declared.views.Known.{Known}

-- a thread's view of a notice: which notice it is, whether it is the one who posts it, and the jobs
-- that it names, once it is posted and this thread has read it
pub record NoticeState : Type 0 where
  pub table : TableId
  pub posts : Bool
  pub jobs : Option (List CopyJob)

-- what is known of a notice: nothing, or what it says
abbrev pub IsKnown : Option (List CopyJob) → Option (List CopyJob) → Type 0
IsKnown posted known = (known ≡ None) ⊎ (known ≡ posted)

-- what the rule says of the view of a seat, where the poster's seat and what is posted are these
pub record Fits (poster : ℕ) (posted : Option (List CopyJob)) (seat : ℕ) (v : Known) : Type 0 where
  pub one : v.posts ≡ true → (seat ≡ poster) × (v.jobs ≡ posted)
  pub read : IsKnown posted v.jobs
  pub heard : IsKnown posted v.heard

-- the one word is 1 where the notice is posted, and what anyone knows of it is what it says
pub record Posted {S : Type 0} (table : State S Known) : Type 0 where
  pub poster : ℕ
  pub posted : Option (List CopyJob)
  pub sized : length table.words ≡ 1
  pub word : slice_index table.words 0 ≡ (if is_some posted then 1 else 0)
  pub fits :
      (seat : ℕ) (v : Known) → get_elem? table.views seat ≡ some v
      → Fits poster posted seat v

abbrev pub known : Bool → Option (List CopyJob) → Option (List CopyJob) → Known
known posts jobs heard = record { posts = posts; jobs = jobs; heard = heard }

module _ {S : Type 0} where
  -- the poster posts that these are the jobs
  abbrev pub Posts : List CopyJob → Step S → Me S Known → ℕ → Me S Known → Type 0
  Posts jobs step before n after = after ≡ (known true (Some jobs) before.0.heard, before.1)

  -- a reader that finds 1 has read what is posted
  abbrev pub Reads : Step S → Me S Known → ℕ → Me S Known → Type 0
  Reads step before n after =
      (n ≡ 0 → after ≡ before)
      × (n ≢ 0 → (jobs : List CopyJob)
      × (after ≡ (known false (Some jobs) before.0.heard, before.1)))

  -- the poster is told that what it heard from a reader is what it posted
  abbrev pub Compares : Step S → Me S Known → ℕ → Me S Known → Type 0
  Compares step before n after = (after ≡ before) × IsKnown before.0.jobs before.0.heard
