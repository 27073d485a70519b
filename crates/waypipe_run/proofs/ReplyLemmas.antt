-- By what a status comes: the kinds of replies, and of outcomes.
use Rattle.std.proofs.Common.{ℕ, List, ⊎_elim, refl, inl, inr, String}
use Rattle.std.specs.declared.alloc.Global.{Global}
use Rattle.waypipe_run.specs.Top.{Outside, Output, IsAnswer, IsLimit, IsListed, IsReadFault, IsTried, IsUsage, Outcome, Printed, Replies}
use Rattle.waypipe_run.specs.TopLaws.{Hindered}
use Rattle.waypipe_run.specs.declared.status.Status.{Status}
use Rattle.waypipe_run.specs.declared.status.Status.TheVariants as status

-- each kind of reply gives what is asked for
pub each_reply : {X : Type 0} (answer : Status) (words : List (String Global)) (old new : Outside) (text : List ℕ) → Replies answer words old new text
    → (IsUsage answer words old new text → X) → (IsReadFault answer words old new text → X) → (IsLimit answer words old new text → X)
    → (IsAnswer answer words old new text → X) → (IsListed answer words old new text → X) → (IsTried answer words old new text → X) → X
each_reply answer words old new text replies usage fault limit answered listed tried =
    ⊎_elim usage (λ it. ⊎_elim fault (λ it. ⊎_elim limit (λ it. ⊎_elim answered (λ it. ⊎_elim listed tried it) it) it) it) replies

-- a status is want of memory, or a write failed, or its whole text was written
pub by_outcome : {X : Type 0} (answer : Status) (words : List (String Global)) (old new : Outside) (out written : Output) → Outcome answer words old new out written
    → (Hindered answer out written → X) → (Printed answer words old new out written → X) → X
by_outcome status.Memory words old new out written is hindered printed = hindered (inl refl)
by_outcome status.WriteFault words old new out written is hindered printed = hindered (inr (refl, is.rose))
by_outcome status.Done words old new out written is hindered printed = printed is
by_outcome status.Usage words old new out written is hindered printed = printed is
by_outcome status.ReadFault words old new out written is hindered printed = printed is
by_outcome (status.Script line cause) words old new out written is hindered printed = printed is
by_outcome (status.Peer side index cause) words old new out written is hindered printed = printed is
by_outcome (status.Frame reader connection place cause) words old new out written is hindered printed = printed is
by_outcome (status.Limit which) words old new out written is hindered printed = printed is
by_outcome status.LinkFault words old new out written is hindered printed = printed is
by_outcome (status.LinkDiffers connection direction place wrote read) words old new out written is hindered printed = printed is
