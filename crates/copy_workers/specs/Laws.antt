-- What a copy is, and what its words stand for; this project's own, of memory that a Wayland client hands
-- over by wl_shm.
use Rattle.std.specs.Prelude.{◌≡◌, ℕ, ◌+◌, ◌<◌, List, length, slice_index, All}
use Rattle.pool_words.specs.Views.{ReceiptState}
use Rattle.pool_words.specs.History.{Stood, HasStood}
use Rattle.pool_words.specs.declared.views.Write.{Write}
use Rattle.copy_workers.specs.declared.copies.CopyJob.{CopyJob}
use Rattle.copy_workers.specs.Copies.{DoneState, StandsFor, IsCopyOf}

-- where the loads of the receipt have stood, each word of the copy stood in its place, between the
-- low of the note and the finish
abbrev pub SettledWordsStood : Type 0
SettledWordsStood =
    (history : List Write) (first low i : ℕ) (words : List ℕ) (receipt : ReceiptState)
    → StandsFor first words low receipt → All (HasStood history) receipt.loads → i < length words
    → Stood history low receipt.high (first + i) (slice_index words i)

-- the receipt of a copy stands for the loads of its words, and for no others
abbrev pub CopiesAreWhole : Type 0
CopiesAreWhole =
    (job : CopyJob) (done : DoneState) → IsCopyOf job done
    → StandsFor done.first done.words done.low done.receipt

-- two copies of one job with the same words and the same finish are the same
abbrev pub CopiesAreExact : Type 0
CopiesAreExact =
    (job : CopyJob) (one two : DoneState) → IsCopyOf job one → IsCopyOf job two
    → one.words ≡ two.words → one.receipt.high ≡ two.receipt.high → one ≡ two
