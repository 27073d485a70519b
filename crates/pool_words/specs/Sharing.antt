-- That threads may share a pen, an eye or a receipt by reference, as Rust's marker Sync says: what
-- a reference to one holds says the same to every thread.
use Rattle.std.specs.Thread.{IsSync}
use Rattle.pool_words.specs.contracts.pen.Pen as Pen
use Rattle.pool_words.specs.contracts.eye.Eye as Eye
use Rattle.pool_words.specs.contracts.receipt.Receipt as Receipt

abbrev pub PenIsShared : Type 0
PenIsShared = IsSync Pen.the_row

abbrev pub EyeIsShared : Type 0
EyeIsShared = IsSync Eye.the_row

abbrev pub ReceiptIsShared : Type 0
ReceiptIsShared = IsSync Receipt.the_row
