-- Which items for a peer are receipts of its own copies; this project's own.
use Rattle.std.specs.Prelude.{Bool, true, false}
use Rattle.half_model.specs.declared.items.PeerOut.{PeerOut}
use Rattle.half_model.specs.declared.items.PeerOut.TheVariants as items

abbrev pub is_receipt : PeerOut → Bool
is_receipt (items.Receipt number segment receipt) = true
is_receipt item = false
