use Rattle.std.proofs.Common.{◌≡◌, ◌++◌, drop}
use Rattle.std.specs.List.{flat_map}
use Rattle.wl_text.specs.Enclosed.{item_text}
use Rattle.wl_text.proofs.enclosed.put_items.Given as goal

-- the bytes that are left complete the text
abbrev pub invariant-bytes : goal.invariant-bytes
invariant-bytes l = l.out ++ flat_map (item_text l.kind) (drop l.byte-index l.bytes) ≡ l.initial.out ++ flat_map (item_text l.kind) l.bytes
