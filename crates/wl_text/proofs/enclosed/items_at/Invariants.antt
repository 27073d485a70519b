use Rattle.std.proofs.Common.{◌≡◌, ◌-◌}
use Rattle.wl_text.specs.Enclosed.{items_at, items_within}
use Rattle.wl_text.proofs.Items.{with_front}
use Rattle.wl_text.proofs.enclosed.items_at.Given as goal

-- what is read of the rest stands behind the bytes so far
abbrev pub invariant-items : goal.invariant-items
invariant-items l = items_at l.kind l.text ≡ with_front l.bytes (items_within l.kind (l.end - l.counter) l.rest)
