use Rattle.std.proofs.Common.{◌≡◌, [], drop}
use Rattle.wl_text.specs.ArgReading.{args_at}
use Rattle.wl_text.proofs.TextArgsLemmas.{with_said}
use Rattle.wl_text.proofs.arg_reading.args_at.Given as goal

-- what is read at the places that are left stands behind the arguments so far
abbrev pub invariant-slots : goal.invariant-slots
invariant-slots l = args_at [] l.signature.slots l.text ≡ with_said l.said (args_at l.word (drop l.i l.signature.slots) l.rest)
