use Rattle.std.proofs.Common.{◌≡◌, ◌++◌, take}
use Rattle.take_half.proofs.passing.Passing.wait_for.Given as goal

-- the rids up to here wait
abbrev pub invariant-loop-rid : goal.invariant-loop-rid
invariant-loop-rid l = record {
  waits : l.self-inside.waiting.items ≡ l.initial.self-inside.waiting.items ++ take l.rid-index l.rids;
  held : l.self-inside.held ≡ l.initial.self-inside.held;
  given : l.self-inside.given ≡ l.initial.self-inside.given;
}
