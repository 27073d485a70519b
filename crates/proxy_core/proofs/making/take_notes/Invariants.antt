-- What was noted, and behind it what the half still has, is what both had; nothing else of the half is changed, and there is room.
use Rattle.std.proofs.Common.{◌≡◌, ◌+◌, ◌≤◌, ◌++◌, length}
use Rattle.std.specs.VecDeque.{deque_len, deque_capacity}
use Rattle.proxy_core.specs.Making.{without_notes}
use Rattle.proxy_core.proofs.making.take_notes.Given as goal

abbrev pub invariant-notes : goal.invariant-notes
invariant-notes l = record {
  all : l.notes.items ++ l.half.noted ≡ l.fn.notes.items ++ l.fn.half.noted;
  rest : without_notes l.half ≡ without_notes l.fn.half;
  room : deque_len l.notes + length l.half.noted ≤ deque_capacity l.notes;
}

abbrev pub decreases-notes : goal.decreases-notes
decreases-notes l = length l.half.noted
