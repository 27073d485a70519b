use Rattle.std.proofs.Common.{◌≡◌, ◌≤◌, ◌+◌, ◌++◌, length}
use Rattle.std.specs.VecDeque.{deque_capacity}
use Rattle.std.specs.Vec.{vec_capacity}
use Rattle.half_model.specs.Jobs.{copies_of, receipts_of}
use Rattle.owed_groups.proofs.copies.move_slots.Given as goal

abbrev pub invariant-loop-slot : goal.invariant-loop-slot
invariant-loop-slot l = record {
  copies : l.records.items ++ copies_of l.queue.items ≡ l.fn.records.items ++ copies_of l.fn.slots.items;
  receipts : l.receipts.items ++ receipts_of l.queue.items ≡ l.fn.receipts.items ++ receipts_of l.fn.slots.items;
  records_room : length l.records.items + length l.queue.items ≤ vec_capacity l.records;
  receipts_room : length l.receipts.items + length l.queue.items ≤ deque_capacity l.receipts;
}

abbrev pub decreases-loop-slot : goal.decreases-loop-slot
decreases-loop-slot l = length l.queue.items
