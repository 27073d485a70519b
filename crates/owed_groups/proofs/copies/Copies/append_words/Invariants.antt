use Rattle.std.proofs.Common.{◌≡◌, ◌++◌, ◌+◌, ◌-◌, take, drop, length}
use Rattle.half_model.specs.Filling.{words_bytes}
use Rattle.owed_groups.specs.Slots.{all_words}
use Rattle.owed_groups.proofs.copies.Copies.append_words.Given as goal

abbrev pub invariant-loop-left : goal.invariant-loop-left
invariant-loop-left l = record {
  bytes : l.out.items ++ words_bytes (take l.left (drop l.place.word (all_words (drop l.place.job l.self-inside.slots.items))))
      ≡ l.fn.out.items ++ words_bytes (take l.count (drop l.fn.place.word (all_words (drop l.fn.place.job l.self-inside.slots.items))));
  rest : drop l.left (drop l.place.word (all_words (drop l.place.job l.self-inside.slots.items)))
      ≡ drop l.count (drop l.fn.place.word (all_words (drop l.fn.place.job l.self-inside.slots.items)));
}

abbrev pub decreases-loop-left : goal.decreases-loop-left
decreases-loop-left l = l.left + (length l.self-inside.slots.items - l.place.job)
