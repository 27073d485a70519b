use Rattle.std.proofs.Common.{◌≡◌, map, take}
use Rattle.pool_words.specs.Views.{note_of}
use Rattle.shm_pools.proofs.file.note_each.Given as goal

-- the pens before k have their notes
abbrev pub invariant-loop-k : goal.invariant-loop-k
invariant-loop-k l = record {
  noted : l.eyes.items ≡ map note_of (take l.k l.pens.items);
  same : l.pens.items ≡ l.fn.pens.items;
}
