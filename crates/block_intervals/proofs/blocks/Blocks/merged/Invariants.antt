use Rattle.std.proofs.Common.{◌≡◌, ℕ, ◌+◌, ◌-◌, ◌≤◌, ◌||◌, length, drop}
use Rattle.block_intervals.specs.Sets.{has}
use Rattle.block_intervals.proofs.blocks.Blocks.merged.Given as goal

abbrev pub invariant-loop-at : goal.invariant-loop-at
invariant-loop-at l = record {
  at_in : l.at ≤ length l.mine;
  other_in : l.other_at ≤ length l.others;
  parts : (b : ℕ) → (has b l.both || (has b (drop l.at l.mine) || has b (drop l.other_at l.others))) ≡ (has b l.mine || has b l.others);
}

-- how many runs are still to be taken
abbrev pub decreases-loop-at : goal.decreases-loop-at
decreases-loop-at l = (length l.mine - l.at) + (length l.others - l.other_at)
