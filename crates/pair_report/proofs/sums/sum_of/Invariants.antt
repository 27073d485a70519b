use Rattle.std.proofs.Common.{◌≡◌, ◌*◌, ◌≤◌, sum, take}
use Rattle.pair_report.proofs.sums.sum_of.Given as goal

-- the sum of the bytes so far, each below 256
abbrev pub invariant-loop-byte : goal.invariant-loop-byte
invariant-loop-byte l = record {
  total : l.total ≡ sum (take l.byte-index l.bytes);
  small : l.total ≤ 255 * l.byte-index;
}
