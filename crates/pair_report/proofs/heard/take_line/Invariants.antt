use Rattle.std.proofs.Common.{◌≡◌, ◌-◌, length, take}
use Rattle.pair_model.specs.Rows.{counted}
use Rattle.pair_report.specs.Heard.{frames_in}
use Rattle.pair_report.specs.Meant.{with_frames}
use Rattle.pair_report.proofs.heard.take_line.Given as goal

-- the frames that are left complete the meaning, and the count
abbrev pub invariant-loop-left : goal.invariant-loop-left
invariant-loop-left l = record {
  taken : with_frames (take l.left (counted (frames_in l.rest))) l.meaning ≡ with_frames (take l.count (counted (frames_in l.read))) l.initial.meaning;
  left : l.left - length (counted (frames_in l.rest)) ≡ l.count - length (counted (frames_in l.read));
}

abbrev pub decreases-loop-left : goal.decreases-loop-left
decreases-loop-left l = length l.rest
