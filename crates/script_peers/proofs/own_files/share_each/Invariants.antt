use Rattle.std.proofs.Common.{◌≡◌, map, take}
use Rattle.script_peers.specs.Owning.{eyes_on}
use Rattle.script_peers.proofs.own_files.share_each.Given as goal

-- the files before this place have their eyes
abbrev pub invariant-loop-place : goal.invariant-loop-place
invariant-loop-place l = record {
  shared : l.eyes.items ≡ map eyes_on (take l.place l.files.items);
  same : l.files.items ≡ l.fn.files.items;
}
