use Rattle.std.proofs.Common.{◌≤◌, arith}
use Rattle.std.proofs.lemmas.List.Elements.{All-nil}
use Rattle.std.specs.List.Sorted.{IsStrictlySortedBy}
use Rattle.mirror_pools.specs.Sizes.{MOST_FILE}
use Rattle.mirror_pools.proofs.SizeLemmas.{IsSound-opened, IsSound-grown}
use Rattle.mirror_pools.proofs.laws.sound_lasts.Goals as goal

pub returns : goal.returns
unfolding IsStrictlySortedBy
returns c = record {
  fresh = record { rising = tt; each = All-nil (λ n. n ≤ MOST_FILE); together = omega arith };
  open_ = IsSound-opened;
  extend = IsSound-grown;
}
