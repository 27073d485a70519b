use Rattle.std.proofs.Common.{◌≡◌, ◌+◌, ◌*◌, ◌≤◌, ◌++◌, take, vec_len}
use Rattle.std.specs.Vec.{vec_capacity}
use Rattle.std.specs.List.{flat_map}
use Rattle.transfer_frames.specs.Numbers.{rid_bytes}
use Rattle.transfer_frames.proofs.writing.put_rids.Given as goal

abbrev pub invariant-loop-rid : goal.invariant-loop-rid
invariant-loop-rid l =
    (l.out.items ≡ l.initial.out.items ++ flat_map rid_bytes (take l.rid-index l.rids))
    × (vec_len l.out ≡ vec_len l.initial.out + 4 * l.rid-index)
    × (vec_capacity l.initial.out ≤ vec_capacity l.out)
