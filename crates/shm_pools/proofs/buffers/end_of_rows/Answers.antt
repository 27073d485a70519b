use Rattle.std.proofs.Common.{◌∙◌, ap, ℤ, ◌+ℤ◌, ◌*ℤ◌, w32}
use Rattle.std.proofs.lemmas.Int.{to_z-of_z}
use Rattle.shm_pools.proofs.Products.{widened_sum}
use Rattle.shm_pools.proofs.buffers.end_of_rows.Goals as goal

pub returns : goal.returns
returns c =
    widened_sum c.args.offset c.bytes_of_rows.result c.ranges.offset c.bytes_of_rows.ensures.low c.bytes_of_rows.ensures.high
    ∙ ap (λ (p : ℤ). c.args.offset +ℤ p) c.bytes_of_rows.ensures.value
    ∙ (λ i. c.args.offset +ℤ to_z-of_z w32 c.args.stride c.ranges.stride i *ℤ to_z-of_z w32 c.args.height c.ranges.height i)
