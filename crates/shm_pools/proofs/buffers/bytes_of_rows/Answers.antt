use Rattle.std.proofs.Common.{◌^◌, ℤ, ◌+ℤ◌, ◌≤ℤ◌, pos, subst, sym}
use Rattle.shm_pools.proofs.Products.{widened_product, product_bounds}
use Rattle.shm_pools.proofs.buffers.bytes_of_rows.Goals as goal

pub returns-clause-value : goal.returns-clause-value
returns-clause-value c = widened_product c.args.stride c.args.height c.ranges.stride c.ranges.height

pub returns-clause-low : goal.returns-clause-low
returns-clause-low c =
    let P : ℤ → Type 0 = λ z. pos 0 ≤ℤ (z +ℤ pos (2 ^ 62)) in
    subst P (sym (widened_product c.args.stride c.args.height c.ranges.stride c.ranges.height)) (product_bounds c.args.stride c.args.height c.ranges.stride c.ranges.height).0

pub returns-clause-high : goal.returns-clause-high
returns-clause-high c =
    let P : ℤ → Type 0 = λ z. z ≤ℤ pos (2 ^ 62) in
    subst P (sym (widened_product c.args.stride c.args.height c.ranges.stride c.ranges.height)) (product_bounds c.args.stride c.args.height c.ranges.stride c.ranges.height).1
