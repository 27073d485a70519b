use Rattle.std.proofs.Common.{◌≡◌, ◌∙◌, ◌||◌, ◌+◌, ◌*◌, ℕ, Bool, false, ap, sym, arith}
use Rattle.surface_damage.specs.Images.{in_pixels, any_below}
use Rattle.surface_damage.specs.Views.{some_covers}
use Rattle.surface_damage.proofs.AnyLemmas.{any_none, any_from, any_more}
use Rattle.surface_damage.proofs.tests.plain.plain_block.Goals as goal

pub loop-k-init : goal.loop-k-init
loop-k-init c = any_none (λ k. in_pixels c.args.view.image (some_covers c.args.view c.args.damages.now) (64 * c.args.block + k)) 0 (λ k l e. omega arith)

pub returns-then-plain_byte : goal.returns-then-plain_byte
returns-then-plain_byte c =
    let test : ℕ → Bool = λ at. in_pixels c.args.view.image (some_covers c.args.view c.args.damages.now) at in
    sym (any_from (λ k. test (64 * c.args.block + k)) 64 c.loop-k.k c.loop-k-test.true
    (ap (λ n. test (64 * n + c.loop-k.k)) (sym c.from.ensures) ∙ sym c.plain_byte.ensures ∙ c.if-plain_byte.true))

pub loop-k-preserved : goal.loop-k-preserved
loop-k-preserved c =
    let test : ℕ → Bool = λ at. in_pixels c.args.view.image (some_covers c.args.view c.args.damages.now) at in
    let here : test (64 * c.args.block + c.loop-k.k) ≡ false = ap (λ n. test (64 * n + c.loop-k.k)) (sym c.from.ensures) ∙ sym c.plain_byte.ensures ∙ c.if-plain_byte.false in
    any_more (λ k. test (64 * c.args.block + k)) c.loop-k.k
    ∙ ap (λ t. t || any_below (λ k. test (64 * c.args.block + k)) c.loop-k.k) here ∙ c.loop-k.invariant
