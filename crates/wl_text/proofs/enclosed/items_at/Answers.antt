use Rattle.std.proofs.Common.{◌≡◌, suc, ◌+◌, ◌-◌, length, sym, ap, ◌∙◌, arith}
use Rattle.wl_text.specs.Enclosed.{items_within}
use Rattle.wl_text.proofs.Items.{with_front, with_front_nil, items_closed, items_none, items_more, items_spent}
use Rattle.wl_text.proofs.enclosed.items_at.Goals as goal

pub items-init : goal.items-init
items-init c =
    let all : length c.args.text.now ≡ length c.args.text.now - 0 = omega arith in
    ap (λ left. items_within c.args.kind left c.args.text.now) all ∙ rw c.new-bytes.ensures (sym (with_front_nil _))

pub returns-in-Some : goal.returns-in-Some
returns-in-Some c = items_closed c.args.kind _ c.items.bytes _ c.items.rest.now c.in-Some.after.now (omega arith) c.items.invariant (rw c.closing.ensures at c.in-Some.ensures)

pub returns-in-None : goal.returns-in-None
returns-in-None c = items_none c.args.kind _ c.items.bytes _ c.items.rest.now (omega arith) c.items.invariant (rw c.closing.ensures at c.in_default.ensures) c.in-None.ensures

pub items-preserved : goal.items-preserved
items-preserved c =
    let left : length c.args.text.now - c.items.counter ≡ suc (length c.args.text.now - (c.items.counter + 1)) = omega arith in
    let so_far = c.items.invariant ∙ ap (λ n. with_front c.items.bytes (items_within c.args.kind n c.items.rest.now)) left in
    rw c.in_ok-push-in-Some-item_at.ensures.ok
    (items_more c.args.kind _ c.items.bytes _ c.items.rest.now c.in-Some-item_at.after.now c.in-Some-item_at.byte so_far
    (rw c.closing.ensures at c.in_default.ensures) c.in-Some-item_at.ensures)

pub returns : goal.returns
returns c =
    let none : length c.args.text.now - c.items.counter ≡ 0 = omega arith in
    items_spent c.args.kind _ c.items.bytes c.items.rest.now
    (c.items.invariant ∙ ap (λ n. with_front c.items.bytes (items_within c.args.kind n c.items.rest.now)) none)
