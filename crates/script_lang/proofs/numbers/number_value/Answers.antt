use Rattle.std.proofs.Common.{◌≡◌, ◌+◌, ◌-◌, ◌*◌, ◌<◌, length, drop, get_or, arith, ◌∙◌, sym}
use Rattle.std.proofs.lemmas.List.{at_drop_more}
use Rattle.script_lang.specs.Numbers.{number_value, value_after}
use Rattle.script_lang.proofs.NumberLemmas.{value_after_grows}
use Rattle.script_lang.proofs.numbers.number_value.Goals as goal

pub returns-then-more-from : goal.returns-then-more-from
returns-then-more-from c =
    let digits = c.args.digits.now in
    let i = c.loop-digit.digit-index in
    let value = c.loop-digit.value in
    let more = 10 * value + (get_or digits i 0 - 48) in
    let inside : i < length digits = omega arith in
    let same : number_value digits ≡ value_after more (drop (i + 1) digits) =
    sym c.loop-digit.invariant.complete ∙ at_drop_more (λ rest. value_after value rest) digits i 0 inside in
    let grows = value_after_grows more (drop (i + 1) digits) in
    λ small. omega (arith, same, grows, c.from.ensures, c.saturating_sub.ensures, c.from-in-loop-digit.ensures, c.from-in-loop-digit-2.ensures)
