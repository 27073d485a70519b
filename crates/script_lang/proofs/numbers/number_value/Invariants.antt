use Rattle.std.proofs.Common.{◌≡◌, ◌^◌, ◌<◌, drop}
use Rattle.script_lang.specs.Numbers.{value_after}
use Rattle.script_lang.proofs.numbers.number_value.Given as goal

-- what stands behind the digits so far makes the value complete
abbrev pub invariant-loop-digit : goal.invariant-loop-digit
invariant-loop-digit l = record {
  fits : l.value < 2 ^ 64;
  complete : value_after l.value (drop l.digit-index l.digits) ≡ value_after 0 l.digits;
}
