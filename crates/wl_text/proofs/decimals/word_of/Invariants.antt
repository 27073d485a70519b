use Rattle.std.proofs.Common.{◌≡◌, ◌^◌, ◌<◌, drop}
use Rattle.std.specs.Str.Parse.{digits_value, digits_value_after, AllDigits}
use Rattle.wl_text.proofs.decimals.word_of.Given as goal

-- the digits that are left complete the number
abbrev pub invariant-digits : goal.invariant-digits
invariant-digits l = record {
  digits : AllDigits 10 (drop l.digit-index l.digits);
  small : l.word < 2 ^ 32;
  complete : digits_value 10 l.digits ≡ digits_value_after 10 l.word (drop l.digit-index l.digits);
}
