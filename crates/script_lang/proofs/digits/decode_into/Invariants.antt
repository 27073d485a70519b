use Rattle.std.proofs.Common.{◌≡◌, ◌*◌, take, drop}
use Rattle.std.specs.List.{list_all}
use Rattle.hex.specs.Hex.{decode_pairs}
use Rattle.hex.proofs.Pairs.{prepend}
use Rattle.script_lang.specs.Kinds.{is_lower_digit}
use Rattle.script_lang.proofs.digits.decode_into.Given as goal

-- the digits so far are read, and all are digits if those that are left are
abbrev pub invariant-pairs : goal.invariant-pairs
invariant-pairs l = record {
  bytes : decode_pairs 0 l.digits ≡ prepend (take l.i l.bytes) (decode_pairs (2 * l.i) (drop (2 * l.i) l.digits));
  digits : list_all is_lower_digit l.digits ≡ list_all is_lower_digit (drop (2 * l.i) l.digits);
}
