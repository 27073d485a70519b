use Rattle.std.proofs.Common.{◌≡◌, ◌+◌, ◌*◌, ◌<◌, ◌≤◌, true, false, length, drop, get_or, Bool, Ok, Err, refl, sym, ap, ◌∙◌, arith}
use Rattle.std.specs.List.{list_all}
use Rattle.hex.specs.Hex.{pair_value}
use Rattle.hex.proofs.Pairs.{decode_step, decode_done}
use Rattle.script_lang.specs.Kinds.{is_lower_digit}
use Rattle.script_lang.proofs.DigitLemmas.{both_digits, pair_digits, pair_left, pairs_decoded}
use Rattle.script_lang.proofs.digits.decode_into.Goals as goal

pub pairs-preserved : goal.pairs-preserved
pairs-preserved c =
    let digits = c.args.digits.now in
    let i = c.pairs.i in
    let fits : 2 * i + 1 < length digits = omega arith in
    let both = both_digits (get_or digits (2 * i) 0) (get_or digits (2 * i + 1) 0) _ _ c.digit_number.ensures.other c.digit_number-in-pairs.ensures.other (omega arith) in
    let pair = pair_digits (get_or digits (2 * i) 0) (get_or digits (2 * i + 1) 0) (2 * i) _ _ (c.digit_number.ensures.digit both.0).0 (c.digit_number-in-pairs.ensures.digit both.1).0 in
    record {
      bytes = decode_step digits c.pairs.bytes i _ fits (omega arith) pair c.pairs.invariant.bytes;
      digits = c.pairs.invariant.digits ∙ pair_left digits i fits both.0 both.1;
    }

pub returns-clause-bytes : goal.returns-clause-bytes
returns-clause-bytes c all =
    let digits = c.args.digits.now in
    pairs_decoded digits c.pairs.bytes (omega arith) (decode_done digits c.pairs.bytes c.pairs.i (omega arith) (omega arith) c.pairs.invariant.bytes)
