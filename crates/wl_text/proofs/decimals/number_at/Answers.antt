use Rattle.std.proofs.Common.{rules}
use Rattle.wl_text.specs.Decimals.{number_at}
use Rattle.wl_text.proofs.Digits.{front_digits}
use Rattle.wl_text.proofs.decimals.number_at.Goals as goal

pub word_of-requires : goal.word_of-requires
word_of-requires c = let h = front_digits c.args.text.now in rw (c.split_at.ensures.front, c.digit_count.ensures.count) h

pub returns-in_err-number : goal.returns-in_err-number
unfolding number_at
returns-in_err-number c = search rules

pub returns-then-eq : goal.returns-then-eq
unfolding number_at
returns-then-eq c = search rules

pub returns-else-eq : goal.returns-else-eq
unfolding number_at
returns-else-eq c = search rules
