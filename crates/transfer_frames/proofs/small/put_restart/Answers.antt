use Rattle.std.proofs.Common.{◌≡◌, ◌++◌, length, take, refl, sym, ap, ◌∙◌, arith}
use Rattle.transfer_frames.specs.Numbers.{word_bytes, long_bytes}
use Rattle.transfer_frames.proofs.SmallLaws.{spelling-restart, length-restart, four_writes, step}
use Rattle.transfer_frames.proofs.small.put_restart.Goals as goal

pub returns-clause-length : goal.returns-clause-length
returns-clause-length c = length-restart c.args.token c.args.connection c.args.received (omega arith)

pub returns-clause-bytes : goal.returns-clause-bytes
unfolding word_bytes long_bytes
returns-clause-bytes c =
    let len : length c.args.token ≡ 16 = omega arith in
    let one : take 4 c.put_at.new.out ≡ word_bytes 1041 = step c.put_at.new.out c.args.out.now 0 4 c.to_le_bytes.result (word_bytes 1041) (c.to_le_bytes.ensures ∙ ap word_bytes c.first_word.ensures) refl c.put_at.ensures.front in
    let two : take 20 c.put_at-2.new.out ≡ take 4 c.put_at.new.out ++ c.args.token = step c.put_at-2.new.out c.put_at.new.out 4 16 c.args.token c.args.token refl len c.put_at-2.ensures.front in
    let three : take 24 c.put_at-3.new.out ≡ take 20 c.put_at-2.new.out ++ word_bytes c.args.connection = step c.put_at-3.new.out c.put_at-2.new.out 20 4 c.to_le_bytes-2.result (word_bytes c.args.connection) c.to_le_bytes-2.ensures refl c.put_at-3.ensures.front in
    let four : take 32 c.put_at-4.new.out ≡ take 24 c.put_at-3.new.out ++ long_bytes c.args.received = step c.put_at-4.new.out c.put_at-3.new.out 24 8 c.to_le_bytes-3.result (long_bytes c.args.received) c.to_le_bytes-3.ensures refl c.put_at-4.ensures.front in
    four_writes (word_bytes 1041) c.args.token (word_bytes c.args.connection) (long_bytes c.args.received) (take 32 c.put_at-4.new.out) (take 4 c.put_at.new.out) (take 20 c.put_at-2.new.out) (take 24 c.put_at-3.new.out) one two three four
    ∙ sym (spelling-restart c.args.token c.args.connection c.args.received len)

pub returns-clause-rest : goal.returns-clause-rest
returns-clause-rest c =
    c.put_at-4.ensures.rest 32 (omega (arith, ap length c.to_le_bytes-3.ensures))
    ∙ c.put_at-3.ensures.rest 32 (omega (arith, ap length c.to_le_bytes-2.ensures))
    ∙ c.put_at-2.ensures.rest 32 (omega arith)
    ∙ c.put_at.ensures.rest 32 (omega (arith, ap length c.to_le_bytes.ensures))
