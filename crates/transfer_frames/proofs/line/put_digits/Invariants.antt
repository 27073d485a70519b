use Rattle.std.proofs.Common.{◌≡◌, ◌*◌, ◌++◌, length}
use Rattle.hex.specs.Hex.{encode_lower}
use Rattle.transfer_frames.proofs.line.put_digits.Given as goal

abbrev pub invariant-pieces : goal.invariant-pieces
invariant-pieces l =
    (l.initial.out.items ++ encode_lower l.bytes ≡ l.out.items ++ encode_lower l.rest) × (length l.digits ≡ 2 * 128)

abbrev pub decreases-pieces : goal.decreases-pieces
decreases-pieces l = length l.rest
