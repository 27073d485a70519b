use Rattle.std.proofs.Common.{◌*◌, length, drop, sym, ◌∙◌, arith, length-append, length-drop, length-take}
use Rattle.transfer_frames.proofs.LineLemmas.{piece_written, all_written}
use Rattle.transfer_frames.proofs.line.put_digits.Goals as goal

pub pieces-preserved : goal.pieces-preserved
pieces-preserved c = (
  piece_written _ c.pieces.out.items c.extend_from_slice.new.self.items c.pieces.rest.now c.split_at.result.0.now c.split_at.result.1.now c.encode_to_slice.new.output _
      c.pieces.invariant.0 c.split_at.ensures.front c.split_at.ensures.back c.in-Ok.ensures.written c.in_ok-extend_from_slice-in-Ok.ensures.items,
  omega (arith, length-append c.encode_to_slice.new.output (drop (2 * length c.split_at.result.0.now) c.pieces.digits), length-drop (2 * length c.split_at.result.0.now) c.pieces.digits, c.encode_to_slice.auto.output, length-take (2 * length c.split_at.result.0.now) c.pieces.digits, c.split_at.ensures.front_len, c.min.ensures, c.pieces.invariant.1),
)

pub returns : goal.returns
returns c = all_written _ c.pieces.out.items c.pieces.rest.now c.pieces.invariant.0 (sym c.is_empty.ensures ∙ c.pieces-test.false)
