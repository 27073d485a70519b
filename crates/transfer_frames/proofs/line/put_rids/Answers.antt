use Rattle.std.proofs.Common.{◌≡◌, ◌++◌, List, get_or, ap, ◌∙◌, rules}
use Rattle.std.proofs.lemmas.List.{take_all}
use Rattle.std.specs.Prelude.{ℤ, pos, map}
use Rattle.std.specs.Int.{w32, cast_signed, cast_unsigned}
use Rattle.std.specs.Fmt.{signed_decimal}
use Rattle.transfer_frames.specs.FrameLines.{spaced}
use Rattle.transfer_frames.proofs.LineLemmas.{number_shown}
use Rattle.transfer_frames.proofs.line.put_rids.Goals as goal

pub loop-rid-preserved : goal.loop-rid-preserved
loop-rid-preserved c =
    let item : ℤ = get_or c.args.rids.now c.loop-rid.rid-index (pos 0) in
    let same : cast_signed w32 (cast_unsigned w32 (get_or c.args.rids.now c.loop-rid.rid-index (pos 0))) ≡ get_or c.args.rids.now c.loop-rid.rid-index (pos 0) = search rules in
    number_shown c.args.out.now.items c.loop-rid.out.items c.put_rid.new.out.items c.args.rids.now c.loop-rid.rid-index (pos 0) (cast_signed w32 (cast_unsigned w32 item))
    c.loop-rid.invariant c.loop-rid-test.true same c.in_ok-put_rid.ensures

pub returns : goal.returns
returns c =
    c.loop-rid.invariant
    ∙ ap (λ (xs : List ℤ). c.args.out.now.items ++ spaced (map signed_decimal xs)) (take_all c.loop-rid.rid-index c.args.rids.now c.loop-rid-test.false)
