use Rattle.std.proofs.Common.{◌≡◌, ℕ, List, subst, sym, ap, ◌∙◌, arith}
use Rattle.wl_wire.specs.Wire.{IsMessage}
use Rattle.wl_wire.specs.Building.{built}
use Rattle.wl_wire.proofs.BuildingLemmas.{built-message}
use Rattle.wl_wire.proofs.building.build.Goals as goal

pub from_whole-requires : goal.from_whole-requires
from_whole-requires c =
    let same : built c.args.object c.args.opcode c.args.args.now ≡ c.in_ok-bytes.bytes =
    ap (λ args. built c.args.object c.args.opcode args) (sym c.as_slice.ensures) ∙ sym c.in_ok-bytes.ensures in
    let P : List ℕ → Type 0 = λ bytes. IsMessage bytes in
    subst P same (built-message c.args.object c.args.opcode c.args.args.now (omega arith) c.requires)
