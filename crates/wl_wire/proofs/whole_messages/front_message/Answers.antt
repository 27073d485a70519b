use Rattle.std.proofs.Common.{◌≡◌, List, ℕ, take, subst, sym, ◌∙◌}
use Rattle.wl_wire.specs.Wire.{IsMessage}
use Rattle.wl_wire.proofs.FrontLemmas.{begins-found}
use Rattle.wl_wire.proofs.whole_messages.front_message.Goals as goal

pub from_whole-requires : goal.from_whole-requires
from_whole-requires c =
    let copied : take c.args.size c.args.bytes.now ≡ c.in_ok-front.front = sym (c.in_ok-front.ensures ∙ c.split_at.ensures.front) in
    let P : List ℕ → Type 0 = λ it. IsMessage it in
    subst P copied (begins-found c.args.bytes.now (take c.args.size c.args.bytes.now) c.requires.whole).is_message
