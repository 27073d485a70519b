use Rattle.std.proofs.Common.{◌≡◌, ◌∙◌, sym, ap, subst, take, Ok, Some, None, ℕ, List}
use Rattle.wl_wire.specs.Wire.{first, IsMessage}
use Rattle.wl_wire.proofs.FrontLemmas.{begins-found, waits-found}
use Rattle.wl_wire.proofs.framer.Framer.next_message.Goals as goal

pub from_whole-requires : goal.from_whole-requires
from_whole-requires c =
    let front : List ℕ = c.as_slice-front.result.now in
    let told : first front ≡ Ok (Some (take c.in-Some.size front)) = rw c.in-Some.is at c.in_ok-message_size.ensures.exact in
    let copied : take c.in-Some.size front ≡ c.in_ok-bytes-in-Some.bytes = sym (c.in_ok-bytes-in-Some.ensures ∙ c.split_at.ensures.front) in
    subst IsMessage copied (begins-found front (take c.in-Some.size front) told).is_message

pub returns-in-None-clause-stops : goal.returns-in-None-clause-stops
returns-in-None-clause-stops c = λ _.
    let same : c.as_slice-front.result.now ≡ c.args.self.now = c.as_slice-front.ensures ∙ c.self.view_is in
    let told : first c.as_slice-front.result.now ≡ Ok None = rw c.in-None.is at c.in_ok-message_size.ensures.exact in
    (waits-found c.args.self.now (ap first (sym same) ∙ told)).no_message
