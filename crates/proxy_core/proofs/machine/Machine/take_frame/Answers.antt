-- A frame is taken out of the bytes read.
use Rattle.std.proofs.Common.{◌∙◌, sym, ap, refl}
use Rattle.std.specs.Prelude.{option_map}
use Rattle.side_model.specs.State.{Now}
use Rattle.proxy_core.specs.Hearing.{popped}
use Rattle.proxy_core.specs.Inside.{here_of}
use Rattle.proxy_core.proofs.Hearings.{popped_is, popped_less}
use Rattle.proxy_core.proofs.machine.Machine.take_frame.Goals as goal

pub returns-in-Ok-Some : goal.returns-in-Ok-Some
returns-in-Ok-Some c =
    let it = c.self.inside in
    let link = c.in-Some.link in
    let is_link = c.in-Some.is in
    record {
      here = here_of it.ring it.counts link;
      is_here = ap (λ (s : Now). s.live.here) (sym c.self.view_is) ∙ ap (option_map (here_of it.ring it.counts)) is_link;
      stands = rw c.in-Ok-Some.field-0-is at c.in-Ok-Some.ensures.exact;
      is_frame = rw c.in-Ok-Some.field-0-is at c.in-Ok-Some.ensures.whole;
      connection = refl;
      place = c.place.ensures;
      new_is = popped_is it link c.in-Ok-Some.frame c.next_frame.new.self is_link (rw c.in-Ok-Some.field-0-is at c.in-Ok-Some.ensures.rest) (rw c.in-Ok-Some.field-0-is at c.in-Ok-Some.ensures.place)
          ∙ ap (popped c.in-Ok-Some.frame) c.self.view_is;
      less = popped_less it link c.in-Ok-Some.frame c.next_frame.new.self c.args.self.now c.self.view_is is_link (rw c.in-Ok-Some.field-0-is at c.in-Ok-Some.ensures.rest);
    }
