use Rattle.std.proofs.Common.{◌∙◌, sym, ap, arith}
use Rattle.pair_model.specs.RingState.{ring_new}
use Rattle.reconnect.proofs.CountLemmas.{one_more}
use Rattle.reconnect.proofs.counts.Counts.on_counted.Goals as goal

pub invariant_of-self : goal.invariant_of-self
invariant_of-self c =
    let few = one_more ring_new c.args.self.now c.args.is_close (sym (c.refuses.ensures ring_new c.args.is_close) ∙ c.in-None.is) in
    record {
      accepted_few = omega (arith, few, ap (λ t. t.accepted) c.self.view_is);
      sent_few = c.self.invariant.sent_few;
      none_early = c.self.invariant.none_early;
    }
