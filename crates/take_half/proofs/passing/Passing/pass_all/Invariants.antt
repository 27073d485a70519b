use Rattle.std.proofs.Common.{◌≡◌}
use Rattle.std.specs.Vec.Iter.{into_iter_items}
use Rattle.half_model.specs.Content.{pass_all}
use Rattle.take_half.specs.Passages.{passage}
use Rattle.take_half.proofs.passing.Passing.pass_all.Given as goal

-- the messages that are left come to what all came to at first
abbrev pub invariant-loop-message : goal.invariant-loop-message
invariant-loop-message l = record {
  told : pass_all l.way l.handles l.fn.messages (passage l.initial.objects.tracked l.initial.self)
      ≡ pass_all l.way l.handles (into_iter_items l.message-iterator) (passage l.objects.tracked l.self);
  hidden : l.objects.hidden ≡ l.initial.objects.hidden;
}
