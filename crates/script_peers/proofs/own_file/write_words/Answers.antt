use Rattle.std.proofs.Common.{◌+◌, ap, sym, ◌∙◌, subst}
use Rattle.shm_pools.specs.Files.{FileState, after_write}
use Rattle.script_peers.specs.Holding.{IsRewritten}
use Rattle.script_peers.proofs.OwnLemmas.{rewritten_more, written_more}
use Rattle.script_peers.proofs.own_file.write_words.Goals as goal

pub loop-step-preserved : goal.loop-step-preserved
loop-step-preserved c = record {
  written = c.in-Ok.ensures.ok
      ∙ ap (λ (f : FileState). after_write f (c.args.first + c.loop-step.step) c.args.value) c.loop-step.invariant.written
      ∙ sym (written_more c.args.first c.loop-step.step c.args.value c.args.pen.now);
  same = subst (IsRewritten c.args.pen.now) (sym c.in-Ok.ensures.ok)
      (rewritten_more c.args.pen.now c.loop-step.pen (c.args.first + c.loop-step.step) c.args.value c.loop-step.invariant.same);
}
