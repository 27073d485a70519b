use Rattle.std.proofs.Common.{◌∙◌, ap, sym, Option}
use Rattle.block_intervals.specs.Sets.{has}
use Rattle.surface_damage.specs.declared.history.BufferKey.{BufferKey}
use Rattle.surface_damage.specs.DueBytes.{is_due, due_if_attached}
use Rattle.surface_damage.specs.History.{SurfaceState}
use Rattle.surface_damage.specs.Images.{holds}
use Rattle.surface_damage.proofs.AnyLemmas.{holds_none}
use Rattle.surface_damage.proofs.surface.Surface.due_blocks.Goals as goal

pub returns-in-Nothing : goal.returns-in-Nothing
returns-in-Nothing c = λ block.
    ap (has block) c.new-blocks.ensures ∙ sym (ap (λ s. holds (is_due c.args.self.now s) block) c.in-Nothing.is ∙ holds_none block)

pub returns-in-None : goal.returns-in-None
returns-in-None c = λ block.
    ap (has block) c.new-blocks.ensures
    ∙ sym (ap (λ s. holds (is_due c.args.self.now s) block) c.in-Fits.is
    ∙ ap (λ (o : Option BufferKey). holds (due_if_attached c.args.self.now o c.in-Fits.buffer c.in-Fits.told) block) (sym (ap (λ (t : SurfaceState). t.attached) c.self.view_is) ∙ c.in-None.is) ∙ holds_none block)
