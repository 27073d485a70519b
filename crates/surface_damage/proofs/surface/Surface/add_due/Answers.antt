use Rattle.std.proofs.Common.{◌∙◌, ap, sym}
use Rattle.surface_damage.specs.declared.image.Image.{Image}
use Rattle.surface_damage.proofs.DueLemmas.{bytes_after, fits_words}
use Rattle.surface_damage.proofs.surface.Surface.add_due.Goals as goal

pub returns-else-is_four_byte : goal.returns-else-is_four_byte
returns-else-is_four_byte c =
    bytes_after c.add_bytes.result c.args.self.now c.args.key c.args.buffer.now c.args.told c.of.result.offset c.from.result c.args.blocks.now c.add_bytes.new.blocks
    (ap (λ (i : Image). i.offset) c.of.ensures) c.from.ensures (sym c.if-is_four_byte.false ∙ c.is_four_byte.ensures) (fits_words c.args.buffer.now c.args.told c.requires) c.add_bytes.ensures
