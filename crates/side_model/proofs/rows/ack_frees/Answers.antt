use Rattle.std.proofs.Common.{refl}
use Rattle.wl_wire.specs.Wire as wire
use Rattle.wl_wire.specs.Building as building
use Rattle.wl_wire.specs.ArgFaults as arguments
use Rattle.wl_wire.specs.Arguments as paddings
use Rattle.transfer_frames.specs.Faults as faults
use Rattle.transfer_frames.specs.Front as fronts
use Rattle.transfer_frames.specs.Grammar as grammar
use Rattle.transfer_frames.specs.Numbers as numbers
use Rattle.surface_damage.specs.Images as images
use Rattle.half_model.specs.Turn as turns
use Rattle.side_model.specs.Due.{next, work, hear, group, treat, end, choose}
use Rattle.side_model.specs.Steps.{step}
use Rattle.side_model.proofs.rows.ack_frees.Goals as goal

pub returns : goal.returns
unfolding step next work hear group treat end choose turns.turn images.any_below
    fronts.front fronts.frame_in faults.body_fault faults.first_fault faults.word_fault grammar.type_at grammar.spelling
    numbers.word_bytes numbers.word_of numbers.long_bytes numbers.long_of numbers.rid_bytes numbers.rid_of
    wire.first wire.size_of wire.word_at wire.cut wire.cut_rest wire.cut_within building.word_bytes
    arguments.word_size arguments.object_size arguments.array_size arguments.string_size arguments.span_of paddings.padding_of
returns c = record { waits = refl; frees = refl }
