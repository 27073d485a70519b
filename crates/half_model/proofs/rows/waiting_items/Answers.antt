use Rattle.std.proofs.Common.{refl}
use Rattle.wl_wire.specs.Wire.{first, cut, cut_within, size_of, word_at}
use Rattle.wl_wire.specs.Arguments.{padding_of}
use Rattle.wl_wire.specs.ArgFaults.{span_of, word_size, object_size, array_size, string_size}
use Rattle.wl_wire.specs.Building.{word_bytes}
use Rattle.transfer_frames.specs.Numbers.{long_bytes}
use Rattle.surface_damage.specs.Images.{any_below}
use Rattle.half_model.specs.Turn.{turn}
use Rattle.half_model.proofs.rows.waiting_items.Goals as goal

pub returns : goal.returns
unfolding turn first cut cut_within size_of word_at padding_of span_of word_size object_size array_size string_size word_bytes long_bytes any_below
returns c = record { between = refl; behind = refl; note = refl; oldest = refl }
