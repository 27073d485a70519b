use Rattle.std.proofs.Common.{refl}
use Rattle.wl_wire.specs.Wire.{first, size_of, word_at}
use Rattle.wl_wire.specs.Arguments.{padding_of}
use Rattle.wl_wire.specs.ArgFaults.{span_of, word_size, object_size, array_size, string_size}
use Rattle.wl_wire.specs.Building.{word_bytes}
use Rattle.transfer_frames.specs.Numbers.{long_bytes}
use Rattle.surface_damage.specs.Images.{any_below}
use Rattle.half_model.specs.Turn.{turn}
use Rattle.half_model.proofs.rows.message_causes.Goals as goal

pub returns-clause-order : goal.returns-clause-order
unfolding turn first size_of word_at padding_of span_of word_size object_size array_size string_size word_bytes long_bytes any_below
returns-clause-order c = record { object = refl; missing = refl; kind = refl; sign = refl; file = refl; files = refl; again = refl }

pub returns-clause-notes : goal.returns-clause-notes
unfolding turn first size_of word_at padding_of span_of word_size object_size array_size string_size word_bytes long_bytes any_below
returns-clause-notes c = record { none = refl; short = refl; whole = refl; other = refl; second = refl }
