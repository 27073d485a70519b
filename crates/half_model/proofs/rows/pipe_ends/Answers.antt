use Rattle.std.proofs.Common.{refl}
use Rattle.wl_wire.specs.Wire.{first, cut, cut_within, size_of, word_at}
use Rattle.wl_wire.specs.Arguments.{padding_of}
use Rattle.wl_wire.specs.ArgFaults.{span_of, word_size, object_size, array_size, string_size}
use Rattle.wl_wire.specs.Building.{word_bytes}
use Rattle.transfer_frames.specs.Numbers.{long_bytes}
use Rattle.surface_damage.specs.Images.{any_below}
use Rattle.half_model.specs.Turn.{turn}
use Rattle.half_model.proofs.rows.pipe_ends.Goals as goal

pub returns-clause-writer : goal.returns-clause-writer
unfolding turn first cut cut_within size_of word_at padding_of span_of word_size object_size array_size string_size word_bytes long_bytes any_below
returns-clause-writer c = record { early = refl; number = refl; held = refl; twice = refl; behind = refl }

pub returns-clause-reader : goal.returns-clause-reader
unfolding turn first cut cut_within size_of word_at padding_of span_of word_size object_size array_size string_size word_bytes long_bytes any_below
returns-clause-reader c = record { rid = refl; number = refl; twice = refl }

pub returns-clause-end : goal.returns-clause-end
unfolding turn first cut cut_within size_of word_at padding_of span_of word_size object_size array_size string_size word_bytes long_bytes any_below
returns-clause-end c = record { before = refl; behind = refl }

pub returns-clause-dropped : goal.returns-clause-dropped
unfolding turn first cut cut_within size_of word_at padding_of span_of word_size object_size array_size string_size word_bytes long_bytes any_below
returns-clause-dropped c = record { once = refl; behind = refl }
