-- The story of a picture is computed from the bytes of its messages.
use Rattle.std.proofs.Common.{pos, [], refl, arith}
use Rattle.std.specs.Prelude.{codes}
use Rattle.surface_damage.specs.Images.{any_below}
use Rattle.wp_outside.specs.declared.kinds.Side.TheVariants.{Near}
use Rattle.wl_wire.specs.Wire.{IsMessage, size_of, word_at}
use Rattle.wl_wire.specs.Arguments.{padding_of}
use Rattle.wl_wire.specs.ArgFaults.{span_of, word_size, object_size, array_size, string_size}
use Rattle.wl_wire.specs.Building.{word_bytes}
use Rattle.transfer_frames.specs.Numbers.{long_bytes}
use Rattle.half_model.specs.Rows.{get_registry, bind, create_surface, create_pool, create_buffer, attach, damage_buffer, commit}
use Rattle.half_model.specs.StoryLaws.{IsStory}
use Rattle.mirror_laws.specs.StoryRow.{drawing, PictureDrawn}

-- ---- the messages

whole_get_registry : IsMessage get_registry
unfolding size_of word_at padding_of span_of word_size object_size array_size string_size word_bytes
whole_get_registry = record { has_header = omega arith; is_bounded = omega arith; is_padded = refl; is_counted = refl }

whole_bind_compositor : IsMessage (bind 1 (codes "wl_compositor") 6 3)
unfolding size_of word_at padding_of span_of word_size object_size array_size string_size word_bytes
whole_bind_compositor = record { has_header = omega arith; is_bounded = omega arith; is_padded = refl; is_counted = refl }

whole_bind_shm : IsMessage (bind 2 (codes "wl_shm") 1 4)
unfolding size_of word_at padding_of span_of word_size object_size array_size string_size word_bytes
whole_bind_shm = record { has_header = omega arith; is_bounded = omega arith; is_padded = refl; is_counted = refl }

whole_surface : IsMessage create_surface
unfolding size_of word_at padding_of span_of word_size object_size array_size string_size word_bytes
whole_surface = record { has_header = omega arith; is_bounded = omega arith; is_padded = refl; is_counted = refl }

whole_pool : IsMessage (create_pool 128)
unfolding size_of word_at padding_of span_of word_size object_size array_size string_size word_bytes
whole_pool = record { has_header = omega arith; is_bounded = omega arith; is_padded = refl; is_counted = refl }

whole_buffer : IsMessage (create_buffer 4 8 16)
unfolding size_of word_at padding_of span_of word_size object_size array_size string_size word_bytes
whole_buffer = record { has_header = omega arith; is_bounded = omega arith; is_padded = refl; is_counted = refl }

whole_attached : IsMessage attach
unfolding size_of word_at padding_of span_of word_size object_size array_size string_size word_bytes
whole_attached = record { has_header = omega arith; is_bounded = omega arith; is_padded = refl; is_counted = refl }

whole_damaged : IsMessage (damage_buffer (pos 0) (pos 0) (pos 4) (pos 8))
unfolding size_of word_at padding_of span_of word_size object_size array_size string_size word_bytes
whole_damaged = record { has_header = omega arith; is_bounded = omega arith; is_padded = refl; is_counted = refl }

whole_committed : IsMessage commit
unfolding size_of word_at padding_of span_of word_size object_size array_size string_size word_bytes
whole_committed = record { has_header = omega arith; is_bounded = omega arith; is_padded = refl; is_counted = refl }

-- ---- the story

drawn : IsStory Near drawing
unfolding size_of word_at padding_of span_of word_size object_size array_size string_size word_bytes long_bytes any_below
drawn = (
  record { whole = whole_get_registry; owes_none = refl; goes_on = refl; passes = refl },
  (
    record { are_parts = refl; is = refl },
    (
      record { whole = whole_bind_compositor; owes_none = refl; goes_on = refl; passes = refl },
      (
        record { are_parts = refl; is = refl },
        (
          record { whole = whole_bind_shm; owes_none = refl; goes_on = refl; passes = refl },
          (
            record { are_parts = refl; is = refl },
            (
              record { whole = whole_surface; owes_none = refl; goes_on = refl; passes = refl },
              (
                record { are_parts = refl; is = refl },
                (
                  record { whole = whole_pool; owes_none = refl; goes_on = refl; passes = refl },
                  (
                    record { are_parts = refl; is = refl },
                    (
                      record { whole = whole_buffer; owes_none = refl; goes_on = refl; passes = refl },
                      (
                        record { are_parts = refl; is = refl },
                        (
                          record { whole = whole_attached; owes_none = refl; goes_on = refl; passes = refl },
                          (
                            record { are_parts = refl; is = refl },
                            (
                              record { whole = whole_damaged; owes_none = refl; goes_on = refl; passes = refl },
                              (
                                record { are_parts = refl; is = refl },
                                (
                                  record { whole = whole_committed; owes_none = refl; goes_on = refl; passes = refl },
                                  tt,
                                ),
                              ),
                            ),
                          ),
                        ),
                      ),
                    ),
                  ),
                ),
              ),
            ),
          ),
        ),
      ),
    ),
  ),
)

pub picture_drawn : PictureDrawn
unfolding size_of word_at padding_of span_of word_size object_size array_size string_size word_bytes long_bytes any_below
picture_drawn = record {
  up_to = record { is_story = drawn; owes = refl; message = commit; later = []; is_group = record { are_parts = refl; is = refl } };
  drawn = refl;
}
