-- A worked row: the story of an application that draws one picture in shared memory, up to the
-- group of its wl_surface.commit, and the mirror at that message. The messages are those of
-- wayland.xml; files, copies and frames are this project's own.
use Rattle.std.specs.Prelude.{◌≡◌, ℕ, pos, List, [], ◌∷◌, ◌++◌, Some, None, codes}
use Rattle.block_intervals.specs.Statements.{counted}
use Rattle.wp_outside.specs.declared.kinds.HandleKind.TheVariants.{File}
use Rattle.wp_outside.specs.declared.kinds.Side.TheVariants.{Near}
use Rattle.transfer_frames.specs.declared.frame.Frame.{Frame}
use Rattle.transfer_frames.specs.declared.frame.Frame.TheVariants.{Protocol, Inject, OpenFile, Fill}
use Rattle.half_model.specs.declared.notes.CopyRecord.{CopyRecord}
use Rattle.half_model.specs.Filling.{words_bytes}
use Rattle.half_model.specs.Group.{Owed}
use Rattle.half_model.specs.Log.{Mark, Taken, Grouped}
use Rattle.half_model.specs.Rows.{get_registry, bind, create_surface, create_pool, create_buffer}
use Rattle.half_model.specs.Rows.{attach, damage_buffer, commit}
use Rattle.mirror_laws.specs.MirrorLaws.{IsUpTo, mirror_behind}

-- a message that makes no frame but its own
abbrev pub plain : List ℕ → List Mark
plain message = Taken message None [] ∷ Grouped (Protocol message ∷ []) [] ∷ []

-- the pool of a file of 128 bytes, which is passed for the first time
abbrev pub pool_made : List Mark
pool_made =
    Taken (create_pool 128) (Some (record { number = pos 1; kind = File })) []
    ∷ Grouped (OpenFile (pos 1) 128 ∷ Inject (pos 1 ∷ []) ∷ Protocol (create_pool 128) ∷ []) []
    ∷ []

abbrev pub opening : List Mark
opening =
    plain get_registry
    ++ (plain (bind 1 (codes "wl_compositor") 6 3)
    ++ (plain (bind 2 (codes "wl_shm") 1 4)
    ++ plain create_surface))

-- a buffer of 4 by 8 pixels, of which all are damaged; the file's eyes have 8 words each
abbrev pub drawing : List Mark
drawing =
    opening
    ++ (pool_made
    ++ (plain (create_buffer 4 8 16)
    ++ (plain attach
    ++ (plain (damage_buffer (pos 0) (pos 0) (pos 4) (pos 8))
    ++ Taken commit None (8 ∷ 8 ∷ []) ∷ []))))

-- what the commit owes
abbrev pub picture : Owed
picture = record {
  before = [];
  rid = pos 1;
  file = pos 1;
  pieces = record { first = 0; end = 2 } ∷ [];
  segments = 8 ∷ 8 ∷ [];
  shown = Some commit;
}

-- eight words of a segment, with values from one on
abbrev pub segment_copied : ℕ → ℕ → CopyRecord
segment_copied segment value = record {
  file = pos 1;
  segment = segment;
  first = 0;
  words = counted value 8;
  low = 2;
  high = 5;
}

abbrev pub both_copied : List CopyRecord
both_copied = segment_copied 0 1 ∷ segment_copied 1 9 ∷ []

-- the words of both segments, in one FILL
abbrev pub picture_bytes : List ℕ
picture_bytes = words_bytes (counted 1 16)

abbrev pub picture_fill : List Frame
picture_fill = Fill (pos 1) 0 128 picture_bytes ∷ []

-- the story leads up to the commit, at which the mirror has the words of both copies
pub record PictureDrawn : Type 0 where
  pub up_to : IsUpTo Near drawing picture both_copied picture_fill
  pub drawn : mirror_behind drawing picture_fill (pos 1) ≡ Some picture_bytes
