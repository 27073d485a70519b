-- Parts of an image that are whole columns of whole rows: rectangles of damage (Wayland's
-- wl_surface.damage and damage_buffer) as they lie on a buffer.
use Rattle.std.specs.Prelude.{ℕ, ◌<◌, ◌≤◌, Bool, ◌&&◌, List}
use Rattle.std.specs.List.{list_any}
use Rattle.block_intervals.specs.Sets.{lies_within}
use Rattle.surface_damage.specs.declared.area.Area.{Area}
use Rattle.surface_damage.specs.declared.image.Image.{Image}

-- the pixel is in one of the columns and in one of the rows
abbrev pub holds_pixel : Area → ℕ → ℕ → Bool
holds_pixel area bx by =
    lies_within area.columns.first area.columns.end bx
    && lies_within area.rows.first area.rows.end by

-- the pixel is in one of the areas
abbrev pub some_holds : List Area → ℕ → ℕ → Bool
some_holds areas bx by = list_any (λ area. holds_pixel area bx by) areas

-- the column is one of some area's
abbrev pub some_column : List Area → ℕ → Bool
some_column areas bx =
    list_any (λ area. lies_within area.columns.first area.columns.end bx) areas

-- no column and no row goes past the image
abbrev pub IsWithin : Area → ℕ → ℕ → Type 0
IsWithin area width height = (area.columns.end ≤ width) × (area.rows.end ≤ height)

-- the area lies in the image and has a pixel
pub record IsPart (image : Image) (area : Area) : Type 0 where
  pub across : area.columns.first < area.columns.end
  pub columns_in : area.columns.end ≤ image.width
  pub down : area.rows.first < area.rows.end
  pub rows_in : area.rows.end ≤ image.height
