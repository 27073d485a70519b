-- An image as a surface shows it: where it lies, its scale and its transform (Wayland's
-- wl_surface.set_buffer_scale and set_buffer_transform).
use Rattle.std.specs.Prelude.{ℕ, ◌<◌, Bool, List}
use Rattle.std.specs.List.{list_any}
use Rattle.surface_damage.specs.declared.rect.Damage.{Damage}
use Rattle.surface_damage.specs.declared.view.View.{View}
use Rattle.surface_damage.specs.Images.{LiesIn}
use Rattle.surface_damage.specs.Pixels.{covers}

-- the image lies in its file, and the scale is one
pub record IsShown (view : View) : Type 0 where
  pub lies : LiesIn view.image view.told
  pub some : 0 < view.scale

-- the damage covers the pixel
abbrev pub covers_in : View → ℕ → ℕ → Damage → Bool
covers_in view bx by damage =
    covers damage view.scale view.transform view.image.width view.image.height bx by

-- some of the damage does
abbrev pub some_covers : View → List Damage → ℕ → ℕ → Bool
some_covers view damages bx by = list_any (covers_in view bx by) damages
