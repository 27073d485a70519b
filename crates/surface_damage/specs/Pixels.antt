-- Which pixel of a buffer a rectangle of damage covers, from Wayland's core protocol
-- (wl_surface.damage, damage_buffer, set_buffer_scale, set_buffer_transform and
-- wl_output.transform), over whole numbers that never wrap.
use Rattle.std.specs.Prelude.{ℕ, zero, suc, ◌-◌, ◌/◌, Bool, ◌&&◌, ◌==◌, if◌then◌else◌}
use Rattle.std.specs.Prelude.{ℤ, pos, negsuc, ◌+ℤ◌, int_lt, int_le}
use Rattle.surface_damage.specs.declared.rect.Rect.{Rect}
use Rattle.surface_damage.specs.declared.rect.Damage.{Damage}
use Rattle.surface_damage.specs.declared.rect.Damage.TheVariants.{InBuffer, InSurface}
use Rattle.surface_damage.specs.declared.transform.Transform.{Transform}
use Rattle.surface_damage.specs.declared.transform.Transform.TheVariants.{Normal, Turned90}
use Rattle.surface_damage.specs.declared.transform.Transform.TheVariants.{Turned180, Turned270}
use Rattle.surface_damage.specs.declared.transform.Transform.TheVariants.{Flipped, FlippedTurned90}
use Rattle.surface_damage.specs.declared.transform.Transform.TheVariants.{FlippedTurned180}
use Rattle.surface_damage.specs.declared.transform.Transform.TheVariants.{FlippedTurned270}

-- the scale that a request sets: 0 or less counts as 1
abbrev pub scale_of : ℤ → ℕ
scale_of (pos (suc n)) = suc n
scale_of (pos zero) = 1
scale_of (negsuc n) = 1

-- the transform of a number of wl_output.transform
abbrev pub numbered : ℕ → Transform
numbered n =
    if n == 1 then Turned90
    else if n == 2 then Turned180
    else if n == 3 then Turned270
    else if n == 4 then Flipped
    else if n == 5 then FlippedTurned90
    else if n == 6 then FlippedTurned180
    else if n == 7 then FlippedTurned270
    else Normal

-- the transform that a request sets: another number than 0 to 7 counts as 0
abbrev pub transform_of : ℤ → Transform
transform_of (pos n) = numbered n
transform_of (negsuc n) = Normal

-- a place on the surface, in buffer pixels
pub record Place : Type 0 where
  pub u : ℕ
  pub v : ℕ

-- where pixel (bx, by) of a buffer of `width` by `height` pixels is on the surface
abbrev pub place : Transform → ℕ → ℕ → ℕ → ℕ → Place
place Normal width height bx by = record { u = bx; v = by }
place Turned90 width height bx by = record { u = height - 1 - by; v = bx }
place Turned180 width height bx by = record { u = width - 1 - bx; v = height - 1 - by }
place Turned270 width height bx by = record { u = by; v = width - 1 - bx }
place Flipped width height bx by = record { u = width - 1 - bx; v = by }
place FlippedTurned90 width height bx by = record { u = by; v = bx }
place FlippedTurned180 width height bx by = record { u = bx; v = height - 1 - by }
place FlippedTurned270 width height bx by = record { u = height - 1 - by; v = width - 1 - bx }

-- the number lies from `low` on and before `low` + `length`
abbrev pub in_span : ℤ → ℤ → ℕ → Bool
in_span low length n = int_le low (pos n) && int_lt (pos n) (low +ℤ length)

-- the point lies in the rectangle
abbrev pub in_rect : Rect → ℕ → ℕ → Bool
in_rect rect x y = in_span rect.x rect.w x && in_span rect.y rect.h y

-- the damage covers pixel (bx, by) of a buffer shown with this scale and transform
abbrev pub covers : Damage → ℕ → Transform → ℕ → ℕ → ℕ → ℕ → Bool
covers (InBuffer rect) scale transform width height bx by = in_rect rect bx by
covers (InSurface rect) scale transform width height bx by =
    let at = place transform width height bx by in in_rect rect (at.u / scale) (at.v / scale)
