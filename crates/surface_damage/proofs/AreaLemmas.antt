-- A rectangle's two sides, each along the side of the image that it lies on.
use Rattle.std.proofs.Common.{◌≡◌, ℕ, ◌/◌, Bool, true, false, ◌&&◌, ap, ◌∙◌, sym, refl, arith}
use Rattle.block_intervals.specs.Sets.{lies_within}
use Rattle.surface_damage.specs.declared.rect.Rect.{Rect}
use Rattle.surface_damage.specs.declared.rect.Side.{Side}
use Rattle.surface_damage.specs.declared.area.Area.{Area}
use Rattle.surface_damage.specs.Pixels.{Place, in_span, in_rect}
use Rattle.surface_damage.specs.Areas.{holds_pixel}

and_comm : (x y : Bool) → (x && y) ≡ (y && x)
and_comm true true = refl
and_comm true false = refl
and_comm false true = refl
and_comm false false = refl

-- the two sides of a rectangle
pub record AreSides (rect : Rect) (across down : Side) : Type 0 where
  pub across_is : across ≡ record { low = rect.x; length = rect.w }
  pub down_is : down ≡ record { low = rect.y; length = rect.h }

along : (side other : Side) (n : ℕ) → side ≡ other → in_span side.low side.length n ≡ in_span other.low other.length n
along side other n is = ap (λ (s : Side). in_span s.low s.length n) is

-- its width lies along the rows of the image
pub straight : (area : Area) (rect : Rect) (across down : Side) (scale bx by : ℕ) (at here : Place) → AreSides rect across down → at ≡ here → lies_within area.columns.first area.columns.end bx ≡ in_span across.low across.length (here.u / scale) → lies_within area.rows.first area.rows.end by ≡ in_span down.low down.length (here.v / scale) → holds_pixel area bx by ≡ in_rect rect (at.u / scale) (at.v / scale)
straight area rect across down scale bx by at here sides is columns rows =
    ap (λ t. t && lies_within area.rows.first area.rows.end by) (columns ∙ along across (record { low = rect.x; length = rect.w }) (here.u / scale) sides.across_is)
    ∙ ap (λ t. in_span rect.x rect.w (here.u / scale) && t) (rows ∙ along down (record { low = rect.y; length = rect.h }) (here.v / scale) sides.down_is)
    ∙ ap (λ (p : Place). in_rect rect (p.u / scale) (p.v / scale)) (sym is)

-- its width lies along the columns
pub crossed : (area : Area) (rect : Rect) (across down : Side) (scale bx by : ℕ) (at here : Place) → AreSides rect across down → at ≡ here → lies_within area.columns.first area.columns.end bx ≡ in_span down.low down.length (here.v / scale) → lies_within area.rows.first area.rows.end by ≡ in_span across.low across.length (here.u / scale) → holds_pixel area bx by ≡ in_rect rect (at.u / scale) (at.v / scale)
crossed area rect across down scale bx by at here sides is columns rows =
    ap (λ t. t && lies_within area.rows.first area.rows.end by) (columns ∙ along down (record { low = rect.y; length = rect.h }) (here.v / scale) sides.down_is)
    ∙ ap (λ t. in_span rect.y rect.h (here.v / scale) && t) (rows ∙ along across (record { low = rect.x; length = rect.w }) (here.u / scale) sides.across_is)
    ∙ and_comm (in_span rect.y rect.h (here.v / scale)) (in_span rect.x rect.w (here.u / scale))
    ∙ ap (λ (p : Place). in_rect rect (p.u / scale) (p.v / scale)) (sym is)

by_one : (n : ℕ) → n / 1 ≡ n
by_one n = omega arith

-- in the buffer's own pixels
pub plain : (area : Area) (rect : Rect) (across down : Side) (bx by : ℕ) → AreSides rect across down → lies_within area.columns.first area.columns.end bx ≡ in_span across.low across.length (bx / 1) → lies_within area.rows.first area.rows.end by ≡ in_span down.low down.length (by / 1) → holds_pixel area bx by ≡ in_rect rect bx by
plain area rect across down bx by sides columns rows =
    straight area rect across down 1 bx by (record { u = bx; v = by }) (record { u = bx; v = by }) sides refl columns rows
    ∙ ap (λ t. in_rect rect t (by / 1)) (by_one bx) ∙ ap (λ t. in_rect rect bx t) (by_one by)
