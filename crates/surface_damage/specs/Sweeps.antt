-- How areas of an image stand to a row that goes down it: this project's own, over rectangles of
-- Wayland's damage.
use Rattle.std.specs.Prelude.{◌≡◌, ℕ, ◌<◌, ◌≤◌, ◌||◌, List}
use Rattle.std.specs.List.{All}
use Rattle.std.specs.List.Sorted.{IsNonDecreasingBy}
use Rattle.surface_damage.specs.declared.area.Area.{Area}
use Rattle.surface_damage.specs.declared.image.Image.{Image}
use Rattle.surface_damage.specs.Areas.{some_holds, IsPart}

-- the areas of the image that the row is in
pub record AreActive (image : Image) (row : ℕ) (areas : List Area) : Type 0 where
  pub parts : All (IsPart image) areas
  pub begun : All (λ area. area.rows.first ≤ row) areas
  pub unended : All (λ area. row < area.rows.end) areas

-- areas of the image, in the order of their first rows, none of which begins above the row
pub record AreWaiting (image : Image) (row : ℕ) (areas : List Area) : Type 0 where
  pub parts : All (IsPart image) areas
  pub order : IsNonDecreasingBy (λ area. area.rows.first) areas
  pub later : All (λ area. row ≤ area.rows.first) areas

-- these two lists of areas have together the pixels of those two
abbrev pub HaveSame : List Area → List Area → List Area → List Area → Type 0
HaveSame active waiting those these =
    (bx by : ℕ) → (some_holds active bx by || some_holds waiting bx by)
    ≡ (some_holds those bx by || some_holds these bx by)
