-- The areas of some damage, one request after another, and of the damage of commits.
use Rattle.std.proofs.Common.{◌≡◌, ℕ, ◌+◌, ◌-◌, ◌<◌, ◌≤◌, Bool, true, false, ◌&&◌, ◌||◌, List, [], ◌∷◌, ◌++◌, length, get_or, take, refl, ap, ◌∙◌, sym, arith}
use Rattle.std.specs.List.{All, list_any, flat_map}
use Rattle.std.proofs.lemmas.Bool.Decides.{nat_tests}
use Rattle.std.proofs.lemmas.List.{take_more, append-nil}
use Rattle.std.proofs.lemmas.Grind.{flat_map-append}
use Rattle.std.proofs.lemmas.List.Folds.{list_any-append, list_any_more}
use Rattle.block_intervals.specs.declared.run.Run.{Run}
use Rattle.block_intervals.specs.Sets.{has, lies_within}
use Rattle.surface_damage.specs.declared.area.Area.{Area}
use Rattle.surface_damage.specs.declared.rect.Damage.{Damage}
use Rattle.surface_damage.specs.declared.image.Image.{Image}
use Rattle.surface_damage.specs.declared.view.View.{View}
use Rattle.surface_damage.specs.Areas.{holds_pixel, some_holds, IsPart, IsWithin}
use Rattle.surface_damage.specs.History.{Committed}
use Rattle.surface_damage.specs.Views.{covers_in, some_covers}
use Rattle.surface_damage.proofs.ImageLemmas.{or_assoc, or_false}

-- all rows and all columns have every pixel
pub whole_pixels : (width height bx by : ℕ) → bx < width → by < height → (lies_within 0 height by && has bx (record { first = 0; end = width } ∷ [])) ≡ true
whole_pixels width height bx by across down =
    let row : lies_within 0 height by ≡ true = grind (arith, nat_tests) in
    let column : lies_within 0 width bx ≡ true = grind (arith, nat_tests) in
    ap (λ t. t && (lies_within 0 width bx || false)) row ∙ ap (λ t. t || false) column

-- one more request
pub covers_more : (view : View) (damages : List Damage) (i : ℕ) (d : Damage) (bx by : ℕ) (first old new held : Bool) → i < length damages → old ≡ (first || some_covers view (take i damages) bx by) → held ≡ covers_in view bx by (get_or damages i d) → new ≡ (old || held) → new ≡ (first || some_covers view (take (i + 1) damages) bx by)
covers_more view damages i d bx by first old new held within before is after =
    after ∙ ap (λ t. t || held) before ∙ ap (λ t. (first || some_covers view (take i damages) bx by) || t) is
    ∙ or_assoc first (some_covers view (take i damages) bx by) (covers_in view bx by (get_or damages i d))
    ∙ ap (λ t. first || t) (sym (list_any_more (covers_in view bx by) damages i d within))

-- the damage of one more commit
pub commits_more : (view : View) (commits : List Committed) (i : ℕ) (d : Committed) (bx by : ℕ) (first old new : Bool) → i < length commits → old ≡ (first || some_covers view (flat_map (λ (c : Committed). c.damage) (take i commits)) bx by) → new ≡ (old || some_covers view (get_or commits i d).damage bx by) → new ≡ (first || some_covers view (flat_map (λ (c : Committed). c.damage) (take (i + 1) commits)) bx by)
commits_more view commits i d bx by first old new within before after =
    let damage : Committed → List Damage = λ c. c.damage in
    let one : Committed = get_or commits i d in
    let both : flat_map damage (take (i + 1) commits) ≡ flat_map damage (take i commits) ++ one.damage =
    ap (flat_map damage) (take_more commits i d within) ∙ flat_map-append damage (take i commits) (one ∷ []) ∙ ap (λ t. flat_map damage (take i commits) ++ t) (append-nil one.damage) in
    after ∙ ap (λ t. t || some_covers view one.damage bx by) before
    ∙ or_assoc first (some_covers view (flat_map damage (take i commits)) bx by) (some_covers view one.damage bx by)
    ∙ ap (λ t. first || t) (sym (ap (λ list. some_covers view list bx by) both ∙ list_any-append (covers_in view bx by) (flat_map damage (take i commits)) one.damage))
