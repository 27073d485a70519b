-- Stretches of lists, and the eight bytes of one word among those of a row.
use Rattle.std.proofs.Common.{◌≡◌, ℕ, zero, suc, ◌+◌, ◌-◌, ◌*◌, ◌<◌, ◌≤◌, List, [], ◌∷◌, ◌++◌, length, get_or, take, drop, map, refl, sym, ap, ◌∙◌, arith}
use Rattle.std.proofs.lemmas.List.{take_at, drop_at, drop-drop, drop-take, take-take, take-map, drop-map}
use Rattle.std.specs.List.{slice_range}
use Rattle.transfer_frames.specs.Numbers.{long_bytes}
use Rattle.transfer_frames.proofs.NumberLaws.{length-long_bytes}
use Rattle.half_model.specs.Filling.{words_bytes}

-- two lists that are equal, cut behind fronts of one length
pub same_fronts : {X : Type 0} (xs ys zs ws : List X) → length xs ≡ length zs → xs ++ ys ≡ zs ++ ws → (xs ≡ zs) × (ys ≡ ws)
same_fronts xs ys zs ws len e = (
  sym (take_at xs ys (length xs) refl) ∙ ap (take (length xs)) e ∙ take_at zs ws (length xs) (sym len),
  sym (drop_at xs ys (length xs) refl) ∙ ap (drop (length xs)) e ∙ drop_at zs ws (length xs) (sym len),
)

-- what a list is made from, where its image has two parts
pub front_of_map : {X Y : Type 0} (f : X → Y) (zs : List X) (xs ys : List Y) → map f zs ≡ xs ++ ys → map f (take (length xs) zs) ≡ xs
front_of_map f zs xs ys e = sym (take-map f (length xs) zs) ∙ ap (take (length xs)) e ∙ take_at xs ys (length xs) refl

pub rest_of_map : {X Y : Type 0} (f : X → Y) (zs : List X) (xs ys : List Y) → map f zs ≡ xs ++ ys → map f (drop (length xs) zs) ≡ ys
rest_of_map f zs xs ys e = sym (drop-map f (length xs) zs) ∙ ap (drop (length xs)) e ∙ drop_at xs ys (length xs) refl

-- a stretch of a stretch
pub range_in_range : (xs : List ℕ) (from to low high : ℕ) → low ≤ high → from + high ≤ to
    → slice_range (slice_range xs from to) low high ≡ slice_range xs (from + low) (from + high)
range_in_range xs from to low high le fits =
    let split : to - from ≡ low + (to - from - low) = omega (arith, le, fits) in
    let count : (from + high) - (from + low) ≡ high - low = omega (arith, le) in
    ap (λ (n : ℕ). take (high - low) (drop low (take n (drop from xs)))) split
    ∙ ap (take (high - low)) (drop-take low (to - from - low) (drop from xs))
    ∙ take-take (high - low) (to - from - low) (drop low (drop from xs)) (omega (arith, le, fits))
    ∙ ap (take (high - low)) (drop-drop low from xs)
    ∙ ap (λ (n : ℕ). take n (drop (from + low) xs)) (sym count)

pub word_among : (words : List ℕ) (j : ℕ) → j < length words → slice_range (words_bytes words) (8 * j) (8 * (j + 1)) ≡ long_bytes (get_or words j 0)
word_among [] j l = absurd (omega (arith, l))
word_among (word ∷ words) zero l = take_at (long_bytes word) (words_bytes words) 8 (length-long_bytes word)
word_among (word ∷ words) (suc j) l =
    let start : 8 * suc j ≡ 8 + 8 * j = omega arith in
    let count : 8 * (suc j + 1) - 8 * suc j ≡ 8 * (j + 1) - 8 * j = omega arith in
    let all : List ℕ = long_bytes word ++ words_bytes words in
    ap (λ (n : ℕ). take n (drop (8 * suc j) all)) count
    ∙ ap (λ (n : ℕ). take (8 * (j + 1) - 8 * j) (drop n all)) start
    ∙ ap (take (8 * (j + 1) - 8 * j)) (sym (drop-drop (8 * j) 8 all))
    ∙ ap (λ (xs : List ℕ). take (8 * (j + 1) - 8 * j) (drop (8 * j) xs)) (drop_at (long_bytes word) (words_bytes words) 8 (length-long_bytes word))
    ∙ word_among words j (omega (arith, l))
