-- What the words of a copy stand for.
use Rattle.std.proofs.Common.{◌≡◌, ℕ, zero, suc, ◌+◌, ◌<◌, List, [], ◌∷◌, length, get_or, refl, ap, ◌∙◌, subst, arith}
use Rattle.std.specs.Prelude.{slice_index}
use Rattle.std.proofs.lemmas.List.{get_or-map, length-map}
use Rattle.pool_words.specs.Views.{load, sight, sights}
use Rattle.pool_words.specs.History.{HasStood}
use Rattle.pool_words.specs.declared.views.Load.{Load}
use Rattle.pool_words.specs.declared.views.Sight.{Sight}
use Rattle.copy_workers.specs.Laws.{SettledWordsStood}

length_sights : (first : ℕ) (words : List ℕ) → length (sights first words) ≡ length words
length_sights first [] = refl
length_sights first (w ∷ words) = ap suc (length_sights (first + 1) words)

-- the load of a place of a row
sight_at : (first i : ℕ) (words : List ℕ) (d : Sight) → i < length words → get_or (sights first words) i d ≡ sight (first + i) (slice_index words i)
sight_at first i [] d lt = absurd (omega arith)
sight_at first zero (w ∷ words) d lt = ap (λ (n : ℕ). sight n w) (omega arith)
sight_at first (suc i) (w ∷ words) d lt =
    sight_at (first + 1) i words d (omega arith) ∙ ap (λ (n : ℕ). sight n (slice_index words i)) (omega arith)

pub settled_words_stood : SettledWordsStood
settled_words_stood history first low i words receipt stands stood lt =
    let seen : List Sight = sights first words in
    let s : Sight = sight (first + i) (slice_index words i) in
    let d : Load = load low receipt.high s in
    let long : i < length receipt.loads = omega (arith, lt, ap length stands, length-map seen (load low receipt.high), length_sights first words) in
    let here : get_or receipt.loads i d ≡ d =
    ap (λ (ls : List Load). get_or ls i d) stands
    ∙ get_or-map (load low receipt.high) seen i s d (omega (arith, lt, length_sights first words))
    ∙ ap (load low receipt.high) (sight_at first i words s lt) in
    (subst (HasStood history) here (stood i d long)).1
