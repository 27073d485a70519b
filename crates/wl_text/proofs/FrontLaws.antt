-- What the readers of a text's front give: a word, and the bytes before a byte.
use Rattle.std.proofs.Common.{◌≡◌, ◌≢◌, ℕ, suc, ◌+◌, ◌==◌, List, [], ◌∷◌, ◌++◌, length, take, drop, get_or, Bool, true, false, not, cond, nat_lt, Option, Some, None, option_map, option_and_then, refl, sym, ap, ◌∙◌, arith, take-append-drop, length-append}
use Rattle.std.proofs.lemmas.Bool.{eqb-true, ne_eqb, and_parts}
use Rattle.std.proofs.lemmas.Bool.Decides.{nat_tests}
use Rattle.std.proofs.lemmas.List.{take_at, drop_at, drop_more, append_assoc}
use Rattle.std.proofs.lemmas.List.Quantifiers.{position-Some}
use Rattle.std.proofs.lemmas.Slice.Eq.{bytes_eq-Decides}
use Rattle.std.specs.List.{list_all, position, position_or_len}
use Rattle.std.specs.Str.{bytes_eq}
use Rattle.wl_text.specs.Front.{behind, split_before}

-- what a chosen value tells of the choice
pub if_some : {X : Type 0} (test : Bool) (x y : X) → cond test (Some x) None ≡ Some y → (test ≡ true) × (x ≡ y)
if_some true x y chosen = (refl, cc chosen)
if_some false x y chosen = cc chosen

pub some_same : {X : Type 0} (x y : X) → Some x ≡ Some y → x ≡ y
some_same x y same = cc same

-- what a chain that gave a value tells of its steps
pub then_some : {X Y : Type 0} (first : Option X) (next : X → Option Y) (y : Y) → option_and_then next first ≡ Some y → (x : X) × (first ≡ Some x) × (next x ≡ Some y)
then_some (Some x) next y told = (x, refl, told)
then_some None next y told = cc told

pub map_some : {X Y : Type 0} (first : Option X) (f : X → Y) (y : Y) → option_map f first ≡ Some y → (x : X) × (first ≡ Some x) × (f x ≡ y)
map_some (Some x) f y told = (x, refl, cc told)
map_some None f y told = cc told

-- a word at the front
pub behind_sound : (word text rest : List ℕ) → behind word text ≡ Some rest → text ≡ word ++ rest
unfolding behind
behind_sound word text rest told =
    let found = if_some (bytes_eq (take (length word) text) word) (drop (length word) text) rest told in
    let front = (bytes_eq-Decides (take (length word) text) word).0 found.0 in
    sym (take-append-drop (length word) text) ∙ ap (λ it. it ++ drop (length word) text) front ∙ ap (λ it. word ++ it) found.1

pub behind_complete : (word rest : List ℕ) → behind word (word ++ rest) ≡ Some rest
unfolding behind
behind_complete word rest =
    let front : take (length word) (word ++ rest) ≡ word = take_at word rest (length word) refl in
    let same : bytes_eq (take (length word) (word ++ rest)) word ≡ true = (bytes_eq-Decides (take (length word) (word ++ rest)) word).1 front in
    rw (same, drop_at word rest (length word) refl)

-- the bytes before a byte
pub split_sound : (stop : ℕ) (text front rest : List ℕ) → split_before stop text ≡ Some (front, rest) → text ≡ front ++ (stop ∷ rest)
split_sound stop text front rest told =
    let found = map_some (position (λ byte. byte == stop) text) (λ at. (take at text, drop (at + 1) text)) (front, rest) told in
    let at = position-Some (λ byte. byte == stop) text found.0 0 found.1 in
    let here : get_or text found.0 0 ≡ stop = eqb-true (get_or text found.0 0) stop at.1 in
    let parts : take found.0 text ++ (get_or text found.0 0 ∷ drop (found.0 + 1) text) ≡ text = ap (λ it. take found.0 text ++ it) (sym (drop_more text found.0 0 at.0)) ∙ take-append-drop found.0 text in
    let fronts : take found.0 text ≡ front = ap (λ it. it.0) found.2 in
    let rests : drop (found.0 + 1) text ≡ rest = ap (λ it. it.1) found.2 in
    sym parts ∙ ap (λ it. it ++ (get_or text found.0 0 ∷ drop (found.0 + 1) text)) fronts
    ∙ ap (λ it. front ++ (it ∷ drop (found.0 + 1) text)) here ∙ ap (λ it. front ++ (stop ∷ it)) rests

-- none of the bytes is like this one
abbrev pub lacks : ℕ → List ℕ → Bool
lacks stop bytes = list_all (λ byte. not (byte == stop)) bytes

lacks_len : (stop : ℕ) (front rest : List ℕ) → lacks stop front ≡ true → position_or_len (λ byte. byte == stop) (front ++ (stop ∷ rest)) ≡ length front
lacks_len stop [] rest none = grind (arith, nat_tests)
lacks_len stop (byte ∷ front) rest none =
    let parts = and_parts (not (byte == stop)) (lacks stop front) none in
    let more = lacks_len stop front rest parts.1 in
    rw parts.0 (omega (arith, more))

pub split_complete : (stop : ℕ) (front rest : List ℕ) → lacks stop front ≡ true → split_before stop (front ++ (stop ∷ rest)) ≡ Some (front, rest)
split_complete stop front rest none =
    let whole : List ℕ = front ++ (stop ∷ rest) in
    let len : position_or_len (λ byte. byte == stop) whole ≡ length front = lacks_len stop front rest none in
    let long : length whole ≡ length front + suc (length rest) = length-append front (stop ∷ rest) in
    let inside : nat_lt (length front) (length whole) ≡ true = grind (arith, nat_tests) in
    let place : position (λ byte. byte == stop) whole ≡ Some (length front) = rw (len, inside) refl in
    let pieces : drop (length front + 1) whole ≡ rest =
    ap (drop (length front + 1)) (sym (append_assoc front (stop ∷ []) rest)) ∙ drop_at (front ++ stop ∷ []) rest (length front + 1) (length-append front (stop ∷ [])) in
    let fronts : take (length front) whole ≡ front = take_at front (stop ∷ rest) (length front) refl in
    rw (place, fronts, pieces) refl

-- another byte at the front
pub behind_other : (stop : ℕ) (word : List ℕ) (first : ℕ) (rest : List ℕ) → first ≢ stop → behind (stop ∷ word) (first ∷ rest) ≡ None
unfolding behind
behind_other stop word first rest other = rw (ne_eqb first stop other)
