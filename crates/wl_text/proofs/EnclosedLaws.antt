-- Bytes between quotes or brackets are read just as they are written.
use Rattle.std.proofs.Common.{◌≡◌, ℕ, zero, suc, ◌<◌, ◌≤◌, List, [], ◌∷◌, ◌++◌, length, Bool, true, false, cond, Option, Some, None, refl, sym, ap, ◌∙◌, subst, arith, append_assoc, length-append}
use Rattle.std.proofs.lemmas.List.Elements.{All-cons, All-head, All-nil, All-tail}
use Rattle.std.specs.List.{flat_map}
use Rattle.wl_wire.proofs.ArgPadding.{AreBytes}
use Rattle.wl_text.specs.declared.enclosed.Enclosure.{Enclosure}
use Rattle.wl_text.specs.declared.enclosed.Enclosure.TheVariants.{Quotes, Brackets}
use Rattle.wl_text.specs.Front.{◌>>=◌, behind}
use Rattle.wl_text.specs.Enclosed.{two_digits, is_marked, is_shown, opening, closing, item_text, item_at, enclosed_text, closed_or, with_byte, items_within, items_at, enclosed_at}
use Rattle.wl_text.proofs.FrontLaws.{some_same, then_some, map_some, behind_sound, behind_complete}
use Rattle.wl_text.proofs.ItemLaws.{item_sound, item_complete, item_goes_on}

-- the bytes and the closing one, and then the rest
abbrev pub closed_text : Enclosure → List ℕ → List ℕ → List ℕ
closed_text kind bytes rest = flat_map (item_text kind) bytes ++ (closing kind ∷ rest)

-- the text is these bytes up to the closing one, and then the rest
abbrev AreItems : Enclosure → List ℕ → List ℕ → List ℕ → Type 0
AreItems kind text rest bytes = (text ≡ closed_text kind bytes rest) × AreBytes bytes

items_more : (kind : Enclosure) (text after rest : List ℕ) (byte : ℕ) (bytes : List ℕ) → (text ≡ item_text kind byte ++ after) × (byte < 256) → AreItems kind after rest bytes → AreItems kind text rest (byte ∷ bytes)
items_more kind text after rest byte bytes one more = (
  one.0 ∙ ap (λ it. item_text kind byte ++ it) more.0 ∙ sym (append_assoc (item_text kind byte) (flat_map (item_text kind) bytes) (closing kind ∷ rest)),
  All-cons (λ it. it < 256) byte bytes one.1 more.1,
)

items_test : (kind : Enclosure) (most : ℕ) (closed : Option (List ℕ)) (text rest bytes : List ℕ) → ((text bytes : List ℕ) → items_within kind most text ≡ Some (bytes, rest) → AreItems kind text rest bytes) → behind (closing kind ∷ []) text ≡ closed → closed_or closed (item_at kind text >>= (λ one. with_byte one.0 (items_within kind most one.1))) ≡ Some (bytes, rest) → AreItems kind text rest bytes
items_test kind most (Some after) text rest bytes later is told =
    let same = some_same {X = List ℕ × List ℕ} ([], after) (bytes, rest) told in
    let none : [] ≡ bytes = ap (λ it. it.0) same in
    let behind : after ≡ rest = ap (λ it. it.1) same in (
      behind_sound (closing kind ∷ []) text after is ∙ ap (λ it. closing kind ∷ it) behind ∙ ap (λ it. closed_text kind it rest) none,
      subst AreBytes none (All-nil (λ it. it < 256)),
    )
items_test kind most None text rest bytes later is told =
    let one = then_some (item_at kind text) (λ one. with_byte one.0 (items_within kind most one.1)) (bytes, rest) told in
    let more = map_some (items_within kind most one.0.1) (λ it. (one.0.0 ∷ it.0, it.1)) (bytes, rest) one.2 in
    let whole : one.0.0 ∷ more.0.0 ≡ bytes = ap (λ it. it.0) more.2 in
    let behind : more.0.1 ≡ rest = ap (λ it. it.1) more.2 in
    let read : items_within kind most one.0.1 ≡ Some (more.0.0, rest) = more.1 ∙ ap (λ it. Some (more.0.0, it)) behind in
    subst (AreItems kind text rest) whole
    (items_more kind text one.0.1 rest one.0.0 more.0.0 (item_sound kind text one.0.1 one.0.0 one.1) (later one.0.1 more.0.0 read))

items_sound : (kind : Enclosure) (most : ℕ) (rest text bytes : List ℕ) → items_within kind most text ≡ Some (bytes, rest) → AreItems kind text rest bytes
unfolding items_within
items_sound kind zero rest text bytes told = cc told
items_sound kind (suc most) rest text bytes told =
    items_test kind most (behind (closing kind ∷ []) text) text rest bytes (items_sound kind most rest) refl told

items_complete : (kind : Enclosure) (most : ℕ) (bytes rest : List ℕ) → AreBytes bytes → length bytes < most → items_within kind most (closed_text kind bytes rest) ≡ Some (bytes, rest)
unfolding items_within
items_complete kind zero bytes rest small room = absurd (omega arith)
items_complete kind (suc most) [] rest small room = rw (behind_complete (closing kind ∷ []) rest) refl
items_complete kind (suc most) (byte ∷ bytes) rest small room =
    let one : byte < 256 = All-head (λ it. it < 256) byte bytes small in
    let after : List ℕ = closed_text kind bytes rest in
    let more = items_complete kind most bytes rest (All-tail (λ it. it < 256) byte bytes small) (omega arith) in
    rw (append_assoc (item_text kind byte) (flat_map (item_text kind) bytes) (closing kind ∷ rest), item_goes_on kind byte after one, item_complete kind byte after one, more) refl

-- bytes with what is around them
pub enclosed_sound : (kind : Enclosure) (text rest bytes : List ℕ) → enclosed_at kind text ≡ Some (bytes, rest) → (text ≡ enclosed_text kind bytes ++ rest) × AreBytes bytes
unfolding enclosed_at
enclosed_sound kind text rest bytes told =
    let first = then_some (behind (opening kind ∷ []) text) (items_at kind) (bytes, rest) told in
    let read = items_sound kind (length first.0) rest first.0 bytes first.2 in (
      behind_sound (opening kind ∷ []) text first.0 first.1 ∙ ap (λ it. opening kind ∷ it) read.0
          ∙ ap (λ it. opening kind ∷ it) (sym (append_assoc (flat_map (item_text kind) bytes) (closing kind ∷ []) rest)),
      read.1,
    )

text_long : (marked shown : Bool) (byte : ℕ) → 0 < length (cond marked (92 ∷ byte ∷ []) (cond shown (byte ∷ []) (92 ∷ 120 ∷ two_digits byte)))
text_long true shown byte = omega arith
text_long false true byte = omega arith
text_long false false byte = omega arith

item_long : (kind : Enclosure) (byte : ℕ) → 0 < length (item_text kind byte)
item_long Quotes byte = text_long (is_marked byte) (is_shown byte) byte
item_long Brackets byte = omega arith

items_long : (kind : Enclosure) (bytes : List ℕ) → length bytes ≤ length (flat_map (item_text kind) bytes)
items_long kind [] = omega arith
items_long kind (byte ∷ bytes) =
    let one = item_long kind byte in
    let more = items_long kind bytes in
    omega (arith, length-append (item_text kind byte) (flat_map (item_text kind) bytes))

pub enclosed_complete : (kind : Enclosure) (bytes rest : List ℕ) → AreBytes bytes → enclosed_at kind (enclosed_text kind bytes ++ rest) ≡ Some (bytes, rest)
unfolding enclosed_at
enclosed_complete kind bytes rest small =
    let after : List ℕ = closed_text kind bytes rest in
    let long = items_long kind bytes in
    let room : length bytes < length after = omega (arith, length-append (flat_map (item_text kind) bytes) (closing kind ∷ rest)) in
    rw (append_assoc (flat_map (item_text kind) bytes) (closing kind ∷ []) rest, behind_complete (opening kind ∷ []) after)
    (items_complete kind (length after) bytes rest small room)
