-- The lines of a text, seen from its first line feed, and what a search for a separator tells.
use Rattle.std.proofs.Common.{◌≡◌, ℕ, ◌<◌, ◌≤◌, true, false, eqb, cond, List, [], ◌∷◌, Option, Some, None, length, unwrap_or, refl, ap, ◌∙◌, subst, arith}
use Rattle.std.proofs.lemmas.Bool.{false_from_ne_true}
use Rattle.std.proofs.Common.{suc, zero, take, drop}
use Rattle.memchr.specs.Find.{IsFirstByte, NoneBefore, Passes, is_byte}
use Rattle.script_lang.specs.Fields.{one_of, two_of, three_of, four_of}
use Rattle.std.proofs.Common.{option_map, sym}
use Rattle.script_lang.specs.Pieces.{front, behind, lines, fields, fields_behind, onto_first}

-- a text that isn't empty is its first line, and then the lines of what stands behind the first line feed
lines_cons : (byte : ℕ) (bytes : List ℕ) → lines (byte ∷ bytes) ≡ front 10 (byte ∷ bytes) ∷ lines (unwrap_or (behind 10 (byte ∷ bytes)) [])
lines_cons byte [] = elim (eqb byte 10) as (λ b. cond b ([] ∷ lines []) (onto_first byte (lines [])) ≡ cond b [] (byte ∷ front 10 []) ∷ lines (unwrap_or (cond b (Some []) (behind 10 [])) []))
    [ true ↦ refl | false ↦ refl ]
lines_cons byte (next ∷ bytes) = elim (eqb byte 10) as (λ b. cond b ([] ∷ lines (next ∷ bytes)) (onto_first byte (lines (next ∷ bytes))) ≡ cond b [] (byte ∷ front 10 (next ∷ bytes)) ∷ lines (unwrap_or (cond b (Some (next ∷ bytes)) (behind 10 (next ∷ bytes))) []))
    [ true ↦ refl | false ↦ ap (onto_first byte) (lines_cons next bytes) ]

pub lines_cut : (text : List ℕ) → 0 < length text → lines text ≡ front 10 text ∷ lines (unwrap_or (behind 10 text) [])
lines_cut [] some = absurd (omega arith)
lines_cut (byte ∷ bytes) some = lines_cons byte bytes

behind_cons : (separator byte : ℕ) (bytes : List ℕ) → length (unwrap_or (behind separator (byte ∷ bytes)) []) ≤ length bytes
behind_cons separator byte [] = elim (eqb byte separator) as (λ b. length (unwrap_or (cond b (Some []) (behind separator [])) []) ≤ 0)
    [ true ↦ omega arith | false ↦ omega arith ]
behind_cons separator byte (next ∷ bytes) = elim (eqb byte separator) as (λ b. length (unwrap_or (cond b (Some (next ∷ bytes)) (behind separator (next ∷ bytes))) []) ≤ length (next ∷ bytes))
    [ true ↦ omega arith | false ↦ omega (arith, behind_cons separator next bytes) ]

-- what stands behind a separator is shorter
pub behind_shorter : (separator : ℕ) (text : List ℕ) → 0 < length text → length (unwrap_or (behind separator text) []) < length text
behind_shorter separator [] some = absurd (omega arith)
behind_shorter separator (byte ∷ bytes) some = omega (arith, behind_cons separator byte bytes)

-- the same where it is known what stands behind it
pub lines_some : (text rest : List ℕ) → 0 < length text → behind 10 text ≡ Some rest → lines text ≡ front 10 text ∷ lines rest
lines_some text rest some is = lines_cut text some ∙ ap (λ o. front 10 text ∷ lines (unwrap_or o [])) is

pub lines_none : (text : List ℕ) → 0 < length text → behind 10 text ≡ None → lines text ≡ front 10 text ∷ []
lines_none text some is = lines_cut text some ∙ ap (λ o. front 10 text ∷ lines (unwrap_or o [])) is

pub some_shorter : (text rest : List ℕ) → 0 < length text → behind 10 text ≡ Some rest → length rest < length text
some_shorter text rest some is = subst (λ (o : Option (List ℕ)). length (unwrap_or o []) < length text) is (behind_shorter 10 text some)

-- fields are those up to the first space, and those behind it
pub fields_cut : (text : List ℕ) → fields text ≡ front 32 text ∷ fields_behind (behind 32 text)
fields_cut [] = refl
fields_cut (byte ∷ bytes) = elim (eqb byte 32) as (λ b. cond b ([] ∷ fields bytes) (onto_first byte (fields bytes)) ≡ cond b [] (byte ∷ front 32 bytes) ∷ fields_behind (cond b (Some bytes) (behind 32 bytes)))
    [ true ↦ refl | false ↦ ap (onto_first byte) (fields_cut bytes) ]

-- a search for a separator that finds none
pub cut_none : (separator : ℕ) (bytes : List ℕ) → IsFirstByte (is_byte separator) bytes None
    → (front separator bytes ≡ bytes) × (behind separator bytes ≡ None)
cut_none separator [] nowhere = (refl, refl)
cut_none separator (byte ∷ bytes) nowhere =
    let other : eqb byte separator ≡ false = false_from_ne_true (eqb byte separator) (nowhere 0 (omega arith) (omega arith)) in
    let later = cut_none separator bytes (λ k low inside. nowhere (suc k) (omega arith) (omega arith)) in
    rw (other, later.0, later.1) (refl, refl)

-- one that finds it at a place
pub cut_some : (separator : ℕ) (bytes : List ℕ) (at : ℕ) → IsFirstByte (is_byte separator) bytes (Some at)
    → (front separator bytes ≡ take at bytes) × (behind separator bytes ≡ Some (drop (suc at) bytes))
cut_some separator [] at found = absurd (omega (arith, found.0.high))
cut_some separator (byte ∷ bytes) zero found = let here : eqb byte separator ≡ true = found.1 in rw here (refl, refl)
cut_some separator (byte ∷ bytes) (suc at) found =
    let other : eqb byte separator ≡ false = false_from_ne_true (eqb byte separator) (found.0.before 0 (omega arith) (omega arith)) in
    let first : NoneBefore (Passes (is_byte separator) bytes) 0 (length bytes) at = record { low = omega arith; high = omega (arith, found.0.high); before = λ k low inside. found.0.before (suc k) (omega arith) (omega arith) } in
    let later = cut_some separator bytes at (first, found.1) in
    rw (other, later.0, later.1) (refl, refl)

-- a field that nothing stands behind
abbrev pub alone : List ℕ → Option (List ℕ) → Option (List ℕ)
alone first None = Some first
alone first (Some rest) = None

-- the fields behind a word, of which the first was cut off
module _ (given : Option (List ℕ)) (text first : List ℕ) (others : Option (List ℕ)) where
  cut_fields : given ≡ Some text → first ≡ front 32 text → others ≡ behind 32 text → fields_behind given ≡ first ∷ fields_behind others
  cut_fields is before after = ap fields_behind is ∙ fields_cut text ∙ ap (λ it. it ∷ fields_behind (behind 32 text)) (sym before) ∙ ap (λ it. first ∷ fields_behind it) (sym after)

  pub two_cut : given ≡ Some text → first ≡ front 32 text → others ≡ behind 32 text → two_of (fields_behind given) ≡ option_map (λ b. (first, b)) (one_of (fields_behind others))
  two_cut is before after = ap two_of (cut_fields is before after)

  pub three_cut : given ≡ Some text → first ≡ front 32 text → others ≡ behind 32 text → three_of (fields_behind given) ≡ option_map (λ it. (first, it.0, it.1)) (two_of (fields_behind others))
  three_cut is before after = ap three_of (cut_fields is before after)

  pub four_cut : given ≡ Some text → first ≡ front 32 text → others ≡ behind 32 text → four_of (fields_behind given) ≡ option_map (λ it. (first, it.0, it.1, it.2)) (three_of (fields_behind others))
  four_cut is before after = ap four_of (cut_fields is before after)

-- a field with none behind it, and one with others
one_of_cut : (first : List ℕ) (others : Option (List ℕ)) → one_of (first ∷ fields_behind others) ≡ alone first others
one_of_cut first None = refl
one_of_cut first (Some rest) = ap (λ it. one_of (first ∷ it)) (fields_cut rest)

pub one_cut : (given : Option (List ℕ)) (text first : List ℕ) (others : Option (List ℕ)) → given ≡ Some text → first ≡ front 32 text → others ≡ behind 32 text → one_of (fields_behind given) ≡ alone first others
one_cut given text first others is before after = ap one_of (cut_fields given text first others is before after) ∙ one_of_cut first others
