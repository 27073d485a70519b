-- The bytes of a string and of an array are read just as they are written.
use Rattle.std.proofs.Common.{◌≡◌, ◌≢◌, ℕ, ◌+◌, ◌*◌, ◌/◌, ◌%◌, ◌<◌, ◌==◌, ◌&&◌, List, [], ◌∷◌, ◌++◌, Bool, true, false, not, cond, Some, None, refl, sym, ap, ◌∙◌, subst, arith}
use Rattle.std.proofs.lemmas.Bool.{eqb-true}
use Rattle.std.proofs.lemmas.Bool.Decides.{nat_tests}
use Rattle.wl_text.specs.declared.enclosed.Enclosure.{Enclosure}
use Rattle.wl_text.specs.declared.enclosed.Enclosure.TheVariants.{Quotes, Brackets}
use Rattle.wl_text.specs.Front.{Read, ◌>>=◌, behind}
use Rattle.wl_text.specs.Enclosed.{digit, digit_number, two_digits, two_digits_at, is_marked, is_shown, byte_text, hidden, escape_at, byte_at, closing, item_text, item_at}
use Rattle.wl_text.proofs.FrontLaws.{some_same, then_some, behind_other}

digit_read : (number : ℕ) → number < 16 → digit_number (digit number) ≡ Some number
digit_read number small = grind (arith, nat_tests)

digit_written : (byte number : ℕ) → digit_number byte ≡ Some number → (byte ≡ digit number) × (number < 16)
digit_written byte number told = grind (arith, nat_tests)

pub two_sound : (text rest : List ℕ) (byte : ℕ) → two_digits_at text ≡ Some (byte, rest) → (text ≡ two_digits byte ++ rest) × (byte < 256)
two_sound [] rest byte told = cc told
two_sound (high ∷ []) rest byte told = cc told
two_sound (high ∷ low ∷ text) rest byte told =
    let upper = then_some (digit_number high) _ (byte, rest) told in
    let lower = then_some (digit_number low) _ (byte, rest) upper.2 in
    let is = some_same (16 * upper.0 + lower.0, text) (byte, rest) lower.2 in
    let value : 16 * upper.0 + lower.0 ≡ byte = ap (λ it. it.0) is in
    let behind : text ≡ rest = ap (λ it. it.1) is in
    let a = digit_written high upper.0 upper.1 in
    let b = digit_written low lower.0 lower.1 in
    let first : upper.0 ≡ byte / 16 = omega (arith, a.1, b.1, value) in
    let second : lower.0 ≡ byte % 16 = omega (arith, a.1, b.1, value) in (
      ap (λ it. it ∷ low ∷ text) (a.0 ∙ ap digit first) ∙ ap (λ it. digit (byte / 16) ∷ it ∷ text) (b.0 ∙ ap digit second) ∙ ap (λ it. two_digits byte ++ it) behind,
      omega (arith, a.1, b.1, value),
    )

two_complete : (byte : ℕ) (rest : List ℕ) → byte < 256 → two_digits_at (two_digits byte ++ rest) ≡ Some (byte, rest)
two_complete byte rest small =
    let upper = digit_read (byte / 16) (omega arith) in
    let lower = digit_read (byte % 16) (omega arith) in
    let value : 16 * (byte / 16) + byte % 16 ≡ byte = omega arith in
    rw (upper, lower) (ap (λ n. Some (n, rest)) value)

-- how each kind of byte is written
pub marked_text : (byte : ℕ) → is_marked byte ≡ true → byte_text byte ≡ 92 ∷ byte ∷ []
marked_text byte is = rw is refl

pub shown_text : (byte : ℕ) → is_marked byte ≡ false → is_shown byte ≡ true → byte_text byte ≡ byte ∷ []
shown_text byte other is = rw (other, is) refl

pub hidden_text : (byte : ℕ) → is_marked byte ≡ false → is_shown byte ≡ false → byte_text byte ≡ 92 ∷ 120 ∷ two_digits byte
hidden_text byte other not_shown = rw (other, not_shown) refl

-- a quote and a backslash are shown
marked_shown : (byte : ℕ) → is_shown byte ≡ false → is_marked byte ≡ false
marked_shown byte not_shown = grind (arith, nat_tests)

marked_small : (byte : ℕ) → is_marked byte ≡ true → byte < 256
marked_small byte is = grind (arith, nat_tests)

shown_small : (byte : ℕ) → is_shown byte ≡ true → byte < 256
shown_small byte is = grind (arith, nat_tests)

plain_marked : (byte : ℕ) → (byte == 92) ≡ false → (byte == 34) ≡ false → is_marked byte ≡ false
plain_marked byte no_slash no_quote = rw (no_slash, no_quote) refl

-- the text is this byte's, and then the rest
abbrev IsByte : List ℕ → List ℕ → ℕ → Type 0
IsByte text rest byte = (text ≡ byte_text byte ++ rest) × (byte < 256)

hidden_sound : (test : Bool) (found : ℕ × List ℕ) (rest : List ℕ) (byte : ℕ) → is_shown found.0 ≡ test → cond test None (Some found) ≡ Some (byte, rest) → (is_shown found.0 ≡ false) × (found ≡ (byte, rest))
hidden_sound true found rest byte is told = cc told
hidden_sound false found rest byte is told = (is, some_same found (byte, rest) told)

digits_sound : (text rest : List ℕ) (byte : ℕ) → (two_digits_at text >>= hidden) ≡ Some (byte, rest) → IsByte (92 ∷ 120 ∷ text) rest byte
digits_sound text rest byte told =
    let found = then_some (two_digits_at text) hidden (byte, rest) told in
    let is = hidden_sound (is_shown found.0.0) found.0 rest byte refl found.2 in
    let value : found.0.0 ≡ byte = ap (λ it. it.0) is.1 in
    let behind : found.0.1 ≡ rest = ap (λ it. it.1) is.1 in
    let read = two_sound text found.0.1 found.0.0 found.1 in
    let not_shown : is_shown byte ≡ false = ap is_shown (sym value) ∙ is.0 in (
      ap (λ it. 92 ∷ 120 ∷ it) read.0 ∙ ap (λ it. 92 ∷ 120 ∷ two_digits it ++ found.0.1) value ∙ ap (λ it. 92 ∷ 120 ∷ two_digits byte ++ it) behind
          ∙ ap (λ it. it ++ rest) (sym (hidden_text byte (marked_shown byte not_shown) not_shown)),
      omega (arith, read.1, value),
    )

escape_test : (marked is_x : Bool) (first : ℕ) (text rest : List ℕ) (byte : ℕ) → is_marked first ≡ marked → (first == 120) ≡ is_x → cond marked (Some (first, text)) (cond is_x (two_digits_at text >>= hidden) None) ≡ Some (byte, rest) → IsByte (92 ∷ first ∷ text) rest byte
escape_test true is_x first text rest byte is x told =
    let same = some_same (first, text) (byte, rest) told in
    let value : first ≡ byte = ap (λ it. it.0) same in
    let behind : text ≡ rest = ap (λ it. it.1) same in
    let marked : is_marked byte ≡ true = ap is_marked (sym value) ∙ is in
    (ap (λ it. 92 ∷ it ∷ text) value ∙ ap (λ it. 92 ∷ byte ∷ it) behind ∙ ap (λ it. it ++ rest) (sym (marked_text byte marked)), marked_small byte marked)
escape_test false true first text rest byte is x told =
    let value : first ≡ 120 = eqb-true first 120 x in
    subst (λ it. IsByte (92 ∷ it ∷ text) rest byte) (sym value) (digits_sound text rest byte told)
escape_test false false first text rest byte is x told = cc told

escape_sound : (text rest : List ℕ) (byte : ℕ) → escape_at text ≡ Some (byte, rest) → IsByte (92 ∷ text) rest byte
escape_sound [] rest byte told = cc told
escape_sound (first ∷ text) rest byte told = escape_test (is_marked first) (first == 120) first text rest byte refl refl told

plain_test : (shown quote : Bool) (first : ℕ) (text rest : List ℕ) (byte : ℕ) → (first == 92) ≡ false → is_shown first ≡ shown → (first == 34) ≡ quote → cond {A = Read ℕ} (shown && not quote) (Some (first, text)) None ≡ Some (byte, rest) → IsByte (first ∷ text) rest byte
plain_test true false first text rest byte slash shown quote told =
    let same = some_same (first, text) (byte, rest) told in
    let value : first ≡ byte = ap (λ it. it.0) same in
    let behind : text ≡ rest = ap (λ it. it.1) same in
    let is : is_shown byte ≡ true = ap is_shown (sym value) ∙ shown in
    let other : is_marked byte ≡ false = ap is_marked (sym value) ∙ plain_marked first slash quote in
    (ap (λ it. it ∷ text) value ∙ ap (λ it. byte ∷ it) behind ∙ ap (λ it. it ++ rest) (sym (shown_text byte other is)), shown_small byte is)
plain_test true true first text rest byte slash shown quote told = cc told
plain_test false quote first text rest byte slash shown is told = cc told

byte_test : (slash : Bool) (first : ℕ) (text rest : List ℕ) (byte : ℕ) → (first == 92) ≡ slash → cond slash (escape_at text) (cond (is_shown first && not (first == 34)) (Some (first, text)) None) ≡ Some (byte, rest) → IsByte (first ∷ text) rest byte
byte_test true first text rest byte slash told =
    let value : first ≡ 92 = eqb-true first 92 slash in
    subst (λ it. IsByte (it ∷ text) rest byte) (sym value) (escape_sound text rest byte told)
byte_test false first text rest byte slash told = plain_test (is_shown first) (first == 34) first text rest byte slash refl refl told

byte_sound : (text rest : List ℕ) (byte : ℕ) → byte_at text ≡ Some (byte, rest) → IsByte text rest byte
byte_sound [] rest byte told = cc told
byte_sound (first ∷ text) rest byte told = byte_test (first == 92) first text rest byte refl told

-- what is written is read, and does not begin with a quote
record IsRead (byte : ℕ) (rest : List ℕ) : Type 0 where
  reads : byte_at (byte_text byte ++ rest) ≡ Some (byte, rest)
  goes_on : behind (34 ∷ []) (byte_text byte ++ rest) ≡ None

read_test : (marked shown : Bool) (byte : ℕ) (rest : List ℕ) → byte < 256 → is_marked byte ≡ marked → is_shown byte ≡ shown → IsRead byte rest
read_test true shown byte rest small is shows =
    let written : byte_text byte ++ rest ≡ 92 ∷ byte ∷ rest = ap (λ it. it ++ rest) (marked_text byte is) in
    record {
      reads = ap byte_at written ∙ rw is refl;
      goes_on = ap (behind (34 ∷ [])) written ∙ behind_other 34 [] 92 (byte ∷ rest) (omega arith);
    }
read_test false true byte rest small is shows =
    let written : byte_text byte ++ rest ≡ byte ∷ rest = ap (λ it. it ++ rest) (shown_text byte is shows) in
    let no_slash : (byte == 92) ≡ false = grind (arith, nat_tests) in
    let no_quote : (byte == 34) ≡ false = grind (arith, nat_tests) in
    let other : byte ≢ 34 = grind (arith, nat_tests) in
    record {
      reads = ap byte_at written ∙ rw (no_slash, shows, no_quote) refl;
      goes_on = ap (behind (34 ∷ [])) written ∙ behind_other 34 [] byte rest other;
    }
read_test false false byte rest small is shows =
    let written : byte_text byte ++ rest ≡ 92 ∷ 120 ∷ two_digits byte ++ rest = ap (λ it. it ++ rest) (hidden_text byte is shows) in
    record {
      reads = ap byte_at written ∙ rw (two_complete byte rest small, shows) refl;
      goes_on = ap (behind (34 ∷ [])) written ∙ behind_other 34 [] 92 (120 ∷ two_digits byte ++ rest) (omega arith);
    }

-- one byte of either kind
pub item_sound : (kind : Enclosure) (text rest : List ℕ) (byte : ℕ) → item_at kind text ≡ Some (byte, rest) → (text ≡ item_text kind byte ++ rest) × (byte < 256)
item_sound Quotes text rest byte told = byte_sound text rest byte told
item_sound Brackets text rest byte told = two_sound text rest byte told

pub item_complete : (kind : Enclosure) (byte : ℕ) (rest : List ℕ) → byte < 256 → item_at kind (item_text kind byte ++ rest) ≡ Some (byte, rest)
item_complete Quotes byte rest small = (read_test (is_marked byte) (is_shown byte) byte rest small refl refl).reads
item_complete Brackets byte rest small = two_complete byte rest small

no_bracket : (number : ℕ) → number < 16 → digit number ≢ 93
no_bracket number small = grind (arith, nat_tests)

pub item_goes_on : (kind : Enclosure) (byte : ℕ) (rest : List ℕ) → byte < 256 → behind (closing kind ∷ []) (item_text kind byte ++ rest) ≡ None
item_goes_on Quotes byte rest small = (read_test (is_marked byte) (is_shown byte) byte rest small refl refl).goes_on
item_goes_on Brackets byte rest small = behind_other 93 [] (digit (byte / 16)) (digit (byte % 16) ∷ rest) (no_bracket (byte / 16) (omega arith))
