-- The words of a file and their bytes. A write of a word is in the segment that has it: the first segment
-- either has the word, or is left as it is while the write goes on in the others. Bytes go likewise: the
-- first word has the first eight, and the others those behind it.
use Rattle.std.proofs.Common.{◌≡◌, ◌≢◌, ℕ, zero, suc, ◌+◌, ◌-◌, ◌*◌, ◌/◌, ◌%◌, ◌^◌, ◌<◌, ◌≤◌, List, [], ◌∷◌, ◌++◌, length, set, sym, refl, ap, ◌∙◌, arith, Bool, if◌then◌else◌, length-append}
use Rattle.std.specs.Prelude.{sum, replicate, slice_index}
use Rattle.std.specs.Int.{to_le_bytes}
use mir.Syntax.{w64}
use native.Mathlib.Decide.{dec_le}
use Rattle.std.proofs.lemmas.List.{set-append_left, append-nil, get_or_append_left, get_or-append-add}
use Rattle.std.proofs.lemmas.Grind.{flat_map-append}
use Rattle.std.proofs.lemmas.Bool.{lt-ltb, le-ltb}
use Rattle.pool_words.specs.declared.views.Write.{Write}
use Rattle.pool_words.specs.History.{at}
use Rattle.pool_words.specs.Views.{PenState, write, wrote}
use Rattle.pool_words.proofs.Histories.{at_end_same, at_end_other}
use Rattle.shm_pools.specs.Files.{FileState, pen_sizes, pen_at, segment_of, offset_of, written, row, segment_words, file_words, bytes_of, IsBlank}
use Rattle.shm_pools.specs.Laws.{EyesHaveSizes, FileHasWords, WriteSetsWord, NewIsZeros, GrowAddsZeros, BytesRise}
use Rattle.shm_pools.proofs.WordPlaces.{sum-cons}

set_behind : (xs ys : List ℕ) (k v : ℕ) → set (xs ++ ys) (length xs + k) v ≡ xs ++ set ys k v
set_behind [] ys k v =
    let none : 0 + k ≡ k = omega arith in
    ap (λ (n : ℕ). set ys n v) none
set_behind (x ∷ xs) ys k v =
    let next : suc (length xs) + k ≡ suc (length xs + k) = omega arith in
    ap (λ (n : ℕ). set (x ∷ (xs ++ ys)) n v) next ∙ ap (λ (zs : List ℕ). x ∷ zs) (set_behind xs ys k v)

length-row : (f : ℕ → ℕ) (start n : ℕ) → length (row f start n) ≡ n
length-row f start zero = refl
length-row f start (suc n) = ap suc (length-row f (start + 1) n)

row_same : (f g : ℕ → ℕ) (start n : ℕ) → ((j : ℕ) → start ≤ j → g j ≡ f j) → row g start n ≡ row f start n
row_same f g start zero same = refl
row_same f g start (suc n) same = λ i. same start (omega arith) i ∷ row_same f g (start + 1) n (λ j le. same j (omega (arith, le))) i

-- a row of which one word changed
row_set : (f g : ℕ → ℕ) (start n k v : ℕ) → k < n → g (start + k) ≡ v → ((j : ℕ) → j ≢ start + k → g j ≡ f j) → row g start n ≡ set (row f start n) k v
row_set f g start zero k v lt new same = absurd (omega arith)
row_set f g start (suc n) zero v lt new same =
    let here : start ≡ start + 0 = omega arith in
    λ i. (ap g here ∙ new) i ∷ row_same f g (start + 1) n (λ j le. same j (λ e. absurd (omega (arith, e, le)))) i
row_set f g start (suc n) (suc k) v lt new same =
    let there : start + 1 + k ≡ start + suc k = omega arith in
    λ i. same start (λ e. absurd (omega (arith, e))) i
    ∷ row_set f g (start + 1) n k v (omega arith) (ap g there ∙ new) (λ j apart. same j (λ e. apart (omega (arith, e)))) i

segment_write : (p : PenState) (k v : ℕ) → k < p.words → segment_words (wrote p k v) ≡ set (segment_words p) k v
segment_write p k v lt =
    let h : List Write = p.history in
    let all : List Write = h ++ write k v ∷ [] in
    let first : 0 + k ≡ k = omega arith in
    row_set (at h (length h)) (at all (length all)) 0 p.words k v lt
    (ap (at all (length all)) first ∙ at_end_same h (write k v) (length all) k (length-append h (write k v ∷ [])) refl)
    (λ j apart. at_end_other h (write k v) (length all) j (length-append h (write k v ∷ [])) (λ e. apart (omega (arith, e))))

pub write_sets : WriteSetsWord
write_sets [] word v lt = absurd (omega arith)
write_sets (p ∷ ps) word v lt = one (write_sets ps (word - p.words) v) (dec_le p.words word)
  where
    at_place : ℕ → ℕ → List ℕ
    at_place s o = file_words (set (p ∷ ps) s (wrote (pen_at (p ∷ ps) s) o v))

    one : (word - p.words < sum (pen_sizes ps) → file_words (written ps (word - p.words) v) ≡ set (file_words ps) (word - p.words) v)
        → Dec (p.words ≤ word) → file_words (written (p ∷ ps) word v) ≡ set (file_words (p ∷ ps)) word v
    one rest (yes past) =
        let s : ℕ = segment_of (pen_sizes ps) (word - p.words) in
        let o : ℕ = offset_of (pen_sizes ps) (word - p.words) in
        let next : s + 1 ≡ suc s = omega arith in
        let whole : length (segment_words p) + (word - p.words) ≡ word = omega (arith, length-row (at p.history (length p.history)) 0 p.words, past) in
        ap (λ (b : Bool). file_words (set (p ∷ ps) (if b then 0 else s + 1) (wrote (pen_at (p ∷ ps) (if b then 0 else s + 1)) (if b then word else o) v))) (le-ltb word p.words past)
        ∙ ap (λ (n : ℕ). file_words (set (p ∷ ps) n (wrote (pen_at (p ∷ ps) n) o v))) next
        ∙ ap (λ (zs : List ℕ). segment_words p ++ zs) (rest (omega (arith, lt, past, sum-cons p.words (pen_sizes ps))))
        ∙ sym (set_behind (segment_words p) (file_words ps) (word - p.words) v)
        ∙ ap (λ (n : ℕ). set (segment_words p ++ file_words ps) n v) whole
    one rest (no short) =
        let within : word < p.words = omega (arith, short) in
        let s : ℕ = segment_of (pen_sizes ps) (word - p.words) in
        let o : ℕ = offset_of (pen_sizes ps) (word - p.words) in
        ap (λ (b : Bool). file_words (set (p ∷ ps) (if b then 0 else s + 1) (wrote (pen_at (p ∷ ps) (if b then 0 else s + 1)) (if b then word else o) v))) (lt-ltb word p.words within)
        ∙ ap (λ (zs : List ℕ). zs ++ file_words ps) (segment_write p word v within)
        ∙ sym (set-append_left (segment_words p) (file_words ps) word v (omega (arith, length-row (at p.history (length p.history)) 0 p.words, within)))

pub eyes_have_sizes : EyesHaveSizes
eyes_have_sizes [] = refl
eyes_have_sizes (p ∷ ps) = ap (λ (sizes : List ℕ). p.words ∷ sizes) (eyes_have_sizes ps)

pub file_has_words : FileHasWords
file_has_words [] = refl
file_has_words (p ∷ ps) =
    omega (arith, length-append (segment_words p) (file_words ps), length-row (at p.history (length p.history)) 0 p.words, sum-cons p.words (pen_sizes ps), file_has_words ps)

row_zeros : (f : ℕ → ℕ) (start n : ℕ) → ((i : ℕ) → f i ≡ 0) → row f start n ≡ replicate n 0
row_zeros f start zero zeros = refl
row_zeros f start (suc n) zeros = λ i. zeros start i ∷ row_zeros f (start + 1) n zeros i

-- the words of a segment to which nothing was written
blank_words : (p : PenState) (number words : ℕ) → IsBlank p number words → segment_words p ≡ replicate words 0
blank_words p number words blank =
    ap (λ (h : List Write). row (at h (length h)) 0 p.words) blank.unwritten
    ∙ row_zeros (at [] 0) 0 p.words (λ i. refl)
    ∙ ap (λ (n : ℕ). replicate n 0) blank.sized

pub new_is_zeros : NewIsZeros
new_is_zeros f number bytes (p, is, blank) =
    ap (λ (g : FileState). file_words g.segments) is ∙ append-nil (segment_words p) ∙ blank_words p _ (bytes / 8) blank

pub grow_adds_zeros : GrowAddsZeros
grow_adds_zeros old new bytes (p, is, blank) =
    ap (λ (g : FileState). file_words g.segments) is
    ∙ flat_map-append segment_words old.segments (p ∷ [])
    ∙ ap (λ (zs : List ℕ). file_words old.segments ++ zs) (append-nil (segment_words p) ∙ blank_words p _ (bytes / 8 - sum (pen_sizes old.segments)) blank)

by_one : (n : ℕ) → n % 256 ≡ n / 1 % 256
by_one n = omega arith

-- a byte of one word
word_byte : (word i : ℕ) → i < 8 → slice_index (to_le_bytes w64 word) i ≡ word / 256 ^ i % 256
word_byte word zero below = by_one word
word_byte word (suc zero) below = refl
word_byte word (suc (suc zero)) below = refl
word_byte word (suc (suc (suc zero))) below = refl
word_byte word (suc (suc (suc (suc zero)))) below = refl
word_byte word (suc (suc (suc (suc (suc zero))))) below = refl
word_byte word (suc (suc (suc (suc (suc (suc zero)))))) below = refl
word_byte word (suc (suc (suc (suc (suc (suc (suc zero))))))) below = refl
word_byte word (suc (suc (suc (suc (suc (suc (suc (suc i)))))))) below = absurd (omega arith)

bytes_count : (words : List ℕ) → length (bytes_of words) ≡ 8 * length words
bytes_count [] = refl
bytes_count (word ∷ words) = omega (arith, length-append (to_le_bytes w64 word) (bytes_of words), bytes_count words)

bytes_at : (words : List ℕ) (k i : ℕ) → k < length words → i < 8 → slice_index (bytes_of words) (8 * k + i) ≡ slice_index words k / 256 ^ i % 256
bytes_at [] k i within below = absurd (omega arith)
bytes_at (word ∷ words) zero i within below =
    let first : 8 * zero + i ≡ i = omega arith in
    ap (slice_index (bytes_of (word ∷ words))) first
    ∙ get_or_append_left (to_le_bytes w64 word) (bytes_of words) 0 i below
    ∙ word_byte word i below
bytes_at (word ∷ words) (suc k) i within below =
    let behind : 8 * suc k + i ≡ 8 + (8 * k + i) = omega arith in
    ap (slice_index (bytes_of (word ∷ words))) behind
    ∙ get_or-append-add (to_le_bytes w64 word) (bytes_of words) (8 * k + i) 0
    ∙ bytes_at words k i (omega arith) below

pub bytes_rise : BytesRise
bytes_rise = record { count = bytes_count; byte = bytes_at }
