-- The words that came back, read one after another from a place on.
use Rattle.std.proofs.Common.{◌≡◌, ℕ, zero, suc, ◌+◌, ◌-◌, ◌*◌, ◌<◌, ◌≤◌, List, [], ◌∷◌, ◌++◌, length, get_or, take, drop, refl, sym, ap, ◌∙◌, arith, drop-cons}
use Rattle.std.proofs.Math.Seq.{take-add, take-append-add, drop-append-add}
use Rattle.std.proofs.Math.ListN.{drop_of_length-le}
use Rattle.std.proofs.lemmas.List.{take-append-le, drop-append-le}
use Rattle.std.proofs.Common.{append_assoc}
use Rattle.std.proofs.lemmas.Grind.{flat_map-append}
use Rattle.transfer_frames.specs.Numbers.{long_bytes}
use Rattle.transfer_frames.proofs.NumberLaws.{length-long_bytes}
use Rattle.half_model.specs.Filling.{words_bytes}
use Rattle.half_model.specs.Group.{words_in}
use Rattle.half_model.specs.Jobs.{Job, JobState, Waits, IsOut, IsBack, words_of, copied, copies_of}
use Rattle.half_model.specs.declared.notes.CopyRecord.{CopyRecord}
use Rattle.std.specs.List.{cons_option}
use Rattle.owed_groups.specs.Slots.{all_words}

abbrev nothing : List ℕ
nothing = []

all_at : (jobs : List Job) (job : ℕ) (d : Job) → job < length jobs
    → all_words (drop job jobs) ≡ words_of (get_or jobs job d).state ++ all_words (drop (job + 1) jobs)
all_at jobs job d l = let e : suc job ≡ job + 1 = omega arith in
    ap all_words (drop-cons jobs job d l) ∙ ap (λ (n : ℕ). words_of (get_or jobs job d).state ++ all_words (drop n jobs)) e

drop_drop : (n m : ℕ) (xs : List ℕ) → drop m (drop n xs) ≡ drop (n + m) xs
drop_drop zero m xs = let e : m ≡ 0 + m = omega arith in ap (λ (k : ℕ). drop k xs) e
drop_drop (suc n) m [] = nil m ∙ sym (nil (suc n + m))
  where
    nil : (k : ℕ) → drop k nothing ≡ nothing
    nil zero = refl
    nil (suc k) = refl
drop_drop (suc n) m (x ∷ xs) = let e : suc n + m ≡ suc (n + m) = omega arith in rw e (drop_drop n m xs)

-- behind a job's words
pub skip_job : (jobs : List Job) (job word : ℕ) (d : Job) → job < length jobs → length (words_of (get_or jobs job d).state) ≤ word
    → drop (word - length (words_of (get_or jobs job d).state)) (all_words (drop (job + 1) jobs)) ≡ drop word (all_words (drop job jobs))
skip_job jobs job word d l m =
    let ws : List ℕ = words_of (get_or jobs job d).state in
    let e : length ws + (word - length ws) ≡ word = omega (arith, m) in
    sym (ap (λ (all : List ℕ). drop word all) (all_at jobs job d l)
    ∙ ap (λ (n : ℕ). drop n (ws ++ all_words (drop (job + 1) jobs))) (sym e)
    ∙ drop-append-add ws (all_words (drop (job + 1) jobs)) (word - length ws))

-- some of a job's words
take_job : (jobs : List Job) (job word next left : ℕ) (d : Job) → job < length jobs → word + next ≤ length (words_of (get_or jobs job d).state) → next ≤ left
    → take left (drop word (all_words (drop job jobs)))
    ≡ take next (drop word (words_of (get_or jobs job d).state)) ++ take (left - next) (drop (word + next) (all_words (drop job jobs)))
take_job jobs job word next left d l m n =
    let ws : List ℕ = words_of (get_or jobs job d).state in
    let rest : List ℕ = all_words (drop (job + 1) jobs) in
    let all : List ℕ = all_words (drop job jobs) in
    let e : next + (left - next) ≡ left = omega (arith, n) in
    let inside : drop word all ≡ drop word ws ++ rest = ap (λ (xs : List ℕ). drop word xs) (all_at jobs job d l) ∙ drop-append-le word ws rest (omega (arith, m)) in
    let long : next ≤ length (drop word ws) = long_enough word next ws m in
    ap (λ (k : ℕ). take k (drop word all)) (sym e)
    ∙ take-add next (left - next) (drop word all)
    ∙ ap (λ (xs : List ℕ). xs ++ take (left - next) (drop next (drop word all))) (ap (λ (xs : List ℕ). take next xs) inside ∙ take-append-le next (drop word ws) rest long)
    ∙ ap (λ (xs : List ℕ). take next (drop word ws) ++ take (left - next) xs) (drop_drop word next all)
  where
    long_enough : (word next : ℕ) (ws : List ℕ) → word + next ≤ length ws → next ≤ length (drop word ws)
    long_enough zero next ws h = omega (arith, h)
    long_enough (suc word) next [] h = absurd (omega (arith, h))
    long_enough (suc word) next (w ∷ ws) h = long_enough word next ws (omega (arith, h))

pub take_step : (jobs : List Job) (job word next left : ℕ) (d : Job) → job < length jobs → word + next ≤ length (words_of (get_or jobs job d).state) → next ≤ left
    → words_bytes (take next (drop word (words_of (get_or jobs job d).state))) ++ words_bytes (take (left - next) (drop (word + next) (all_words (drop job jobs))))
    ≡ words_bytes (take left (drop word (all_words (drop job jobs))))
take_step jobs job word next left d l m n =
    let ws : List ℕ = words_of (get_or jobs job d).state in
    sym (ap words_bytes (take_job jobs job word next left d l m n)
    ∙ flat_map-append long_bytes (take next (drop word ws)) (take (left - next) (drop (word + next) (all_words (drop job jobs)))))

pub drop_step : (jobs : List Job) (job word next left : ℕ) → next ≤ left
    → drop (left - next) (drop (word + next) (all_words (drop job jobs))) ≡ drop left (drop word (all_words (drop job jobs)))
drop_step jobs job word next left n =
    let all : List ℕ = all_words (drop job jobs) in
    let e : word + next + (left - next) ≡ word + left = omega (arith, n) in
    drop_drop (word + next) (left - next) all ∙ ap (λ (k : ℕ). drop k all) e ∙ sym (drop_drop word left all)

-- there is no word behind the last job
pub no_words : (jobs : List Job) (job word : ℕ) → length jobs ≤ job → drop word (all_words (drop job jobs)) ≡ []
no_words jobs job word l = ap (λ (rest : List Job). drop word (all_words rest)) (drop_of_length-le jobs l) ∙ nil word
  where
    nil : (k : ℕ) → drop k nothing ≡ nothing
    nil zero = refl
    nil (suc k) = refl

pub take_none : (k : ℕ) → take k nothing ≡ nothing
take_none zero = refl
take_none (suc k) = refl

pub drop_none : (k : ℕ) → drop k nothing ≡ nothing
drop_none zero = refl
drop_none (suc k) = refl

-- ---- bytes

pub take_bytes : (n : ℕ) (ws : List ℕ) → take (8 * n) (words_bytes ws) ≡ words_bytes (take n ws)
take_bytes zero ws = refl
take_bytes (suc n) [] = take_none (8 * suc n)
take_bytes (suc n) (w ∷ ws) =
    let len = length-long_bytes w in
    let e : 8 * suc n ≡ length (long_bytes w) + 8 * n = omega (arith, len) in
    ap (λ (k : ℕ). take k (long_bytes w ++ words_bytes ws)) e ∙ take-append-add (long_bytes w) (words_bytes ws) (8 * n)
    ∙ ap (λ (rest : List ℕ). long_bytes w ++ rest) (take_bytes n ws)

pub drop_bytes : (n : ℕ) (ws : List ℕ) → drop (8 * n) (words_bytes ws) ≡ words_bytes (drop n ws)
drop_bytes zero ws = refl
drop_bytes (suc n) [] = drop_none (8 * suc n)
drop_bytes (suc n) (w ∷ ws) =
    let len = length-long_bytes w in
    let e : 8 * suc n ≡ length (long_bytes w) + 8 * n = omega (arith, len) in
    ap (λ (k : ℕ). drop k (long_bytes w ++ words_bytes ws)) e ∙ drop-append-add (long_bytes w) (words_bytes ws) (8 * n)
    ∙ drop_bytes n ws

-- ---- copies

copied_words : (job : Job) (state : JobState) (copies : List CopyRecord)
    → words_in (cons_option (copied job.part job.low state) copies) ≡ words_of state ++ words_in copies
copied_words job (Waits eye) copies = refl
copied_words job IsOut copies = refl
copied_words job (IsBack words receipt) copies = refl

-- the words of the copies are those of their jobs
pub words_are : (jobs : List Job) → words_in (copies_of jobs) ≡ all_words jobs
words_are [] = refl
words_are (job ∷ jobs) =
    copied_words job job.state (copies_of jobs) ∙ ap (λ (rest : List ℕ). words_of job.state ++ rest) (words_are jobs)

-- ---- one step of the reader

pub take_of : (jobs : List Job) (job word next left : ℕ) (d : Job) (ws out new : List ℕ) → ws ≡ words_of d.state → d ≡ get_or jobs job d
    → job < length jobs → word + next ≤ length ws → next ≤ left → new ≡ out ++ words_bytes (take next (drop word ws))
    → new ++ words_bytes (take (left - next) (drop (word + next) (all_words (drop job jobs)))) ≡ out ++ words_bytes (take left (drop word (all_words (drop job jobs))))
take_of jobs job word next left d ws out new is there l m n put =
    let same : ws ≡ words_of (get_or jobs job d).state = is ∙ ap (λ (j : Job). words_of j.state) there in
    let count = ap (λ (xs : List ℕ). length xs) same in
    let rest : List ℕ = words_bytes (take (left - next) (drop (word + next) (all_words (drop job jobs)))) in
    ap (λ (xs : List ℕ). xs ++ rest) (put ∙ ap (λ (xs : List ℕ). out ++ words_bytes (take next (drop word xs))) same)
    ∙ append_assoc out (words_bytes (take next (drop word (words_of (get_or jobs job d).state)))) rest
    ∙ ap (λ (xs : List ℕ). out ++ xs) (take_step jobs job word next left d l (omega (arith, m, count)) n)

pub skip_of : (jobs : List Job) (job word : ℕ) (d : Job) (ws : List ℕ) → ws ≡ words_of d.state → d ≡ get_or jobs job d
    → job < length jobs → length ws ≤ word
    → drop (word - length ws) (all_words (drop (job + 1) jobs)) ≡ drop word (all_words (drop job jobs))
skip_of jobs job word d ws is there l m =
    let same : ws ≡ words_of (get_or jobs job d).state = is ∙ ap (λ (j : Job). words_of j.state) there in
    let count = ap (λ (xs : List ℕ). length xs) same in
    ap (λ (xs : List ℕ). drop (word - length xs) (all_words (drop (job + 1) jobs))) same ∙ skip_job jobs job word d l (omega (arith, m, count))

-- the bytes of a piece's words
pub piece_bytes : (blocks : ℕ) (ws : List ℕ) → words_bytes (take (8 * blocks) ws) ≡ take (64 * blocks) (words_bytes ws)
piece_bytes blocks ws = let e : 8 * (8 * blocks) ≡ 64 * blocks = omega arith in sym (take_bytes (8 * blocks) ws) ∙ ap (λ (n : ℕ). take n (words_bytes ws)) e

pub piece_rest : (blocks : ℕ) (ws : List ℕ) → words_bytes (drop (8 * blocks) ws) ≡ drop (64 * blocks) (words_bytes ws)
piece_rest blocks ws = let e : 8 * (8 * blocks) ≡ 64 * blocks = omega arith in sym (drop_bytes (8 * blocks) ws) ∙ ap (λ (n : ℕ). drop n (words_bytes ws)) e

pub bytes_are : (jobs : List Job) → words_bytes (words_in (copies_of jobs)) ≡ words_bytes (all_words jobs)
bytes_are jobs = ap words_bytes (words_are jobs)
