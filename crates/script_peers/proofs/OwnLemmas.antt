-- What stays of the files of a peer once one of them has changed.
use Rattle.std.proofs.Common.{◌≡◌, ℕ, zero, suc, ◌+◌, ◌-◌, ◌/◌, ◌<◌, ◌≤◌, ℤ, Bool, true, false, cond, List, [], ◌∷◌, ◌++◌, length, set, get_or, Some, None, position, refl, sym, ap, ◌∙◌, subst, arith, add-one, length-append, length-set}
use Rattle.std.specs.Prelude.{All, sum, not, ◌||◌}
use Rattle.std.specs.List.{position_or_len, list_any, IsDistinct}
use Rattle.std.specs.Ordering.{int_eq}
use Rattle.std.proofs.Math.Dec.{ltb}
use Rattle.std.proofs.lemmas.Bool.{ltb-false}
use Rattle.std.proofs.lemmas.List.{get_or-set_same}
use Rattle.std.proofs.lemmas.List.Elements.{All-head, All-tail, All-set, All-push, All-weaker, All-nil}
use Rattle.std.proofs.lemmas.List.Sums.{sum_by-cons}
use Rattle.indexmap.specs.IndexSet.{insert_key}
use Rattle.pool_words.specs.declared.views.Load.{Load}
use Rattle.pool_words.specs.declared.views.Write.{Write}
use Rattle.pool_words.specs.History.{HasStood}
use Rattle.pool_words.specs.Views.{PoolId, PenState, ReceiptState, wrote, took, write}
use Rattle.pool_words.proofs.Histories.{has_stood_more}
use Rattle.shm_pools.specs.Files.{FileState, HasGrown, IsBlank, pen_sizes, pen_at, pool_number, no_pen, segment_of, offset_of, after_write, after_settle}
use Rattle.script_peers.specs.Owning.{IsStoodIn, IsStood, AreSound, written_from, words_of, blank, longer, grown, can_grow, numbers_of, place_of, file_at, changed}
use Rattle.script_peers.specs.Holding.{IsRewritten, IsCounted}

-- what holds of all holds of the one at a place, and of what stands for one that isn't there
pub all_at : {X : Type 0} (P : X → Type 0) (xs : List X) (k : ℕ) (d : X) → All P xs → P d → P (get_or xs k d)
all_at P [] k d all here = here
all_at P (x ∷ xs) zero d all here = All-head P x xs all
all_at P (x ∷ xs) (suc k) d all here = all_at P xs k d (All-tail P x xs all) here

-- ---- one segment is written to

pub stood_wrote : (p : PenState) (i v : ℕ) → IsStoodIn p → IsStoodIn (wrote p i v)
stood_wrote p i v stood =
    All-weaker (HasStood p.history) (HasStood (p.history ++ write i v ∷ [])) (has_stood_more p.history (write i v ∷ [])) p.settled stood

pub stood_at : (ps : List PenState) (k : ℕ) → All IsStoodIn ps → IsStoodIn (pen_at ps k)
stood_at ps k all = all_at IsStoodIn ps k no_pen all (All-nil (HasStood []))

pub stood_after_write : (f : FileState) (word v : ℕ) → IsStood f → IsStood (after_write f word v)
stood_after_write f word v stood =
    let segment = segment_of (pen_sizes f.segments) word in
    let offset = offset_of (pen_sizes f.segments) word in
    All-set IsStoodIn f.segments segment (wrote (pen_at f.segments segment) offset v)
    (stood_wrote (pen_at f.segments segment) offset v (stood_at f.segments segment stood)) stood

pub sizes_set : (ps : List PenState) (k : ℕ) (p : PenState) → p.words ≡ (pen_at ps k).words → pen_sizes (set ps k p) ≡ pen_sizes ps
sizes_set [] k p same = refl
sizes_set (x ∷ ps) zero p same = ap (λ (n : ℕ). n ∷ pen_sizes ps) same
sizes_set (x ∷ ps) (suc k) p same = ap (λ (ns : List ℕ). x.words ∷ ns) (sizes_set ps k p same)

pub sizes_after_write : (f : FileState) (word v : ℕ) → pen_sizes (after_write f word v).segments ≡ pen_sizes f.segments
sizes_after_write f word v =
    let segment = segment_of (pen_sizes f.segments) word in
    sizes_set f.segments segment (wrote (pen_at f.segments segment) (offset_of (pen_sizes f.segments) word) v) refl

pub rewritten_more : (old f : FileState) (word v : ℕ) → IsRewritten old f → IsRewritten old (after_write f word v)
rewritten_more old f word v same = record {
  number = same.number;
  sizes = sizes_after_write f word v ∙ same.sizes;
  stood = stood_after_write f word v same.stood;
}

pub written_more : (first count value : ℕ) (f : FileState)
    → written_from first (count + 1) value f ≡ after_write (written_from first count value f) (first + count) value
written_more first count value f = rw add-one refl

-- ---- a file grows

words_push : (ps : List PenState) (p : PenState) → sum (pen_sizes (ps ++ p ∷ [])) ≡ sum (pen_sizes ps) + p.words
words_push [] p = refl
words_push (x ∷ ps) p =
    omega (arith, sum_by-cons (λ (n : ℕ). n) x.words (pen_sizes (ps ++ p ∷ [])), sum_by-cons (λ (n : ℕ). n) x.words (pen_sizes ps), words_push ps p)

stood_blank : (p : PenState) → p.settled ≡ [] → IsStoodIn p
stood_blank p none = subst (λ (ls : List Load). All (HasStood p.history) ls) (sym none) (All-nil (HasStood p.history))

pub counted_grown : (words count bytes : ℕ) (old new : FileState) → IsCounted words count old → HasGrown old new bytes → words < bytes / 8
    → IsCounted (bytes / 8) (count + 1) new
counted_grown words count bytes old new counted grows more =
    subst (IsCounted (bytes / 8) (count + 1)) (sym grows.1)
    (record {
      sized = omega (arith, words_push old.segments grows.0, grows.2.sized, counted.sized, more);
      counted = omega (arith, length-append old.segments (grows.0 ∷ []), counted.counted);
      stood = All-push IsStoodIn old.segments grows.0 counted.stood (stood_blank grows.0 grows.2.unsettled);
    })

blank_is : (p : PenState) (number : ℤ) (segment words : ℕ) → IsBlank p (pool_number number segment) words
    → p ≡ blank p.pool number segment words
blank_is p number segment words is =
    ap (λ (n : ℕ). let q : PenState = record { pool = p.pool; number = n; words = p.words; history = p.history; settled = p.settled } in q) is.numbered
    ∙ ap (λ (n : ℕ). let q : PenState = record { pool = p.pool; number = pool_number number segment; words = n; history = p.history; settled = p.settled } in q) is.sized
    ∙ ap (λ (h : List Write). let q : PenState = record { pool = p.pool; number = pool_number number segment; words = words; history = h; settled = p.settled } in q) is.unwritten
    ∙ ap (λ (s : List Load). let q : PenState = record { pool = p.pool; number = pool_number number segment; words = words; history = []; settled = s } in q) is.unsettled

pub grown_is : (bytes : ℕ) (old new : FileState) → can_grow bytes old ≡ true → HasGrown old new bytes
    → (pool : PoolId) × (new ≡ grown pool bytes old)
grown_is bytes old new can grows = (
  grows.0.pool,
  grows.1
      ∙ ap (λ (p : PenState). let f : FileState = record { number = old.number; segments = old.segments ++ p ∷ [] } in f)
      (blank_is grows.0 old.number (length old.segments) (bytes / 8 - words_of old) grows.2)
      ∙ sym (ap (λ (b : Bool). cond b (longer grows.0.pool bytes old) old) can),
)

-- ---- a receipt is settled

pub stood_after_settle : (f : FileState) (segment : ℕ) (r : ReceiptState) → segment < length f.segments → IsStood f
    → IsStoodIn (pen_at (after_settle f segment r).segments segment) → IsStood (after_settle f segment r)
stood_after_settle f segment r within stood here =
    let p = took (pen_at f.segments segment) r in
    All-set IsStoodIn f.segments segment p (subst IsStoodIn (get_or-set_same f.segments segment p no_pen within) here) stood

pub counted_settled : (words count : ℕ) (f : FileState) (segment : ℕ) (r : ReceiptState) → IsCounted words count f → segment < length f.segments
    → IsStoodIn (pen_at (after_settle f segment r).segments segment) → IsCounted words count (after_settle f segment r)
counted_settled words count f segment r counted within here =
    let p = took (pen_at f.segments segment) r in
    record {
      sized = counted.sized ∙ sym (ap sum (sizes_set f.segments segment p refl));
      counted = counted.counted ∙ sym (length-set f.segments segment p);
      stood = stood_after_settle f segment r within counted.stood here;
    }

-- ---- the files of a peer

pub numbers_set : (files : List FileState) (k : ℕ) (f : FileState) → f.number ≡ (file_at files k).number
    → numbers_of (set files k f) ≡ numbers_of files
numbers_set [] k f same = refl
numbers_set (g ∷ files) zero f same = ap (λ (n : ℤ). n ∷ numbers_of files) same
numbers_set (g ∷ files) (suc k) f same = ap (λ (ns : List ℤ). g.number ∷ ns) (numbers_set files k f same)

pub sound_set : (keys : List ℤ) (files : List FileState) (k : ℕ) (f : FileState) → (keys ≡ numbers_of files) × AreSound files
    → f.number ≡ (file_at files k).number → IsStood f → (keys ≡ numbers_of (set files k f)) × AreSound (set files k f)
sound_set keys files k f old same stood =
    let numbers = numbers_set files k f same in (
      old.0 ∙ sym numbers,
      record {
        distinct = subst (IsDistinct int_eq) (sym numbers) old.1.distinct;
        stood = All-set IsStood files k f stood old.1.stood;
      },
    )

pub numbers_push : (files : List FileState) (f : FileState) → numbers_of (files ++ f ∷ []) ≡ numbers_of files ++ f.number ∷ []
numbers_push [] f = refl
numbers_push (g ∷ files) f = ap (λ (ns : List ℤ). g.number ∷ ns) (numbers_push files f)

none_passes : {X : Type 0} (p : X → Bool) (xs : List X) → length xs ≤ position_or_len p xs → list_any p xs ≡ false
none_passes p [] le = refl
none_passes p (x ∷ xs) le = by (none_passes p xs) (p x) le
  where
    by : (length xs ≤ position_or_len p xs → list_any p xs ≡ false) → (b : Bool)
        → length (x ∷ xs) ≤ cond (not b) (1 + position_or_len p xs) 0 → (b || list_any p xs) ≡ false
    by rest true le = absurd (omega arith)
    by rest false le = rest (omega arith)

chose_none : (b : Bool) (n : ℕ) → cond b (Some n) None ≡ None → b ≡ false
chose_none true n none = cc
chose_none false n none = refl

none_listed : {X : Type 0} (p : X → Bool) (xs : List X) → position p xs ≡ None → list_any p xs ≡ false
none_listed p xs none =
    let first = position_or_len p xs in
    none_passes p xs (ltb-false first (length xs) (chose_none (ltb first (length xs)) first none))

pub sound_push : (keys more : List ℤ) (files : List FileState) (f : FileState) → (keys ≡ numbers_of files) × AreSound files
    → place_of f.number files ≡ None → IsStood f → more ≡ insert_key int_eq keys f.number → IsDistinct int_eq more
    → (more ≡ numbers_of (files ++ f ∷ [])) × AreSound (files ++ f ∷ [])
sound_push keys more files f old none stood is distinct =
    let free : list_any (int_eq f.number) keys ≡ false =
    ap (list_any (int_eq f.number)) old.0 ∙ none_listed (int_eq f.number) (numbers_of files) none
    in
    let numbers : more ≡ numbers_of (files ++ f ∷ []) =
    is
    ∙ ap (λ (b : Bool). cond b keys (keys ++ f.number ∷ [])) free
    ∙ ap (λ (ns : List ℤ). ns ++ f.number ∷ []) old.0
    ∙ sym (numbers_push files f)
    in (
      numbers,
      record {
        distinct = subst (IsDistinct int_eq) numbers distinct;
        stood = All-push IsStood files f old.1.stood stood;
      },
    )

-- the file at the place of a number is changed
pub changed_there : (step : FileState → FileState) (files now : List FileState) (number : ℤ) (k : ℕ) (f : FileState) → files ≡ now
    → Some k ≡ place_of number now → f ≡ step (file_at files k) → set files k f ≡ changed step now (place_of number now)
changed_there step files now number k f same found is =
    ap (set files k) is ∙ ap (λ (fs : List FileState). changed step fs (Some k)) same ∙ ap (changed step now) found

pub changed_nowhere : (step : FileState → FileState) (files now : List FileState) (number : ℤ) → files ≡ now
    → None ≡ place_of number now → files ≡ changed step now (place_of number now)
changed_nowhere step files now number same none = same ∙ ap (changed step now) none
