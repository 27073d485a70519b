-- A receipt of an eye that a note holds is for the pen of its segment, and stays so.
use Rattle.std.proofs.Common.{◌≡◌, ℕ, zero, suc, ◌+◌, ◌-◌, ◌/◌, ◌<◌, ℤ, Bool, true, false, ◌&&◌, cond, List, [], ◌∷◌, ◌++◌, length, set, map, Option, Some, None, position, nat_lt, refl, sym, ap, ◌∙◌, subst, arith, length-append, length-set, ne_eqb, ◌≢◌}
use Rattle.std.specs.Prelude.{not, find}
use Rattle.std.specs.List.{position_or_len, slice_get}
use Rattle.std.specs.Ordering.{int_eq}
use Rattle.std.proofs.lemmas.Bool.{lt-ltb, ltb-true}
use Rattle.std.proofs.lemmas.List.{get_or-set_same, get_or-set_other, get_or_append_left, length-map}
use Rattle.std.proofs.lemmas.List.Folds.{position_or_len_push}
use Rattle.std.proofs.lemmas.List.Quantifiers.{position-Some}
use native.Mathlib.Decide.{ℕ_discrete}
use Rattle.pool_words.specs.Views.{PoolId, PenState, EyeState, ReceiptState, wrote, took, note_of}
use Rattle.shm_pools.specs.Files.{FileState, pen_sizes, pen_at, no_pen, segment_of, offset_of, after_write, after_settle}
use Rattle.half_model.specs.Inlet.{eyes_found}
use Rattle.half_model.specs.declared.items.PeerOut.{PeerOut}
use Rattle.half_model.specs.declared.items.PeerOut.TheVariants as outputs
use Rattle.script_lang.specs.declared.steps.StepKind.{StepKind}
use Rattle.script_lang.specs.declared.steps.StepKind.TheVariants as line
use Rattle.script_peers.specs.Laws.{ReceiptsAreOwn}
use Rattle.script_peers.specs.Owning.{Owned, numbers_of, place_of, file_at, no_file, changed, is_size, words_of, blank, new_file, can_grow, longer, grown, written_from, has_words, filled, eyes_on, IsReceiptIn, IsOwnReceipt}
use Rattle.script_peers.specs.Peers.{ScriptedPeer, did, acted, gave}
use Rattle.script_peers.specs.Putting.{is_own, is_free, owned_after}
use Rattle.script_peers.proofs.OwnLemmas.{numbers_set, numbers_push}

-- each segment is of its pool still
pub record Kept (f g : FileState) : Type 0 where
  pub number : g.number ≡ f.number
  pub pens : (k : ℕ) → k < length f.segments
      → (k < length g.segments) × ((pen_at g.segments k).number ≡ (pen_at f.segments k).number)
      × ((pen_at g.segments k).pool ≡ (pen_at f.segments k).pool)

kept_same : (f : FileState) → Kept f f
kept_same f = record { number = refl; pens = λ k below. (below, refl, refl) }

kept_then : (f g h : FileState) → Kept f g → Kept g h → Kept f h
kept_then f g h first second = record {
  number = second.number ∙ first.number;
  pens = λ k below.
      let a = first.pens k below in
      let b = second.pens k a.0 in
      (b.0, b.1 ∙ a.1, b.2 ∙ a.2);
}

kept_set : (f : FileState) (k : ℕ) (p : PenState) → p.number ≡ (pen_at f.segments k).number → p.pool ≡ (pen_at f.segments k).pool
    → Kept f (record f { segments = set f.segments k p })
kept_set f k p number pool = record { number = refl; pens = λ j below. by j below (ℕ_discrete j k) }
  where
    by : (j : ℕ) → j < length f.segments → Dec (j ≡ k)
        → (j < length (set f.segments k p)) × ((pen_at (set f.segments k p) j).number ≡ (pen_at f.segments j).number)
        × ((pen_at (set f.segments k p) j).pool ≡ (pen_at f.segments j).pool)
    by j below (yes same) =
        let here : pen_at (set f.segments k p) k ≡ p = get_or-set_same f.segments k p no_pen (omega (arith, same, below)) in (
          omega (arith, length-set f.segments k p, below),
          ap (λ (n : ℕ). (pen_at (set f.segments k p) n).number) same ∙ ap (λ (q : PenState). q.number) here ∙ number
              ∙ sym (ap (λ (n : ℕ). (pen_at f.segments n).number) same),
          ap (λ (n : ℕ). (pen_at (set f.segments k p) n).pool) same ∙ ap (λ (q : PenState). q.pool) here ∙ pool
              ∙ sym (ap (λ (n : ℕ). (pen_at f.segments n).pool) same),
        )
    by j below (no other) =
        let there = get_or-set_other f.segments k j p no_pen other in
        (omega (arith, length-set f.segments k p, below), ap (λ (q : PenState). q.number) there, ap (λ (q : PenState). q.pool) there)

kept_write : (f : FileState) (word v : ℕ) → Kept f (after_write f word v)
kept_write f word v =
    let segment = segment_of (pen_sizes f.segments) word in
    kept_set f segment (wrote (pen_at f.segments segment) (offset_of (pen_sizes f.segments) word) v) refl refl

kept_settle : (segment : ℕ) (r : ReceiptState) (f : FileState) → Kept f (after_settle f segment r)
kept_settle segment r f = kept_set f segment (took (pen_at f.segments segment) r) refl refl

kept_written : (first count value : ℕ) (f : FileState) → Kept f (written_from first count value f)
kept_written first zero value f = kept_same f
kept_written first (suc count) value f =
    kept_then f (written_from first count value f) (written_from first (suc count) value f) (kept_written first count value f)
    (kept_write (written_from first count value f) (first + count) value)

kept_if : (b : Bool) (f g : FileState) → Kept f g → Kept f (cond b g f)
kept_if true f g kept = kept
kept_if false f g kept = kept_same f

kept_filled : (first count value : ℕ) (f : FileState) → Kept f (filled first count value f)
kept_filled first count value f = kept_if (has_words first count f) f (written_from first count value f) (kept_written first count value f)

kept_longer : (pool : PoolId) (bytes : ℕ) (f : FileState) → Kept f (longer pool bytes f)
kept_longer pool bytes f =
    let more = blank pool f.number (length f.segments) (bytes / 8 - words_of f) ∷ [] in
    record {
      number = refl;
      pens = λ k below.
          let there = get_or_append_left f.segments more no_pen k below in
          (omega (arith, length-append f.segments more, below), ap (λ (q : PenState). q.number) there, ap (λ (q : PenState). q.pool) there);
    }

kept_grown : (pool : PoolId) (bytes : ℕ) (f : FileState) → Kept f (grown pool bytes f)
kept_grown pool bytes f = kept_if (can_grow bytes f) f (longer pool bytes f) (kept_longer pool bytes f)

-- ---- a receipt stays one of the peer's own

fits_kept : (segment : ℕ) (r : ReceiptState) (f g : FileState) → Kept f g → IsReceiptIn segment r f → IsReceiptIn segment r g
fits_kept segment r f g kept fits =
    let pen = kept.pens segment fits.within in
    record { within = pen.0; number = fits.number ∙ sym pen.1; pool = fits.pool ∙ sym pen.2 }

place_within : (number : ℤ) (files : List FileState) (place : ℕ) → place_of number files ≡ Some place → place < length files
place_within number files place found =
    let there = position-Some (int_eq number) (numbers_of files) place number found in
    omega (arith, there.0, length-map files (λ (f : FileState). f.number))

own_changed : (step : FileState → FileState) → ((f : FileState) → Kept f (step f)) → (number : ℤ) (segment : ℕ) (r : ReceiptState)
    (files : List FileState) (k : Option ℕ) → IsOwnReceipt number segment r files → IsOwnReceipt number segment r (changed step files k)
own_changed step kept number segment r files None own = own
own_changed step kept number segment r files (Some k) own = record {
  place = own.place;
  found = ap (position (int_eq number)) (numbers_set files k new (kept (file_at files k)).number) ∙ own.found;
  fits = by (ℕ_discrete own.place k);
}
  where
    new : FileState
    new = step (file_at files k)

    by : Dec (own.place ≡ k) → IsReceiptIn segment r (file_at (set files k new) own.place)
    by (yes same) =
        let within = place_within number files own.place own.found in
        let here : file_at (set files k new) k ≡ new = get_or-set_same files k new no_file (omega (arith, within, same)) in
        subst (IsReceiptIn segment r) (sym (ap (file_at (set files k new)) same ∙ here))
        (fits_kept segment r (file_at files k) new (kept (file_at files k)) (subst (λ (n : ℕ). IsReceiptIn segment r (file_at files n)) same own.fits))
    by (no other) = subst (IsReceiptIn segment r) (sym (get_or-set_other files k own.place new no_file other)) own.fits

-- a position outlasts a push
position_pushed : (p : ℤ → Bool) (xs : List ℤ) (y : ℤ) (k : ℕ) → position p xs ≡ Some k → position p (xs ++ y ∷ []) ≡ Some k
position_pushed p xs y k found = by (nat_lt first few) refl found
  where
    first : ℕ
    first = position_or_len p xs

    few : ℕ
    few = length xs

    by : (b : Bool) → nat_lt first few ≡ b → cond b (Some first) None ≡ Some k → position p (xs ++ y ∷ []) ≡ Some k
    by true below there =
        let same : first ≡ k = cc in
        let less : first < few = ltb-true first few below in
        let apart : first ≢ few = λ e. omega (arith, less, e) in
        let pushed : position_or_len p (xs ++ y ∷ []) ≡ first =
        position_or_len_push p xs y ∙ ap (λ (b : Bool). cond b (few + cond (p y) 0 1) first) (ne_eqb first few apart)
        in
        ap (λ (n : ℕ). cond (nat_lt n (length (xs ++ y ∷ []))) (Some n) None) pushed
        ∙ ap (λ (b : Bool). cond b (Some first) None) (lt-ltb first (length (xs ++ y ∷ [])) (omega (arith, less, length-append xs (y ∷ []))))
        ∙ ap (λ (n : ℕ). Some n) same
    by false below there = absurd (let never : ⊥ = cc in never)

own_pushed : (number : ℤ) (segment : ℕ) (r : ReceiptState) (files : List FileState) (f : FileState)
    → IsOwnReceipt number segment r files → IsOwnReceipt number segment r (files ++ f ∷ [])
own_pushed number segment r files f own = record {
  place = own.place;
  found = ap (position (int_eq number)) (numbers_push files f)
      ∙ position_pushed (int_eq number) (numbers_of files) f.number own.place own.found;
  fits = subst (IsReceiptIn segment r)
      (sym (get_or_append_left files (f ∷ []) no_file own.place (place_within number files own.place own.found))) own.fits;
}

own_if : (b : Bool) (number : ℤ) (segment : ℕ) (r : ReceiptState) (new old : Owned) → IsOwnReceipt number segment r new.files
    → IsOwnReceipt number segment r old.files → IsOwnReceipt number segment r (cond b new old).files
own_if true number segment r new old changed kept = changed
own_if false number segment r new old changed kept = kept

own_after : (pool : PoolId) (what : StepKind) (number : ℤ) (segment : ℕ) (r : ReceiptState) (own : Owned)
    → IsOwnReceipt number segment r own.files → IsOwnReceipt number segment r (owned_after pool what own).files
own_after pool (line.File peer named size) number segment r own is =
    own_if (is_free named own && is_size size) number segment r (record own { files = own.files ++ new_file pool named size ∷ [] }) own
    (own_pushed number segment r own.files (new_file pool named size) is) is
own_after pool (line.Grow peer named size) number segment r own is =
    own_changed (grown pool size) (kept_grown pool size) number segment r own.files (place_of named own.files) is
own_after pool (line.Fill peer named first count value) number segment r own is =
    own_changed (filled first count value) (kept_filled first count value) number segment r own.files (place_of named own.files) is
own_after pool (line.Pipe peer named) number segment r own is =
    own_if (is_free named own) number segment r (record own { pipes = own.pipes ++ named ∷ [] }) own is is
own_after pool (line.Hex peer bytes) number segment r own is = is
own_after pool (line.Say peer text) number segment r own is = is
own_after pool (line.Give peer named) number segment r own is = is
own_after pool (line.Put peer pipe bytes) number segment r own is = is
own_after pool (line.End peer pipe) number segment r own is = is
own_after pool (line.Shut peer named) number segment r own is = is
own_after pool (line.Await peer count) number segment r own is = is
own_after pool (line.Take peer bytes) number segment r own is = is
own_after pool (line.Load words) number segment r own is = is
own_after pool line.Connect number segment r own is = is
own_after pool line.Break number segment r own is = is
own_after pool (line.Send dir bytes) number segment r own is = is
own_after pool (line.Recv dir bytes) number segment r own is = is
own_after pool (line.Both dir bytes) number segment r own is = is
own_after pool (line.Spoil dir offset byte) number segment r own is = is
own_after pool (line.Cut dir bytes) number segment r own is = is
own_after pool (line.Close peer) number segment r own is = is
own_after pool line.Settle number segment r own is = is
own_after pool (line.Drain bytes) number segment r own is = is
own_after pool line.Stop number segment r own is = is

own_acted : (pool : PoolId) (what : StepKind) (number : ℤ) (segment : ℕ) (r : ReceiptState) (old : ScriptedPeer)
    → IsOwnReceipt number segment r old.own.files → IsOwnReceipt number segment r (acted pool what old).own.files
own_acted pool what number segment r old is = by (is_own old.side what)
  where
    by : (b : Bool) → IsOwnReceipt number segment r (cond b (did pool what old) old).own.files
    by true = own_after pool what number segment r old.own is
    by false = is

own_given : (old : ScriptedPeer) (item : PeerOut) (number : ℤ) (segment : ℕ) (r : ReceiptState)
    → IsOwnReceipt number segment r old.own.files → IsOwnReceipt number segment r (gave item old).own.files
own_given old (outputs.Bytes message) number segment r is = is
own_given old (outputs.Handle handle) number segment r is = is
own_given old (outputs.Opened rid size) number segment r is = is
own_given old (outputs.Grown rid size) number segment r is = is
own_given old (outputs.Filled rid start bytes) number segment r is = is
own_given old (outputs.Pipe piped) number segment r is = is
own_given old (outputs.Receipt named place receipt) number segment r is =
    own_changed (λ f. after_settle f place receipt) (kept_settle place receipt) number segment r old.own.files (place_of named old.own.files) is

-- ---- the eyes of a note

-- the first file is of this number
place_first : (number : ℤ) (f : FileState) (files : List FileState) → int_eq number f.number ≡ true → place_of number (f ∷ files) ≡ Some 0
place_first number f files is =
    let first = position_or_len (int_eq number) (numbers_of files) in
    let all = length (numbers_of (f ∷ files)) in
    ap (λ (b : Bool). cond (nat_lt (cond (not b) (1 + first) 0) all) (Some (cond (not b) (1 + first) 0)) None) is
    ∙ ap (λ (b : Bool). cond b (Some 0) None) (lt-ltb 0 all (omega arith))

place_later : (number : ℤ) (f : FileState) (files : List FileState) (k : ℕ) → int_eq number f.number ≡ false
    → place_of number files ≡ Some k → place_of number (f ∷ files) ≡ Some (suc k)
place_later number f files k is found =
    ap (λ (b : Bool). cond (nat_lt (cond (not b) (1 + first) 0) all) (Some (cond (not b) (1 + first) 0)) None) is
    ∙ by (nat_lt first few) refl found
  where
    first : ℕ
    first = position_or_len (int_eq number) (numbers_of files)

    few : ℕ
    few = length (numbers_of files)

    all : ℕ
    all = length (numbers_of (f ∷ files))

    by : (b : Bool) → nat_lt first few ≡ b → cond b (Some first) None ≡ Some k → cond (nat_lt (1 + first) all) (Some (1 + first)) None ≡ Some (suc k)
    by true below there =
        let same : first ≡ k = cc in
        let less : first < few = ltb-true first few below in
        ap (λ (b : Bool). cond b (Some (1 + first)) None) (lt-ltb (1 + first) all (omega arith))
        ∙ ap (λ (n : ℕ). Some n) (omega (arith, same))
    by false below there = absurd (let never : ⊥ = cc in never)

-- an eye is the note of a pen
seen : (pens : List PenState) (k : ℕ) (eye : EyeState) → slice_get (map note_of pens) k ≡ Some eye
    → (k < length pens) × (note_of (pen_at pens k) ≡ eye)
seen [] k eye is = absurd (let never : ⊥ = cc in never)
seen (p ∷ pens) zero eye is = (omega arith, cc)
seen (p ∷ pens) (suc k) eye is = let rest = seen pens k eye is in (omega (arith, rest.0), rest.1)

noted : (files : List FileState) (number : ℤ) (segment : ℕ) (eye : EyeState)
    → slice_get (eyes_found (find (λ it. int_eq number it.number) (map eyes_on files))) segment ≡ Some eye
    → (place : ℕ) × (place_of number files ≡ Some place) × (slice_get (map note_of (file_at files place).segments) segment ≡ Some eye)
noted [] number segment eye is = absurd (let never : ⊥ = cc in never)
noted (f ∷ files) number segment eye is = by (λ there. noted files number segment eye there) (int_eq number f.number) refl is
  where
    by : (slice_get (eyes_found (find (λ it. int_eq number it.number) (map eyes_on files))) segment ≡ Some eye
        → (place : ℕ) × (place_of number files ≡ Some place) × (slice_get (map note_of (file_at files place).segments) segment ≡ Some eye))
        → (b : Bool) → int_eq number f.number ≡ b
        → slice_get (eyes_found (cond b (Some (eyes_on f)) (find (λ it. int_eq number it.number) (map eyes_on files)))) segment ≡ Some eye
        → (place : ℕ) × (place_of number (f ∷ files) ≡ Some place) × (slice_get (map note_of (file_at (f ∷ files) place).segments) segment ≡ Some eye)
    by further true same there = (0, place_first number f files same, there)
    by further false other there =
        let rest = further there in
        (suc rest.0, place_later number f files rest.0 other rest.1, rest.2)

pub receipts_are_own : ReceiptsAreOwn
receipts_are_own = record {
  noted = λ files number segment eye receipt is named pooled.
      let it = noted files number segment eye is in
      let pen = seen (file_at files it.0).segments segment eye it.2 in
      record {
        place = it.0;
        found = it.1;
        fits = record {
          within = pen.0;
          number = named ∙ sym (ap (λ (e : EyeState). e.number) pen.1);
          pool = pooled ∙ sym (ap (λ (e : EyeState). e.pool) pen.1);
        };
      };
  acts = λ old new what number segment receipt is acts.
      subst (λ (p : ScriptedPeer). IsOwnReceipt number segment receipt p.own.files) (sym acts.1) (own_acted acts.0 what number segment receipt old is);
  gets = own_given;
}
