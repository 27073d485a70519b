-- What a test of the sizes lets pass takes effect, and what it refuses changes nothing; and no bytes
-- fit a file which end behind what a word counts.
use Rattle.std.proofs.Common.{◌≡◌, ◌≤◌, ◌<◌, ℕ, ℤ, false, is_some, [], ◌∷◌, Option, Some, None, refl, sym, ◌∙◌, ap, arith}
use Rattle.std.proofs.lemmas.Bool.{lt-ltb}
use Rattle.std.proofs.lemmas.Map.Views.{IfSome-lookup_from_All}
use Rattle.std.specs.BTreeMap.{is_at}
use Rattle.std.specs.Option.{IfSome}
use Rattle.std.specs.Ordering.{int_cmp}
use Rattle.transfer_frames.specs.declared.cause.FrameCause.{FrameCause}
use Rattle.transfer_frames.specs.declared.cause.FrameCause.TheVariants.{FillOutside}
use Rattle.transfer_frames.specs.Faults.{first_of}
use Rattle.mirror_pools.specs.Sizes.{ToldSizes, MOST_FILE, IsSound, size_at, rounded, range_cause, fill_cause}
use Rattle.half_model.specs.PeerState.{PeerState, if_good}

pub good : (told : Option FrameCause) (next peer : PeerState) → told ≡ None → next ≡ if_good told next peer
good told next peer fine = sym (ap (λ (o : Option FrameCause). if_good o next peer) fine)

pub refused : (told : Option FrameCause) (cause : FrameCause) (next peer : PeerState) → told ≡ Some cause → peer ≡ if_good told next peer
refused told cause next peer is = sym (ap (λ (o : Option FrameCause). if_good o next peer) is)

-- ---- bytes of a file

-- a test of the same bytes of the same file
pub fill_tested : (key rid : ℤ) (told end : ℕ) (sizes : ToldSizes) (answer : Option FrameCause)
    → key ≡ rid → told ≡ end → fill_cause key told sizes ≡ answer → fill_cause rid end sizes ≡ answer
fill_tested key rid told end sizes answer same ends is =
    sym (ap (λ (k : ℤ). fill_cause k told sizes) same ∙ ap (λ (n : ℕ). fill_cause rid n sizes) ends) ∙ is

-- bytes of a file that isn't there
pub nothing_filled : (rid : ℤ) (end : ℕ) (sizes : ToldSizes) (next peer : PeerState) → is_some (size_at rid sizes) ≡ false
    → peer ≡ if_good (fill_cause rid end sizes) next peer
nothing_filled rid end sizes next peer none = by (size_at rid sizes) none
  where
    by : (o : Option ℕ) → is_some o ≡ false → peer ≡ if_good (range_cause o end) next peer
    by None is = refl
    by (Some size) is = absurd (let never : ⊥ = cc in never)

-- bytes that end behind what a word counts
pub outside_of_words : (rid : ℤ) (end : ℕ) (sizes : ToldSizes) (next peer : PeerState) → IsSound sizes → (end < 4294967296 → ⊥)
    → peer ≡ if_good (fill_cause rid end sizes) next peer
outside_of_words rid end sizes next peer sound no_word =
    let far : 4294967296 ≤ end = omega (arith, no_word) in
    by (size_at rid sizes) (IfSome-lookup_from_All (λ (size : ℕ). size ≤ MOST_FILE) (is_at (int_cmp rid)) sizes sound.each) far
  where
    by : (o : Option ℕ) → IfSome o (λ (size : ℕ). size ≤ MOST_FILE) → 4294967296 ≤ end → peer ≡ if_good (range_cause o end) next peer
    by None small far = refl
    by (Some size) small far =
        sym (ap (λ b. if_good (first_of ((b, FillOutside) ∷ [])) next peer) (lt-ltb (rounded size) end (omega (arith, small, far))))
