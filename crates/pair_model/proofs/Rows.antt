-- Rows of frames: bytes that begin the spelling of a row begin with frames of that row.
use Rattle.std.proofs.Common.{◌≡◌, ℕ, ◌<◌, List, [], ◌∷◌, ◌++◌, length, refl, sym, ap, subst, ◌∙◌, arith, append_assoc, length-append}
use Rattle.std.proofs.lemmas.List.{append_cancel_left}
use Rattle.std.specs.List.{AllByRecursion}
use Rattle.transfer_frames.specs.declared.frame.Frame.{Frame}
use Rattle.transfer_frames.specs.Grammar.{IsFrame, spelling}
use Rattle.transfer_frames.proofs.FrameLaws.{length-spelling}
use Rattle.transfer_frames.proofs.FrontLaws.{none_begins}
use Rattle.pair_model.specs.Rows.{spellings}

-- no spelling begins another
pub one_spelling : (f g : Frame) (x y : List ℕ) → IsFrame f → IsFrame g → spelling f ++ x ≡ spelling g ++ y → f ≡ g
one_spelling f g x y hf hg e = (none_begins f g x y hf hg e).0

-- a frame has bytes
pub spelling_long : (f : Frame) → 0 < length (spelling f)
spelling_long f = omega (arith, length-spelling f)

pub spelling_some : (f : Frame) (x : List ℕ) → spelling f ++ x ≡ [] → ⊥
spelling_some f x e =
    let none : length (spelling f ++ x) ≡ 0 = ap length e in
    absurd (omega (arith, spelling_long f, length-append (spelling f) x))

-- What is left of a row behind the frames seen, and that the bytes behind them spell just that.
pub record Follows (seen row : List Frame) (bytes : List ℕ) : Type 0 where
  pub rest : List Frame
  pub is : seen ++ rest ≡ row
  pub bytes_are : bytes ≡ spellings rest
  pub frames : AllByRecursion IsFrame rest

-- the same bytes, cut after the first frame
pub same_rest : (f g : Frame) (x y : List ℕ) → f ≡ g → spelling f ++ x ≡ spelling g ++ y → x ≡ y
same_rest f g x y e h = append_cancel_left (spelling g) x y (subst (λ (k : Frame). spelling k ++ x ≡ spelling g ++ y) e h)

pub follows : (seen row : List Frame) (bytes : List ℕ) → AllByRecursion IsFrame seen → AllByRecursion IsFrame row → spellings seen ++ bytes ≡ spellings row → Follows seen row bytes
follows [] row bytes hs hr e = record { rest = row; is = refl; bytes_are = e; frames = hr }
follows (f ∷ fs) [] bytes hs hr e = absurd (spelling_some f (spellings fs ++ bytes) (sym (append_assoc (spelling f) (spellings fs) bytes) ∙ e))
follows (f ∷ fs) (g ∷ gs) bytes hs hr e =
    let whole : spelling f ++ (spellings fs ++ bytes) ≡ spelling g ++ spellings gs = sym (append_assoc (spelling f) (spellings fs) bytes) ∙ e in
    let same : f ≡ g = one_spelling f g (spellings fs ++ bytes) (spellings gs) hs.0 hr.0 whole in
    let rest : Follows fs gs bytes = follows fs gs bytes hs.1 hr.1 (same_rest f g _ _ same whole) in
    record { rest = rest.rest; is = cc (rest.is, same); bytes_are = rest.bytes_are; frames = rest.frames }
