-- What stands before the message in a group: the frames before its blocks, and its fills.
use Rattle.std.proofs.Common.{◌≡◌, ℕ, false, List, [], ◌∷◌, ◌++◌, drop, ◌-◌, ◌*◌, ℤ, Option, Some, None, refl, sym, ap, ◌∙◌, append_assoc}
use Rattle.std.proofs.lemmas.Bool.{false≢true}
use Rattle.block_intervals.specs.declared.run.Run.{Run}
use Rattle.transfer_frames.specs.declared.frame.Frame.{Frame}
use Rattle.transfer_frames.specs.declared.frame.Frame.TheVariants.{Protocol}
use Rattle.half_model.specs.Filling.{fills, ending}
use Rattle.half_model.specs.Group.{Owed, frames_of}
use Rattle.half_model.proofs.Frames.{all_append}
use Rattle.mirror_laws.proofs.Mirroring.{speaks, AreSilent}

silent_fills : (rid : ℤ) (pieces : List Run) (bytes : List ℕ) → AreSilent (fills rid pieces bytes)
silent_fills rid [] bytes = tt
silent_fills rid (piece ∷ pieces) bytes = (refl, silent_fills rid pieces (drop (64 * (piece.end - piece.first)) bytes))

pub same_head : (a b : Frame) (xs ys : List Frame) → a ∷ xs ≡ b ∷ ys → a ≡ b
same_head a b xs ys e = cc

pub same_tail : (a b : Frame) (xs ys : List Frame) → a ∷ xs ≡ b ∷ ys → xs ≡ ys
same_tail a b xs ys e = cc

pub no_end : {X : Type 0} (xs : List X) (y : X) (ys : List X) → [] ≡ xs ++ y ∷ ys → ⊥
no_end [] y ys e = absurd cc
no_end (x ∷ xs) y ys e = absurd cc

-- a message behind silent frames has just these before it
silent_front : (quiet : List Frame) (shown : Option (List ℕ)) (front : List Frame) (message : List ℕ) (later : List Frame) → AreSilent quiet
    → quiet ++ ending shown ≡ front ++ Protocol message ∷ later → front ≡ quiet
silent_front [] None front message later silent e = absurd (no_end front (Protocol message) later e)
silent_front [] (Some it) [] message later silent e = refl
silent_front [] (Some it) (frame ∷ front) message later silent e = absurd (no_end front (Protocol message) later (same_tail (Protocol it) frame [] (front ++ Protocol message ∷ later) e))
silent_front (first ∷ quiet) shown [] message later silent e =
    absurd (false≢true (sym silent.0 ∙ ap speaks (same_head first (Protocol message) (quiet ++ ending shown) later e)))
silent_front (first ∷ quiet) shown (frame ∷ front) message later silent e =
    ap (λ (x : Frame). x ∷ front) (sym (same_head first frame (quiet ++ ending shown) (front ++ Protocol message ∷ later) e))
    ∙ ap (λ (xs : List Frame). first ∷ xs) (silent_front quiet shown front message later silent.1 (same_tail first frame (quiet ++ ending shown) (front ++ Protocol message ∷ later) e))

pub group_front : (owed : Owed) (bytes : List ℕ) (front : List Frame) (message : List ℕ) (later : List Frame) → AreSilent owed.before
    → front ++ Protocol message ∷ later ≡ frames_of owed bytes → front ≡ owed.before ++ fills owed.rid owed.pieces bytes
group_front owed bytes front message later silent e =
    silent_front (owed.before ++ fills owed.rid owed.pieces bytes) owed.shown front message later
    (all_append (λ frame. speaks frame ≡ false) owed.before (fills owed.rid owed.pieces bytes) silent (silent_fills owed.rid owed.pieces bytes))
    (append_assoc owed.before (fills owed.rid owed.pieces bytes) (ending owed.shown) ∙ sym e)
