-- The two facts on the order in which a side takes messages and accepts frames, told by counts of
-- frames; the frames are this project's own.
use Rattle.std.specs.Prelude.{ℕ, ◌≤◌, cond, List, [], ◌∷◌, max, drop, length}
use Rattle.transfer_frames.specs.declared.frame.Frame.{Frame}
use Rattle.transfer_frames.specs.Grammar.{role}
use Rattle.pair_model.specs.Rows.{is_counted, count_in}

-- for each counted frame of a row the greatest count told before it, in the row or already before
-- that
abbrev pub told_before : ℕ → List Frame → List ℕ
told_before most [] = []
told_before most (frame ∷ frames) =
    let later = told_before (max most (count_in (role frame))) frames in
    cond (is_counted (role frame)) (most ∷ later) later

-- each item of the first list stands so to the item at its place in the second one, which is no
-- shorter
abbrev pub Within : (ℕ → ℕ → Type 0) → List ℕ → List ℕ → Type 0
Within relation [] ys = Unit {0}
Within relation (x ∷ xs) [] = ⊥
Within relation (x ∷ xs) (y ∷ ys) = relation x y × Within relation xs ys

-- No frame is sent before the other side was told of each frame that was accepted before the
-- frame's message was taken: sent are those from index p on, after a RESTART that told this
-- received count.
abbrev pub InTime : List ℕ → ℕ → ℕ → List Frame → Type 0
InTime due received p sent =
    Within (λ told taken_after. taken_after ≤ told) (told_before received sent) (drop p due)

-- Each frame is accepted only behind all that the other is known to have accepted: the frames seen
-- on a connection come after these accepted ones, and after this count was told.
abbrev pub HeardLate : List ℕ → ℕ → List Frame → List Frame → Type 0
HeardLate ahead told accepted seen =
    Within (λ known made. known ≤ made) (told_before told seen) (drop (length accepted) ahead)
