-- What one read of a source gives and what one write to a sink takes, by pieces of any length. This
-- project's own, after the calls `read` and `write` of Rust's standard library.
use Rattle.std.specs.Prelude.{◌≡◌, ℕ, ◌≤◌, Option, None, Some, List, [], ◌++◌, length, take, drop}
use Rattle.wp_outside.specs.declared.sources.Taken.{Taken}
use Rattle.wp_outside.specs.declared.sources.Taken.TheVariants.{Bytes, End, Failed}

-- a fact of the count of bytes that a read gave, where it gave some
abbrev pub IfBytes : Taken → (ℕ → Type 0) → Type 0
IfBytes (Bytes n) P = P n
IfBytes End P = Unit {0}
IfBytes Failed P = Unit {0}

-- a fact where a read answered that the end was reached
abbrev pub OnEnd : Taken → Type 0 → Type 0
OnEnd (Bytes n) P = Unit {0}
OnEnd End P = P
OnEnd Failed P = Unit {0}

-- one fact where a read failed, and another at each other answer
abbrev pub MatchFailed : Taken → Type 0 → Type 0 → Type 0
MatchFailed (Bytes n) P Q = Q
MatchFailed End P Q = Q
MatchFailed Failed P Q = P

-- n is a count of bytes of a piece of this length: at least one, and no more than the piece has
abbrev pub IsPartOf : ℕ → ℕ → Type 0
IsPartOf n piece = (1 ≤ n) × (n ≤ piece)

-- a fact of the bytes that stand on one side, where they are told
abbrev pub IfTold : Option (List ℕ) → (List ℕ → Type 0) → Type 0
IfTold None P = Unit {0}
IfTold (Some bytes) P = P bytes

-- the piece after a read that put these bytes' first n over its front
abbrev pub with_front : ℕ → List ℕ → List ℕ → List ℕ
with_front n bytes piece = take n bytes ++ drop n piece

-- what a source that had these bytes left gives with an answer: the first bytes, over the front of
-- the piece, and none of them at its end or a failure
abbrev pub Gives : Taken → List ℕ → List ℕ → List ℕ → Type 0
Gives (Bytes n) bytes old new = (n ≤ length bytes) × (new ≡ with_front n bytes old)
Gives End bytes old new = (bytes ≡ []) × (new ≡ old)
Gives Failed bytes old new = new ≡ old

-- what is left after an answer, where it is told
abbrev pub left_after : Taken → Option (List ℕ) → Option (List ℕ)
left_after (Bytes n) None = None
left_after (Bytes n) (Some bytes) = Some (drop n bytes)
left_after End left = left
left_after Failed left = left

-- what a sink holds after it took these bytes, where it is told
abbrev pub held_with : Option (List ℕ) → List ℕ → Option (List ℕ)
held_with None more = None
held_with (Some held) more = Some (held ++ more)
