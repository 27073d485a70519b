-- What the sources and sinks in memory hold, and what one call of each answers and changes. This
-- project's own: the Wayland standard has no such thing.
use Rattle.std.specs.Prelude.{ℕ, ◌+◌, ◌-◌, ◌^◌, ◌==◌, if◌then◌else◌, Bool, true, false, List, [], ◌∷◌, ◌++◌, length, take, drop, min}
use Rattle.std.specs.List.{list_any}
use Rattle.wp_outside.specs.declared.sources.Taken.{Taken}
use Rattle.wp_outside.specs.declared.sources.Taken.TheVariants.{Bytes, End, Failed}

-- calls that are counted from 0, of which some are to fail
pub record Plan : Type 0 where
  pub fail_at : List ℕ
  pub call : ℕ
  pub faults : ℕ

-- one more, up to the last value of 64 bits
abbrev pub one_more : ℕ → ℕ
one_more n = min (n + 1) (2 ^ 64 - 1)

-- whether the next call is to fail
abbrev pub is_planned : Plan → Bool
is_planned plan = list_any (λ n. n == plan.call) plan.fail_at

-- the plan after a call, by whether that call failed
abbrev pub plan_after : Bool → Plan → Plan
plan_after failed plan =
    record plan {
      call = one_more plan.call;
      faults = if failed then one_more plan.faults else plan.faults;
    }

-- a source in memory: the bytes that are left, and its plan
pub record PlannedSource : Type 0 where
  pub left : List ℕ
  pub plan : Plan

-- what a read of a piece of this length answers where no call is to fail: as many bytes as there
-- are
abbrev pub taken_of : List ℕ → ℕ → Taken
taken_of [] piece = End
taken_of (first ∷ others) piece = Bytes (min piece (length (first ∷ others)))

-- what a source in memory answers
abbrev pub read_answer : PlannedSource → ℕ → Taken
read_answer source piece = if is_planned source.plan then Failed else taken_of source.left piece

-- the source after that read
abbrev pub after_read : PlannedSource → ℕ → PlannedSource
after_read source piece =
    record {
      left = if is_planned source.plan then source.left else drop piece source.left;
      plan = plan_after (is_planned source.plan) source.plan;
    }

-- room for bytes: those that were written, and those that are to be written over
pub record PartlyUsed : Type 0 where
  pub held : List ℕ
  pub spare : List ℕ

-- a sink in memory: the bytes that were written, the bytes of the room that are to be written over,
-- and its plan
pub record PlannedSink : Type 0 where
  pub held : List ℕ
  pub spare : List ℕ
  pub plan : Plan

-- whether there is no place
abbrev pub is_full : List ℕ → Bool
is_full [] = true
is_full (first ∷ others) = false

-- whether the next write is to fail: it is planned to, or no place is left
abbrev pub is_refused : PlannedSink → Bool
is_refused sink = if is_planned sink.plan then true else is_full sink.spare

-- the sink after a write of a piece: as much of it as there are places
abbrev pub after_write : PlannedSink → List ℕ → PlannedSink
after_write sink bytes =
    record {
      held = if is_refused sink then sink.held else (sink.held ++ take (length sink.spare) bytes);
      spare = if is_refused sink then sink.spare else (drop (length bytes) sink.spare);
      plan = plan_after (is_refused sink) sink.plan;
    }
