use Rattle.std.proofs.Common.{sym, arith, ap, ◌∙◌, ◌≡◌, ◌<◌, ◌-◌, ℕ, List, length, get_or, set, take, subst}
use Rattle.block_intervals.specs.declared.run.Run.{Run}
use Rattle.block_intervals.specs.Sets.{hull_of, Rises}
use Rattle.block_intervals.proofs.SetLemmas.{hull-rises, hull_is, last_at}
use Rattle.block_intervals.proofs.blocks.Blocks.hull.Goals as goal

-- the runs that are written are the hull
whole : (runs new : List Run) (count : ℕ) (x y : Run) → new ≡ take 1 runs → count ≡ length runs → 0 < count → x ≡ get_or runs 0 x → y ≡ get_or runs (count - 1) y → set new 0 (record { first = x.first; end = y.end }) ≡ hull_of runs
whole runs new count x y cut counted some first last =
    ap (λ (t : List Run). set t 0 (record { first = x.first; end = y.end })) cut
    ∙ hull_is runs x y x (omega arith) (sym first) (sym (last_at runs count y x counted some last))

pub invariant_of-self : goal.invariant_of-self
invariant_of-self c =
    subst Rises (sym (whole c.self.inside.runs.items _ c.len-count.result _ _ c.truncate.ensures.items (omega (arith, c.self.inside.runs.ok.0)) c.if-count-gt0.true c.index.ensures c.index-then-count-gt0.ensures)) (hull-rises _ c.self.invariant)

pub returns-then-count-gt0-clause-hull : goal.returns-then-count-gt0-clause-hull
returns-then-count-gt0-clause-hull c =
    whole c.self.inside.runs.items _ c.len-count.result _ _ c.truncate.ensures.items (omega (arith, c.self.inside.runs.ok.0)) c.if-count-gt0.true c.index.ensures c.index-then-count-gt0.ensures ∙ ap hull_of c.self.view_is

pub returns-then-count-gt0-clause-rises : goal.returns-then-count-gt0-clause-rises
returns-then-count-gt0-clause-rises c = invariant_of-self c
