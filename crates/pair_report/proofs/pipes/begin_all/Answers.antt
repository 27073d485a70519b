use Rattle.std.proofs.Common.{ℤ, List, sym, ◌∙◌, ap, w32, SFits, rules}
use Rattle.std.proofs.lemmas.Int.{to_z-of_z}
use Rattle.std.proofs.lemmas.Map.Iter.{rest_more}
use Rattle.std.specs.Map.Iter.{deref}
use Rattle.pair_report.specs.Meant.{with_pipe}
use Rattle.pair_report.specs.Report.{begun}
use Rattle.pair_report.proofs.pipes.begin_all.Goals as goal

pub loop-rid-preserved : goal.loop-rid-preserved
loop-rid-preserved c =
    let fits : SFits w32 c.in-Some.rid.now = search rules in
    ap (begun c.next.new.self) (c.in_ok-begin.ensures ∙ ap (λ (k : ℤ). with_pipe k c.loop-rid.flows) (to_z-of_z w32 c.in-Some.rid.now fits))
    ∙ ap (λ (rids : List ℤ). begun rids c.loop-rid.flows) (sym (rest_more deref c.loop-rid.rid-iterator c.next.new.self c.next.result c.in-Some.rid c.in-Some.is c.next.ensures.steps))
    ∙ c.loop-rid.invariant
