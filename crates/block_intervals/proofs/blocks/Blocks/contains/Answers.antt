use Rattle.std.proofs.Common.{sym, arith, ap, ◌∙◌, ◌<◌, ◌≤◌, length, subst}
use Rattle.std.specs.List.{AllWithin}
use Rattle.std.proofs.lemmas.Bool.{le-ltb}
use Rattle.block_intervals.specs.declared.run.Run.{Run}
use Rattle.block_intervals.specs.Sets.{has}
use Rattle.block_intervals.proofs.SetLemmas.{has_at, has_past}
use Rattle.block_intervals.proofs.blocks.Blocks.contains.Goals as goal

pub returns-then-before-len : goal.returns-then-before-len
returns-then-before-len c =
    let runs = c.self.inside.runs.items in
    let same = c.deref.ensures.value in
    let at = c.ending_until-before.result in
    let x = c.index.result.now in
    let within : at < length runs = omega (arith, c.self.inside.runs.ok.0) in
    let before = subst (λ xs. AllWithin (λ r. r.end ≤ c.args.block) xs 0 at) same c.ending_until-before.ensures.until in
    let ends = subst (λ (t : Run). c.args.block < t.end) (sym c.index.ensures) (subst (λ xs. AllWithin (λ r. c.args.block < r.end) xs at (length xs)) same c.ending_until-before.ensures.after at x (omega arith) within) in
    has_at runs c.args.block at x x c.self.invariant within (sym c.index.ensures) before ends ∙ ap (has c.args.block) c.self.view_is

pub returns-else-before-len : goal.returns-else-before-len
returns-else-before-len c =
    let runs = c.self.inside.runs.items in
    let at = c.ending_until-before.result in
    let before = subst (λ xs. AllWithin (λ r. r.end ≤ c.args.block) xs 0 at) c.deref.ensures.value c.ending_until-before.ensures.until in
    le-ltb _ _ c.if-before-len.false ∙ sym (has_past runs c.args.block at (omega (arith, c.self.inside.runs.ok.0)) before) ∙ ap (has c.args.block) c.self.view_is
