use Rattle.std.proofs.Common.{◌≡◌, ◌∙◌, ◌++◌, ◌∷◌, suc, take, drop, ap, arith}
use Rattle.std.proofs.lemmas.List.{set_split}
use Rattle.block_intervals.proofs.places.replace_runs.Goals as goal

pub returns-else-from-to-2-clause-ok : goal.returns-else-from-to-2-clause-ok
returns-else-from-to-2-clause-ok c =
    let runs = c.args.runs.now.items in
    let next : suc c.args.from ≡ c.args.to = omega arith in
    set_split runs c.args.from c.args.run (omega arith) ∙ ap (λ n. take c.args.from runs ++ c.args.run ∷ drop n runs) next
