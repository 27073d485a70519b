use Rattle.std.proofs.Common.{sym, ap, unwrap_or, arith, ℕ, Option}
use Rattle.mirror_pools.proofs.SizeLemmas.{lookup-le-total}
use Rattle.message_plans.proofs.told.Told.at.Goals as goal

pub returns-in-Some-clause-size : goal.returns-in-Some-clause-size
returns-in-Some-clause-size c = ap (λ (o : Option ℕ). unwrap_or o 0) c.in-Some.ensures.exact

pub returns-in-Some-clause-least : goal.returns-in-Some-clause-least
returns-in-Some-clause-least c = lookup-le-total c.args.file.rid c.args.self.now c.in-Some.size (sym c.in-Some.ensures.exact)

pub returns-in-Some-clause-few : goal.returns-in-Some-clause-few
returns-in-Some-clause-few c =
    let least = lookup-le-total c.args.file.rid c.args.self.now c.in-Some.size (sym c.in-Some.ensures.exact) in
    omega (arith, least, c.in-Some.ensures.sound.together)

pub returns-in-None-clause-size : goal.returns-in-None-clause-size
returns-in-None-clause-size c = ap (λ (o : Option ℕ). unwrap_or o 0) c.in-None.ensures.exact
