use Rattle.std.proofs.Common.{ap, arith}
use Rattle.mirror_pools.specs.Sizes.{ToldSizes, total}
use Rattle.message_plans.proofs.ToldLemmas.{file_limit, files_limit, no_limit}
use Rattle.message_plans.proofs.told.Told.limit.Goals as goal

pub returns-then-size-gt-FILE_LIMIT : goal.returns-then-size-gt-FILE_LIMIT
returns-then-size-gt-FILE_LIMIT c =
    file_limit c.args.tell.file.rid c.args.tell.size c.args.self.now (omega (arith, c.if-size-gt-FILE_LIMIT.true, c.max-size.ensures, c.at-old.ensures.size))

pub returns-then-self-old-gt-SUM_LIMIT : goal.returns-then-self-old-gt-SUM_LIMIT
returns-then-self-old-gt-SUM_LIMIT c =
    let sum = ap (λ (sizes : ToldSizes). total sizes) c.self.view_is in
    files_limit c.args.tell.file.rid c.args.tell.size c.args.self.now
    (omega (arith, c.if-size-gt-FILE_LIMIT.false, c.max-size.ensures, c.at-old.ensures.size))
    (omega (arith, c.if-self-old-gt-SUM_LIMIT.true, c.max-size.ensures, c.at-old.ensures.size, sum, c.self.invariant.sum_is))

pub returns : goal.returns
returns c =
    let sum = ap (λ (sizes : ToldSizes). total sizes) c.self.view_is in
    no_limit c.args.tell.file.rid c.args.tell.size c.args.self.now
    (omega (arith, c.if-size-gt-FILE_LIMIT.false, c.max-size.ensures, c.at-old.ensures.size))
    (omega (arith, c.if-self-old-gt-SUM_LIMIT.false, c.max-size.ensures, c.at-old.ensures.size, sum, c.self.invariant.sum_is))
