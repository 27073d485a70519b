use Rattle.std.proofs.Common.{rules, subst}
use Rattle.mirror_pools.specs.Sizes.{ToldSizes, IsSummed}
use Rattle.message_plans.proofs.ToldLemmas.{put_done}
use Rattle.message_plans.proofs.told.Told.put.Goals as goal

pub invariant_of-self-2 : goal.invariant_of-self-2
invariant_of-self-2 c =
    let P : ToldSizes → Type 0 = λ sizes. IsSummed c.self.inside.sum sizes in
    put_done c.args.tell.file.rid c.args.tell.size c.self.inside.sum c.at.result c.args.self.now c.insert.new.self.entries
    (subst P c.self.view_is c.self.invariant) c.requires c.at.ensures.size
    (search rules)
