use Rattle.std.proofs.Common.{rules}
use Rattle.std.proofs.lemmas.Slice.{overwrites}
use Rattle.transfer_frames.proofs.small.put_at.Goals as goal

pub returns-clause-rest : goal.returns-clause-rest
returns-clause-rest c = λ n behind. search (rules, overwrites)
