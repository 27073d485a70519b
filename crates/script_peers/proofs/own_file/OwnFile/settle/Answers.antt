use Rattle.std.proofs.Common.{◌<◌, length, sym, subst}
use Rattle.shm_pools.specs.Files.{FileState, pen_at}
use Rattle.script_peers.specs.Owning.{IsStoodIn}
use Rattle.script_peers.specs.Holding.{IsCounted}
use Rattle.script_peers.proofs.OwnLemmas.{counted_settled}
use Rattle.script_peers.proofs.own_file.OwnFile.settle.Goals as goal

pub invariant_of-self : goal.invariant_of-self
invariant_of-self c =
    let within : c.args.segment < length c.self.inside.pen.segments =
    subst (λ (f : FileState). c.args.segment < length f.segments) (sym c.self.view_is) c.requires.within
    in
    subst (IsCounted c.self.inside.words c.self.inside.segments) (sym c.in-Ok.ensures.ok)
    (counted_settled c.self.inside.words c.self.inside.segments c.self.inside.pen c.args.segment c.args.receipt c.self.invariant within
    (subst (λ (f : FileState). IsStoodIn (pen_at f.segments c.args.segment)) c.in-Ok.ensures.ok c.in-Ok.ensures.stood))

pub returns-clause-stood : goal.returns-clause-stood
returns-clause-stood c = (invariant_of-self c).stood
