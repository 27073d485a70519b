use Rattle.std.proofs.Common.{subst}
use Rattle.script_peers.specs.Owning.{IsStood}
use Rattle.script_peers.proofs.own_file.OwnFile.fill.Goals as goal

pub returns-else-has_words-clause-stood : goal.returns-else-has_words-clause-stood
returns-else-has_words-clause-stood c = subst IsStood c.self.view_is c.self.invariant.stood
