use Rattle.std.proofs.Common.{sym, subst}
use Rattle.std.specs.Prelude.{All}
use Rattle.pool_words.specs.History.{HasStood}
use Rattle.pool_words.specs.Views.{DeskState, history_of, settled_of}
use Rattle.pool_words.proofs.pen.Pen.settle.Goals as goal

pub returns-clause-stood : goal.returns-clause-stood
returns-clause-stood c = subst (λ (d : DeskState). All (HasStood (history_of d.view)) (settled_of d.view)) (sym c.learn.ensures.same) c.learn.ensures.stood
