use Rattle.std.proofs.Common.{ap, ◌∙◌}
use Rattle.pool_words.specs.Views.{DeskState, write, announced, history_of, settled_of}
use Rattle.pool_words.proofs.pen.Pen.write.Goals as goal

pub store-requires-clause-pending : goal.store-requires-clause-pending
store-requires-clause-pending c =
    let v = c.self.inside.desk.view in
    (history_of v, settled_of v, ap (λ (d : DeskState). d.view) c.announce.ensures ∙ ap (announced (write c.args.i c.args.v)) c.self.invariant.1)
