use Rattle.std.proofs.Common.{sym, ap, ◌∙◌}
use Rattle.script_sides.specs.Sided.{lent_of}
use Rattle.script_sides.proofs.Links.{no_front}
use Rattle.script_sides.proofs.side.ScriptSide.lent.Goals as goal

pub returns-clause-nothing : goal.returns-clause-nothing
returns-clause-nothing c = λ h up e. no_front c.args.self.now h up (sym (c.lent.ensures ∙ ap lent_of c.self.view_is) ∙ e)
