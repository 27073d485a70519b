use Rattle.std.proofs.Common.{◌≡◌, true, false, refl, sym, ◌∙◌}
use Rattle.script_replay.proofs.Connecting.{spoil_by, spoil_none}
use Rattle.script_replay.proofs.run.Run.spoil.Goals as goal

pub returns-then-self : goal.returns-then-self
returns-then-self g c = λ ready.
    spoil_by c.ready_goes_on.ensures c.args.dir c.args.offset c.args.byte c.args.self.now (g.L.LinkStore.line c.args.line.now) (g.L.LinkStore.line c.spoil.new.self) ready c.spoil.result c.spoil.ensures.answer c.spoil.ensures.change

pub returns-else-self : goal.returns-else-self
returns-else-self g c = λ ready.
    spoil_none c.ready_goes_on.ensures c.args.dir c.args.offset c.args.byte c.args.self.now (g.L.LinkStore.line c.args.line.now) (g.L.LinkStore.line c.args.line.now) ready (λ e. absurd (let never : true ≡ false = sym e ∙ c.if-self.false in cc)) (λ n. refl)
