use Rattle.script_replay.proofs.Connecting.{connect_again}
use Rattle.script_replay.proofs.run.Run.connect.Goals as goal

pub returns-then-self : goal.returns-then-self
returns-then-self g c = λ ready. connect_again c.ready_goes_on.ensures c.args.self.now (g.L.LinkStore.line c.args.line.now) c.if-self.true ready
