use Rattle.script_replay.proofs.Connecting.{cut_moves, cut_none}
use Rattle.script_replay.proofs.run.Run.cut.Goals as goal

pub returns-then-self : goal.returns-then-self
returns-then-self g c = λ ready.
    cut_moves c.ready_goes_on.ensures c.args.self.now c.link_down.new.self c.link_down-then-self.new.self (g.L.LinkStore.line c.args.line.now) (g.L.LinkStore.line c.cut.new.self) ready
    c.link_down.ensures.ready c.link_down-then-self.ensures.ready c.link_down.ensures.same c.link_down-then-self.ensures.same c.link_down.ensures.peer c.link_down-then-self.ensures.peer
    c.link_down.ensures.down c.link_down-then-self.ensures.down c.cut.ensures.change

pub returns-else-self : goal.returns-else-self
returns-else-self g c = λ ready. cut_none c.ready_goes_on.ensures c.args.self.now (g.L.LinkStore.line c.args.line.now) c.if-self.false ready
