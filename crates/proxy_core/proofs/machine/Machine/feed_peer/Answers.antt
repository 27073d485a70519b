-- An item is taken, and then all that is due is done.
use Rattle.std.proofs.lemmas.Result.{err_from_is_err_and}
use Rattle.side_model.specs.Events.{Fed}
use Rattle.proxy_core.proofs.Callings.{IsReady, begun_ready, fed_one, call_refused, wants_runs}
use Rattle.proxy_core.proofs.machine.Machine.feed_peer.Goals as goal

pub returns-in_err-feed_item-clause-exact : goal.returns-in_err-feed_item-clause-exact
returns-in_err-feed_item-clause-exact c =
    let s = c.args.self.now in
    let p = err_from_is_err_and c.from_residual.result c.from_residual.ensures.1 in
    rw (p.1, p.2) (call_refused c.in_err-feed_item.field-0.0 (Fed c.args.item) s c.feed_item.new.self (wants_runs s c.requires.wants) c.in_err-feed_item.ensures)

ready : (c : goal.After-settle-arg-1) → IsReady c.feed_item.new.self
ready c =
    let s = c.args.self.now in
    begun_ready (Fed c.args.item) s c.feed_item.new.self (wants_runs s c.requires.wants) c.requires.rests (c.requires.wants, c.requires.item) c.requires.few (fed_one c.args.item s) c.in_ok-feed_item.ensures

pub settle-requires-clause-running : goal.settle-requires-clause-running
settle-requires-clause-running c = (ready c).running

pub settle-requires-clause-keeps : goal.settle-requires-clause-keeps
settle-requires-clause-keeps c = (ready c).keeps

pub settle-requires-clause-groups : goal.settle-requires-clause-groups
settle-requires-clause-groups c = (ready c).groups

pub settle-requires-clause-few : goal.settle-requires-clause-few
settle-requires-clause-few c = (ready c).few
