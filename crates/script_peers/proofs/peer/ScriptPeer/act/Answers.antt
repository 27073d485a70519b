use Rattle.std.proofs.Common.{◌≡◌, Bool, false, cond, ap, sym, ◌∙◌}
use Rattle.pool_words.specs.Views.{no_pool}
use Rattle.script_peers.specs.Peers.{ScriptedPeer, did}
use Rattle.script_peers.specs.Putting.{is_own}
use Rattle.script_peers.proofs.peer.ScriptPeer.act.Goals as goal

pub returns-then-not-is_own : goal.returns-then-not-is_own
returns-then-not-is_own c =
    let other : is_own c.args.self.now.side c.args.what.now ≡ false =
    sym (ap (λ (p : ScriptedPeer). is_own p.side c.args.what.now) c.self.view_is) ∙ sym c.is_own.ensures ∙ c.if-not-is_own.true
    in (
      no_pool,
      sym (ap (λ (b : Bool). cond b (did no_pool c.args.what.now c.args.self.now) c.args.self.now) other),
    )
