use Rattle.std.proofs.Common.{ℤ, FitsSigned, rules, ap, sym, ◌∙◌, w32}
use Rattle.std.proofs.lemmas.Int.{to_z-of_z}
use Rattle.std.proofs.lemmas.Result.{on_ok_weaker}
use Rattle.half_model.specs.declared.items.PeerOut.{PeerOut}
use Rattle.script_peers.specs.Peers.{settled_own, gave}
use Rattle.script_peers.proofs.peer.ScriptPeer.given.Goals as goal

pub returns-in-Receipt-clause-ok : goal.returns-in-Receipt-clause-ok
returns-in-Receipt-clause-ok c =
    let number : ℤ = c.in-Receipt.number in
    let fits : FitsSigned w32 number = search rules in
    let now = c.args.self.now in
    on_ok_weaker c.settle.result
    (λ is. is
    ∙ ap (λ (n : ℤ). settled_own n c.in-Receipt.segment c.in-Receipt.receipt now) (to_z-of_z w32 number fits)
    ∙ ap (λ (item : PeerOut). gave item now) (sym c.in-Receipt.is))
    c.settle.ensures.ok
