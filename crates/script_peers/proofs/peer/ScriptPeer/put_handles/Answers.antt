use Rattle.std.proofs.Common.{ℤ, pos, get_or, FitsSigned, rules, ◌∷◌, [], ap, ◌∙◌, w32}
use Rattle.std.proofs.lemmas.Int.{to_z-of_z}
use Rattle.script_peers.specs.Peers.{with_items}
use Rattle.script_peers.specs.Putting.{handle_items}
use Rattle.script_peers.proofs.PeerLemmas.{handles_more}
use Rattle.script_peers.proofs.peer.ScriptPeer.put_handles.Goals as goal

pub loop-number-preserved : goal.loop-number-preserved
loop-number-preserved c =
    let number : ℤ = get_or c.args.numbers.now c.loop-number.number-index (pos 0) in
    let fits : FitsSigned w32 number = search rules in
    handles_more c.args.self.now c.loop-number.self c.put_handle.new.self c.args.numbers.now c.loop-number.number-index (pos 0)
    c.loop-number-test.true c.loop-number.invariant
    (c.in_ok-put_handle.ensures
    ∙ ap (λ (n : ℤ). with_items (handle_items c.loop-number.self.own (n ∷ [])) c.loop-number.self) (to_z-of_z w32 number fits))
