use Rattle.std.proofs.Common.{ℤ, List, ◌∷◌, [], ◌++◌, ap, sym, ◌∙◌, w32}
use Rattle.std.proofs.lemmas.Int.{to_z-of_z}
use Rattle.std.proofs.lemmas.Result.{on_ok_weaker}
use Rattle.half_model.specs.declared.items.PeerIn.{PeerIn}
use Rattle.half_model.specs.declared.items.PeerIn.TheVariants as items
use Rattle.script_peers.specs.Owning.{kind_of}
use Rattle.script_peers.specs.Peers.{ScriptedPeer}
use Rattle.script_peers.specs.Putting.{handle_items}
use Rattle.script_peers.proofs.PeerLemmas.{handle_found, handle_missing, wire_put, none_put}
use Rattle.script_peers.proofs.peer.ScriptPeer.put_handle.Goals as goal

pub returns-in-Some : goal.returns-in-Some
returns-in-Some c =
    let number = c.args.number in
    let own = c.args.self.now.own in
    let named = ap (λ (n : ℤ). kind_of n own) (to_z-of_z w32 number c.ranges.number) in
    let inside : ScriptedPeer = record {
      side = c.self.inside.side;
      own = record { files = c.self.inside.files; pipes = c.self.inside.pipes.keys };
      wire = c.self.inside.wire;
      received = c.self.inside.received;
    } in
    let put : List PeerIn = items.Handle (record { number = number; kind = c.in-Some.kind }) ∷ [] in
    let plain = ap (λ (n : ℤ). c.self.inside.wire ++ items.Handle (record { number = n; kind = c.in-Some.kind }) ∷ []) (to_z-of_z w32 number c.ranges.number) in
    on_ok_weaker c.put.result
    (λ is.
    wire_put inside c.args.self.now c.put.new.self put (handle_items own (number ∷ [])) c.self.view_is (is ∙ plain)
    (handle_found own number c.in-Some.kind (sym (c.in-Some.ensures ∙ named))))
    c.put.ensures

pub returns-in-None : goal.returns-in-None
returns-in-None c =
    let number = c.args.number in
    let own = c.args.self.now.own in
    let named = ap (λ (n : ℤ). kind_of n own) (to_z-of_z w32 number c.ranges.number) in
    none_put c.args.self.now (handle_items own (number ∷ [])) (handle_missing own number (sym (c.in-None.ensures ∙ named)))
