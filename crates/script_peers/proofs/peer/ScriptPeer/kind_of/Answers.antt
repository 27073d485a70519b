use Rattle.std.proofs.Common.{◌≡◌, ℤ, Bool, true, is_some, ap, sym, ◌∙◌, w32}
use Rattle.std.proofs.lemmas.Int.{to_z-of_z}
use Rattle.script_peers.specs.Owning.{place_of, kind_by, is_pipe}
use Rattle.script_peers.specs.Peers.{ScriptedPeer}
use Rattle.script_peers.proofs.peer.ScriptPeer.kind_of.Goals as goal

pub returns-then-is_some : goal.returns-then-is_some
returns-then-is_some c =
    let number = c.args.number in
    let there : is_some (place_of number c.args.self.now.own.files) ≡ true =
    sym (ap (λ (p : ScriptedPeer). is_some (place_of number p.own.files)) c.self.view_is)
    ∙ ap is_some (sym (c.place.ensures.place ∙ ap (λ (n : ℤ). place_of n c.self.inside.files) (to_z-of_z w32 number c.ranges.number)))
    ∙ sym c.is_some.ensures
    ∙ c.if-is_some.true
    in
    sym (ap (λ (b : Bool). kind_by b (is_pipe number c.args.self.now.own)) there)
