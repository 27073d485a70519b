use Rattle.std.proofs.Common.{◌≡◌, ℤ, false, is_none, ap, sym, ◌∙◌, w32}
use Rattle.std.specs.Prelude.{not}
use Rattle.std.proofs.lemmas.Int.{to_z-of_z}
use Rattle.script_peers.specs.Owning.{kind_of}
use Rattle.script_peers.specs.Putting.{is_free}
use Rattle.script_peers.proofs.PeerLemmas.{none_false, pipe_refused}
use Rattle.script_peers.proofs.peer.ScriptPeer.make_pipe.Goals as goal

pub returns-else-is_none : goal.returns-else-is_none
returns-else-is_none c =
    let number = c.args.number in
    let free : is_free number c.args.self.now.own ≡ false =
    ap is_none (sym (c.kind_of.ensures ∙ ap (λ (n : ℤ). kind_of n c.args.self.now.own) (to_z-of_z w32 number c.ranges.number)))
    ∙ none_false c.kind_of.result (c.is_none.ensures ∙ ap not c.if-is_none.false)
    in
    pipe_refused number c.args.self.now free
