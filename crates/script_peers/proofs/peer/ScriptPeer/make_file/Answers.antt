use Rattle.std.proofs.Common.{ℤ, Bool, ◌&&◌, is_none, ap, sym, ◌∙◌, w32}
use Rattle.std.specs.Prelude.{not}
use Rattle.std.proofs.lemmas.Int.{to_z-of_z}
use Rattle.pool_words.specs.Views.{no_pool}
use Rattle.script_peers.specs.Owning.{kind_of, is_size}
use Rattle.script_peers.specs.Putting.{is_free}
use Rattle.script_peers.proofs.PeerLemmas.{and_false, none_false, file_refused}
use Rattle.script_peers.proofs.peer.ScriptPeer.make_file.Goals as goal
use Rattle.script_peers.proofs.peer.ScriptPeer.make_file.Goals.{else-is_none-via-then-is_none+else-is_size, else-is_none-via-else-is_none}

pub returns-else-is_none : goal.returns-else-is_none
returns-else-is_none c =
    let number = c.args.number in
    let size = c.args.size in
    let peer = c.args.self.now in
    elim c.else-is_none.branch [
      | else-is_none-via-then-is_none+else-is_size w ↦ (
        no_pool,
        file_refused no_pool number size peer (and_false (is_free number peer.own) (is_size size) (sym w.is_size.ensures ∙ w.if-is_size.false)),
      )
      | else-is_none-via-else-is_none w ↦ (
        no_pool,
        file_refused no_pool number size peer (ap (λ (b : Bool). b && is_size size)
            (ap is_none (sym (c.kind_of.ensures ∙ ap (λ (n : ℤ). kind_of n peer.own) (to_z-of_z w32 number c.ranges.number)))
            ∙ none_false c.kind_of.result (c.is_none.ensures ∙ ap not w.if-is_none.false))),
      )
    ]
