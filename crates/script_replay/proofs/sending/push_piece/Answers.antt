use Rattle.std.proofs.Common.{◌≡◌, List, ℕ, take, length, ap, subst, ◌∙◌, arith}
use Rattle.wp_outside.specs.Lines.{pushed_onto, Became}
use Rattle.script_sides.specs.Sided.{lent_of}
use Rattle.script_replay.proofs.Leaving.{sends_some}
use Rattle.script_replay.proofs.sending.push_piece.Goals as goal

pub returns-in-Ok-push : goal.returns-in-Ok-push
returns-in-Ok-push g c =
    let before = g.L.LinkStore.line c.args.line.now in
    let after = g.L.LinkStore.line c.push.new.self in
    let is : c.lent-lent.result.now ≡ lent_of c.make_room.new.self = c.lent-lent.ensures.bytes in
    let bytes : c.split_at.result.0.now ≡ take c.min-count.result (lent_of c.make_room.new.self) = c.split_at.ensures.front ∙ ap (λ (lent : List ℕ). take c.min-count.result lent) is in
    sends_some c.args.connection c.args.most c.min-count.result c.args.dir c.args.side.now c.make_room.new.self c.sent.new.self before after c.requires.some c.requires.ready c.in-Ok.ensures.same c.in-Ok.ensures.leaves c.in-Ok.ensures.peer
    (omega (arith, c.min-count.ensures, ap length is)) (λ none. c.lent-lent.ensures.nothing c.in-Ok.ensures.leaves.ready (c.in-Ok.ensures.leaves.up ∙ c.requires.ready.side.is_up) (is ∙ none))
    c.sent.ensures.written c.sent.ensures.stays c.sent.ensures.peer
    (subst (λ (row : List ℕ). Became before after c.args.connection (pushed_onto c.args.dir row)) bytes c.in-Ok-push.ensures.ok)
