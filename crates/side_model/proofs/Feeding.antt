-- What a side took from its peer and what waits of it are the bytes that the peer put, in order.
use Rattle.std.proofs.Common.{◌≡◌, ℕ, List, [], ◌∷◌, ◌++◌, Option, Some, None, refl, sym, ap, ◌∙◌, append_assoc}
use Rattle.std.proofs.lemmas.List.{append-nil}
use Rattle.std.specs.List.{flat_map}
use Rattle.half_model.specs.declared.items.PeerIn.TheVariants as inputs
use Rattle.half_model.specs.declared.items.PeerOut.{PeerOut}
use Rattle.wp_outside.specs.declared.pipe_items.PipeItem.{PipeItem}
use Rattle.wp_outside.specs.declared.pipe_items.PipeItem.TheVariants as pieces
use Rattle.half_model.specs.PipeTurn as pipes
use Rattle.half_model.specs.PipeTurn.{PipeTurn, pipe_turn}
use Rattle.half_model.specs.Turn as turns
use Rattle.half_model.specs.Turn.{Turn, turn, Treated, MadeGroup, group_due}
use Rattle.half_model.specs.TurnLaws.{IsTaken}
use Rattle.half_model.proofs.Turns.{turn_is_lawful}
use Rattle.side_model.specs.Books.{TrailRecord, marked_trail}
use Rattle.side_model.specs.Events.{Fed, Handed, Lent, Up, Down, Came, Went, Gave, Asks, Told, Heard, Took, Grouped, Ended, Chose}
use Rattle.side_model.specs.FollowLaws.{from_peer, TakesInOrder}
use Rattle.side_model.specs.Marks.{mark_pipe, mark_taken, mark_grouped, mark_ended}
use Rattle.side_model.specs.State.{Now, Closing, Open, Asked, Made}
use Rattle.side_model.specs.Steps.{step, with_live, fed_pipe, gone, took, grouped, ended}
use Rattle.side_model.proofs.Stories.{one_more}

none : (bytes : List ℕ) → bytes ≡ bytes ++ []
none bytes = sym (append-nil bytes)

pipe_takes : (item : PipeItem) (s : Now) (trail : TrailRecord) (it : PipeTurn) → from_peer (fed_pipe it s) (marked_trail (mark_pipe item it) trail) ≡ from_peer s trail ++ []
pipe_takes item s trail pipes.Barred = none (from_peer s trail)
pipe_takes (pieces.Bytes rid bytes) s trail (pipes.Drops tables) = none (from_peer s trail)
pipe_takes (pieces.End rid) s trail (pipes.Drops tables) = none (from_peer s trail)
pipe_takes (pieces.Shut number) s trail (pipes.Drops tables) = none (from_peer s trail)
pipe_takes item s trail (pipes.Makes frame tables) = none (from_peer s trail)

turn_takes : (s : Now) (trail : TrailRecord) (it : Turn) → turn s.live.tables s.live.sending ≡ it → from_peer (took it s) (marked_trail (mark_taken it) trail) ≡ from_peer s trail ++ []
turn_takes s trail turns.Idle e = none (from_peer s trail)
turn_takes s trail (turns.Refuses fault) e = none (from_peer s trail)
turn_takes s trail (turns.Takes it) e =
    let t : IsTaken s.live.tables s.live.sending s.live.taking it = turn_is_lawful s.live.tables s.live.sending s.live.taking it e in
    ap (λ (bytes : List ℕ). bytes ++ it.sending.inlet.bytes) (one_more (λ (message : List ℕ). message) trail.taken it.message)
    ∙ append_assoc (flat_map (λ (message : List ℕ). message) trail.taken) it.message it.sending.inlet.bytes
    ∙ ap (λ (bytes : List ℕ). flat_map (λ (message : List ℕ). message) trail.taken ++ bytes) (sym t.front) ∙ none (from_peer s trail)

group_takes : (s : Now) (trail : TrailRecord) (found : Option MadeGroup) → from_peer (grouped found s) (marked_trail (mark_grouped found) trail) ≡ from_peer s trail ++ []
group_takes s trail None = none (from_peer s trail)
group_takes s trail (Some made) = none (from_peer s trail)

close_takes : (s : Now) (trail : TrailRecord) (closing : Closing) → from_peer (ended closing s) (marked_trail (mark_ended closing) trail) ≡ from_peer s trail ++ []
close_takes s trail Open = none (from_peer s trail)
close_takes s trail (Asked reason) = none (from_peer s trail)
close_takes s trail Made = none (from_peer s trail)

gone_takes : (s : Now) (trail : TrailRecord) (items : List PeerOut) → from_peer (with_live (gone items) s) trail ≡ from_peer s trail ++ []
gone_takes s trail [] = none (from_peer s trail)
gone_takes s trail (item ∷ items) = none (from_peer s trail)

pub takes_in_order : TakesInOrder
unfolding step
takes_in_order (Fed (inputs.Bytes piece)) s trail = sym (append_assoc (flat_map (λ (message : List ℕ). message) trail.taken) s.live.sending.inlet.bytes piece)
takes_in_order (Fed (inputs.Handle handle)) s trail = none (from_peer s trail)
takes_in_order (Fed (inputs.Note note)) s trail = none (from_peer s trail)
takes_in_order (Fed (inputs.Pipe item)) s trail = pipe_takes item s trail (pipe_turn s.live.tables s.live.taking item)
takes_in_order (Handed done) s trail = none (from_peer s trail)
takes_in_order Lent s trail = none (from_peer s trail)
takes_in_order (Up connection) s trail = none (from_peer s trail)
takes_in_order Down s trail = none (from_peer s trail)
takes_in_order (Came piece) s trail = none (from_peer s trail)
takes_in_order (Went count) s trail = none (from_peer s trail)
takes_in_order Gave s trail = gone_takes s trail s.live.items
takes_in_order (Asks reason) s trail = none (from_peer s trail)
takes_in_order Told s trail = none (from_peer s trail)
takes_in_order (Heard frame) s trail = none (from_peer s trail)
takes_in_order Took s trail = turn_takes s trail (turn s.live.tables s.live.sending) refl
takes_in_order Grouped s trail = group_takes s trail (group_due s.live.sending.owes s.kept.jobs)
takes_in_order Ended s trail = close_takes s trail s.kept.closing
takes_in_order Chose s trail = none (from_peer s trail)
