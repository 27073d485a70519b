-- An item for a pipe is dropped, or makes a frame.
use Rattle.std.proofs.Common.{◌≡◌, ◌∙◌, ◌+◌, ◌<◌, ◌^◌, length, true, false, None, Some, refl, sym, ap, subst}
use Rattle.half_model.specs.declared.items.PeerIn.TheVariants.{Pipe}
use Rattle.pipe_relay.specs.Pipes.{PipesState, is_unknown, frame_of_item}
use Rattle.side_model.specs.Calls.{barred}
use Rattle.side_model.specs.Events.{Fed}
use Rattle.side_model.specs.Shows.{wants_peer}
use Rattle.side_model.specs.State.{Now}
use Rattle.side_model.specs.Steps.{step, with_kept, made, alone}
use Rattle.proxy_core.specs.Doing.{Begins}
use Rattle.proxy_core.specs.Inside.{now_of}
use Rattle.proxy_core.specs.Keeping.{AtRest}
use Rattle.proxy_core.proofs.Piping.{named, known_passes, item_drops, item_makes, MayMakeIt, item_fits, begins_made, behind_item}
use Rattle.proxy_core.proofs.machine.Machine.feed_pipe.Goals as goal

pub returns-in-Ok-None : goal.returns-in-Ok-None
returns-in-Ok-None c =
    let it = c.self.inside in
    let item = c.args.item in
    let by_rid = c.in-Some.item in
    let is : named (now_of it) item ≡ Some by_rid = subst (λ (s : Now). named s item ≡ Some by_rid) (sym c.self.view_is) (sym c.in-Some.ensures) in
    let known : is_unknown it.pipes by_rid ≡ false = c.in-Ok-None.ensures.answer.0 in
    let none : None ≡ frame_of_item it.pipes by_rid = sym c.in-Ok-None.field-0-is ∙ c.in-Ok-None.ensures.answer.1 in
    let after : now_of (record it { pipes = c.from_peer.new.self }) ≡ behind_item by_rid (now_of it) = ap (λ (p : PipesState). now_of (record it { pipes = p })) c.in-Ok-None.ensures.ok in
    subst (λ (s : Now). (barred (Fed (Pipe item)) s ≡ None) × (now_of (record it { pipes = c.from_peer.new.self }) ≡ step (Fed (Pipe item)) s)) c.self.view_is
    (known_passes (now_of it) item by_rid is known, after ∙ item_drops (now_of it) item by_rid is known none)

fits : (c : goal.After-make_lone-arg-1) → MayMakeIt (now_of c.self.inside) c.in-Ok-Some.frame
fits c =
    let it = c.self.inside in
    let item = c.args.item in
    let by_rid = c.in-Some.item in
    let is : named (now_of it) item ≡ Some by_rid = subst (λ (s : Now). named s item ≡ Some by_rid) (sym c.self.view_is) (sym c.in-Some.ensures) in
    let known : is_unknown it.pipes by_rid ≡ false = c.in-Ok-Some.ensures.answer.0 in
    let some : Some c.in-Ok-Some.frame ≡ frame_of_item it.pipes by_rid = sym c.in-Ok-Some.field-0-is ∙ c.in-Ok-Some.ensures.answer.1 in
    let rest : AtRest (now_of it) = subst (λ (s : Now). AtRest s) (sym c.self.view_is) c.requires.rests in
    let wants : wants_peer (now_of it) ≡ true = ap (λ (s : Now). wants_peer s) c.self.view_is ∙ c.requires.wants in
    item_fits (now_of it) item by_rid c.in-Ok-Some.frame rest wants c.requires.piece (subst (λ (s : Now). s.kept.ring.acknowledged + length s.kept.ring.frames < 2 ^ 59) (sym c.self.view_is) c.requires.few) is known some

pub make_lone-requires-clause-frame : goal.make_lone-requires-clause-frame
make_lone-requires-clause-frame c = (fits c).is_frame

pub make_lone-requires-clause-places : goal.make_lone-requires-clause-places
make_lone-requires-clause-places c = (fits c).places

pub returns-in-Ok-Some : goal.returns-in-Ok-Some
returns-in-Ok-Some c =
    let it = c.self.inside in
    let item = c.args.item in
    let by_rid = c.in-Some.item in
    let frame = c.in-Ok-Some.frame in
    let is : named (now_of it) item ≡ Some by_rid = subst (λ (s : Now). named s item ≡ Some by_rid) (sym c.self.view_is) (sym c.in-Some.ensures) in
    let known : is_unknown it.pipes by_rid ≡ false = c.in-Ok-Some.ensures.answer.0 in
    let some : Some frame ≡ frame_of_item it.pipes by_rid = sym c.in-Ok-Some.field-0-is ∙ c.in-Ok-Some.ensures.answer.1 in
    let mid : Now = now_of (record it { pipes = c.from_peer.new.self }) in
    let after : mid ≡ behind_item by_rid (now_of it) = ap (λ (p : PipesState). now_of (record it { pipes = p })) c.in-Ok-Some.ensures.ok in
    let leaves : with_kept (made (alone frame)) mid ≡ step (Fed (Pipe item)) (now_of it) = ap (with_kept (made (alone frame))) after ∙ item_makes (now_of it) item by_rid frame is known some in
    subst (λ (s : Now). Begins c.make_lone.result (Fed (Pipe item)) s c.make_lone.new.self) c.self.view_is
    (begins_made c.make_lone.result (Fed (Pipe item)) frame (now_of it) mid c.make_lone.new.self (known_passes (now_of it) item by_rid is known) leaves (record { side = refl; token = refl; kept = refl })
    c.make_lone.ensures.ok c.make_lone.ensures.err c.make_lone.ensures.memory)
