use Rattle.std.proofs.Common.{◌≡◌, ℕ, true, Option, Some, None, Result, Ok, Err, refl, sym, ap, subst, ◌∙◌}
use Rattle.std.proofs.lemmas.Result.{err_from_is_err_and}
use Rattle.script_sides.specs.Sided.{taker_of, state_of}
use Rattle.script_sides.specs.Answering.{Stays}
use Rattle.side_model.specs.declared.fault.ProxyFault.{ProxyFault}
use Rattle.pair_runs.specs.Sides.{wants}
use Rattle.script_peers.specs.Peers.{ScriptedPeer}
use Rattle.script_peers.specs.Wires.{Leaves, next_of}
use Rattle.script_peers.specs.declared.item_queue.WireItem.{WireItem}
use Rattle.script_sides.specs.Takings.{TakesNothing, TakesNext}
use Rattle.script_sides.proofs.Wires.{Off, off}
use Rattle.script_sides.proofs.Takes.{with_peer, off_ready, off_item, wants_by, takes_none, takes_works, takes_part}
use Rattle.script_sides.specs.Sided.{SideRun}
use Rattle.script_sides.specs.Ready.{IsReady}
use Rattle.script_sides.proofs.side.ScriptSide.take_next.Goals as goal

pub returns-then-not-wants_peer-clause-takes : goal.returns-then-not-wants_peer-clause-takes
returns-then-not-wants_peer-clause-takes c =
    let it : SideRun = record { trail = c.self.inside.trail; peer = c.self.inside.peer; half = c.self.inside.half; asked = c.self.inside.asked } in
    let h : IsReady it = subst (λ (x : SideRun). IsReady x) (sym c.self.view_is) c.requires in
    subst (λ (x : SideRun). TakesNothing c.args.most (taker_of x) (taker_of x)) c.self.view_is (takes_none c.args.most it h (sym c.wants_peer.ensures ∙ c.if-not-wants_peer.true))

pub feed-requires-clause-ready : goal.feed-requires-clause-ready
feed-requires-clause-ready c =
    let it : SideRun = record { trail = c.self.inside.trail; peer = c.self.inside.peer; half = c.self.inside.half; asked = c.self.inside.asked } in
    let h : IsReady it = subst (λ (x : SideRun). IsReady x) (sym c.self.view_is) c.requires in
    let left : Leaves (next_of c.args.most it.peer.wire) c.args.most it.peer.wire c.next.new.self.wire (Ok (Some c.in-Ok-Some.it)) =
    subst (λ (told : Option WireItem). Leaves (next_of c.args.most it.peer.wire) c.args.most it.peer.wire c.next.new.self.wire (Ok told)) c.in-Ok-Some.field-0-is c.in-Ok-Some.ensures.leaves in
    let gone : Off c.args.most it.peer.wire c.next.new.self.wire c.in-Ok-Some.it = off c.args.most it.peer.wire c.next.new.self.wire c.in-Ok-Some.it left.0.cost left.1 in
    off_ready c.args.most it c.next.new.self c.in-Ok-Some.it h gone c.next.ensures.same

pub feed-requires-clause-own : goal.feed-requires-clause-own
feed-requires-clause-own c =
    let it : SideRun = record { trail = c.self.inside.trail; peer = c.self.inside.peer; half = c.self.inside.half; asked = c.self.inside.asked } in
    let h : IsReady it = subst (λ (x : SideRun). IsReady x) (sym c.self.view_is) c.requires in
    let left : Leaves (next_of c.args.most it.peer.wire) c.args.most it.peer.wire c.next.new.self.wire (Ok (Some c.in-Ok-Some.it)) =
    subst (λ (told : Option WireItem). Leaves (next_of c.args.most it.peer.wire) c.args.most it.peer.wire c.next.new.self.wire (Ok told)) c.in-Ok-Some.field-0-is c.in-Ok-Some.ensures.leaves in
    let gone : Off c.args.most it.peer.wire c.next.new.self.wire c.in-Ok-Some.it = off c.args.most it.peer.wire c.next.new.self.wire c.in-Ok-Some.it left.0.cost left.1 in
    off_item c.args.most it c.next.new.self c.in-Ok-Some.it h gone c.next.ensures.same

pub returns-in_err-feed-in-Ok-Some-clause-takes : goal.returns-in_err-feed-in-Ok-Some-clause-takes
returns-in_err-feed-in-Ok-Some-clause-takes c =
    let it : SideRun = record { trail = c.self.inside.trail; peer = c.self.inside.peer; half = c.self.inside.half; asked = c.self.inside.asked } in
    let h : IsReady it = subst (λ (x : SideRun). IsReady x) (sym c.self.view_is) c.requires in
    let left : Leaves (next_of c.args.most it.peer.wire) c.args.most it.peer.wire c.next.new.self.wire (Ok (Some c.in-Ok-Some.it)) =
    subst (λ (told : Option WireItem). Leaves (next_of c.args.most it.peer.wire) c.args.most it.peer.wire c.next.new.self.wire (Ok told)) c.in-Ok-Some.field-0-is c.in-Ok-Some.ensures.leaves in
    let gone : Off c.args.most it.peer.wire c.next.new.self.wire c.in-Ok-Some.it = off c.args.most it.peer.wire c.next.new.self.wire c.in-Ok-Some.it left.0.cost left.1 in
    let w : wants (state_of it) ≡ true = wants_by true it h (sym c.wants_peer.ensures ∙ c.if-not-wants_peer.false) in
    let p = err_from_is_err_and c.from_residual.result c.from_residual.ensures.1 in
    rw (p.1, p.2)
    (let failed : Result (Option ℕ) ProxyFault = Err c.in_err-feed-in-Ok-Some.field-0.0 in
    subst (λ (x : SideRun). TakesNext c.args.most (taker_of x) (taker_of c.feed.new.self) failed) c.self.view_is
    (λ n. takes_part c.args.most it c.next.new.self c.in-Ok-Some.it c.feed.new.self w gone c.in_err-feed-in-Ok-Some.ensures.wire c.in_err-feed-in-Ok-Some.field-0.0 (c.in_err-feed-in-Ok-Some.ensures.works n)))

pub returns-in_ok-feed-in-Ok-Some-clause-takes : goal.returns-in_ok-feed-in-Ok-Some-clause-takes
returns-in_ok-feed-in-Ok-Some-clause-takes c =
    let it : SideRun = record { trail = c.self.inside.trail; peer = c.self.inside.peer; half = c.self.inside.half; asked = c.self.inside.asked } in
    let h : IsReady it = subst (λ (x : SideRun). IsReady x) (sym c.self.view_is) c.requires in
    let left : Leaves (next_of c.args.most it.peer.wire) c.args.most it.peer.wire c.next.new.self.wire (Ok (Some c.in-Ok-Some.it)) =
    subst (λ (told : Option WireItem). Leaves (next_of c.args.most it.peer.wire) c.args.most it.peer.wire c.next.new.self.wire (Ok told)) c.in-Ok-Some.field-0-is c.in-Ok-Some.ensures.leaves in
    let gone : Off c.args.most it.peer.wire c.next.new.self.wire c.in-Ok-Some.it = off c.args.most it.peer.wire c.next.new.self.wire c.in-Ok-Some.it left.0.cost left.1 in
    let w : wants (state_of it) ≡ true = wants_by true it h (sym c.wants_peer.ensures ∙ c.if-not-wants_peer.false) in
    let done : Result (Option ℕ) ProxyFault = Ok (Some c.in-Ok-Some.it.cost) in
    subst (λ (x : SideRun). TakesNext c.args.most (taker_of x) (taker_of c.feed.new.self) done) c.self.view_is
    (takes_works c.args.most it c.next.new.self c.in-Ok-Some.it c.feed.new.self w gone c.in_ok-feed-in-Ok-Some.ensures.wire c.in_ok-feed-in-Ok-Some.ensures.works)

pub returns-in-Ok-None-clause-leaves : goal.returns-in-Ok-None-clause-leaves
returns-in-Ok-None-clause-leaves c =
    let it : SideRun = record { trail = c.self.inside.trail; peer = c.self.inside.peer; half = c.self.inside.half; asked = c.self.inside.asked } in
    let h : IsReady it = subst (λ (x : SideRun). IsReady x) (sym c.self.view_is) c.requires in
    let left : Leaves (next_of c.args.most it.peer.wire) c.args.most it.peer.wire c.next.new.self.wire (Ok None) =
    subst (λ (told : Option WireItem). Leaves (next_of c.args.most it.peer.wire) c.args.most it.peer.wire c.next.new.self.wire (Ok told)) c.in-Ok-None.field-0-is c.in-Ok-None.ensures.leaves in
    let same : c.next.new.self ≡ it.peer = c.next.ensures.same ∙ ap (λ wire. record it.peer { wire = wire }) left.1 in
    subst (λ (x : SideRun). Stays x (with_peer c.next.new.self it)) c.self.view_is
    (subst (λ (peer : ScriptedPeer). Stays it (with_peer peer it)) (sym same) (record { ready = h; side = refl; up = refl }))
