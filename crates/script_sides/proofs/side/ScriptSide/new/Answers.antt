use Rattle.std.proofs.Common.{◌≡◌, false, None, sym, ap, subst, ◌∙◌}
use Rattle.script_sides.specs.Sided.{first_run}
use Rattle.script_sides.proofs.Links.{first_ready}
use Rattle.pair_runs.specs.Sides.{TOKEN}
use Rattle.script_peers.specs.Peers.{ScriptedPeer}
use Rattle.side_model.specs.Trails.{TrailState, no_records}
use Rattle.script_sides.specs.Sided.{SideRun}
use Rattle.script_sides.specs.Ready.{IsReady}
use Rattle.script_sides.proofs.side.ScriptSide.new.Goals as goal
use Rattle.wp_outside.specs.declared.kinds.Side.{Side}

first : (side : Side) (trail : TrailState) (peer : ScriptedPeer) → trail ≡ no_records side TOKEN → peer ≡ (first_run side).peer → record { trail = trail; peer = peer; half = None; asked = false } ≡ first_run side
first side trail peer e d =
    ap (λ (t : TrailState). let it : SideRun = record { trail = t; peer = peer; half = None; asked = false } in it) e
    ∙ ap (λ (p : ScriptedPeer). let it : SideRun = record { trail = no_records side TOKEN; peer = p; half = None; asked = false } in it) d

pub returns-clause-first : goal.returns-clause-first
unfolding TOKEN
returns-clause-first c = first c.args.side c.in_ok-trail.trail c.new-2.result c.in_ok-trail.ensures c.new-2.ensures

pub returns-clause-ready : goal.returns-clause-ready
unfolding TOKEN
returns-clause-ready c =
    subst (λ (x : SideRun). IsReady x) (sym (first c.args.side c.in_ok-trail.trail c.new-2.result c.in_ok-trail.ensures c.new-2.ensures)) (first_ready c.args.side)
