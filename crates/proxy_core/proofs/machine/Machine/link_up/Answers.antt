-- A connection comes up: its RESTART is lent, and nothing is due then.
use Rattle.std.proofs.Common.{◌≡◌, ◌∙◌, None, sym, ap, subst, arith}
use Rattle.transfer_frames.specs.Grammar.{spelling}
use Rattle.pair_model.specs.Tally.{Tally}
use Rattle.side_model.specs.Events.{Up}
use Rattle.side_model.specs.State.{Now}
use Rattle.side_model.specs.Steps.{step}
use Rattle.proxy_core.specs.Inside.{now_of}
use Rattle.proxy_core.specs.Keeping.{AtRest}
use Rattle.proxy_core.proofs.Callings.{call_alone}
use Rattle.proxy_core.proofs.Comings.{up_passes, with_line, up_is}
use Rattle.proxy_core.proofs.Keepings.{stood, rests_up}
use Rattle.proxy_core.proofs.machine.Machine.link_up.Goals as goal

runs : (c : goal.Joined-greeting) → c.args.self.now.fault ≡ None
runs c = ap (λ (s : Now). s.fault) (sym c.self.view_is) ∙ c.in_default.is

-- what the connection leaves
left : (c : goal.Joined-greeting) → now_of (with_line c.self.inside c.args.connection c.greet-greeting.new.self c.accepted-accepted.result c.new.result c.new-2.result) ≡ step (Up c.args.connection) c.args.self.now
left c =
    let it = c.self.inside in
    up_is it c.args.connection c.greet-greeting.new.self c.accepted-accepted.result c.new.result c.new-2.result c.greet-greeting.ensures.begun
    (c.accepted-accepted.ensures.exact ∙ ap (λ (t : Tally). t.accepted) c.greet-greeting.ensures.begun) c.new.ensures (c.new-2.ensures ∙ ap spelling c.greet-greeting.ensures.frame)
    ∙ ap (step (Up c.args.connection)) c.self.view_is

rested : (c : goal.Joined-greeting) → AtRest (step (Up c.args.connection) c.args.self.now)
rested c =
    let s = c.args.self.now in
    rests_up s c.args.connection (stood s.fault s (runs c) c.requires.stands) (c.requires.down (runs c), c.requires.later, omega (arith, c.ranges.connection))

pub returns-clause-rests : goal.returns-clause-rests
returns-clause-rests c = subst (λ (s : Now). AtRest s) (sym (left c)) (rested c)

pub returns-clause-exact : goal.returns-clause-exact
returns-clause-exact c =
    let s = c.args.self.now in
    let new = now_of (with_line c.self.inside c.args.connection c.greet-greeting.new.self c.accepted-accepted.result c.new.result c.new-2.result) in
    call_alone (Up c.args.connection) s new (runs c) (up_passes c.args.connection s c.if-connection-gt-MOST_CONNECTIONS.false, left c) (returns-clause-rests c).rests
