-- Without its connection a proxy is at rest.
use Rattle.std.proofs.Common.{◌≡◌, ◌∙◌, None, subst, sym}
use Rattle.side_model.specs.Events.{Down}
use Rattle.side_model.specs.State.{Now}
use Rattle.side_model.specs.Steps.{step}
use Rattle.proxy_core.specs.Inside.{now_of}
use Rattle.proxy_core.specs.Keeping.{AtRest, Stands}
use Rattle.proxy_core.proofs.Keepings.{none_of, stood, stands_none, rests_down}
use Rattle.proxy_core.proofs.machine.Machine.link_down.Goals as goal

pub returns-clause-stands : goal.returns-clause-stands
unfolding step
returns-clause-stands c =
    let it = c.self.inside in
    let none : it.fault ≡ None = none_of it.fault (sym c.is_some.ensures ∙ c.if-is_some.false) in
    let rest : AtRest (now_of it) = stood it.fault (now_of it) none (subst (λ (s : Now). Stands s.fault s) (sym c.self.view_is) c.requires.stands) in
    stands_none it.fault (step Down (now_of it)) none (rests_down (now_of it) rest)
