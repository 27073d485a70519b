use Rattle.std.proofs.Common.{◌≡◌, Option, Some, None, sym, ap, subst, ◌∙◌}
use Rattle.owed_groups.specs.Lending.{Lends}
use Rattle.half_model.specs.Jobs.{first_waiting}
use Rattle.script_sides.specs.Halves.{HalfState}
use Rattle.script_sides.specs.Progressing.{Begins}
use Rattle.script_sides.specs.Ready.{IsReady}
use Rattle.script_sides.specs.Sided.{SideRun}
use Rattle.script_sides.proofs.Lends.{half_lent, lends_next}
use Rattle.script_sides.proofs.Links.{running, with_trail}
use Rattle.script_sides.proofs.side.ScriptSide.lend.Goals as goal
use Rattle.script_sides.proofs.side.ScriptSide.lend.Goals.{in-Some, in-None}
use Rattle.side_model.specs.Events.{Lent}
use Rattle.side_model.specs.Trails.{TrailState, trail_step}

pub returns : goal.returns
returns c =
    let it : SideRun = record { trail = c.self.inside.trail; peer = c.self.inside.peer; half = c.self.inside.half; asked = c.self.inside.asked } in
    let h : IsReady it = subst (λ (x : SideRun). IsReady x) (sym c.self.view_is) c.requires.ready in
    let none : it.half ≡ None = ap (λ (x : SideRun). x.half) c.self.view_is ∙ c.requires.none in
    let new : TrailState = c.next_copy-copy.new.self in
    let is : new ≡ trail_step Lent it.trail = running it.trail.fault _ _ h.sound.runs.goes_on c.next_copy-copy.ensures.rest in
    let lent : Lends c.next_copy-copy.result (first_waiting it.trail.now.kept.jobs) = running it.trail.fault _ _ h.sound.runs.goes_on c.next_copy-copy.ensures.copy in
    let begins : Begins (half_lent c.next_copy-copy.result) it (with_trail new it) = lends_next it new c.next_copy-copy.result h none c.stands.ensures lent is c.next_copy-copy.ensures.ready in
    let told : c.match-copy.result ≡ half_lent c.next_copy-copy.result =
    elim c.match-copy.branch [
      | in-Some w ↦ w.result-is ∙ ap (λ (half : HalfState). Some half) w.new.ensures ∙ sym (ap half_lent w.in-Some.is)
      | in-None w ↦ w.result-is ∙ sym (ap half_lent w.in-None.is)
    ] in
    subst (λ (half : Option HalfState). Begins half c.args.self.now (with_trail new it)) (sym told) (subst (λ (x : SideRun). Begins (half_lent c.next_copy-copy.result) x (with_trail new it)) c.self.view_is begins)
