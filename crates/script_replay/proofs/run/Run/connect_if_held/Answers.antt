use Rattle.std.proofs.Common.{◌≡◌, Bool, true, false, ◌||◌, [], ◌∷◌, sym, ap, ◌∙◌}
use Rattle.pair_runs.specs.Moves.{Connect, ConnectIfHeld, holds}
use Rattle.script_sides.specs.Sided as sided
use Rattle.script_replay.specs.Going.{Goes}
use Rattle.script_replay.specs.declared.run.Run.{Run}
use Rattle.script_replay.proofs.Connecting.{held_connects, not_held, stops_map}
use Rattle.script_replay.proofs.run.Run.connect_if_held.Goals.{then-holds, else-holds}
use Rattle.script_replay.proofs.run.Run.connect_if_held.Goals as goal

pub returns-then-holds-2 : goal.returns-then-holds-2
returns-then-holds-2 g c =
    let old : Run = c.args.self.now in
    let before = g.L.LinkStore.line c.args.line.now in
    let after = g.L.LinkStore.line c.connect.new.line in
    let near : Bool = holds (sided.state_of old.near) in
    let far : Bool = holds (sided.state_of old.far) in
    let held : (near || far) ≡ true = elim c.if-holds.branch [
      | then-holds w ↦ ap (λ (it : Bool). it || far) (sym c.holds.ensures ∙ w.if-holds.true)
      | else-holds w ↦ ap (λ (it : Bool). it || far) (sym c.holds.ensures ∙ w.if-holds.false) ∙ sym w.holds-else-holds.ensures ∙ sym w.value-is ∙ c.if-holds-2.true
    ] in
    stops_map Unit c.connect.result (Goes (Connect ∷ []) old c.connect.new.self before after) (Goes (ConnectIfHeld ∷ []) old c.connect.new.self before after) (λ stop goes. held_connects old c.connect.new.self before after stop held goes) c.connect.ensures

pub returns-else-holds-2 : goal.returns-else-holds-2
returns-else-holds-2 g c = λ ready.
    let old : Run = c.args.self.now in
    let near : Bool = holds (sided.state_of old.near) in
    let far : Bool = holds (sided.state_of old.far) in
    let none : (near || far) ≡ false = elim c.if-holds.branch [
      | then-holds w ↦ absurd (let never : true ≡ false = sym w.if-holds.true ∙ sym w.value-is ∙ c.if-holds-2.false in cc)
      | else-holds w ↦ ap (λ (it : Bool). it || far) (sym c.holds.ensures ∙ w.if-holds.false) ∙ sym w.holds-else-holds.ensures ∙ sym w.value-is ∙ c.if-holds-2.false
    ] in
    not_held c.ready_goes_on.ensures old (g.L.LinkStore.line c.args.line.now) none ready
