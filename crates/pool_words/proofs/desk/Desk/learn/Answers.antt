use Rattle.std.proofs.Common.{◌≡◌, ◌+◌, sym, ap, ◌∙◌, subst, arith}
use Rattle.std.specs.Prelude.{All}
use Rattle.pool_words.specs.declared.views.View.{View}
use Rattle.pool_words.specs.History.{HasStood}
use Rattle.pool_words.specs.Views.{DeskState, IsIdle, history_of, settled_of}
use Rattle.pool_words.proofs.Known.{learns}
use Rattle.pool_words.proofs.desk.Desk.learn.Goals as goal

pub load-requires : goal.load-requires
load-requires c =
    let same : c.deref.result.now ≡ c.self.inside.pool.value = c.deref.ensures in
    let seated = c.self.invariant.0 ∙ sym (ap (λ t. t.shared.table_id) same) in
    let sized = ap (λ z. z.words) (sym seated) ∙ c.self.invariant.1 ∙ sym (ap (λ t. t.shared.key + 1) same) in
    let known = subst (IsIdle) (sym (ap (λ (d : DeskState). d.view) c.self.view_is)) c.requires in
    (seated, omega (arith, sized), learns _ _ _ c.self.inside.place.me known)

pub returns-clause-stood : goal.returns-clause-stood
returns-clause-stood c =
    subst (λ (v : View). All (HasStood (history_of v)) (settled_of v)) (ap (λ (d : DeskState). d.view) c.self.view_is) c.load.ensures.2.1
