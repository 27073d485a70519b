use Rattle.std.proofs.Common.{◌≤◌, ◌∙◌, List, Option, None, ap, subst, sym, refl, arith, length}
use Rattle.std.proofs.lemmas.Bool.{false≢true}
use Rattle.std.specs.Vec.{vec_len}
use Rattle.half_model.specs.Jobs.{Job, lent, first_waiting}
use Rattle.owed_groups.specs.Lending.{Lends}
use Rattle.owed_groups.proofs.SlotLemmas.{lend_step, none_waits, none_lent, le_from_not}
use Rattle.owed_groups.proofs.copies.Copies.lend.Goals as goal

pub invariant_of-self : goal.invariant_of-self
invariant_of-self c =
    (lend_step c.self.inside.first c.self.inside.given c.self.inside.left c.self.inside.slots.items c.in-Some.slot.now c.lend-copy.new.self
    c.self.invariant (omega (arith, c.in-Some.ensures.variant.0 refl)) c.in-Some.ensures.value c.lend-copy.ensures.rest).2

pub returns-in-Some-clause-copy : goal.returns-in-Some-clause-copy
returns-in-Some-clause-copy c =
    let P : Option Job → Type 0 = λ o. Lends c.lend-copy.result o in
    let at = (lend_step c.self.inside.first c.self.inside.given c.self.inside.left c.self.inside.slots.items c.in-Some.slot.now c.lend-copy.new.self
    c.self.invariant (omega (arith, c.in-Some.ensures.variant.0 refl)) c.in-Some.ensures.value c.lend-copy.ensures.rest).1 in
    subst P (at ∙ ap (λ (jobs : List Job). first_waiting jobs) c.self.view_is) c.lend-copy.ensures.copy

pub returns-in-Some-clause-rest : goal.returns-in-Some-clause-rest
returns-in-Some-clause-rest c =
    (lend_step c.self.inside.first c.self.inside.given c.self.inside.left c.self.inside.slots.items c.in-Some.slot.now c.lend-copy.new.self
    c.self.invariant (omega (arith, c.in-Some.ensures.variant.0 refl)) c.in-Some.ensures.value c.lend-copy.ensures.rest).0
    ∙ ap (λ (jobs : List Job). lent jobs) c.self.view_is

pub returns-in-None-clause-copy : goal.returns-in-None-clause-copy
returns-in-None-clause-copy c =
    let P : Option Job → Type 0 = λ o. Lends None o in
    let past : length c.self.inside.slots.items ≤ c.self.inside.given = (let out : vec_len c.self.inside.slots ≤ c.self.inside.given = le_from_not (λ l. false≢true (c.in-None.ensures.variant.1 l)) in omega (arith, out)) in
    let none = none_waits c.self.inside.given c.self.inside.slots.items c.self.invariant.lends past in
    subst P (sym none ∙ ap (λ (jobs : List Job). first_waiting jobs) c.self.view_is) tt

pub returns-in-None-clause-rest : goal.returns-in-None-clause-rest
returns-in-None-clause-rest c =
    let past : length c.self.inside.slots.items ≤ c.self.inside.given = (let out : vec_len c.self.inside.slots ≤ c.self.inside.given = le_from_not (λ l. false≢true (c.in-None.ensures.variant.1 l)) in omega (arith, out)) in
    sym (none_lent c.self.inside.given c.self.inside.slots.items c.self.invariant.lends past) ∙ ap (λ (jobs : List Job). lent jobs) c.self.view_is
