use Rattle.std.proofs.Common.{◌≡◌, Bool, ◌&&◌, List, Some, ◌∙◌, ap, sym, subst, refl}
use Rattle.std.specs.Prelude.{IsSome}
use Rattle.std.specs.Ordering.{int_eq}
use Rattle.indexmap.specs.IndexSet.{insert_key}
use Rattle.wp_outside.specs.declared.kinds.HandleKind.{HandleKind}
use Rattle.wp_outside.specs.declared.kinds.HandleKind.TheVariants.{File, PipeWrite}
use Rattle.handle_table.specs.declared.handles.Handle.{Handle}
use Rattle.handle_table.specs.Table.{Table, is_handle, is_kind, seat_for, after_pass}
use Rattle.handle_table.specs.Sound.{IsSound}
use Rattle.handle_table.specs.contracts.handles.HandlePartialEq.TheImpl.{eq-value}
use Rattle.wp_outside.specs.contracts.kinds.HandleKind.{the_type}
use denote.Enum.Bare.{sameb}
use Rattle.handle_table.proofs.Places.{inserted_found}
use Rattle.handle_table.proofs.Rids.{sound_lasts}
use Rattle.handle_table.proofs.tables.Handles.pass.Goals as goal

-- the derived comparison of kinds
same_kind : (a b : HandleKind) → sameb the_type a b ≡ is_kind a b
same_kind File File = refl
same_kind File PipeWrite = refl
same_kind PipeWrite File = refl
same_kind PipeWrite PipeWrite = refl

-- the derived comparison of handles
same_handle : eq-value.it ≡ is_handle
same_handle = λ j h other. int_eq h.number other.number && same_kind h.kind other.kind j

pub returns-in_ok-insert-in-Some-clause-after : goal.returns-in_ok-insert-in-Some-clause-after
returns-in_ok-insert-in-Some-clause-after c =
    let inside = c.self.inside in
    ap (λ (passed : List Handle). let table : Table = record { side = inside.side; passed = passed; kept = inside.kept.entries } in table)
    (c.in_ok-insert-in-Some.ensures.keys
    ∙ ap (λ (eq : Handle → Handle → Bool). insert_key eq inside.passed.keys c.args.h) same_handle
    ∙ inserted_found inside.passed.keys c.args.h)
    ∙ ap (λ (table : Table). after_pass table c.args.h) c.self.view_is

pub returns-in_ok-insert-in-Some-clause-sound : goal.returns-in_ok-insert-in-Some-clause-sound
returns-in_ok-insert-in-Some-clause-sound c =
    let found : seat_for c.args.self.now c.args.h ≡ Some c.in-Some.seat = sym c.foresee.ensures.seat ∙ c.in-Some.is in
    let room : IsSome (seat_for c.args.self.now c.args.h) = subst IsSome (sym found) refl in
    subst IsSound (sym (returns-in_ok-insert-in-Some-clause-after c)) (sound_lasts.pass c.args.self.now c.args.h room c.foresee.ensures.sound)

pub invariant_of-self-in-Some : goal.invariant_of-self-in-Some
invariant_of-self-in-Some c = returns-in_ok-insert-in-Some-clause-sound c
