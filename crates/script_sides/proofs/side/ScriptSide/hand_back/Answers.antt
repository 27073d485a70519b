use Rattle.std.proofs.Common.{◌≡◌, length, Result, Err, sym, ap, subst, ◌∙◌, arith, ◌⊎◌}
use Rattle.std.proofs.lemmas.Result.{err_from_is_err_and}
use Rattle.script_sides.specs.declared.progress.Progress.{Progress}
use Rattle.script_sides.specs.Answering.{Leaves, Stays}
use Rattle.script_sides.specs.Progressing.{LoadedBy, LoadsPart, LoadsWhole, before, IsLast}
use Rattle.script_sides.specs.Sided.{SideRun, state_of}
use Rattle.script_sides.proofs.Backs.{HandsPart, HandsWhole}
use Rattle.script_sides.proofs.Links.{with_trail}
use Rattle.script_sides.proofs.Returned.{back_stops, back_fell, back_sound, back_stays, back_hands, still_part, now_whole}
use Rattle.side_model.specs.Books.{TrailRecord}
use Rattle.side_model.specs.declared.fault.ProxyFault.{ProxyFault}
use Rattle.script_sides.proofs.side.ScriptSide.hand_back.Goals.{then-len-made, else-len-made}
use Rattle.script_sides.proofs.side.ScriptSide.hand_back.Goals as goal

pub returns-in_err-answer-clause-loads : goal.returns-in_err-answer-clause-loads
returns-in_err-answer-clause-loads c =
    let it : SideRun = record { trail = c.self.inside.trail; peer = c.self.inside.peer; half = c.self.inside.half; asked = c.self.inside.asked } in
    let last : IsLast c.args.count c.args.half it = subst (λ (x : SideRun). IsLast c.args.count c.args.half x) (sym c.self.view_is) c.requires in
    let p = err_from_is_err_and c.from_residual.result c.from_residual.ensures.1 in
    rw (p.1, p.2)
    (let failed : Result Progress ProxyFault = Err c.in_err-answer.field-0.0 in
    subst (λ (x : SideRun). LoadedBy c.args.count (state_of (before c.args.count c.args.half x)) (state_of (with_trail c.copy_done-answer.new.self it)) failed) c.self.view_is
    (λ n. back_stops c.args.count c.args.half c.finish-done.result c.in_err-answer.field-0.0 it c.copy_done-answer.new.self last c.finish-done.ensures c.has_loads.ensures c.in_err-answer.ensures))

pub returns-in_err-answer-clause-leaves : goal.returns-in_err-answer-clause-leaves
returns-in_err-answer-clause-leaves c =
    let it : SideRun = record { trail = c.self.inside.trail; peer = c.self.inside.peer; half = c.self.inside.half; asked = c.self.inside.asked } in
    let last : IsLast c.args.count c.args.half it = subst (λ (x : SideRun). IsLast c.args.count c.args.half x) (sym c.self.view_is) c.requires in
    let p = err_from_is_err_and c.from_residual.result c.from_residual.ensures.1 in
    rw (p.1, p.2)
    (let failed : Result Progress ProxyFault = Err c.in_err-answer.field-0.0 in
    subst (λ (x : SideRun). Leaves failed x (with_trail c.copy_done-answer.new.self it)) c.self.view_is
    (λ n. back_fell c.args.count c.args.half c.finish-done.result c.in_err-answer.field-0.0 it c.copy_done-answer.new.self last c.stands.ensures c.in_err-answer.ensures))

pub give-requires : goal.give-requires
give-requires c =
    let it : SideRun = record { trail = c.self.inside.trail; peer = c.self.inside.peer; half = c.self.inside.half; asked = c.self.inside.asked } in
    let last : IsLast c.args.count c.args.half it = subst (λ (x : SideRun). IsLast c.args.count c.args.half x) (sym c.self.view_is) c.requires in
    back_sound c.args.count c.args.half c.finish-done.result it c.copy_done-answer.new.self last c.finish-done.ensures c.has_loads.ensures c.stands.ensures c.in_ok-answer.ensures

pub returns-clause-loads : goal.returns-clause-loads
returns-clause-loads c =
    let it : SideRun = record { trail = c.self.inside.trail; peer = c.self.inside.peer; half = c.self.inside.half; asked = c.self.inside.asked } in
    let last : IsLast c.args.count c.args.half it = subst (λ (x : SideRun). IsLast c.args.count c.args.half x) (sym c.self.view_is) c.requires in
    let hands : HandsPart c.args.count (state_of (before c.args.count c.args.half it)) (state_of c.give.new.self) ⊎ HandsWhole c.args.count (state_of (before c.args.count c.args.half it)) (state_of c.give.new.self) =
    back_hands c.args.count c.args.half c.finish-done.result it c.copy_done-answer.new.self c.give.new.self last c.finish-done.ensures c.has_loads.ensures c.stands.ensures c.in_ok-answer.ensures c.in-Ok.ensures.gives in
    let was : c.len-made.result ≡ length it.trail.book.trail.copies = c.len-made.ensures ∙ ap (λ (trail : TrailRecord). length trail.copies) c.record.ensures in
    let now : c.len.result ≡ length c.give.new.self.trail.book.trail.copies =
    c.len.ensures ∙ ap (λ (trail : TrailRecord). length trail.copies) c.record-2.ensures ∙ ap (λ (x : SideRun). length x.trail.book.trail.copies) c.self-2.view_is in
    let Told : Result Progress ProxyFault → Type 0 = λ (told : Result Progress ProxyFault). LoadedBy c.args.count (state_of (before c.args.count c.args.half c.args.self.now)) (state_of c.give.new.self) told in
    elim c.if-len-made.branch [
      | then-len-made w ↦ subst Told (sym w.result-is)
          (subst (λ (x : SideRun). LoadsPart c.args.count c.args.count (state_of (before c.args.count c.args.half x)) (state_of c.give.new.self)) c.self.view_is
          (still_part c.args.count (state_of (before c.args.count c.args.half it)) (state_of c.give.new.self) hands (omega (arith, was, now, w.if-len-made.true))))
      | else-len-made w ↦ subst Told (sym w.result-is)
          (subst (λ (x : SideRun). LoadsWhole c.args.count c.args.count (state_of (before c.args.count c.args.half x)) (state_of c.give.new.self)) c.self.view_is
          (now_whole c.args.count (state_of (before c.args.count c.args.half it)) (state_of c.give.new.self) hands (λ e. omega (arith, was, now, e, w.if-len-made.false))))
    ]

pub returns-clause-leaves : goal.returns-clause-leaves
returns-clause-leaves c =
    let it : SideRun = record { trail = c.self.inside.trail; peer = c.self.inside.peer; half = c.self.inside.half; asked = c.self.inside.asked } in
    let last : IsLast c.args.count c.args.half it = subst (λ (x : SideRun). IsLast c.args.count c.args.half x) (sym c.self.view_is) c.requires in
    let stays : Stays c.args.self.now c.give.new.self =
    subst (λ (x : SideRun). Stays x c.give.new.self) c.self.view_is
    (back_stays c.args.count c.args.half c.finish-done.result it c.copy_done-answer.new.self c.give.new.self last c.in_ok-answer.ensures c.in-Ok.ensures.gives c.in-Ok.ensures.ready) in
    let Told : Result Progress ProxyFault → Type 0 = λ (told : Result Progress ProxyFault). Leaves told c.args.self.now c.give.new.self in
    elim c.if-len-made.branch [
      | then-len-made w ↦ subst Told (sym w.result-is) stays
      | else-len-made w ↦ subst Told (sym w.result-is) stays
    ]
