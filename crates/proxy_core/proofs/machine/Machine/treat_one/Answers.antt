-- A message is taken, or refused, just where the half takes or refuses it.
use Rattle.std.proofs.Common.{◌++◌, Bool, true, false, Ok, Some, List, refl, sym, ap, subst, ◌∙◌, inl}
use Rattle.half_model.specs.declared.notes.Noted.{Noted}
use Rattle.half_model.specs.Tables.{Tables}
use Rattle.send_half.specs.SendState.{tables_of}
use Rattle.side_model.specs.declared.fault.ProxyFault.{ProxyFault}
use Rattle.side_model.specs.State.{Now}
use Rattle.side_model.proofs.Dues.{treats_none}
use Rattle.proxy_core.specs.Doing.{Fails}
use Rattle.proxy_core.specs.Treating.{Treats}
use Rattle.proxy_core.proofs.Shown.{shown}
use Rattle.proxy_core.proofs.Takings.{May, may_take, Answered, none_due, Taken, taken_of, past_fine, Owing, owing_of, owing_treats, owing_runs, Making, making_of, making_fits, making_treats, making_runs, making_halts, refused_halts}
use Rattle.proxy_core.proofs.machine.Machine.treat_one.Goals as goal

pub returns-then-not-is_free-clause-treats : goal.returns-then-not-is_free-clause-treats
returns-then-not-is_free-clause-treats c = (treats_none c.args.self.now (inl (sym c.is_free.ensures ∙ c.if-not-is_free.true)), refl)

pub returns-in-Ok-false-clause-treats : goal.returns-in-Ok-false-clause-treats
returns-in-Ok-false-clause-treats c =
    let it = c.self.inside in
    let tables : Tables = tables_of c.treat.new.objects c.treat.new.handles c.treat.new.pipes in
    let may : May it = may_take it c.args.self.now c.self.view_is c.self.invariant.runs c.requires.running c.requires.keeps c.requires.still (sym c.is_free.ensures ∙ c.if-not-is_free.false) in
    subst (λ (s : Now). Treats (Ok false) s (shown it c.treat.new.self tables c.reserve.new.self.items it.ring)) c.self.view_is
    (none_due it c.treat.new.self tables c.reserve.new.self.items may (subst (λ (b : Bool). Answered (Ok b) it tables c.treat.new.self) c.in-Ok-false.field-0-test c.in-Ok-false.ensures.exact) c.reserve.ensures.items)

pub invariant_of-self-then-waiting : goal.invariant_of-self-then-waiting
invariant_of-self-then-waiting c =
    let it = c.self.inside in
    let tables : Tables = tables_of c.treat.new.objects c.treat.new.handles c.treat.new.pipes in
    let may : May it = may_take it c.args.self.now c.self.view_is c.self.invariant.runs c.requires.running c.requires.keeps c.requires.still (sym c.is_free.ensures ∙ c.if-not-is_free.false) in
    let taken : Taken it c.treat.new.self tables = taken_of it c.treat.new.self tables may (subst (λ (b : Bool). Answered (Ok b) it tables c.treat.new.self) c.in-Ok-true.field-0-test c.in-Ok-true.ensures.exact) in
    let owing : Owing it c.treat.new.self taken.t = owing_of it c.treat.new.self tables taken (sym c.waiting.ensures ∙ c.if-waiting.true) in
    record {
      runs = λ e. owing_runs it c.treat.new.self c.take_notes.new.half tables c.treat.new.handles may taken owing c.take_notes.ensures.all c.in-Ok-true.ensures.running c.in-Ok-true.ensures.same c.in-Ok-true.ensures.kept;
      past = past_fine it.past c.take_notes.new.half.jobs may.runs.past_none;
      counted = c.self.invariant.counted;
    }

pub returns-then-waiting-clause-treats : goal.returns-then-waiting-clause-treats
returns-then-waiting-clause-treats c =
    let it = c.self.inside in
    let tables : Tables = tables_of c.treat.new.objects c.treat.new.handles c.treat.new.pipes in
    let may : May it = may_take it c.args.self.now c.self.view_is c.self.invariant.runs c.requires.running c.requires.keeps c.requires.still (sym c.is_free.ensures ∙ c.if-not-is_free.false) in
    let taken : Taken it c.treat.new.self tables = taken_of it c.treat.new.self tables may (subst (λ (b : Bool). Answered (Ok b) it tables c.treat.new.self) c.in-Ok-true.field-0-test c.in-Ok-true.ensures.exact) in
    let owing : Owing it c.treat.new.self taken.t = owing_of it c.treat.new.self tables taken (sym c.waiting.ensures ∙ c.if-waiting.true) in
    subst (λ (s : Now). Treats (Ok true) s (shown it c.take_notes.new.half tables c.take_notes.new.notes.items it.ring)) c.self.view_is
    (owing_treats it c.treat.new.self c.take_notes.new.half tables c.take_notes.new.notes.items may taken owing c.take_notes.ensures.all
    (c.take_notes.ensures.noted ∙ ap (λ (ns : List Noted). ns ++ c.treat.new.self.noted) c.reserve.ensures.items))

pub take_made-requires-clause-frames : goal.take_made-requires-clause-frames
take_made-requires-clause-frames c =
    let it = c.self.inside in
    let tables : Tables = tables_of c.treat.new.objects c.treat.new.handles c.treat.new.pipes in
    let may : May it = may_take it c.args.self.now c.self.view_is c.self.invariant.runs c.requires.running c.requires.keeps c.requires.still (sym c.is_free.ensures ∙ c.if-not-is_free.false) in
    let taken : Taken it c.treat.new.self tables = taken_of it c.treat.new.self tables may (subst (λ (b : Bool). Answered (Ok b) it tables c.treat.new.self) c.in-Ok-true.field-0-test c.in-Ok-true.ensures.exact) in
    (making_fits it c.args.self.now c.treat.new.self tables may taken (making_of it c.treat.new.self tables taken (sym c.waiting.ensures ∙ c.if-waiting.false)) c.self.view_is c.requires.few).0

pub take_made-requires-clause-places : goal.take_made-requires-clause-places
take_made-requires-clause-places c =
    let it = c.self.inside in
    let tables : Tables = tables_of c.treat.new.objects c.treat.new.handles c.treat.new.pipes in
    let may : May it = may_take it c.args.self.now c.self.view_is c.self.invariant.runs c.requires.running c.requires.keeps c.requires.still (sym c.is_free.ensures ∙ c.if-not-is_free.false) in
    let taken : Taken it c.treat.new.self tables = taken_of it c.treat.new.self tables may (subst (λ (b : Bool). Answered (Ok b) it tables c.treat.new.self) c.in-Ok-true.field-0-test c.in-Ok-true.ensures.exact) in
    (making_fits it c.args.self.now c.treat.new.self tables may taken (making_of it c.treat.new.self tables taken (sym c.waiting.ensures ∙ c.if-waiting.false)) c.self.view_is c.requires.few).1

pub invariant_of-self-in-Ok : goal.invariant_of-self-in-Ok
invariant_of-self-in-Ok c =
    let it = c.self.inside in
    let tables : Tables = tables_of c.treat.new.objects c.treat.new.handles c.treat.new.pipes in
    let may : May it = may_take it c.args.self.now c.self.view_is c.self.invariant.runs c.requires.running c.requires.keeps c.requires.still (sym c.is_free.ensures ∙ c.if-not-is_free.false) in
    let taken : Taken it c.treat.new.self tables = taken_of it c.treat.new.self tables may (subst (λ (b : Bool). Answered (Ok b) it tables c.treat.new.self) c.in-Ok-true.field-0-test c.in-Ok-true.ensures.exact) in
    let making : Making it c.treat.new.self taken.t = making_of it c.treat.new.self tables taken (sym c.waiting.ensures ∙ c.if-waiting.false) in
    record {
      runs = λ e. making_runs it c.treat.new.self c.take_made.new.half tables c.treat.new.handles may taken making c.in-Ok.ensures.all c.in-Ok-true.ensures.running c.in-Ok-true.ensures.same c.in-Ok-true.ensures.kept;
      past = past_fine it.past c.take_made.new.half.jobs may.runs.past_none;
      counted = c.self.invariant.counted;
    }

pub returns-in-Ok-clause-treats : goal.returns-in-Ok-clause-treats
returns-in-Ok-clause-treats c =
    let it = c.self.inside in
    let tables : Tables = tables_of c.treat.new.objects c.treat.new.handles c.treat.new.pipes in
    let may : May it = may_take it c.args.self.now c.self.view_is c.self.invariant.runs c.requires.running c.requires.keeps c.requires.still (sym c.is_free.ensures ∙ c.if-not-is_free.false) in
    let taken : Taken it c.treat.new.self tables = taken_of it c.treat.new.self tables may (subst (λ (b : Bool). Answered (Ok b) it tables c.treat.new.self) c.in-Ok-true.field-0-test c.in-Ok-true.ensures.exact) in
    let making : Making it c.treat.new.self taken.t = making_of it c.treat.new.self tables taken (sym c.waiting.ensures ∙ c.if-waiting.false) in
    subst (λ (s : Now). Treats (Ok true) s (shown it c.take_made.new.half tables c.take_made.new.notes.items c.take_made.new.ring)) c.self.view_is
    (making_treats it c.treat.new.self c.take_made.new.half tables c.take_made.new.notes.items c.take_made.new.ring may taken making c.in-Ok.ensures.all
    (c.in-Ok.ensures.noted ∙ ap (λ (ns : List Noted). ns ++ c.treat.new.self.noted) c.reserve.ensures.items) c.in-Ok.ensures.pushed)

pub returns-in-Err-take_made-clause-treats : goal.returns-in-Err-take_made-clause-treats
returns-in-Err-take_made-clause-treats c =
    let it = c.self.inside in
    let tables : Tables = tables_of c.treat.new.objects c.treat.new.handles c.treat.new.pipes in
    let may : May it = may_take it c.args.self.now c.self.view_is c.self.invariant.runs c.requires.running c.requires.keeps c.requires.still (sym c.is_free.ensures ∙ c.if-not-is_free.false) in
    let taken : Taken it c.treat.new.self tables = taken_of it c.treat.new.self tables may (subst (λ (b : Bool). Answered (Ok b) it tables c.treat.new.self) c.in-Ok-true.field-0-test c.in-Ok-true.ensures.exact) in
    let making : Making it c.treat.new.self taken.t = making_of it c.treat.new.self tables taken (sym c.waiting.ensures ∙ c.if-waiting.false) in
    making_halts it c.args.self.now c.treat.new.self c.take_made.new.half tables c.take_made.new.notes.items c.take_made.new.ring c.self.view_is may taken making c.in-Err-take_made.ensures.rest c.in-Ok-true.ensures.same
    (c.in-Err-take_made.ensures.same_notes ∙ c.reserve.ensures.items) c.in-Err-take_made.ensures.same_ring

pub returns-in-Err-clause-treats : goal.returns-in-Err-clause-treats
returns-in-Err-clause-treats c =
    let it = c.self.inside in
    let tables : Tables = tables_of c.treat.new.objects c.treat.new.handles c.treat.new.pipes in
    let may : May it = may_take it c.args.self.now c.self.view_is c.self.invariant.runs c.requires.running c.requires.keeps c.requires.still (sym c.is_free.ensures ∙ c.if-not-is_free.false) in
    subst (λ (fault : ProxyFault). Fails fault c.args.self.now (record (shown it c.treat.new.self tables c.reserve.new.self.items it.ring) { fault = Some fault })) (sym c.proxy_fault-fault.ensures)
    (refused_halts it c.args.self.now c.treat.new.self tables c.reserve.new.self.items c.in-Err.fault c.self.view_is may c.in-Err.ensures.exact c.reserve.ensures.items)
