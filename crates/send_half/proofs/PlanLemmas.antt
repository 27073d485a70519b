-- What a message comes to whose deed is done is what it came to before: its plan is the one of the rules.
use Rattle.std.proofs.Common.{◌≡◌, ℕ, ◌++◌, List, Option, Some, None, Result, Err, refl, sym, ap, ◌∙◌}
use Rattle.handle_table.specs.Table.{Table}
use Rattle.handle_table.specs.declared.handles.Handle.{Handle}
use Rattle.pipe_relay.specs.Pipes.{PipesState}
use Rattle.shm_pools.specs.declared.notes.Note.{Note}
use Rattle.transfer_frames.specs.declared.frame.Frame.{Frame}
use Rattle.wl_wire.specs.Wire.{object_of}
use Rattle.wl_tables.specs.Ways.{own_way}
use Rattle.wl_objects.specs.declared.passed.Passed.{Passed}
use Rattle.wl_objects.specs.Entries.{Tracked}
use Rattle.wl_objects.specs.Registry.{ObjectsState, View, RegistryGlobal}
use Rattle.half_model.specs.declared.causes.HalfFault.{HalfFault}
use Rattle.half_model.specs.declared.causes.HalfFault.TheVariants as faults
use Rattle.half_model.specs.declared.causes.Limit.{Limit}
use Rattle.half_model.specs.declared.deeds.Deed.{Deed}
use Rattle.half_model.specs.Deeds.{deed_of}
use Rattle.half_model.specs.Inlet.{Inlet, eyes_in}
use Rattle.half_model.specs.Planning.{Refusal, ByLimit, limit_refusal, pipe_opened, sized_by, injected, objects_after, tables_after, seen_from}
use Rattle.half_model.specs.Shm.{ShmState, Passing, told_by}
use Rattle.half_model.specs.Showing.{Filling, filling_of, after_deed}
use Rattle.half_model.specs.Tables.{Tables}
use Rattle.half_model.specs.Turn.{Sending, Turn, Refuses, turn_eyes}
use Rattle.send_half.specs.SendState.{SendState, tables_of}
use Rattle.send_half.specs.Stages.{admission, note_in, without_note, turn_checked, turn_passing, turn_done}
use Rattle.send_half.specs.Treating.{Goes, Stays}
use Rattle.message_plans.specs.Plans.{with_told, IsAllowed, IsPlanned}
use Rattle.message_plans.specs.declared.planning.Planned.{Planned}
use Rattle.send_half.proofs.GoesLemmas.{goes_from}

-- a message with what it leaves, its frames and its blocks
abbrev turn_of : Table → PipesState → Sending → List ℕ → Option Handle → Option Passing → ObjectsState → Inlet → ShmState → View → Option Note → List Frame → Filling → Turn
turn_of h p s m handle passing objects inlet shm seen note before filling =
    turn_eyes s m handle inlet
    (record {
      tables = tables_after (tables_of objects h p) (objects_after objects.tracked seen) handle passing;
      shm = shm;
      before = before;
      filling = filling;
      shown = seen.shown;
    })
    (eyes_in filling.file.number note)

-- the same by its deed
abbrev turn_by : Table → PipesState → Sending → List ℕ → Option Handle → Option Passing → ObjectsState → Deed → Turn
turn_by h p s m handle passing objects deed =
    let object : ℕ = object_of m in
    let told = with_told object deed passing s.shm in
    turn_of h p s m handle passing objects (without_note deed s.inlet) (after_deed objects.tracked object deed passing told)
    (seen_from h.side objects m) (note_in deed s.inlet)
    (pipe_opened passing ++ (sized_by (told_by s.shm object deed passing) s.shm.told ++ injected passing))
    (filling_of objects.tracked object deed passing told)

abbrev turn_told : Table → PipesState → Sending → List ℕ → Option Handle → Option Passing → ObjectsState → Deed → Turn
turn_told h p s m handle passing objects deed =
    turn_checked s (limit_refusal (told_by s.shm (object_of m) deed passing) s.shm.told) (turn_by h p s m handle passing objects deed)

told_is : (h : Table) (p : PipesState) (s : Sending) (m : List ℕ) (passed : Passed) (handle : Option Handle) (passing : Option Passing) (objects : ObjectsState) (deed : Deed)
    → deed ≡ deed_of (own_way h.side) passed
    → turn_told h p s m handle passing objects deed ≡ turn_passing (tables_of objects h p) s m (admission passed objects.tracked) handle passing
unfolding turn_passing
told_is h p s m passed handle passing objects deed e = ap (λ (d : Deed). turn_told h p s m handle passing objects d) e

-- a limit refuses it
pub limit_turn : (h : Table) (p : PipesState) (s : Sending) (m : List ℕ) (passed : Passed) (handle : Option Handle) (passing : Option Passing) (objects : ObjectsState) (deed : Deed)
    (which : Limit) → deed ≡ deed_of (own_way h.side) passed → limit_refusal (told_by s.shm (object_of m) deed passing) s.shm.told ≡ Some (ByLimit which)
    → turn_passing (tables_of objects h p) s m (admission passed objects.tracked) handle passing ≡ Refuses (faults.Limit which)
limit_turn h p s m passed handle passing objects deed which e limit =
    sym (told_is h p s m passed handle passing objects deed e)
    ∙ ap (λ (refusal : Option Refusal). turn_checked s refusal (turn_by h p s m handle passing objects deed)) limit

done_is : (h : Table) (p : PipesState) (s : Sending) (m : List ℕ) (passed : Passed) (handle : Option Handle) (passing : Option Passing) (objects : ObjectsState) (deed : Deed)
    (note : Option Note) (inlet : Inlet) (shm : ShmState) (hidden : List RegistryGlobal) (it : Planned)
    → deed ≡ deed_of (own_way h.side) passed → limit_refusal (told_by s.shm (object_of m) deed passing) s.shm.told ≡ None
    → note ≡ note_in deed s.inlet → inlet ≡ without_note deed s.inlet
    → IsPlanned s.shm objects.tracked (object_of m) deed passing it
    → shm ≡ after_deed objects.tracked (object_of m) deed passing (with_told (object_of m) deed passing s.shm)
    → seen_from h.side objects m ≡ record { shown = it.shown; hidden = hidden }
    → turn_done (tables_of (record { tracked = objects.tracked; hidden = hidden }) h p) (record s { inlet = inlet; shm = shm }) m handle passing note it.before it.filling it.shown
    ≡ turn_passing (tables_of objects h p) s m (admission passed objects.tracked) handle passing
unfolding turn_done
done_is h p s m passed handle passing objects deed note inlet shm hidden it e limit note_is inlet_is planned shm_is seen =
    let object : ℕ = object_of m in
    let told = with_told object deed passing s.shm in
    let after = after_deed objects.tracked object deed passing told in
    let view : View = record { shown = it.shown; hidden = hidden } in
    let frames : List Frame = pipe_opened passing ++ (sized_by (told_by s.shm object deed passing) s.shm.told ++ injected passing) in
    ap (λ (i : Inlet). turn_of h p s m handle passing objects i shm view note it.before it.filling) inlet_is
    ∙ ap (λ (x : ShmState). turn_of h p s m handle passing objects (without_note deed s.inlet) x view note it.before it.filling) shm_is
    ∙ ap (λ (v : View). turn_of h p s m handle passing objects (without_note deed s.inlet) after v note it.before it.filling) (sym seen)
    ∙ ap (λ (n : Option Note). turn_of h p s m handle passing objects (without_note deed s.inlet) after (seen_from h.side objects m) n it.before it.filling) note_is
    ∙ ap (λ (b : List Frame). turn_of h p s m handle passing objects (without_note deed s.inlet) after (seen_from h.side objects m) (note_in deed s.inlet) b it.filling) planned.before
    ∙ ap (λ (f : Filling). turn_of h p s m handle passing objects (without_note deed s.inlet) after (seen_from h.side objects m) (note_in deed s.inlet) frames f) planned.filling
    ∙ sym (ap (λ (refusal : Option Refusal). turn_checked s refusal (turn_by h p s m handle passing objects deed)) limit)
    ∙ told_is h p s m passed handle passing objects deed e

pub goes_planned : (result : Result Unit HalfFault) (h : Table) (p : PipesState) (after : Tables) (old new : SendState) (m : List ℕ) (passed : Passed) (handle : Option Handle)
    (passing : Option Passing) (objects o : ObjectsState) (deed : Deed) (note : Option Note) (inlet : Inlet) (shm : ShmState) (it : Planned)
    → deed ≡ deed_of (own_way h.side) passed → limit_refusal (told_by old.sending.shm (object_of m) deed passing) old.sending.shm.told ≡ None
    → note ≡ note_in deed old.sending.inlet → inlet ≡ without_note deed old.sending.inlet
    → IsPlanned old.sending.shm objects.tracked (object_of m) deed passing it
    → shm ≡ after_deed objects.tracked (object_of m) deed passing (with_told (object_of m) deed passing old.sending.shm)
    → seen_from h.side objects m ≡ record { shown = it.shown; hidden = o.hidden } → o.tracked ≡ objects.tracked
    → Goes result (turn_done (tables_of o h p) (record old.sending { inlet = inlet; shm = shm }) m handle passing note it.before it.filling it.shown)
    (tables_of o h p) after (record old { sending = record old.sending { inlet = inlet; shm = shm } }) new
    → Goes result (turn_passing (tables_of objects h p) old.sending m (admission passed objects.tracked) handle passing) (tables_of objects h p) after old new
goes_planned result h p after old new m passed handle passing objects o deed note inlet shm it e limit note_is inlet_is planned shm_is seen tracked g =
    goes_from result _ _ o objects h p after old (record old.sending { inlet = inlet; shm = shm }) new
    (ap (λ (t : Tracked). turn_done (tables_of (record { tracked = t; hidden = o.hidden }) h p) (record old.sending { inlet = inlet; shm = shm }) m handle passing note it.before it.filling it.shown) tracked
    ∙ done_is h p old.sending m passed handle passing objects deed note inlet shm o.hidden it e limit note_is inlet_is planned shm_is seen) g

-- a message that would pass a limit, and want of memory
pub goes_refused : (fault : HalfFault) (h : Table) (p : PipesState) (o : ObjectsState) (old new : SendState) (m : List ℕ) (passed : Passed) (handle : Option Handle)
    (passing : Option Passing) (objects : ObjectsState) (deed : Deed) → deed ≡ deed_of (own_way h.side) passed
    → IsAllowed (Err fault) (limit_refusal (told_by old.sending.shm (object_of m) deed passing) old.sending.shm.told) → Stays old new
    → Goes (Err fault) (turn_passing (tables_of objects h p) old.sending m (admission passed objects.tracked) handle passing) (tables_of objects h p) (tables_of o h p) old new
goes_refused (faults.Peer index cause) h p o old new m passed handle passing objects deed e allowed stays = absurd allowed
goes_refused (faults.Limit which) h p o old new m passed handle passing objects deed e allowed stays =
    (record { refuses = limit_turn h p old.sending m passed handle passing objects deed which e allowed; handles = refl; pipes = refl }, stays)
goes_refused faults.Memory h p o old new m passed handle passing objects deed e allowed stays = (tt, stays)
