-- A message that was taken out of the bytes, until its handle has a rid, and the front of the bytes.
use Rattle.std.proofs.Common.{◌≡◌, ℕ, List, Option, Some, None, Result, Ok, Err, refl, sym, ap, ◌∙◌}
use Rattle.handle_table.specs.Table.{Table}
use Rattle.handle_table.specs.declared.handles.Handle.{Handle}
use Rattle.pipe_relay.specs.Pipes.{PipesState}
use Rattle.wp_outside.specs.declared.kinds.HandleKind.{HandleKind}
use Rattle.wl_wire.specs.declared.faults.ObjectFault.{ObjectFault}
use Rattle.wl_wire.specs.declared.faults.WireFault.{WireFault}
use Rattle.wl_tables.specs.Ways.{own_way}
use Rattle.wl_objects.specs.declared.passed.Passed.{Passed}
use Rattle.wl_objects.specs.Registry.{ObjectsState, RegistryGlobal}
use Rattle.wl_objects.specs.Tracking.{Admission, step}
use Rattle.half_model.specs.declared.causes.HalfFault.{HalfFault}
use Rattle.half_model.specs.declared.causes.HalfFault.TheVariants as faults
use Rattle.half_model.specs.declared.causes.PeerCause.{PeerCause}
use Rattle.half_model.specs.declared.causes.PeerCause.TheVariants.{Object}
use Rattle.half_model.specs.Inlet.{Inlet}
use Rattle.half_model.specs.Planning.{Refusal, ByCause, handle_refusal, kind_carried}
use Rattle.half_model.specs.Shm.{Passing, passing_of}
use Rattle.half_model.specs.Tables.{Tables}
use Rattle.half_model.specs.Turn.{Sending, Turn, Refuses, turn_front}
use Rattle.send_half.specs.SendState.{SendState, tables_of}
use Rattle.send_half.specs.Stages.{admission, handle_in, without_handle, with_inlet, turn_checked, turn_passing, turn_found, turn_handled, turn_passed, turn_taken}
use Rattle.send_half.specs.Treating.{Goes, Took, Refused, Stays, front_taken}
use Rattle.send_half.proofs.GoesLemmas.{goes_from, took_from, refused_from, stays_from}
use Rattle.send_half.proofs.StageLemmas.{stages_are}

-- ---- the handle

abbrev turn_with : Table → PipesState → Sending → List ℕ → Passed → ObjectsState → Option HandleKind → Option Handle → Inlet → Turn
turn_with h p s m passed objects kind handle inlet =
    turn_checked s (handle_refusal h.side kind handle)
    (turn_handled (tables_of objects h p) (with_inlet inlet s) m (admission passed objects.tracked) handle)

with_is : (h : Table) (p : PipesState) (s : Sending) (m : List ℕ) (passed : Passed) (objects : ObjectsState) (kind : Option HandleKind) (handle : Option Handle) (inlet : Inlet)
    → kind ≡ kind_carried (own_way h.side) passed → handle ≡ handle_in kind s.inlet → inlet ≡ without_handle kind s.inlet
    → turn_with h p s m passed objects kind handle inlet ≡ turn_passed (tables_of objects h p) s m (admission passed objects.tracked)
unfolding turn_passed
with_is h p s m passed objects kind handle inlet e handle_is inlet_is =
    ap (λ (o : Option Handle). turn_with h p s m passed objects kind o inlet) handle_is
    ∙ ap (λ (i : Inlet). turn_with h p s m passed objects kind (handle_in kind s.inlet) i) inlet_is
    ∙ ap (λ (k : Option HandleKind). turn_with h p s m passed objects k (handle_in k s.inlet) (without_handle k s.inlet)) e

pub refuses_handle : (h : Table) (p : PipesState) (s : Sending) (m : List ℕ) (passed : Passed) (objects : ObjectsState) (kind : Option HandleKind) (handle : Option Handle)
    (inlet : Inlet) (cause : PeerCause) → kind ≡ kind_carried (own_way h.side) passed → handle ≡ handle_in kind s.inlet → inlet ≡ without_handle kind s.inlet
    → handle_refusal h.side kind handle ≡ Some (ByCause cause)
    → turn_passed (tables_of objects h p) s m (admission passed objects.tracked) ≡ Refuses (faults.Peer s.taken cause)
refuses_handle h p s m passed objects kind handle inlet cause e handle_is inlet_is refusal =
    sym (with_is h p s m passed objects kind handle inlet e handle_is inlet_is)
    ∙ ap (λ (r : Option Refusal). turn_checked s r (turn_handled (tables_of objects h p) (with_inlet inlet s) m (admission passed objects.tracked) handle)) refusal

passes : (h : Table) (p : PipesState) (s : Sending) (m : List ℕ) (passed : Passed) (objects : ObjectsState) (kind : Option HandleKind) (handle : Option Handle) (inlet : Inlet)
    → kind ≡ kind_carried (own_way h.side) passed → handle ≡ handle_in kind s.inlet → inlet ≡ without_handle kind s.inlet → handle_refusal h.side kind handle ≡ None
    → turn_handled (tables_of objects h p) (with_inlet inlet s) m (admission passed objects.tracked) handle
    ≡ turn_passed (tables_of objects h p) s m (admission passed objects.tracked)
passes h p s m passed objects kind handle inlet e handle_is inlet_is refusal =
    sym (ap (λ (r : Option Refusal). turn_checked s r (turn_handled (tables_of objects h p) (with_inlet inlet s) m (admission passed objects.tracked) handle)) refusal)
    ∙ with_is h p s m passed objects kind handle inlet e handle_is inlet_is

pub goes_checked : (result : Result Unit HalfFault) (h : Table) (p : PipesState) (after : Tables) (old new : SendState) (m : List ℕ) (passed : Passed) (objects : ObjectsState)
    (kind : Option HandleKind) (handle : Option Handle) (inlet : Inlet)
    → kind ≡ kind_carried (own_way h.side) passed → handle ≡ handle_in kind old.sending.inlet → inlet ≡ without_handle kind old.sending.inlet
    → handle_refusal h.side kind handle ≡ None
    → Goes result (turn_handled (tables_of objects h p) (record old.sending { inlet = inlet }) m (admission passed objects.tracked) handle)
    (tables_of objects h p) after (record old { sending = record old.sending { inlet = inlet } }) new
    → Goes result (turn_passed (tables_of objects h p) old.sending m (admission passed objects.tracked)) (tables_of objects h p) after old new
goes_checked result h p after old new m passed objects kind handle inlet e handle_is inlet_is refusal g =
    goes_from result _ _ objects objects h p after old (record old.sending { inlet = inlet }) new
    (passes h p old.sending m passed objects kind handle inlet e handle_is inlet_is refusal) g

pub goes_refused : (h : Table) (p : PipesState) (o : ObjectsState) (old new : SendState) (m : List ℕ) (passed : Passed) (objects : ObjectsState)
    (kind : Option HandleKind) (handle : Option Handle) (inlet : Inlet) (cause : PeerCause)
    → kind ≡ kind_carried (own_way h.side) passed → handle ≡ handle_in kind old.sending.inlet → inlet ≡ without_handle kind old.sending.inlet
    → handle_refusal h.side kind handle ≡ Some (ByCause cause) → Stays old new
    → Goes (Err (faults.Peer old.sending.taken cause)) (turn_passed (tables_of objects h p) old.sending m (admission passed objects.tracked)) (tables_of objects h p)
    (tables_of o h p) old new
goes_refused h p o old new m passed objects kind handle inlet cause e handle_is inlet_is refusal stays =
    (record { refuses = refuses_handle h p old.sending m passed objects kind handle inlet cause e handle_is inlet_is refusal; handles = refl; pipes = refl }, stays)

pub goes_found : (result : Result Unit HalfFault) (h : Table) (p : PipesState) (after : Tables) (old new : SendState) (m : List ℕ) (done : Admission) (objects : ObjectsState)
    (handle other : Handle) (it : Passing) → Some it ≡ passing_of h handle → other ≡ handle
    → Goes result (turn_passing (tables_of objects h p) old.sending m done (Some other) (Some it)) (tables_of objects h p) after old new
    → Goes result (turn_found (tables_of objects h p) old.sending m done handle (passing_of h handle)) (tables_of objects h p) after old new
goes_found result h p after old new m done objects handle other it found same g =
    goes_from result _ _ objects objects h p after old old.sending new
    (ap (λ (x : Handle). turn_passing (tables_of objects h p) old.sending m done (Some x) (Some it)) same
    ∙ ap (λ (o : Option Passing). turn_found (tables_of objects h p) old.sending m done handle o) found)
    g

-- ---- tracking

-- what a message comes to turns on the objects behind it, and not on those before it
found_objects : (h : Table) (p : PipesState) (s : Sending) (m : List ℕ) (done : Admission) (o o' : ObjectsState) (hidden : o.hidden ≡ o'.hidden) (handle : Handle) (passing : Option Passing)
    → turn_found (tables_of o h p) s m done handle passing ≡ turn_found (tables_of o' h p) s m done handle passing
unfolding turn_passing
found_objects h p s m done o o' hidden handle None = refl
found_objects h p s m done o o' hidden handle (Some it) =
    ap (λ (all : List RegistryGlobal). turn_passing (tables_of (record o { hidden = all }) h p) s m done (Some handle) (Some it)) hidden

handled_objects : (h : Table) (p : PipesState) (s : Sending) (m : List ℕ) (done : Admission) (o o' : ObjectsState) (hidden : o.hidden ≡ o'.hidden) (handle : Option Handle)
    → turn_handled (tables_of o h p) s m done handle ≡ turn_handled (tables_of o' h p) s m done handle
unfolding turn_passing
handled_objects h p s m done o o' hidden None =
    ap (λ (all : List RegistryGlobal). turn_passing (tables_of (record o { hidden = all }) h p) s m done None None) hidden
handled_objects h p s m done o o' hidden (Some handle) = found_objects h p s m done o o' hidden handle (passing_of h handle)

pub passed_objects : (h : Table) (p : PipesState) (s : Sending) (m : List ℕ) (done : Admission) (o o' : ObjectsState) (hidden : o.hidden ≡ o'.hidden)
    → turn_passed (tables_of o h p) s m done ≡ turn_passed (tables_of o' h p) s m done
unfolding turn_passed
passed_objects h p s m done o o' hidden =
    let kind = kind_carried (own_way h.side) done.passed in
    ap (λ (next : Turn). turn_checked s (handle_refusal h.side kind (handle_in kind s.inlet)) next)
    (handled_objects h p (with_inlet (without_handle kind s.inlet) s) m done o o' hidden (handle_in kind s.inlet))

pub goes_tracked : (result : Result Unit HalfFault) (h : Table) (p : PipesState) (after : Tables) (old new : SendState) (m : List ℕ) (passed : Passed) (o o' : ObjectsState)
    (found : Result Admission ObjectFault) → found ≡ Ok (record { passed = passed; objects = o'.tracked }) → o'.hidden ≡ o.hidden
    → Goes result (turn_passed (tables_of o' h p) old.sending m (admission passed o'.tracked)) (tables_of o' h p) after old new
    → Goes result (turn_taken (tables_of o h p) old.sending m found) (tables_of o h p) after old new
goes_tracked result h p after old new m passed o o' found e hidden g =
    goes_from result _ _ o' o h p after old old.sending new
    (passed_objects h p old.sending m (admission passed o'.tracked) o' o hidden
    ∙ ap (λ (f : Result Admission ObjectFault). turn_taken (tables_of o h p) old.sending m f) (sym e))
    g

pub refuses_tracked : (tables : Tables) (s : Sending) (m : List ℕ) (found : Result Admission ObjectFault) (fault : ObjectFault) → found ≡ Err fault
    → turn_taken tables s m found ≡ Refuses (faults.Peer s.taken (Object fault))
refuses_tracked tables s m found fault e = ap (λ (f : Result Admission ObjectFault). turn_taken tables s m f) e

-- ---- the front of the bytes

front_is : (o : ObjectsState) (h : Table) (p : PipesState) (s : Sending) (m : List ℕ) (inlet : Inlet) (front : Result (Option (List ℕ)) WireFault)
    → front ≡ Ok (Some m) → inlet ≡ front_taken (Some m) s.inlet
    → turn_taken (tables_of o h p) (record s { inlet = inlet }) m (step (own_way h.side) o.tracked m) ≡ turn_front (tables_of o h p) s front
front_is o h p s m inlet front e inlet_is =
    ap (λ (i : Inlet). turn_taken (tables_of o h p) (record s { inlet = i }) m (step (own_way h.side) o.tracked m)) inlet_is
    ∙ sym (stages_are (tables_of o h p) s m (step (own_way h.side) o.tracked m))
    ∙ ap (λ (f : Result (Option (List ℕ)) WireFault). turn_front (tables_of o h p) s f) (sym e)

pub front_taken_is : (o : ObjectsState) (h : Table) (p : PipesState) (after : Tables) (old new : SendState) (m : List ℕ) (inlet : Inlet) (front : Result (Option (List ℕ)) WireFault)
    → front ≡ Ok (Some m) → inlet ≡ front_taken (Some m) old.sending.inlet
    → Took (turn_taken (tables_of o h p) (record old.sending { inlet = inlet }) m (step (own_way h.side) o.tracked m)) after
    (record old { sending = record old.sending { inlet = inlet } }) new
    → Took (turn_front (tables_of o h p) old.sending front) after old new
front_taken_is o h p after old new m inlet front e inlet_is t =
    took_from _ _ after old (record old.sending { inlet = inlet }) new (front_is o h p old.sending m inlet front e inlet_is) t

pub front_refused_is : (fault : HalfFault) (o : ObjectsState) (h : Table) (p : PipesState) (after : Tables) (old new : SendState) (m : List ℕ) (inlet : Inlet)
    (front : Result (Option (List ℕ)) WireFault) → front ≡ Ok (Some m) → inlet ≡ front_taken (Some m) old.sending.inlet
    → Goes (Err fault) (turn_taken (tables_of o h p) (record old.sending { inlet = inlet }) m (step (own_way h.side) o.tracked m)) (tables_of o h p) after
    (record old { sending = record old.sending { inlet = inlet } }) new
    → Refused fault (turn_front (tables_of o h p) old.sending front) (tables_of o h p) after × Stays old new
front_refused_is fault o h p after old new m inlet front e inlet_is g =
    (refused_from fault _ _ o o h p after (front_is o h p old.sending m inlet front e inlet_is) g.0, stays_from old (record old.sending { inlet = inlet }) new g.1)
