-- What holds wherever a story has come to of its objects: they rise by id, and what is owed for an event that is not shown is nothing.
use Rattle.std.proofs.Common.{◌≡◌, ℕ, Bool, true, List, [], ◌++◌, drop, Option, Some, None, option_and_then, is_none, Result, Ok, refl, sym, ap, ◌∙◌, subst}
use Rattle.std.proofs.lemmas.Bool.{cond_both, false≢true}
use Rattle.block_intervals.specs.declared.run.Run.{Run}
use Rattle.wp_outside.specs.declared.kinds.HandleKind.{HandleKind}
use Rattle.wp_outside.specs.declared.kinds.Side.{Side}
use Rattle.wp_outside.specs.declared.kinds.Side.TheVariants.{Near, Far}
use Rattle.wl_wire.specs.declared.faults.ObjectFault.{ObjectFault}
use Rattle.wl_wire.specs.declared.faults.WireFault.{WireFault}
use Rattle.wl_wire.specs.SignatureForm.{SignatureForm}
use Rattle.wl_wire.specs.ArgFaults.{args_fault}
use Rattle.wl_wire.specs.Wire.{object_of, opcode_of}
use Rattle.wl_tables.specs.declared.interface.Interface.{Interface}
use Rattle.wl_tables.specs.declared.interface.Interface.TheVariants.{WlRegistry}
use Rattle.wl_tables.specs.declared.way.Way.{Way}
use Rattle.wl_tables.specs.declared.way.Way.TheVariants.{Event}
use Rattle.wl_tables.specs.Messages.{row, handle_in, handle_kind, signature, new_interface}
use Rattle.wl_tables.specs.Places.{MessageRow}
use Rattle.wl_tables.specs.Table.{messages}
use Rattle.wl_objects.specs.Entries.{Tracked, entry_at, is_wl_registry, is_registry, addressed, with_destroyed}
use Rattle.wl_objects.specs.declared.passed.Passed.{Passed}
use Rattle.wl_objects.specs.Registry.{ObjectsState, View, view, view_event, registry_event}
use Rattle.wl_objects.specs.Tracking.{Admission, step, found, reading, read_row, read_by, made_by_message, deleted_of}
use Rattle.wl_tables.specs.Ways.{is_event}
use Rattle.half_model.specs.declared.deeds.Deed.{Deed}
use Rattle.half_model.specs.declared.deeds.Deed.TheVariants.{Other}
use Rattle.handle_table.specs.declared.handles.Handle.{Handle}
use Rattle.handle_table.specs.Table.{Table}
use Rattle.transfer_frames.specs.declared.frame.Frame.{Frame}
use Rattle.half_model.specs.Deeds.{deed_of}
use Rattle.half_model.specs.Planning.{Plan, kind_carried, handle_refusal, sized_by, plan_with, tell_in, seen_in, seen_from}
use Rattle.half_model.specs.Shm.{ShmState, Passing, told_by, after_tell}
use Rattle.half_model.specs.Showing.{filling_of}
use Rattle.wl_tables.specs.Ways.{own_way}
use Rattle.half_model.specs.Tables.{Tables}
use Rattle.half_model.proofs.Plans.{HasRid, IsPlanned}
use Rattle.half_model.proofs.Bare.{all_get, first_fine, event_makes, after_new, after_destroyed, after_deleted, is_the_registry}
use Rattle.half_model.proofs.Rising.{Rises, parts, new_rises, destroyed_rises}

-- ---- the object of an event that is not shown is a registry

-- of the entry's interface
found_ok : {X Y : Type 0} (it : Option X) (fault : ObjectFault) (next : X → Result Y ObjectFault) (y : Y) → found it fault next ≡ Ok y → (x : X) × (it ≡ Some x) × (next x ≡ Ok y)
found_ok (Some x) fault next y e = (x, refl, e)
found_ok None fault next y e = absurd cc

same_ok : {X : Type 0} (a b : X) → (let r : Result X ObjectFault = Ok a in r) ≡ Ok b → (P : X → Type 0) → P a → P b
same_ok a b e P h = let same : a ≡ b = cc in subst P same h

read_is : (interface : Interface) (opcode : ℕ) (bytes : List ℕ) (form : SignatureForm) (fault : Option WireFault) (it : _) → read_by interface opcode bytes form fault ≡ Ok it → interface ≡ it.interface
read_is interface opcode bytes form None it e = same_ok _ it e (λ r. interface ≡ r.interface) refl
read_is interface opcode bytes form (Some fault) it e = absurd cc

row_is : (interface : Interface) (way : Way) (message : List ℕ) (it : _) → read_row interface way message ≡ Ok it → interface ≡ it.interface
row_is interface way message it e =
    let got = found_ok (signature interface (is_event way) (opcode_of message)) _ _ it e in
    read_is interface (opcode_of message) (drop 8 message) got.0 (args_fault got.0.slots (drop 8 message)) it got.2

same_test : {X : Type 0} (test : Option X → Bool) (told : Option X) (x : X) → option_and_then (λ one. Some one) told ≡ Some x → test told ≡ test (Some x)
same_test test None x e = absurd cc
same_test test (Some one) x e = ap test e

reading_is : (objects : Tracked) (message : List ℕ) (it : _) → reading Event objects message ≡ Ok it → is_registry (entry_at objects (object_of message)) ≡ true → is_wl_registry it.interface ≡ true
reading_is objects message it e is =
    let got = found_ok (addressed Event objects (object_of message)) _ _ it e in
    ap is_wl_registry (sym (row_is got.0.interface Event message it got.2))
    ∙ sym (same_test is_registry (entry_at objects (object_of message)) got.0 got.1) ∙ is

pub registry_goes : (objects : Tracked) (message : List ℕ) (done : Admission) → Rises objects → step Event objects message ≡ Ok done
    → is_registry (entry_at done.objects (object_of message)) ≡ true → done.passed.interface ≡ WlRegistry
registry_goes objects message done h e is =
    let p = parts Event objects message done e in
    let id : ℕ = object_of message in
    let entered : is_registry (entry_at p.after id) ≡ true =
    sym (after_destroyed p.read.destroys id p.after)
    ∙ after_deleted (deleted_of Event p.read) id (with_destroyed p.read.destroys id p.after) (destroyed_rises p.read.destroys id p.after (new_rises Event objects p.after (made_by_message Event p.read) h p.is_new)) (ap (λ (o : Tracked). is_registry (entry_at o id)) p.leaves ∙ is) in
    let there : is_registry (entry_at objects id) ≡ true =
    after_new objects p.after id (made_by_message Event p.read) p.is_new
    (λ n made. first_fine (new_interface p.read.interface true p.read.opcode) (event_makes p.read.interface p.read.opcode) p.read.args n made) entered in
    is_the_registry done.passed.interface (ap (λ (q : Passed). is_wl_registry q.interface) p.passed ∙ reading_is objects message p.read p.is_read there)

-- ---- a registry's event has no handle and fills nothing

registry_carries : (opcode : ℕ) → handle_kind WlRegistry true opcode ≡ None
registry_carries opcode = by (row WlRegistry true opcode) refl
  where
    none_from : (told : Option HandleKind) → is_none told ≡ true → told ≡ None
    none_from None e = refl
    none_from (Some kind) e = absurd (false≢true e)

    by : (told : Option MessageRow) → row WlRegistry true opcode ≡ told → option_and_then (λ it. handle_in it.places) told ≡ None
    by None is = refl
    by (Some it) is = none_from (handle_in it.places) (all_get (λ (one : MessageRow). is_none (handle_in one.places)) (messages WlRegistry Event) opcode it refl is)

no_handle : (side : Side) (kind : Option HandleKind) (handle : Option Handle) → kind ≡ None → handle_refusal side kind handle ≡ None → handle ≡ None
no_handle side None None e f = refl
no_handle side None (Some handle) e f = absurd cc
no_handle side (Some kind) handle e f = absurd cc

no_passing : (handles : Table) (handle : Option Handle) (passing : Option Passing) → handle ≡ None → HasRid handles handle passing → passing ≡ None
no_passing handles None None e h = refl
no_passing handles None (Some it) e h = absurd h
no_passing handles (Some handle) passing e h = absurd cc

-- a plan that makes no frames but for its message
pub record IsBare (before : List Frame) (runs : List Run) : Type 0 where
  pub none : before ≡ []
  pub bare : runs ≡ []

bare_other : (tables : Tables) (shm : ShmState) (message : List ℕ) (handle : Option Handle) (done : Admission) (seen : View)
    → deed_of (own_way tables.handles.side) done.passed ≡ Other
    → (let it : Plan = plan_with tables shm message handle done None (tell_in tables shm message done None) seen in IsBare it.before it.filling.runs)
bare_other tables shm message handle done seen other = record {
  none = ap (λ (d : Deed). sized_by (told_by shm (object_of message) d None) shm.told ++ []) other;
  bare = ap (λ (d : Deed). (filling_of done.objects (object_of message) d None (record shm { told = after_tell (told_by shm (object_of message) d None) shm.told })).runs) other;
}

deed_other : (done : Admission) → done.passed.interface ≡ WlRegistry → deed_of Event done.passed ≡ Other
deed_other done is = ap (λ (i : Interface). deed_of Event (record { interface = i; opcode = done.passed.opcode; args = done.passed.args })) is

registry_bare : (tables : Tables) (shm : ShmState) (message : List ℕ) (handle : Option Handle) (done : Admission) (it : Plan)
    → own_way tables.handles.side ≡ Event → done.passed.interface ≡ WlRegistry → IsPlanned tables shm message handle done it → IsBare it.before it.filling.runs
registry_bare tables shm message handle done it way is p =
    let W : Way → Type 0 = λ w. handle_refusal tables.handles.side (kind_carried w done.passed) handle ≡ None in
    let I : Interface → Type 0 = λ i. handle_refusal tables.handles.side (handle_kind i true done.passed.opcode) handle ≡ None in
    let none : handle ≡ None = no_handle tables.handles.side (handle_kind WlRegistry true done.passed.opcode) handle (registry_carries done.passed.opcode) (subst I is (subst W way p.carried)) in
    let no_rid : p.passing ≡ None = no_passing tables.handles handle p.passing none p.has_rid in
    let Q : Option Passing → Type 0 = λ passing.
    plan_with tables shm message handle done passing (tell_in tables shm message done passing) (seen_in tables message done) ≡ it in
    let planned : Q None = subst Q no_rid p.is in
    let P : Plan → Type 0 = λ one. IsBare one.before one.filling.runs in
    subst P planned (bare_other tables shm message handle done (seen_in tables message done) (ap (λ (w : Way). deed_of w done.passed) way ∙ deed_other done is))

-- what is not shown is a registry's
unseen : (objects : ObjectsState) (message : List ℕ) → (view objects message).shown ≡ None → is_registry (entry_at objects.tracked (object_of message)) ≡ true
unseen objects message e =
    cond_both (is_registry (entry_at objects.tracked (object_of message))) (registry_event message) _
    (λ event. (view_event objects.hidden message event).shown ≡ None → is_registry (entry_at objects.tracked (object_of message)) ≡ true)
    (λ yes f. yes) (λ apart f. absurd cc) e

pub hidden_bare : (side : Side) (tables : Tables) (shm : ShmState) (message : List ℕ) (handle : Option Handle) (done : Admission) (it : Plan)
    → tables.handles.side ≡ side → Rises tables.objects.tracked → step (own_way tables.handles.side) tables.objects.tracked message ≡ Ok done
    → IsPlanned tables shm message handle done it → it.shown ≡ None → IsBare it.before it.filling.runs
hidden_bare Near tables shm message handle done it is h stepped p e =
    absurd (shown_some (ap (λ (sd : Side). (seen_from sd (record { tracked = done.objects; hidden = tables.objects.hidden }) message).shown) (sym is) ∙ ap (λ (one : Plan). one.shown) p.is ∙ e))
  where
    shown_some : (let told : Option (List ℕ) = Some message in told) ≡ None → ⊥
    shown_some f = cc
hidden_bare Far tables shm message handle done it is h stepped p e =
    let way : own_way tables.handles.side ≡ Event = ap own_way is in
    let W : Way → Type 0 = λ w. step w tables.objects.tracked message ≡ Ok done in
    let not_shown : (view (record { tracked = done.objects; hidden = tables.objects.hidden }) message).shown ≡ None =
    ap (λ (sd : Side). (seen_from sd (record { tracked = done.objects; hidden = tables.objects.hidden }) message).shown) (sym is) ∙ ap (λ (one : Plan). one.shown) p.is ∙ e in
    registry_bare tables shm message handle done it way
    (registry_goes tables.objects.tracked message done h (subst W way stepped)
    (unseen (record { tracked = done.objects; hidden = tables.objects.hidden }) message not_shown)) p
