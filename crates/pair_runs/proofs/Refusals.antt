-- Why a sending half refuses the message at the front of what waits, read off from its turn; and that it is refused where it has a cause.
use Rattle.std.proofs.Common.{◌≡◌, ℕ, ◌≤◌, max, List, [], ◌∷◌, ◌++◌, Bool, true, false, ◌&&◌, nat_lt, Option, Some, None, Result, Ok, Err, refl, sym, ap, subst, ◌∙◌, inl, inr, if◌then◌else◌}
use Rattle.std.proofs.lemmas.Bool.{ltb-true, ltb-false}
use Rattle.wp_outside.specs.declared.kinds.HandleKind.{HandleKind}
use Rattle.wp_outside.specs.declared.kinds.Side.{Side}
use Rattle.wl_wire.specs.declared.faults.ObjectFault.{ObjectFault}
use Rattle.wl_wire.specs.declared.faults.WireFault.{WireFault}
use Rattle.wl_wire.specs.Wire.{first}
use Rattle.wl_tables.specs.declared.way.Way.{Way}
use Rattle.wl_tables.specs.Ways.{own_way}
use Rattle.wl_objects.specs.Entries.{Tracked, first_objects}
use Rattle.wl_objects.specs.Tracking.{Admission, step, track, then_goes}
use Rattle.handle_table.specs.declared.handles.Handle.{Handle}
use Rattle.handle_table.specs.Table.{is_kind}
use Rattle.half_model.specs.declared.causes.HalfFault.{HalfFault}
use Rattle.half_model.specs.declared.causes.HalfFault.TheVariants as halves
use Rattle.half_model.specs.declared.causes.Limit.TheVariants as limits
use Rattle.half_model.specs.declared.causes.PeerCause.TheVariants as causes
use Rattle.half_model.specs.Content.{Taking}
use Rattle.half_model.specs.Deeds.{deed_of}
use Rattle.half_model.specs.Filling.{covers}
use Rattle.half_model.specs.Group.{Owed}
use Rattle.half_model.specs.Inlet.{handle_for, note_for, inlet_after, eyes_in}
use Rattle.half_model.specs.Log.{LogState}
use Rattle.half_model.specs.Planning.{Plan, Refusal, ByCause, ByLimit, NoRid, unless, handle_refusal, passing_then, found_then, limit_refusal, sum_with, plan_with, tell_in, seen_in, plan_passing, plan_passed}
use Rattle.half_model.specs.Shm.{Passing, Tell, passing_of, told_at}
use Rattle.half_model.specs.Sides.{is_own}
use Rattle.half_model.specs.Tables.{Tables}
use Rattle.half_model.specs.Turn.{Sending, Treated, Turn, Idle, Refuses, Takes, fault_of, unless_refused, treated_by, turn_planned, turn_step, turn_front, turn_unless, turn}
use Rattle.half_model.specs.TurnLaws.{log_of}
use Rattle.mirror_pools.specs.Sizes.{MOST_FILE, MOST_FILES}
use Rattle.pair_runs.specs.Causes.{Passes, kind_in, handle_in, words_noted, passing_in, TellsAbove, HasCause}

-- ---- the last message of an order

abbrev after_all : (it : Way × List ℕ) → Result Tracked ObjectFault → Result Tracked ObjectFault
after_all it (Ok objects) = then_goes (step it.0 objects it.1) (λ done. Ok done.objects)
after_all it (Err fault) = Err fault

track_then : (objects : Tracked) (order : List (Way × List ℕ)) (it : Way × List ℕ) → track objects (order ++ it ∷ []) ≡ after_all it (track objects order)
track_then objects [] it = refl
track_then objects (one ∷ order) it = by_step (step one.0 objects one.1) (λ o. track_then o order it)
  where
    by_step : (r : Result Admission ObjectFault) → ((o : Tracked) → track o (order ++ it ∷ []) ≡ after_all it (track o order))
        → then_goes r (λ done. track done.objects (order ++ it ∷ [])) ≡ after_all it (then_goes r (λ done. track done.objects order))
    by_step (Ok done) more = more done.objects
    by_step (Err fault) more = refl

pub track_last : (objects after : Tracked) (order : List (Way × List ℕ)) (it : Way × List ℕ) → track objects order ≡ Ok after
    → track objects (order ++ it ∷ []) ≡ then_goes (step it.0 after it.1) (λ done. Ok done.objects)
track_last objects after order it e = track_then objects order it ∙ ap (after_all it) e

last_refused : (r : Result Admission ObjectFault) (fault : ObjectFault) → then_goes r (λ done. Ok done.objects) ≡ Err fault → r ≡ Err fault
last_refused (Ok done) fault e = absurd cc
last_refused (Err other) fault e = let same : other ≡ fault = cc in ap (λ (f : ObjectFault). Err f) same

-- ---- why a turn refuses

module _ (tables : Tables) (s : Sending) (taking : Taking) (closed : Bool) (order : List (Way × List ℕ)) (tracked : track first_objects order ≡ Ok tables.objects.tracked) where
  abbrev side : Side
  side = tables.handles.side

  abbrev state : LogState
  state = log_of tables s taking closed

  -- the cause stands, or the limit is passed
  abbrev pub OnFault : HalfFault → Type 0
  OnFault (halves.Peer index cause) = (index ≡ s.taken) × HasCause side state order s.inlet cause
  OnFault (halves.Limit which) = TellsAbove which side state s.inlet
  OnFault halves.Memory = Unit {0}

  abbrev OnRefusal : Refusal → Type 0
  OnRefusal (ByCause cause) = HasCause side state order s.inlet cause
  OnRefusal (ByLimit which) = TellsAbove which side state s.inlet
  OnRefusal NoRid = Unit {0}

  abbrev OnTurn : Turn → Type 0
  OnTurn Idle = Unit {0}
  OnTurn (Refuses fault) = OnFault fault
  OnTurn (Takes it) = Unit {0}

  by_fault : (refusal : Refusal) → OnRefusal refusal → OnFault (fault_of s.taken refusal)
  by_fault (ByCause cause) h = (refl, h)
  by_fault (ByLimit which) h = h
  by_fault NoRid h = tt

  abbrev failed : Refusal → Result Plan Refusal
  failed refusal = Err refusal

  same_refusal : (one other : Refusal) → failed one ≡ failed other → one ≡ other
  same_refusal one other e = cc

  refused_so : (one other : Refusal) → OnRefusal one → failed one ≡ failed other → OnRefusal other
  refused_so one other h e = subst (λ (r : Refusal). OnRefusal r) (same_refusal one other e) h

  -- by a limit
  by_limit : (it : Passes side state s.inlet) (passing : Option Passing) → passing ≡ passing_in state (handle_in side s.inlet it.message it.done) → (tell : Option Tell)
      → tell_in tables s.shm it.message it.done passing ≡ tell → (plan : Plan) (refusal : Refusal) → unless (limit_refusal tell s.shm.told) (Ok plan) ≡ Err refusal → OnRefusal refusal
  by_limit it passing p None t plan refusal e = absurd cc
  by_limit it passing p (Some tell) t plan refusal e = each (nat_lt MOST_FILE (max (told_at tell.file.rid s.shm.told) tell.size)) refl e
    where
      says : tell_in tables s.shm it.message it.done (passing_in state (handle_in side s.inlet it.message it.done)) ≡ Some tell
      says = ap (λ (q : Option Passing). tell_in tables s.shm it.message it.done q) (sym p) ∙ t

      sum : max (told_at tell.file.rid s.shm.told) tell.size ≤ MOST_FILE → (b : Bool) → nat_lt MOST_FILES (sum_with tell s.shm.told) ≡ b
          → unless (if b then Some (ByLimit limits.Files) else None) (Ok plan) ≡ Err refusal → OnRefusal refusal
      sum low true c d = refused_so (ByLimit limits.Files) refusal (record { it = it; tell = tell; says = says; above = (low, ltb-true MOST_FILES (sum_with tell s.shm.told) c) }) d
      sum low false c d = absurd cc

      each : (b : Bool) → nat_lt MOST_FILE (max (told_at tell.file.rid s.shm.told) tell.size) ≡ b
          → unless (if b then Some (ByLimit limits.File) else if nat_lt MOST_FILES (sum_with tell s.shm.told) then Some (ByLimit limits.Files) else None) (Ok plan) ≡ Err refusal → OnRefusal refusal
      each true c d = refused_so (ByLimit limits.File) refusal (record { it = it; tell = tell; says = says; above = ltb-true MOST_FILE (max (told_at tell.file.rid s.shm.told) tell.size) c }) d
      each false c d = sum (ltb-false MOST_FILE (max (told_at tell.file.rid s.shm.told) tell.size) c) (nat_lt MOST_FILES (sum_with tell s.shm.told)) refl d

  -- by its handle
  by_passing : (it : Passes side state s.inlet) (passing : Option Passing) → passing ≡ passing_in state (handle_in side s.inlet it.message it.done)
      → (refusal : Refusal) → plan_passing tables s.shm it.message (handle_in side s.inlet it.message it.done) it.done passing ≡ Err refusal → OnRefusal refusal
  by_passing it passing p refusal e =
      let handle : Option Handle = handle_in side s.inlet it.message it.done in
      by_limit it passing p (tell_in tables s.shm it.message it.done passing) refl
      (plan_with tables s.shm it.message handle it.done passing (tell_in tables s.shm it.message it.done passing) (seen_in tables it.message it.done)) refusal e

  by_found : (it : Passes side state s.inlet) (handle : Handle) → handle_in side s.inlet it.message it.done ≡ Some handle → (found : Option Passing) → passing_of tables.handles handle ≡ found
      → (refusal : Refusal) → found_then found (plan_passing tables s.shm it.message (handle_in side s.inlet it.message it.done) it.done) ≡ Err refusal → OnRefusal refusal
  by_found it handle h None f refusal e = refused_so NoRid refusal tt e
  by_found it handle h (Some passing) f refusal e =
      by_passing it (Some passing) (sym f ∙ ap (λ (x : Option Handle). passing_in state x) (sym h)) refusal e

  by_handle : (it : Passes side state s.inlet) (kind : Option HandleKind) → kind_in side it.done ≡ kind → (handle : Option Handle) → handle_in side s.inlet it.message it.done ≡ handle
      → (refusal : Refusal) → unless (handle_refusal side kind handle) (passing_then tables.handles handle (plan_passing tables s.shm it.message (handle_in side s.inlet it.message it.done) it.done)) ≡ Err refusal → OnRefusal refusal
  by_handle it None k None h refusal e = by_passing it None (ap (λ (x : Option Handle). passing_in state x) (sym h)) refusal e
  by_handle it None k (Some handle) h refusal e =
      absurd (let never : None ≡ Some handle = ap (λ (x : Option HandleKind). handle_for x it.message s.inlet) (sym k) ∙ h in cc)
  by_handle it (Some kind) k None h refusal e = refused_so (ByCause causes.HandleMissing) refusal (record { it = it; kind = kind; carries = k; none = h }) e
  by_handle it (Some kind) k (Some handle) h refusal e = go (is_kind handle.kind kind && is_own side handle.number) refl e
    where
      go : (b : Bool) → is_kind handle.kind kind && is_own side handle.number ≡ b
          → unless (if b then None else Some (ByCause causes.HandleKind)) (found_then (passing_of tables.handles handle) (plan_passing tables s.shm it.message (handle_in side s.inlet it.message it.done) it.done)) ≡ Err refusal → OnRefusal refusal
      go true c d = by_found it handle h (passing_of tables.handles handle) refl refusal d
      go false c d = refused_so (ByCause causes.HandleKind) refusal (record { it = it; kind = kind; carries = k; handle = handle; finds = h; wrong = c }) d

  -- by its note
  by_note : (it : Passes side state s.inlet) (plan : Plan) → plan_passed tables s.shm it.message (handle_in side s.inlet it.message it.done) it.done ≡ Ok plan
      → (b : Bool) → covers plan.filling.runs (words_noted side s.inlet it.message it.done plan.filling.file.number) ≡ b → (treated : Treated)
      → OnTurn (unless_refused s.taken (if b then None else Some (ByCause causes.NoteMissing)) treated)
  by_note it plan p true c treated = tt
  by_note it plan p false c treated = (refl, record { it = it; plan = plan; planned = p; uncovered = c })

  by_plan : (it : Passes side state s.inlet) (planned : Result Plan Refusal) → plan_passed tables s.shm it.message (handle_in side s.inlet it.message it.done) it.done ≡ planned
      → OnTurn (turn_planned s it.message (handle_in side s.inlet it.message it.done) (inlet_after (kind_in side it.done) (deed_of (own_way side) it.done.passed) it.message s.inlet) (deed_of (own_way side) it.done.passed) planned)
  by_plan it (Ok plan) e =
      by_note it plan e (covers plan.filling.runs (words_noted side s.inlet it.message it.done plan.filling.file.number)) refl
      (treated_by s it.message (handle_in side s.inlet it.message it.done) (inlet_after (kind_in side it.done) (deed_of (own_way side) it.done.passed) it.message s.inlet) plan (eyes_in plan.filling.file.number (note_for (deed_of (own_way side) it.done.passed) it.message s.inlet)))
  by_plan it (Err refusal) e = by_fault refusal (by_handle it (kind_in side it.done) refl (handle_in side s.inlet it.message it.done) refl refusal e)

  by_step : (message : List ℕ) → first s.inlet.bytes ≡ Ok (Some message) → (told : Result Admission ObjectFault) → step (own_way side) tables.objects.tracked message ≡ told → OnTurn (turn_step tables s message told)
  by_step message f (Ok done) e =
      let it : Passes side state s.inlet = record { message = message; front = f; done = done; passes = e } in
      by_plan it (plan_passed tables s.shm message (handle_in side s.inlet message done) done) refl
  by_step message f (Err fault) e = (
    refl,
    inr (record {
      message = message;
      front = f;
      last = track_last first_objects tables.objects.tracked order (own_way side, message) tracked ∙ ap (λ (r : Result Admission ObjectFault). then_goes r (λ done. Ok done.objects)) e;
    }),
  )

  by_front : (front : Result (Option (List ℕ)) WireFault) → first s.inlet.bytes ≡ front → OnTurn (turn_front tables s front)
  by_front (Ok None) e = tt
  by_front (Ok (Some message)) e = by_step message e (step (own_way side) tables.objects.tracked message) refl
  by_front (Err bad) e = (refl, inl (record { bad = bad; front = e; is = refl }))

  by_owes : (owes : Option Owed) → OnTurn (turn_unless owes (turn_front tables s (first s.inlet.bytes)))
  by_owes None = by_front (first s.inlet.bytes) refl
  by_owes (Some owed) = tt

  pub refused_so_by : (fault : HalfFault) → turn tables s ≡ Refuses fault → OnFault fault
  unfolding turn
  refused_so_by fault e = subst (λ (it : Turn). OnTurn it) e (by_owes s.owes)
