-- A turn that takes a message, as the answers that led to it.
use Rattle.std.proofs.Common.{◌≡◌, ℕ, List, [], ◌++◌, length, drop, map, Option, Some, None, Result, Ok, Err, refl, sym, ap, ◌∙◌, subst, ◌∷◌, ◌+◌, false}
use Rattle.std.proofs.Math.Seq.{drop-append_seam}
use Rattle.std.specs.List.{AllByRecursion}
use Rattle.wl_wire.specs.declared.faults.ObjectFault.{ObjectFault}
use Rattle.wl_wire.specs.declared.faults.WireFault.{WireFault}
use Rattle.wl_wire.specs.Wire.{first}
use Rattle.wl_wire.proofs.CuttingLaws.{first-gives}
use Rattle.wl_objects.specs.Tracking.{Admission, step}
use Rattle.handle_table.specs.declared.handles.Handle.{Handle}
use Rattle.pool_words.specs.Views.{EyeState}
use Rattle.half_model.specs.declared.deeds.Deed.{Deed}
use Rattle.half_model.specs.Content.{Taking}
use Rattle.half_model.specs.Deeds.{deed_of}
use Rattle.half_model.specs.Filling.{Part, parts_of}
use Rattle.half_model.specs.Group.{Owed, owed_by, note_refusal, refusal_of, refusal_in}
use Rattle.half_model.specs.Inlet.{Inlet, handle_for, note_for, inlet_after, eyes_in}
use Rattle.half_model.specs.Jobs.{jobs_of}
use Rattle.half_model.specs.Log.{after_plan}
use Rattle.half_model.specs.Planning.{Plan, Refusal, plan, plan_passed, tracked_then, kind_carried}
use Rattle.wl_tables.specs.Ways.{own_way}
use Rattle.half_model.specs.Tables.{Tables}
use Rattle.half_model.specs.Turn.{Sending, Takes, Treated, unless_refused, treated_by, turn_planned, turn_step, turn_front, turn_unless, turn}
use Rattle.half_model.specs.TurnLaws.{log_of, IsTaken, TurnIsLawful, IsWhole}

same_taken : (a b : Treated) → Takes a ≡ Takes b → a ≡ b
same_taken a b e = cc

-- the eyes cover the blocks, and this is what is taken
eyes_taken : (index : ℕ) (refusal : Option Refusal) (it t : Treated) → unless_refused index refusal it ≡ Takes t → (refusal ≡ None) × (it ≡ t)
eyes_taken index None it t e = (refl, same_taken it t e)
eyes_taken index (Some refusal) it t e = absurd cc

record Planned (s : Sending) (message : List ℕ) (handle : Option Handle) (inlet : Inlet) (planned : Result Plan Refusal) (t : Treated) : Type 0 where
  it : Plan
  eyes : List EyeState
  is_planned : planned ≡ Ok it
  covers : note_refusal it (map (λ eye. eye.words) eyes) ≡ None
  is : treated_by s message handle inlet it eyes ≡ t

planned_taken : (s : Sending) (message : List ℕ) (handle : Option Handle) (inlet : Inlet) (deed : Deed) (planned : Result Plan Refusal) (t : Treated)
    → turn_planned s message handle inlet deed planned ≡ Takes t → Planned s message handle inlet planned t
planned_taken s message handle inlet deed (Ok it) t e =
    let eyes = eyes_in it.filling.file.number (note_for deed message s.inlet) in
    let got = eyes_taken s.taken (note_refusal it (map (λ eye. eye.words) eyes)) (treated_by s message handle inlet it eyes) t e in
    record { it = it; eyes = eyes; is_planned = refl; covers = got.0; is = got.1 }
planned_taken s message handle inlet deed (Err refusal) t e = absurd cc

-- what a taken message is
record Took (tables : Tables) (s : Sending) (t : Treated) : Type 0 where
  message : List ℕ
  owes_none : s.owes ≡ None
  stands : first s.inlet.bytes ≡ Ok (Some message)
  handle : Option Handle
  inlet : Inlet
  bytes : inlet.bytes ≡ drop (length message) s.inlet.bytes
  it : Plan
  eyes : List EyeState
  is_planned : plan tables s.shm message handle ≡ Ok it
  covers : note_refusal it (map (λ eye. eye.words) eyes) ≡ None
  is : treated_by s message handle inlet it eyes ≡ t

step_taken : (tables : Tables) (s : Sending) (message : List ℕ) (told : Result Admission ObjectFault) (t : Treated)
    → step (own_way tables.handles.side) tables.objects.tracked message ≡ told
    → s.owes ≡ None → first s.inlet.bytes ≡ Ok (Some message)
    → turn_step tables s message told ≡ Takes t → Took tables s t
step_taken tables s message (Ok done) t stepped none stands e =
    let way = own_way tables.handles.side in
    let kind = kind_carried way done.passed in
    let handle = handle_for kind message s.inlet in
    let inlet = inlet_after kind (deed_of way done.passed) message s.inlet in
    let got = planned_taken s message handle inlet (deed_of way done.passed) (plan_passed tables s.shm message handle done) t e in
    record {
      message = message;
      owes_none = none;
      stands = stands;
      handle = handle;
      inlet = inlet;
      bytes = refl;
      it = got.it;
      eyes = got.eyes;
      is_planned = ap (λ (r : Result Admission ObjectFault). tracked_then r (plan_passed tables s.shm message handle)) stepped ∙ got.is_planned;
      covers = got.covers;
      is = got.is;
    }
step_taken tables s message (Err fault) t stepped none stands e = absurd cc

front_taken : (tables : Tables) (s : Sending) (front : Result (Option (List ℕ)) WireFault) (t : Treated)
    → s.owes ≡ None → first s.inlet.bytes ≡ front → turn_front tables s front ≡ Takes t → Took tables s t
front_taken tables s (Ok None) t none stands e = absurd cc
front_taken tables s (Ok (Some message)) t none stands e = step_taken tables s message _ t refl none stands e
front_taken tables s (Err fault) t none stands e = absurd cc

owing_taken : (tables : Tables) (s : Sending) (owes : Option Owed) (t : Treated)
    → s.owes ≡ owes → turn_unless owes (turn_front tables s (first s.inlet.bytes)) ≡ Takes t → Took tables s t
owing_taken tables s None t none e = front_taken tables s (first s.inlet.bytes) t none refl e
owing_taken tables s (Some owed) t none e = absurd cc

took : (tables : Tables) (s : Sending) (t : Treated) → turn tables s ≡ Takes t → Took tables s t
unfolding turn
took tables s t e = owing_taken tables s s.owes t refl e

-- ---- its jobs

part-jobs_of : (next : ℕ) (eyes : List EyeState) (parts : List Part) → map (λ job. job.part) (jobs_of next eyes parts) ≡ parts
part-jobs_of next eyes [] = refl
part-jobs_of next eyes (part ∷ parts) = ap (λ rest. part ∷ rest) (part-jobs_of (next + 1) eyes parts)

whole-jobs_of : (next : ℕ) (eyes : List EyeState) (parts : List Part) → AllByRecursion (λ job. IsWhole job job.state) (jobs_of next eyes parts)
whole-jobs_of next eyes [] = tt
whole-jobs_of next eyes (part ∷ parts) = (tt, whole-jobs_of (next + 1) eyes parts)

-- ---- the law

is_taken : (tables : Tables) (s : Sending) (taking : Taking) (t : Treated) → Took tables s t → IsTaken tables s taking t
is_taken tables s taking t got =
    let segments : List ℕ = map (λ eye. eye.words) got.eyes in
    let owed : Owed = owed_by got.it segments in
    let it : Treated = treated_by s got.message got.handle got.inlet got.it got.eyes in
    let begins = (first-gives s.inlet.bytes got.message).0 got.stands in
    let refused : refusal_of tables s.shm got.message got.handle segments ≡ None =
    ap (λ (r : Result Plan Refusal). refusal_in r segments) got.is_planned ∙ got.covers in
    let next = ap (λ (r : Result Plan Refusal). after_plan (log_of tables s taking false) segments r) got.is_planned in
    let bytes : drop (length got.message) s.inlet.bytes ≡ begins.1.0 =
    ap (λ (bs : List ℕ). drop (length got.message) bs) begins.1.1 ∙ drop-append_seam got.message begins.1.0 in
    let whole : IsTaken tables s taking it = record {
      lawful = record { whole = begins.0; owes_none = got.owes_none; goes_on = refl; passes = refused };
      next = next;
      owed = owed;
      owes = refl;
      jobs = record { parts = part-jobs_of s.next_job got.eyes (parts_of owed.file owed.segments owed.pieces); whole = whole-jobs_of s.next_job got.eyes (parts_of owed.file owed.segments owed.pieces) };
      front = begins.1.1 ∙ ap (λ (rest : List ℕ). got.message ++ rest) (sym (got.bytes ∙ bytes));
      some = begins.0.has_header;
    } in
    let P : Treated → Type 0 = λ t'. IsTaken tables s taking t' in
    subst P got.is whole

pub turn_is_lawful : TurnIsLawful
turn_is_lawful tables s taking t e = is_taken tables s taking t (took tables s t e)
