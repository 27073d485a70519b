-- What follows where a message of a side's own peer is not refused: the answers of all tests, and the plan that they lead to.
use Rattle.std.proofs.Common.{◌≡◌, ℕ, List, Option, Some, None, Result, Ok, Err, refl}
use Rattle.wl_wire.specs.declared.faults.ObjectFault.{ObjectFault}
use Rattle.wl_objects.specs.Tracking.{Admission, step}
use Rattle.handle_table.specs.declared.handles.Handle.{Handle}
use Rattle.handle_table.specs.Table.{Table}
use Rattle.half_model.specs.Planning.{Refusal, Plan, unless, tracked_then, found_then, passing_then, kind_carried, handle_refusal, limit_refusal, plan_with, tell_in, seen_in, plan_passing, plan_passed, plan}
use Rattle.half_model.specs.Shm.{ShmState, Passing, passing_of}
use Rattle.wl_tables.specs.Ways.{own_way}
use Rattle.half_model.specs.Tables.{Tables}

-- the handle that a message has with its rid, or that it has none
abbrev pub HasRid : Table → Option Handle → Option Passing → Type 0
HasRid handles None None = Unit {0}
HasRid handles None (Some it) = ⊥
HasRid handles (Some handle) None = ⊥
HasRid handles (Some handle) (Some it) = passing_of handles handle ≡ Some it

pub record IsPlanned (tables : Tables) (shm : ShmState) (message : List ℕ) (handle : Option Handle) (done : Admission) (it : Plan) : Type 0 where
  pub passing : Option Passing
  pub carried : handle_refusal tables.handles.side (kind_carried (own_way tables.handles.side) done.passed) handle ≡ None
  pub has_rid : HasRid tables.handles handle passing
  pub limited : limit_refusal (tell_in tables shm message done passing) shm.told ≡ None
  pub is : plan_with tables shm message handle done passing (tell_in tables shm message done passing) (seen_in tables message done) ≡ it

unless_ok : {X : Type 0} (refusal : Option Refusal) (next : Result X Refusal) (x : X) → unless refusal next ≡ Ok x → (refusal ≡ None) × (next ≡ Ok x)
unless_ok None next x e = (refl, e)
unless_ok (Some refusal) next x e = absurd cc

found_ok : {X : Type 0} (handles : Table) (handle : Handle) (it : Option Passing) (next : Option Passing → Result X Refusal) (x : X)
    → passing_of handles handle ≡ it → found_then it next ≡ Ok x
    → (passing : Option Passing) × HasRid handles (Some handle) passing × (next passing ≡ Ok x)
found_ok handles handle None next x is e = absurd cc
found_ok handles handle (Some it) next x is e = (Some it, is, e)

passing_ok : {X : Type 0} (handles : Table) (handle : Option Handle) (next : Option Passing → Result X Refusal) (x : X)
    → passing_then handles handle next ≡ Ok x
    → (passing : Option Passing) × HasRid handles handle passing × (next passing ≡ Ok x)
passing_ok handles None next x e = (None, tt, e)
passing_ok handles (Some handle) next x e = found_ok handles handle (passing_of handles handle) next x refl e

same_plan : (a b : Plan) → Ok a ≡ (let r : Result Plan Refusal = Ok b in r) → a ≡ b
same_plan a b e = cc

-- a message that tracking lets pass
pub planned-passed : (tables : Tables) (shm : ShmState) (message : List ℕ) (handle : Option Handle) (done : Admission) (it : Plan)
    → plan_passed tables shm message handle done ≡ Ok it → IsPlanned tables shm message handle done it
planned-passed tables shm message handle done it e =
    let first = unless_ok (handle_refusal tables.handles.side (kind_carried (own_way tables.handles.side) done.passed) handle) _ it e in
    let second = passing_ok tables.handles handle (plan_passing tables shm message handle done) it first.1 in
    let third = unless_ok (limit_refusal (tell_in tables shm message done second.0) shm.told) _ it second.2 in
    record { passing = second.0; carried = first.0; has_rid = second.1; limited = third.0; is = same_plan _ it third.1 }

tracked_ok : (told : Result Admission ObjectFault) (next : Admission → Result Plan Refusal) (it : Plan) → tracked_then told next ≡ Ok it
    → (done : Admission) × (told ≡ Ok done) × (next done ≡ Ok it)
tracked_ok (Ok done) next it e = (done, refl, e)
tracked_ok (Err fault) next it e = absurd cc

pub planned : (tables : Tables) (shm : ShmState) (message : List ℕ) (handle : Option Handle) (it : Plan)
    → plan tables shm message handle ≡ Ok it
    → (done : Admission) × (step (own_way tables.handles.side) tables.objects.tracked message ≡ Ok done) × IsPlanned tables shm message handle done it
planned tables shm message handle it e =
    let got = tracked_ok (step (own_way tables.handles.side) tables.objects.tracked message) _ it e in
    (got.0, got.1, planned-passed tables shm message handle got.0 it got.2)
