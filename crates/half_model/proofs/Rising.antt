-- The tracked objects rise by id, whatever passes; and what an event leaves of the entry that it is for.
use Rattle.std.proofs.Common.{◌≡◌, ℕ, Bool, true, false, not, List, Option, Some, None, option_map, Result, Ok, Err, refl, sym, ap, ◌∙◌, subst}
use Rattle.std.proofs.lemmas.Bool.{cond_both}
use Rattle.std.proofs.lemmas.Cmp.{nat_cmp_total}
use Rattle.std.proofs.lemmas.Map.{keys-set_value}
use Rattle.std.proofs.lemmas.Map.Lookups.{exact_unsigned}
use Rattle.std.specs.BTreeMap.{is_at}
use Rattle.std.specs.List.Sorted.{IsStrictlySortedBy}
use Rattle.std.specs.Map.{keys_of, remove_entry}
use Rattle.std.specs.Ordering.{nat_cmp}
use Rattle.wl_wire.specs.declared.faults.ObjectFault.{ObjectFault}
use Rattle.wl_wire.specs.declared.faults.ObjectFault.TheVariants.{IdInUse, IdRange, TooManyObjects}
use Rattle.wl_wire.specs.Wire.{object_of}
use Rattle.wl_tables.specs.declared.interface.Interface.{Interface}
use Rattle.wl_tables.specs.declared.way.Way.{Way}
use Rattle.wl_objects.specs.Entries.{Tracked, entry_at, is_in_range, is_in_use, is_client_id, has_room, live_one, with_live, with_known, with_new, dead, put_entry, with_destroyed, with_deleted}
use Rattle.wl_objects.specs.Tracking.{Admission, step, then_goes, reading, followed, passed_as, deleted_of, made_by_message}
use Rattle.half_model.proofs.Maps.{rising_put, rising_remove}

abbrev pub Rises : Tracked → Type 0
Rises objects = IsStrictlySortedBy nat_cmp (keys_of objects)

-- ---- one message, by its parts

then_ok : {X Y : Type 0} (told : Result X ObjectFault) (next : X → Result Y ObjectFault) (y : Y) → then_goes told next ≡ Ok y → (x : X) × (told ≡ Ok x) × (next x ≡ Ok y)
then_ok (Ok x) next y e = (x, refl, e)
then_ok (Err fault) next y e = absurd cc

pub record Parts (way : Way) (objects : Tracked) (message : List ℕ) (done : Admission) : Type 0 where
  pub read : _
  pub is_read : reading way objects message ≡ Ok read
  pub after : Tracked
  pub is_new : with_new way objects (made_by_message way read) ≡ Ok after
  pub passed : done.passed ≡ passed_as read
  pub leaves : with_deleted (deleted_of way read) (with_destroyed read.destroys (object_of message) after) ≡ done.objects

pub parts : (way : Way) (objects : Tracked) (message : List ℕ) (done : Admission) → step way objects message ≡ Ok done → Parts way objects message done
parts way objects message done e =
    let first = then_ok (reading way objects message) _ done e in
    let second = then_ok (followed way objects (object_of message) first.0) _ done first.2 in
    let third = then_ok (with_new way objects (made_by_message way first.0)) _ second.0 second.1 in
    let last : record { passed = passed_as first.0; objects = second.0 } ≡ done = same_step _ done second.2 in
    record {
      read = first.0;
      is_read = first.1;
      after = third.0;
      is_new = third.1;
      passed = ap (λ (d : Admission). d.passed) (sym last);
      leaves = same_objects _ second.0 third.2 ∙ ap (λ (d : Admission). d.objects) last;
    }
  where
    same_step : (a b : Admission) → (let r : Result Admission ObjectFault = Ok a in r) ≡ Ok b → a ≡ b
    same_step a b f = cc

    same_objects : (a b : Tracked) → (let r : Result Tracked ObjectFault = Ok a in r) ≡ Ok b → a ≡ b
    same_objects a b f = cc

-- ---- the objects rise

known_rises : (objects after : Tracked) (id : ℕ) (interface : Option Interface) → Rises objects → with_known objects id interface ≡ Ok after → Rises after
known_rises objects after id None h e = absurd cc
known_rises objects after id (Some interface) h e =
    cond_both (has_room objects id) (Ok (with_live objects id interface)) (Err TooManyObjects) (λ r. r ≡ Ok after → Rises after)
    (λ room f. let P : Tracked → Type 0 = λ o. Rises o in
    let same : with_live objects id interface ≡ after = cc in
    subst P same (rising_put nat_cmp_total exact_unsigned objects id (live_one interface) h))
    (λ full f. absurd cc) e

pub new_rises : (way : Way) (objects after : Tracked) (made : Option _) → Rises objects → with_new way objects made ≡ Ok after → Rises after
new_rises way objects after None h e = let P : Tracked → Type 0 = λ o. Rises o in let same : objects ≡ after = cc in subst P same h
new_rises way objects after (Some it) h e =
    cond_both (not (is_in_range way it.id)) (Err IdRange) _ (λ r. r ≡ Ok after → Rises after)
    (λ out f. absurd cc)
    (λ within. cond_both (is_in_use way (entry_at objects it.id)) (Err IdInUse) (with_known objects it.id it.interface) (λ r. r ≡ Ok after → Rises after)
    (λ used f. absurd cc) (λ free f. known_rises objects after it.id it.interface h f))
    e

put_rises : (objects : Tracked) (id : ℕ) (entry : Option _) → Rises objects → Rises (put_entry objects id entry)
put_rises objects id None h = h
put_rises objects id (Some it) h =
    let P : List ℕ → Type 0 = λ ks. IsStrictlySortedBy nat_cmp ks in subst P (sym (keys-set_value (is_at (nat_cmp id)) objects it)) h

pub destroyed_rises : (b : Bool) (id : ℕ) (objects : Tracked) → Rises objects → Rises (with_destroyed b id objects)
destroyed_rises false id objects h = h
destroyed_rises true id objects h = put_rises objects id (option_map dead (entry_at objects id)) h

deleted_rises : (deleted : Option ℕ) (objects : Tracked) → Rises objects → Rises (with_deleted deleted objects)
deleted_rises None objects h = h
deleted_rises (Some id) objects h =
    cond_both (is_client_id id) (remove_entry (is_at (nat_cmp id)) objects) objects Rises
    (λ yes. rising_remove nat_cmp (is_at (nat_cmp id)) objects h) (λ apart. h)

pub step_rises : (way : Way) (objects : Tracked) (message : List ℕ) (done : Admission) → Rises objects → step way objects message ≡ Ok done → Rises done.objects
step_rises way objects message done h e =
    let p = parts way objects message done e in
    let P : Tracked → Type 0 = λ o. Rises o in
    subst P p.leaves (deleted_rises (deleted_of way p.read) _ (destroyed_rises p.read.destroys (object_of message) p.after (new_rises way objects p.after (made_by_message way p.read) h p.is_new)))
