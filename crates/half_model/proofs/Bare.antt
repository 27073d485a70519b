-- An event that is not shown is a registry's, which has no handle and fills nothing: its group is empty.
use Rattle.std.proofs.Common.{◌≡◌, ℕ, zero, suc, Bool, true, false, cond, not, List, [], ◌∷◌, slice_get, filter_map, Option, Some, None, option_map, option_and_then, Ok, Err, ⊎_elim, refl, sym, ap, ◌∙◌, subst}
use Rattle.std.proofs.lemmas.Bool.{cond_both, and_parts, false≢true}
use Rattle.std.proofs.lemmas.Cmp.{nat_cmp_total, eq_by_cmp_equiv}
use Rattle.std.proofs.lemmas.Map.{lookup-remove_entry}
use Rattle.std.proofs.lemmas.Map.Keys.{IsDistinct-from_sorted}
use Rattle.std.proofs.lemmas.Map.Lookups.{exact_unsigned}
use Rattle.std.specs.BTreeMap.{is_at}
use Rattle.std.specs.List.{cons_option}
use Rattle.std.specs.List.{list_all}
use Rattle.std.specs.Map.{lookup, remove_entry}
use Rattle.std.specs.declared.cmp.Ordering.{Ordering}
use Rattle.std.specs.declared.cmp.Ordering.TheVariants.{Less, Equal, Greater}
use Rattle.std.specs.Ordering.{nat_cmp, is_eq, eq_by_cmp}
use Rattle.wl_tables.specs.declared.interface.Interface.{Interface}
use Rattle.wl_tables.specs.declared.interface.Interface.TheVariants.{WlDisplay, WlRegistry, WlCallback, WlCompositor, WlShm, WlShmPool, WlBuffer, WlSurface, WlRegion, WlSeat, WlPointer, WlKeyboard, WlTouch, WlOutput, WlSubcompositor, WlSubsurface, WlDataDeviceManager, WlDataDevice, WlDataSource, WlDataOffer, XdgWmBase, XdgPositioner, XdgSurface, XdgToplevel, XdgPopup}
use Rattle.wl_tables.specs.declared.way.Way.TheVariants.{Event}
use Rattle.wl_tables.specs.Messages.{row, new_in, new_interface}
use Rattle.wl_tables.specs.Places.{MessageRow}
use Rattle.wl_tables.specs.Table.{messages}
use Rattle.wl_wire.specs.declared.arguments.Arg.{Arg}
use Rattle.wl_wire.specs.declared.arguments.Arg.TheVariants as arg
use Rattle.wl_wire.specs.declared.faults.ObjectFault.TheVariants.{IdInUse, IdRange, TooManyObjects}
use Rattle.wl_tables.specs.Interfaces.{interface_of, max_version}
use Rattle.half_model.proofs.Maps.{put_cases, lookup_set}
use Rattle.half_model.proofs.Rising.{Rises}
use Rattle.wl_objects.specs.Entries.{Tracked, entry_at, is_wl_registry, is_registry, is_client_id, is_in_range, is_in_use, has_room, live_one, with_live, with_known, with_new, dead, put_entry, with_destroyed, with_deleted}
use Rattle.wl_objects.specs.Tracking.{new_at, new_of}

-- ---- the rows of events

-- a test that all of a list pass, one of it passes
pub all_get : {X : Type 0} (p : X → Bool) (xs : List X) (k : ℕ) (x : X) → list_all p xs ≡ true → slice_get xs k ≡ Some x → p x ≡ true
all_get p [] k x all e = absurd cc
all_get p (y ∷ ys) zero x all e = ap p (some_same x y e) ∙ (and_parts (p y) (list_all p ys) all).0
  where
    some_same : {X : Type 0} (a b : X) → Some b ≡ Some a → a ≡ b
    some_same a b f = cc
all_get p (y ∷ ys) (suc k) x all e = all_get p ys k x (and_parts (p y) (list_all p ys) all).1 e

abbrev makes_none : Option Interface → Bool
makes_none None = true
makes_none (Some it) = not (is_wl_registry it)

-- no event makes a registry
events_make_none : (interface : Interface) → list_all (λ (it : MessageRow). makes_none (new_in it.places)) (messages interface Event) ≡ true
events_make_none WlDisplay = refl
events_make_none WlRegistry = refl
events_make_none WlCallback = refl
events_make_none WlCompositor = refl
events_make_none WlShm = refl
events_make_none WlShmPool = refl
events_make_none WlBuffer = refl
events_make_none WlSurface = refl
events_make_none WlRegion = refl
events_make_none WlSeat = refl
events_make_none WlPointer = refl
events_make_none WlKeyboard = refl
events_make_none WlTouch = refl
events_make_none WlOutput = refl
events_make_none WlSubcompositor = refl
events_make_none WlSubsurface = refl
events_make_none WlDataDeviceManager = refl
events_make_none WlDataDevice = refl
events_make_none WlDataSource = refl
events_make_none WlDataOffer = refl
events_make_none XdgWmBase = refl
events_make_none XdgPositioner = refl
events_make_none XdgSurface = refl
events_make_none XdgToplevel = refl
events_make_none XdgPopup = refl

pub event_makes : (interface : Interface) (opcode : ℕ) → makes_none (new_interface interface true opcode) ≡ true
event_makes interface opcode = by (row interface true opcode) refl
  where
    by : (told : Option MessageRow) → row interface true opcode ≡ told → makes_none (option_and_then (λ it. new_in it.places) told) ≡ true
    by None is = refl
    by (Some it) is = all_get (λ (it : MessageRow). makes_none (new_in it.places)) (messages interface Event) opcode it (events_make_none interface) is

-- nor is any global that is shown one
shown_fine : (interface : Interface) → makes_none (option_map (λ version. interface) (max_version interface)) ≡ true
shown_fine WlDisplay = refl
shown_fine WlRegistry = refl
shown_fine WlCallback = refl
shown_fine WlCompositor = refl
shown_fine WlShm = refl
shown_fine WlShmPool = refl
shown_fine WlBuffer = refl
shown_fine WlSurface = refl
shown_fine WlRegion = refl
shown_fine WlSeat = refl
shown_fine WlPointer = refl
shown_fine WlKeyboard = refl
shown_fine WlTouch = refl
shown_fine WlOutput = refl
shown_fine WlSubcompositor = refl
shown_fine WlSubsurface = refl
shown_fine WlDataDeviceManager = refl
shown_fine WlDataDevice = refl
shown_fine WlDataSource = refl
shown_fine WlDataOffer = refl
shown_fine XdgWmBase = refl
shown_fine XdgPositioner = refl
shown_fine XdgSurface = refl
shown_fine XdgToplevel = refl
shown_fine XdgPopup = refl

global_fine : (told : Option Interface) → makes_none (option_and_then (λ it. option_map (λ version. it) (max_version it)) told) ≡ true
global_fine None = refl
global_fine (Some it) = shown_fine it

same_some : {X : Type 0} (P : X → Type 0) (x y : X) → Some x ≡ Some y → P x → P y
same_some P x y e h = let same : x ≡ y = cc in subst P same h

arg_fine : (made : Option Interface) → makes_none made ≡ true → (a : Arg) (it : _) → new_at made a ≡ Some it → makes_none it.interface ≡ true
arg_fine None h (arg.NewId id) it e = absurd cc
arg_fine (Some interface) h (arg.NewId id) it e = same_some (λ n. makes_none n.interface ≡ true) _ it e h
arg_fine made h (arg.Bind name version id) it e = same_some (λ n. makes_none n.interface ≡ true) _ it e (global_fine (interface_of name))
arg_fine made h _ it e = absurd cc

pub first_fine : (made : Option Interface) → makes_none made ≡ true → (args : List Arg) (it : _) → new_of made args ≡ Some it → makes_none it.interface ≡ true
first_fine made h [] it e = absurd cc
first_fine made h (a ∷ args) it e = by (first_fine made h args it) (new_at made a) refl e
  where
    by : (slice_get (filter_map (new_at made) args) 0 ≡ Some it → makes_none it.interface ≡ true) → (told : Option _) → new_at made a ≡ told
        → slice_get (cons_option told (filter_map (new_at made) args)) 0 ≡ Some it → makes_none it.interface ≡ true
    by rest None is f = rest f
    by rest (Some x) is f = arg_fine made h a it (is ∙ f)

-- ---- the entry that an event is for

after_known : (objects after : Tracked) (id at : ℕ) (interface : Option Interface) → makes_none interface ≡ true → with_known objects at interface ≡ Ok after
    → is_registry (entry_at after id) ≡ true → is_registry (entry_at objects id) ≡ true
after_known objects after id at None fine e is = absurd cc
after_known objects after id at (Some interface) fine e is =
    cond_both (has_room objects at) (Ok (with_live objects at interface)) (Err TooManyObjects) (λ r. r ≡ Ok after → is_registry (entry_at objects id) ≡ true)
    (λ room f. let same : with_live objects at interface ≡ after = cc in
    let now : is_registry (entry_at (with_live objects at interface) id) ≡ true = ap (λ (o : Tracked). is_registry (entry_at o id)) same ∙ is in
    ⊎_elim
    (λ put. absurd (apart (is_wl_registry interface) fine (sym (ap is_registry put.1) ∙ now)))
    (λ other. sym (ap is_registry other) ∙ now)
    (put_cases nat_cmp_total exact_unsigned objects at id (live_one interface)))
    (λ full f. absurd cc) e
  where
    apart : (b : Bool) → not b ≡ true → b ≡ true → ⊥
    apart true f g = false≢true f
    apart false f g = false≢true g

pub after_new : (objects after : Tracked) (id : ℕ) (made : Option _) → with_new Event objects made ≡ Ok after → ((n : _) → made ≡ Some n → makes_none n.interface ≡ true)
    → is_registry (entry_at after id) ≡ true → is_registry (entry_at objects id) ≡ true
after_new objects after id None e fine is =
    let same : objects ≡ after = cc in ap (λ (o : Tracked). is_registry (entry_at o id)) same ∙ is
after_new objects after id (Some n) e fine is =
    cond_both (not (is_in_range Event n.id)) (Err IdRange) _ (λ r. r ≡ Ok after → is_registry (entry_at objects id) ≡ true)
    (λ out f. absurd cc)
    (λ within. cond_both (is_in_use Event (entry_at objects n.id)) (Err IdInUse) (with_known objects n.id n.interface) (λ r. r ≡ Ok after → is_registry (entry_at objects id) ≡ true)
    (λ used f. absurd cc) (λ free f. after_known objects after id n.id n.interface (fine n refl) f is))
    e

pub after_destroyed : (b : Bool) (id : ℕ) (objects : Tracked) → is_registry (entry_at (with_destroyed b id objects) id) ≡ is_registry (entry_at objects id)
after_destroyed false id objects = refl
after_destroyed true id objects = by (entry_at objects id) refl
  where
    by : (it : Option _) → entry_at objects id ≡ it → is_registry (entry_at (put_entry objects id (option_map dead it)) id) ≡ is_registry it
    by None is = ap is_registry is
    by (Some it) is = ap is_registry (lookup_set (is_at (nat_cmp id)) objects it (dead it) is)

equal_from : (o : Ordering) → is_eq o ≡ true → o ≡ Equal
equal_from Less e = absurd (false≢true e)
equal_from Equal e = refl
equal_from Greater e = absurd (false≢true e)

pub after_deleted : (deleted : Option ℕ) (id : ℕ) (objects : Tracked) → Rises objects → is_registry (entry_at (with_deleted deleted objects) id) ≡ true → is_registry (entry_at objects id) ≡ true
after_deleted None id objects h is = is
after_deleted (Some gone) id objects h is =
    cond_both (is_client_id gone) (remove_entry (is_at (nat_cmp gone)) objects) objects (λ o. is_registry (entry_at o id) ≡ true → is_registry (entry_at objects id) ≡ true)
    (λ yes now. there (is_at (nat_cmp gone) id) (sym (ap is_registry removed) ∙ now))
    (λ apart now. now) is
  where
    one : (x y : ℕ) → is_at (nat_cmp gone) x ≡ true → is_at (nat_cmp gone) y ≡ eq_by_cmp nat_cmp x y
    one x y at = ap (λ (k : ℕ). eq_by_cmp nat_cmp k y) (exact_unsigned gone x (equal_from (nat_cmp gone x) at))

    removed : lookup (is_at (nat_cmp id)) (remove_entry (is_at (nat_cmp gone)) objects) ≡ cond (is_at (nat_cmp gone) id) None (entry_at objects id)
    removed = lookup-remove_entry (eq_by_cmp_equiv nat_cmp_total) (is_at (nat_cmp gone)) one id objects (IsDistinct-from_sorted nat_cmp _ h)

    there : (b : Bool) → is_registry (cond b None (entry_at objects id)) ≡ true → is_registry (entry_at objects id) ≡ true
    there true f = absurd (false≢true f)
    there false f = f

pub is_the_registry : (interface : Interface) → is_wl_registry interface ≡ true → interface ≡ WlRegistry
is_the_registry WlDisplay e = absurd (false≢true e)
is_the_registry WlRegistry e = refl
is_the_registry WlCallback e = absurd (false≢true e)
is_the_registry WlCompositor e = absurd (false≢true e)
is_the_registry WlShm e = absurd (false≢true e)
is_the_registry WlShmPool e = absurd (false≢true e)
is_the_registry WlBuffer e = absurd (false≢true e)
is_the_registry WlSurface e = absurd (false≢true e)
is_the_registry WlRegion e = absurd (false≢true e)
is_the_registry WlSeat e = absurd (false≢true e)
is_the_registry WlPointer e = absurd (false≢true e)
is_the_registry WlKeyboard e = absurd (false≢true e)
is_the_registry WlTouch e = absurd (false≢true e)
is_the_registry WlOutput e = absurd (false≢true e)
is_the_registry WlSubcompositor e = absurd (false≢true e)
is_the_registry WlSubsurface e = absurd (false≢true e)
is_the_registry WlDataDeviceManager e = absurd (false≢true e)
is_the_registry WlDataDevice e = absurd (false≢true e)
is_the_registry WlDataSource e = absurd (false≢true e)
is_the_registry WlDataOffer e = absurd (false≢true e)
is_the_registry XdgWmBase e = absurd (false≢true e)
is_the_registry XdgPositioner e = absurd (false≢true e)
is_the_registry XdgSurface e = absurd (false≢true e)
is_the_registry XdgToplevel e = absurd (false≢true e)
is_the_registry XdgPopup e = absurd (false≢true e)
