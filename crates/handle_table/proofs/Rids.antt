-- The laws of rids.
--
-- A rid is made from the place at which a handle stands among those passed, so each law is one of places.
-- The place is the first one that holds the same handle. Passing a new handle pushes it at the end, where
-- nothing stood, and so leaves every place as it is and gives the new handle the last one.
use Rattle.std.proofs.Common.{◌≡◌, ℕ, ℤ, ◌+◌, ◌<◌, ◌≤◌, Bool, true, false, ◌&&◌, cond, [], ◌∷◌, ◌++◌, length, get_or, Option, None, Some, position, option_map, refl, sym, ◌∙◌, ap, subst, arith, length-append, inl, inr}
use Rattle.std.specs.Ordering.{int_eq}
use Rattle.std.specs.Cmp.Derive.{both_true}
use Rattle.std.specs.Prelude.{IsSome, nat_lt}
use Rattle.std.specs.List.Sorted.{IsStrictlySortedBy}
use Rattle.std.proofs.lemmas.Bool.{cases_lt, ltb-true}
use Rattle.std.proofs.lemmas.Cmp.{int_cmp_total}
use Rattle.std.proofs.lemmas.Bool.Decides.{Decides-int_eq}
use Rattle.std.proofs.lemmas.List.{get_or_append_left, get_or_push, get_or_default}
use Rattle.std.proofs.lemmas.List.Quantifiers.{position-Some}
use Rattle.std.proofs.lemmas.Option.{slice_get_within, get_or_from_slice_get, slice_get-get_or}
use Rattle.wp_outside.specs.declared.kinds.Side.{Side}
use Rattle.wp_outside.specs.declared.kinds.Side.TheVariants.{Near, Far}
use Rattle.wp_outside.specs.declared.kinds.HandleKind.{HandleKind}
use Rattle.wp_outside.specs.declared.kinds.HandleKind.TheVariants.{File, PipeWrite}
use Rattle.handle_table.specs.declared.handles.Handle.{Handle}
use Rattle.handle_table.specs.declared.handles.Seat.{Seat}
use Rattle.handle_table.specs.Table.{Table, is_kind, is_handle, rid_at, place_of, rid_of_handle, most_handles, seat, seat_found, passed_found, after_pass}
use Rattle.handle_table.specs.Sound.{IsPassedOnce, IsSound}
use Rattle.handle_table.specs.Laws.{OneHandlePerRid, ForeseenIsPassed, RidOutlastsPass, RidOutlastsTook, SoundLasts, RidsAreDense}
use Rattle.plain_lists.proofs.EntryLemmas.{sorted-insert_entry}
use Rattle.handle_table.proofs.Places.{position-push, position-pushed}

-- kinds that test as the same are one
same_kind : (a b : HandleKind) → is_kind a b ≡ true → a ≡ b
same_kind File File same = refl
same_kind File PipeWrite same = cc
same_kind PipeWrite File same = cc
same_kind PipeWrite PipeWrite same = refl

-- a kind tests as itself
kind_self : (a : HandleKind) → is_kind a a ≡ true
kind_self File = refl
kind_self PipeWrite = refl

-- what holds where both of two tests pass
both_parts : (a b : Bool) → (a && b) ≡ true → (a ≡ true) × (b ≡ true)
both_parts true b both = (refl, both)
both_parts false b both = absurd cc

-- handles that test as the same are one
same_handle : (h other : Handle) → is_handle h other ≡ true → h ≡ other
same_handle h other same =
    let parts = both_parts (int_eq h.number other.number) (is_kind h.kind other.kind) same in
    let number = (Decides-int_eq h.number other.number).0 parts.0 in
    let kind = same_kind h.kind other.kind parts.1 in
    λ j. let it : Handle = record { number = number j; kind = kind j } in it

-- a handle tests as itself
handle_self : (h : Handle) → is_handle h h ≡ true
handle_self h = both_true ((Decides-int_eq h.number h.number).1 refl) (kind_self h.kind)

-- a place, where a rid was made of one
place_from : (side : Side) (rid : ℤ) (place : Option ℕ) → option_map (rid_at side) place ≡ Some rid
    → (n : ℕ) × (place ≡ Some n) × (rid_at side n ≡ rid)
place_from side rid None made = absurd cc
place_from side rid (Some n) made = (n, refl, cc)

-- rids of one side tell places apart
same_place : (side : Side) (n m : ℕ) → rid_at side n ≡ rid_at side m → n ≡ m
same_place Near n m same = let next : n + 1 ≡ m + 1 = cc in omega (arith, next)
same_place Far n m same = cc

-- the handle that stands at a place
stands_at : (table : Table) (h : Handle) (n : ℕ) → place_of table h ≡ Some n
    → (n < length table.passed) × (get_or table.passed n h ≡ h)
stands_at table h n placed =
    let facts = position-Some (is_handle h) table.passed n h placed in
    (facts.0, sym (same_handle h _ facts.1))

pub one_handle_per_rid : OneHandlePerRid
one_handle_per_rid table h other rid one two =
    let first = place_from table.side rid (place_of table h) one in
    let second = place_from table.side rid (place_of table other) two in
    let same = same_place table.side first.0 second.0 (first.2 ∙ sym second.2) in
    let here = stands_at table h first.0 first.1 in
    let there = stands_at table other second.0 second.1 in
    sym here.1 ∙ get_or_default table.passed first.0 h other here.0
    ∙ ap (λ (n : ℕ). get_or table.passed n other) same ∙ there.1

-- a seat, where there was room for it
seat_chosen : (b : Bool) (x y : Seat) → cond b (Some x) None ≡ Some y → x ≡ y
seat_chosen true x y is = cc
seat_chosen false x y is = absurd cc

room_chosen : (b : Bool) (x : Seat) → IsSome (cond b (Some x) None) → b ≡ true
room_chosen true x room = refl
room_chosen false x room = room

-- the handle stands at this seat, which is not new any more
abbrev StandsAt : Table → Handle → Seat → Type 0
StandsAt table h at =
    (place_of table h ≡ Some at.place) × (rid_at table.side at.place ≡ at.rid)
    × (seat table.side false at.place ≡ record at { is_new = false })

-- the seat that a look-up found, once the handle is passed
seat_taken : (table : Table) (h : Handle) (at : Seat) (place : Option ℕ) → place_of table h ≡ place
    → seat_found table place ≡ Some at → StandsAt (record table { passed = passed_found table.passed h place }) h at
seat_taken table h at (Some n) placed found =
    let is : seat table.side false n ≡ at = cc in
    subst (StandsAt table h) is (placed, refl, refl)
seat_taken table h at None unpassed found =
    let last = length table.passed in
    subst (StandsAt (record table { passed = table.passed ++ h ∷ [] }) h)
    (seat_chosen (nat_lt last most_handles) (seat table.side true last) at found)
    (position-pushed (is_handle h) table.passed h unpassed (handle_self h), refl, refl)

pub foreseen_is_passed : ForeseenIsPassed
foreseen_is_passed table h at found =
    let stands = seat_taken table h at (place_of table h) refl found in (
      ap (seat_found (after_pass table h)) stands.0 ∙ ap (λ (it : Seat). Some it) stands.2,
      ap (option_map (rid_at table.side)) stands.0 ∙ ap (λ (rid : ℤ). Some rid) stands.1,
    )

pub rid_outlasts_pass : RidOutlastsPass
rid_outlasts_pass table h other rid has = by (place_of table other)
  where
    found : (n : ℕ) × (place_of table h ≡ Some n) × (rid_at table.side n ≡ rid)
    found = place_from table.side rid (place_of table h) has

    by : (place : Option ℕ) → rid_of_handle (record table { passed = passed_found table.passed other place }) h ≡ Some rid
    by None =
        ap (option_map (rid_at table.side)) (position-push (is_handle h) table.passed other found.0 found.1)
        ∙ ap (λ (r : ℤ). Some r) found.2
    by (Some n) = has

pub rid_outlasts_took : RidOutlastsTook
rid_outlasts_took table h rid kind = refl

-- the table that passed one handle more
pushed : Table → Handle → Table
pushed table h = record table { passed = table.passed ++ h ∷ [] }

-- a new handle is passed once, and the others still are
once_pushed : (table : Table) (h : Handle) → IsPassedOnce table → place_of table h ≡ None
    → IsPassedOnce (pushed table h)
unfolding pushed
once_pushed table h once unpassed place other at =
    elim (cases_lt place (length table.passed)) [ inl before ↦ earlier before | inr past ↦ last past ]
  where
    is_other : get_or (table.passed ++ h ∷ []) place other ≡ other
    is_other = get_or_from_slice_get (table.passed ++ h ∷ []) place other other at

    earlier : place < length table.passed → place_of (pushed table h) other ≡ Some place
    earlier before =
        let stands = sym (get_or_append_left table.passed (h ∷ []) other place before) ∙ is_other in
        let seen = slice_get-get_or table.passed place other before ∙ ap (λ (it : Handle). Some it) stands in
        position-push (is_handle other) table.passed h place (once place other seen)

    last : length table.passed ≤ place → place_of (pushed table h) other ≡ Some place
    last past =
        let within = slice_get_within (table.passed ++ h ∷ []) place other at in
        let end : length table.passed ≡ place = omega (arith, within, length-append table.passed (h ∷ [])) in
        let same = sym is_other ∙ get_or_push table.passed h other place end in
        ap (λ (it : Handle). position (is_handle it) (table.passed ++ h ∷ [])) same
        ∙ position-pushed (is_handle h) table.passed h unpassed (handle_self h)
        ∙ ap (λ (n : ℕ). Some n) end

-- what a look-up found
sound_passed : (table : Table) (h : Handle) → IsSound table
    → (place : Option ℕ) → place_of table h ≡ place → IsSome (seat_found table place)
    → IsSound (record table { passed = passed_found table.passed h place })
unfolding pushed
sound_passed table h sound (Some n) placed room = sound
sound_passed table h sound None unpassed room =
    record {
      once = once_pushed table h sound.once unpassed;
      few =
          let last = length table.passed in
          let room_left = ltb-true last most_handles (room_chosen (nat_lt last most_handles) (seat table.side true last) room) in
          omega (arith, room_left, length-append table.passed (h ∷ []));
      rising = sound.rising;
    }

pub sound_lasts : SoundLasts
unfolding IsStrictlySortedBy
sound_lasts =
    record {
      fresh = λ side. record { once = λ place h at. absurd (omega (arith, slice_get_within [] place h at)); few = omega arith; rising = tt };
      pass = λ table h room sound. sound_passed table h sound (place_of table h) refl room;
      took = λ table rid kind sound. record {
        once = sound.once;
        few = sound.few;
        rising = sorted-insert_entry int_cmp_total table.kept rid kind sound.rising;
      };
    }

pub rids_are_dense : RidsAreDense
rids_are_dense =
    record {
      place_has = λ table once place h at. ap (option_map (rid_at table.side)) (once place h at);
      rid_has = λ table h rid has.
          let found = place_from table.side rid (place_of table h) has in
          let here = stands_at table h found.0 found.1 in
          (found.0, slice_get-get_or table.passed found.0 h here.0 ∙ ap (λ (it : Handle). Some it) here.1, sym found.2);
    }
