-- The rid with which a handle is passed: the next one where the handle is new, else the one that it has.
use Rattle.std.proofs.Common.{◌≡◌, ℕ, ◌+◌, ◌<◌, Bool, true, false, cond, [], ◌∷◌, ◌++◌, length, get_or, pos, negsuc, Option, Some, None, option_map, ◌⊎◌, inl, inr, refl, ap, arith}
use Rattle.std.specs.List.{slice_get}
use Rattle.std.proofs.lemmas.Bool.{ltb-true, and_parts, false≢true}
use Rattle.std.proofs.lemmas.List.Quantifiers.{position-Some}
use Rattle.std.proofs.lemmas.Option.{slice_get-get_or}
use Rattle.std.proofs.Math.Dec.{ltb}
use Rattle.std.specs.Ordering.{int_eq}
use Rattle.wp_outside.specs.declared.kinds.HandleKind.{HandleKind}
use Rattle.wp_outside.specs.declared.kinds.HandleKind.TheVariants.{File, PipeWrite}
use Rattle.wp_outside.specs.declared.kinds.Side.{Side}
use Rattle.wp_outside.specs.declared.kinds.Side.TheVariants.{Near, Far}
use Rattle.handle_table.specs.declared.handles.Handle.{Handle}
use Rattle.handle_table.specs.declared.handles.Seat.{Seat}
use Rattle.handle_table.specs.Table.{Table, is_handle, is_kind, most_handles, rid_at, place_of, seat, seat_found, passed_found, after_pass}
use Rattle.half_model.specs.Shm.{Passing, passing_at, passing_of}

-- a handle that is passed for the first time
pub record IsNew (handles : Table) (handle : Handle) (it : Passing) : Type 0 where
  pub room : length handles.passed < most_handles
  pub is : it ≡ record { handle = handle; rid = rid_at handles.side (length handles.passed); is_new = true }
  pub after : (after_pass handles handle).passed ≡ handles.passed ++ handle ∷ []

-- one that was passed before
pub record IsOld (handles : Table) (handle : Handle) (it : Passing) : Type 0 where
  pub place : ℕ
  pub within : place < length handles.passed
  pub known : Handle
  pub at : slice_get handles.passed place ≡ Some known
  pub same : known.kind ≡ handle.kind
  pub is : it ≡ record { handle = handle; rid = rid_at handles.side place; is_new = false }
  pub after : (after_pass handles handle).passed ≡ handles.passed

same_kind : (a b : HandleKind) → is_kind a b ≡ true → b ≡ a
same_kind File File e = refl
same_kind File PipeWrite e = absurd (false≢true e)
same_kind PipeWrite File e = absurd (false≢true e)
same_kind PipeWrite PipeWrite e = refl

same_passing : (a b : Passing) → Some a ≡ Some b → b ≡ a
same_passing a b e = cc

chosen : (b : Bool) (handle : Handle) (seat : Seat) (it : Passing) → option_map (passing_at handle) (cond b (Some seat) None) ≡ Some it
    → (b ≡ true) × (it ≡ passing_at handle seat)
chosen true handle seat it e = (refl, same_passing _ it e)
chosen false handle seat it e = absurd cc

seated : (handles : Table) (handle : Handle) (it : Passing) (place : Option ℕ)
    → place_of handles handle ≡ place → option_map (passing_at handle) (seat_found handles place) ≡ Some it
    → IsNew handles handle it ⊎ IsOld handles handle it
seated handles handle it None none e =
    let got = chosen (ltb (length handles.passed) most_handles) handle (seat handles.side true (length handles.passed)) it e in
    inl (record {
      room = ltb-true (length handles.passed) most_handles got.0;
      is = got.1;
      after = ap (λ (p : Option ℕ). passed_found handles.passed handle p) none;
    })
seated handles handle it (Some place) found e =
    let facts = position-Some (is_handle handle) handles.passed place handle found in
    let known : Handle = get_or handles.passed place handle in
    let parts = and_parts (int_eq handle.number known.number) (is_kind handle.kind known.kind) facts.1 in
    inr (record {
      place = place;
      within = facts.0;
      known = known;
      at = slice_get-get_or handles.passed place handle facts.0;
      same = same_kind handle.kind known.kind parts.1;
      is = same_passing _ it e;
      after = ap (λ (p : Option ℕ). passed_found handles.passed handle p) found;
    })

pub new_or_old : (handles : Table) (handle : Handle) (it : Passing) → passing_of handles handle ≡ Some it
    → IsNew handles handle it ⊎ IsOld handles handle it
new_or_old handles handle it e = seated handles handle it (place_of handles handle) refl e

-- places have rids of their own
same_pos : (a b : ℕ) → pos a ≡ pos b → a ≡ b
same_pos a b e = cc

same_neg : (a b : ℕ) → negsuc a ≡ negsuc b → a ≡ b
same_neg a b e = cc

pub same_place : (side : Side) (a b : ℕ) → rid_at side a ≡ rid_at side b → a ≡ b
same_place Near a b e = omega (arith, same_pos (a + 1) (b + 1) e)
same_place Far a b e = same_neg a b e
