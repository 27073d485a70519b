-- The frames of a message that is taken may be heard, and leave what its side then has.
use Rattle.std.proofs.Common.{◌≡◌, ℕ, ◌+◌, ◌<◌, ◌≤◌, true, false, ◌&&◌, List, [], ◌∷◌, ◌++◌, length, ℤ, Option, Some, None, is_none, unwrap_or, ⊎_elim, refl, sym, ap, ◌∙◌, subst, arith, length-append}
use Rattle.std.proofs.Math.Dec.{ltb}
use Rattle.std.proofs.lemmas.Bool.{cond-true, cond-false, or_left, and_right}
use Rattle.wp_outside.specs.declared.kinds.HandleKind.{HandleKind}
use Rattle.wp_outside.specs.declared.kinds.HandleKind.TheVariants.{File, PipeWrite}
use Rattle.wp_outside.specs.declared.kinds.Side.{Side}
use Rattle.wl_objects.specs.Tracking.{Admission}
use Rattle.wl_wire.specs.Wire.{object_of}
use Rattle.handle_table.specs.declared.handles.Handle.{Handle}
use Rattle.handle_table.specs.Table.{rid_at, is_kind, after_pass}
use Rattle.transfer_frames.specs.declared.frame.Frame.{Frame}
use Rattle.transfer_frames.specs.declared.frame.Frame.TheVariants.{OpenFile, OpenPipe}
use Rattle.half_model.specs.declared.deeds.Deed.{Deed}
use Rattle.half_model.specs.Deeds.{deed_of}
use Rattle.pipe_relay.specs.Pipes.{Rids, with_rid, PipesState, with_own}
use Rattle.half_model.specs.Planning.{limit_refusal, size_frame, sized_by, is_new_pipe, pipe_opened, with_pipe, injected, passed_with, tell_in}
use Rattle.half_model.specs.Shm.{ShmState, Passing, Tell, file_of, size_said, tell_passed, told_at, grows, after_tell}
use Rattle.wl_tables.specs.Ways.{own_way}
use Rattle.mirror_pools.specs.Sizes.{ToldSizes, MOST_FILE, MOST_FILES, size_at, with_size, total, open_cause}
use Rattle.half_model.specs.Tables.{Tables}
use Rattle.half_model.proofs.Fine.{AllFine, IsFree, Goes, goes_none, goes_append, open_fits, again_goes, Agrees, next_free, next_kept, inject_goes}
use Rattle.half_model.proofs.FrameStates.{FrameState, frames_left, with_kept, kind_in}
use Rattle.half_model.proofs.Plans.{HasRid}
use Rattle.half_model.proofs.Sane.{TellsAgain, tells_resized}
use Rattle.half_model.proofs.SaneSteps.{SaneTables, tells_old, not_told}
use Rattle.half_model.proofs.Seats.{new_or_old}
use Rattle.half_model.proofs.Told.{Told, within_limits}

pub record TakenGoes (side : Side) (f : FrameState) (before : List Frame) (told : ToldSizes) (count : ℕ) (own left closed : Rids) : Type 0 where
  pub fine : AllFine side f before
  pub agrees : Agrees side (frames_left before f) told count own left closed

taken_goes : (side : Side) (f g : FrameState) (before : List Frame) (told : ToldSizes) (count : ℕ) (own left closed : Rids)
    → Goes side f before g → Agrees side g told count own left closed → TakenGoes side f before told count own left closed
taken_goes side f g before told count own left closed goes h =
    let P : FrameState → Type 0 = λ k. Agrees side k told count own left closed in
    record { fine = goes.fine; agrees = subst P (sym goes.left) h }

-- the sizes alone differ
with_sizes : (side : Side) (f : FrameState) (told sizes : ToldSizes) (count : ℕ) (own left closed : Rids)
    → Agrees side f told count own left closed → Agrees side (record f { sizes = sizes }) sizes count own left closed
with_sizes side f told sizes count own left closed h =
    record { sizes = refl; given = h.given; kept = h.kept; opened = h.opened; ended = h.ended; shut = h.shut }

-- ---- a handle that is new

-- frames that open the next rid
record Opens (side : Side) (f g : FrameState) (frames : List Frame) (rid : ℤ) (told : ToldSizes) (count : ℕ) (own left closed : Rids) : Type 0 where
  goes : Goes side f frames g
  agrees : Agrees side g told (count + 1) own left closed
  known : is_none (kind_in g rid) ≡ false

opens_file : (side : Side) (f : FrameState) (rid : ℤ) (size : ℕ) (told : ToldSizes) (count : ℕ) (own left closed : Rids) → Agrees side f told count own left closed
    → rid ≡ rid_at side count → size_at rid told ≡ None → size ≤ MOST_FILE → total told + size ≤ MOST_FILES
    → Opens side f (record (with_kept rid File f) { sizes = with_size rid size told }) (OpenFile rid size ∷ []) rid (with_size rid size told) count own left closed
opens_file side f rid size told count own left closed h is none small few =
    let K : ℤ → Type 0 = λ r. IsFree side f r in
    let Z : ToldSizes → Type 0 = λ z. open_cause rid size z ≡ None in
    let kept = next_kept side f File count h.given h.kept in
    let G : ℤ → Type 0 = λ r. (other : ℤ) (k : HandleKind) → kind_in (with_kept r File f) other ≡ Some k → (place : ℕ) × (place < count + 1) × (other ≡ rid_at side place) in
    let N : ℤ → Type 0 = λ r. (place : ℕ) → place < count + 1 → is_none (kind_in (with_kept r File f) (rid_at side place)) ≡ false in
    let known : (place : ℕ) → place < count + 1 → is_none (kind_in (with_kept rid File f) (rid_at side place)) ≡ false = subst N (sym is) kept.1 in
    record {
      goes = record {
        fine = ((subst K (sym is) (next_free side f told count own left closed h), subst Z (sym h.sizes) (open_fits rid size told none small few)), tt);
        left = ap (λ (z : ToldSizes). record (with_kept rid File f) { sizes = with_size rid size z }) h.sizes;
      };
      agrees = record { sizes = refl; given = subst G (sym is) kept.0; kept = known; opened = h.opened; ended = h.ended; shut = h.shut };
      known = ap (λ (r : ℤ). is_none (kind_in (with_kept rid File f) r)) is ∙ known count (omega arith);
    }

opens_pipe : (side : Side) (f : FrameState) (rid : ℤ) (told : ToldSizes) (count : ℕ) (own left closed : Rids) → Agrees side f told count own left closed
    → rid ≡ rid_at side count
    → Opens side f (record (with_kept rid PipeWrite f) { opened = with_rid rid f.opened }) (OpenPipe rid ∷ []) rid told count (with_rid rid own) left closed
opens_pipe side f rid told count own left closed h is =
    let K : ℤ → Type 0 = λ r. IsFree side f r in
    let kept = next_kept side f PipeWrite count h.given h.kept in
    let G : ℤ → Type 0 = λ r. (other : ℤ) (k : HandleKind) → kind_in (with_kept r PipeWrite f) other ≡ Some k → (place : ℕ) × (place < count + 1) × (other ≡ rid_at side place) in
    let N : ℤ → Type 0 = λ r. (place : ℕ) → place < count + 1 → is_none (kind_in (with_kept r PipeWrite f) (rid_at side place)) ≡ false in
    let known : (place : ℕ) → place < count + 1 → is_none (kind_in (with_kept rid PipeWrite f) (rid_at side place)) ≡ false = subst N (sym is) kept.1 in
    record {
      goes = record { fine = (subst K (sym is) (next_free side f told count own left closed h), tt); left = refl };
      agrees = record { sizes = h.sizes; given = subst G (sym is) kept.0; kept = known; opened = ap (with_rid rid) h.opened; ended = h.ended; shut = h.shut };
      known = ap (λ (r : ℤ). is_none (kind_in (with_kept rid PipeWrite f) r)) is ∙ known count (omega arith);
    }

-- ---- the frames before the blocks

abbrev frames_before : Option Passing → Option Tell → ToldSizes → List Frame
frames_before passing tell told = pipe_opened passing ++ (sized_by tell told ++ injected passing)

new_goes : (side : Side) (kind : HandleKind) (deed : Deed) (it : Passing) (f : FrameState) (told : ToldSizes) (count : ℕ) (pipes : PipesState)
    → it.handle.kind ≡ kind → it.is_new ≡ true → it.rid ≡ rid_at side count → size_at it.rid told ≡ None → limit_refusal (tell_passed kind deed it) told ≡ None
    → Agrees side f told count pipes.own pipes.left pipes.closed
    → TakenGoes side f (frames_before (Some it) (tell_passed kind deed it) told) (after_tell (tell_passed kind deed it) told) (count + 1) (with_pipe (Some it) pipes).own pipes.left pipes.closed
new_goes side File deed it f told count pipes is new at none limited h =
    let tell : Tell = record { file = file_of it; size = size_said deed; is_new = it.is_new } in
    let no_pipe : is_new_pipe it ≡ false = ap (λ (k : HandleKind). is_kind k PipeWrite && it.is_new) is in
    let more : grows tell told ≡ true = or_left it.is_new (ltb (told_at it.rid told) tell.size) new in
    let limits = within_limits tell told limited in
    let zero : told_at it.rid told ≡ 0 = ap (λ (o : Option ℕ). unwrap_or o 0) none in
    let opens = opens_file side f it.rid tell.size told count pipes.own pipes.left pipes.closed h at none (omega (arith, limits.0)) (omega (arith, limits.1, zero)) in
    let g : FrameState = record (with_kept it.rid File f) { sizes = with_size it.rid tell.size told } in
    let pipe : Goes side f (pipe_opened (Some it)) f =
    let P : List Frame → Type 0 = λ fs. Goes side f fs f in subst P (sym (cond-false (is_new_pipe it) (OpenPipe it.rid ∷ []) [] no_pipe)) (goes_none side f) in
    let S : List Frame → Type 0 = λ fs. Goes side f fs g in
    let sized : Goes side f (sized_by (Some tell) told) g =
    subst S (sym (cond-true (grows tell told) (size_frame tell ∷ []) [] more ∙ ap (λ (frame : Frame). frame ∷ []) (cond-true it.is_new (OpenFile it.rid tell.size) _ new))) opens.goes in
    let A : ToldSizes → Type 0 = λ z. Agrees side g z (count + 1) (with_pipe (Some it) pipes).own pipes.left pipes.closed in
    let O : PipesState → Type 0 = λ p. Agrees side g (with_size it.rid tell.size told) (count + 1) p.own pipes.left pipes.closed in
    taken_goes side f g (frames_before (Some it) (Some tell) told) (after_tell (Some tell) told) (count + 1) (with_pipe (Some it) pipes).own pipes.left pipes.closed
    (goes_append side f f g (pipe_opened (Some it)) (sized_by (Some tell) told ++ injected (Some it)) pipe
    (goes_append side f g g (sized_by (Some tell) told) (injected (Some it)) sized (inject_goes side g it.rid opens.known)))
    (subst A (sym (cond-true (grows tell told) (with_size it.rid tell.size told) told more)) (subst O (sym (cond-false (is_new_pipe it) (with_own it.rid pipes) pipes no_pipe)) opens.agrees))
new_goes side PipeWrite deed it f told count pipes is new at none limited h =
    let is_pipe : is_new_pipe it ≡ true = ap (λ (k : HandleKind). is_kind k PipeWrite && it.is_new) is ∙ new in
    let opens = opens_pipe side f it.rid told count pipes.own pipes.left pipes.closed h at in
    let g : FrameState = record (with_kept it.rid PipeWrite f) { opened = with_rid it.rid f.opened } in
    let P : List Frame → Type 0 = λ fs. Goes side f fs g in
    let pipe : Goes side f (pipe_opened (Some it)) g = subst P (sym (cond-true (is_new_pipe it) (OpenPipe it.rid ∷ []) [] is_pipe)) opens.goes in
    let O : PipesState → Type 0 = λ p. Agrees side g told (count + 1) p.own pipes.left pipes.closed in
    taken_goes side f g (frames_before (Some it) None told) told (count + 1) (with_pipe (Some it) pipes).own pipes.left pipes.closed
    (goes_append side f g g (pipe_opened (Some it)) (injected (Some it)) pipe (inject_goes side g it.rid opens.known))
    (subst O (sym (cond-true (is_new_pipe it) (with_own it.rid pipes) pipes is_pipe)) opens.agrees)

-- a handle that was passed before
old_goes : (side : Side) (it : Passing) (tell : Option Tell) (f : FrameState) (told : ToldSizes) (count place : ℕ) (pipes : PipesState)
    → it.is_new ≡ false → it.rid ≡ rid_at side place → place < count → limit_refusal tell told ≡ None → TellsAgain told tell
    → Agrees side f told count pipes.own pipes.left pipes.closed
    → TakenGoes side f (frames_before (Some it) tell told) (after_tell tell told) count (with_pipe (Some it) pipes).own pipes.left pipes.closed
old_goes side it tell f told count place pipes old at within limited again h =
    let no_pipe : is_new_pipe it ≡ false = and_right (is_kind it.handle.kind PipeWrite) it.is_new old in
    let g : FrameState = record f { sizes = after_tell tell told } in
    let P : List Frame → Type 0 = λ fs. Goes side f fs f in
    let pipe : Goes side f (pipe_opened (Some it)) f = subst P (sym (cond-false (is_new_pipe it) (OpenPipe it.rid ∷ []) [] no_pipe)) (goes_none side f) in
    let O : PipesState → Type 0 = λ p. Agrees side g (after_tell tell told) count p.own pipes.left pipes.closed in
    let known : is_none (kind_in g it.rid) ≡ false = ap (λ (r : ℤ). is_none (kind_in f r)) at ∙ h.kept place within in
    taken_goes side f g (frames_before (Some it) tell told) (after_tell tell told) count (with_pipe (Some it) pipes).own pipes.left pipes.closed
    (goes_append side f f g (pipe_opened (Some it)) (sized_by tell told ++ injected (Some it)) pipe
    (goes_append side f g g (sized_by tell told) (injected (Some it)) (again_goes side f told tell h.sizes limited again) (inject_goes side g it.rid known)))
    (subst O (sym (cond-false (is_new_pipe it) (with_own it.rid pipes) pipes no_pipe)) (with_sizes side f told (after_tell tell told) count pipes.own pipes.left pipes.closed h))

pub before_goes : (side : Side) (f : FrameState) (tables : Tables) (shm : ShmState) (message : List ℕ) (handle : Option Handle) (done : Admission) (passing : Option Passing)
    → SaneTables side tables shm → HasRid tables.handles handle passing → limit_refusal (tell_in tables shm message done passing) shm.told ≡ None
    → Agrees side f shm.told (length tables.handles.passed) tables.pipes.own tables.pipes.left tables.pipes.closed
    → TakenGoes side f (frames_before passing (tell_in tables shm message done passing) shm.told) (after_tell (tell_in tables shm message done passing) shm.told)
    (length (passed_with handle tables.handles).passed) (with_pipe passing tables.pipes).own tables.pipes.left tables.pipes.closed
before_goes side f tables shm message None done None sane has limited h =
    let tell : Option Tell = tell_in tables shm message done None in
    let g : FrameState = record f { sizes = after_tell tell shm.told } in
    taken_goes side f g (sized_by tell shm.told ++ []) (after_tell tell shm.told) (length tables.handles.passed) tables.pipes.own tables.pipes.left tables.pipes.closed
    (goes_append side f g g (sized_by tell shm.told) [] (again_goes side f shm.told tell h.sizes limited (tells_resized shm (object_of message) (deed_of (own_way tables.handles.side) done.passed) sane.1.pools)) (goes_none side g))
    (with_sizes side f shm.told (after_tell tell shm.told) (length tables.handles.passed) tables.pipes.own tables.pipes.left tables.pipes.closed h)
before_goes side f tables shm message None done (Some it) sane has limited h = absurd has
before_goes side f tables shm message (Some handle) done None sane has limited h = absurd has
before_goes side f tables shm message (Some handle) done (Some it) sane has limited h =
    let deed : Deed = deed_of (own_way tables.handles.side) done.passed in
    let tell : Option Tell = tell_in tables shm message done (Some it) in
    let count : ℕ = length tables.handles.passed in
    let T : ℕ → Type 0 = λ n. TakenGoes side f (frames_before (Some it) tell shm.told) (after_tell tell shm.told) n (with_pipe (Some it) tables.pipes).own tables.pipes.left tables.pipes.closed in
    ⊎_elim
    (λ new.
    let rid_is : it.rid ≡ rid_at side count = ap (λ (p : Passing). p.rid) new.is ∙ ap (λ (sd : Side). rid_at sd count) sane.0 in
    let none : size_at it.rid shm.told ≡ None = ap (λ (r : ℤ). size_at r shm.told) rid_is ∙ not_told side tables.handles.passed shm.told sane.1.rids in
    let more : count + 1 ≡ length (after_pass tables.handles handle).passed = sym (ap length new.after ∙ length-append tables.handles.passed (handle ∷ [])) in
    subst T more (new_goes side it.handle.kind deed it f shm.told count tables.pipes refl (ap (λ (p : Passing). p.is_new) new.is) rid_is none limited h))
    (λ old.
    let handle_is : it.handle ≡ handle = ap (λ (p : Passing). p.handle) old.is in
    let rid_is : it.rid ≡ rid_at side old.place = ap (λ (p : Passing). p.rid) old.is ∙ ap (λ (sd : Side). rid_at sd old.place) sane.0 in
    let new_is : it.is_new ≡ false = ap (λ (p : Passing). p.is_new) old.is in
    let told : it.handle.kind ≡ File → Told shm.told it.rid =
    λ kind. let P : ℤ → Type 0 = λ r. Told shm.told r in
    subst P (sym rid_is) (sane.1.files old.place old.known old.at (old.same ∙ ap (λ (x : Handle). x.kind) (sym handle_is) ∙ kind)) in
    subst T (sym (ap length old.after)) (old_goes side it tell f shm.told count old.place tables.pipes new_is rid_is old.within limited (tells_old it.handle.kind deed it shm.told new_is told) h))
    (new_or_old tables.handles handle it has)
