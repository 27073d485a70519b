-- The frames before a message's blocks bring the mirrors from the sizes told before it to those told with it.
use Rattle.std.proofs.Common.{◌≡◌, ℕ, ◌<◌, ◌≤◌, Bool, true, false, ◌||◌, cond, List, [], ◌∷◌, ◌++◌, length, ℤ, Option, Some, None, unwrap_or, ⊎_elim, refl, sym, ap, ◌∙◌, subst, arith}
use Rattle.std.proofs.Math.Dec.{ltb}
use Rattle.std.proofs.lemmas.Bool.{cond-true, cond-false, cond_both, ltb-true, false≢true, false_from_ne_true}
use Rattle.std.proofs.lemmas.Bool.Decides.{Decides-int_eq}
use Rattle.std.proofs.lemmas.Cmp.{int_cmp_total}
use Rattle.std.proofs.lemmas.Map.Lookups.{exact_signed}
use Rattle.std.specs.Ordering.{int_eq}
use Rattle.wp_outside.specs.declared.kinds.HandleKind.{HandleKind}
use Rattle.wp_outside.specs.declared.kinds.HandleKind.TheVariants.{File, PipeWrite}
use Rattle.wp_outside.specs.declared.kinds.Side.{Side}
use Rattle.wl_wire.specs.Wire.{object_of}
use Rattle.wl_objects.specs.Tracking.{Admission}
use Rattle.handle_table.specs.declared.handles.Handle.{Handle}
use Rattle.handle_table.specs.Table.{rid_at}
use Rattle.transfer_frames.specs.declared.frame.Frame.{Frame}
use Rattle.transfer_frames.specs.declared.frame.Frame.TheVariants.{OpenFile, ExtendFile, OpenPipe}
use Rattle.half_model.specs.declared.deeds.Deed.{Deed}
use Rattle.half_model.specs.Deeds.{deed_of}
use Rattle.mirror_pools.specs.Mirrors.{widened}
use Rattle.mirror_pools.specs.Meaning.{mirror_step, mirror_from}
use Rattle.half_model.specs.Planning.{pipe_opened, is_new_pipe, size_frame, sized_by, injected, tell_in}
use Rattle.half_model.specs.Shm.{ShmState, Passing, Tell, tell_passed, told_at, grows, after_tell}
use Rattle.wl_tables.specs.Ways.{own_way}
use Rattle.mirror_pools.specs.Sizes.{ToldSizes, size_at, with_size, rounded}
use Rattle.half_model.specs.Tables.{Tables}
use Rattle.half_model.proofs.Maps.{same_or_apart, lookup_put, lookup_other}
use Rattle.half_model.proofs.Plans.{HasRid}
use Rattle.half_model.proofs.Sane.{TellsAgain, tells_resized}
use Rattle.half_model.proofs.SaneSteps.{SaneTables, not_told, tells_old}
use Rattle.half_model.proofs.Seats.{new_or_old}
use Rattle.half_model.proofs.Told.{Told}
use Rattle.mirror_laws.proofs.Filling.{mirror-append, same_rid}
use Rattle.mirror_laws.proofs.Growing.{Sized, Grown, grown_wide, grown_same}

-- a new file was told no size before, and each other one was
pub record FitsTold (told : ToldSizes) (tell : Tell) : Type 0 where
  pub new : tell.is_new ≡ true → size_at tell.file.rid told ≡ None
  pub old : tell.is_new ≡ false → Told told tell.file.rid

abbrev pub TellFits : ToldSizes → Option Tell → Type 0
TellFits told tell = (it : Tell) → tell ≡ Some it → FitsTold told it

fits_again : (told : ToldSizes) (tell : Option Tell) → TellsAgain told tell → TellFits told tell
fits_again told tell again it e =
    let known = again it e in
    record { new = λ is. absurd (false≢true (sym known.0 ∙ is)); old = λ is. known.1 }

fits_new : (kind : HandleKind) (deed : Deed) (it : Passing) (told : ToldSizes) → it.is_new ≡ true → size_at it.rid told ≡ None → TellFits told (tell_passed kind deed it)
fits_new File deed it told new none tell e =
    let same : (a b : Tell) → Some a ≡ Some b → a ≡ b = λ a b s. cc in
    let P : Tell → Type 0 = λ t. FitsTold told t in
    subst P (same _ tell e) (record { new = λ is. none; old = λ is. absurd (false≢true (sym is ∙ new)) })
fits_new PipeWrite deed it told new none tell e = absurd cc

-- ---- one mirror

grown_new : (rid : ℤ) (size : ℕ) (m : Option (List ℕ)) → m ≡ None → Grown (Some size) m (mirror_step rid (OpenFile rid size) m)
grown_new rid size m none =
    let P : Option (List ℕ) → Type 0 = λ x. Grown (Some size) m x in
    let Q : Option (List ℕ) → Type 0 = λ x. Grown (Some size) x (Some (widened (rounded size) [])) in
    subst P (sym (cond-true (int_eq rid rid) (Some (widened (rounded size) [])) m (same_rid rid)))
    (subst Q (sym none) (grown_wide size [] (omega arith)))

grown_old : (rid : ℤ) (before size : ℕ) (m : Option (List ℕ)) → before ≤ size → Sized (Some before) m → Grown (Some size) m (mirror_step rid (ExtendFile rid size) m)
grown_old rid before size None le h = absurd h
grown_old rid before size (Some bytes) le h =
    let P : Option (List ℕ) → Type 0 = λ x. Grown (Some size) (Some bytes) x in
    subst P (sym (cond-true (int_eq rid rid) (Some (widened (rounded size) bytes)) (Some bytes) (same_rid rid)))
    (grown_wide size bytes (omega (arith, le, h)))

-- the mirror of the file that grows
grown_own : (tell : Tell) (told : ToldSizes) (m : Option (List ℕ)) → FitsTold told tell → grows tell told ≡ true → Sized (size_at tell.file.rid told) m
    → Grown (Some tell.size) m (mirror_step tell.file.rid (size_frame tell) m)
grown_own tell told m fits more sized = by tell.is_new refl
  where
    rid : ℤ
    rid = tell.file.rid

    by : (b : Bool) → tell.is_new ≡ b → Grown (Some tell.size) m (mirror_step tell.file.rid (size_frame tell) m)
    by true e =
        let P : Frame → Type 0 = λ frame. Grown (Some tell.size) m (mirror_step tell.file.rid frame m) in
        let S : Option ℕ → Type 0 = λ size. Sized size m in
        subst P (sym (cond-true tell.is_new (OpenFile tell.file.rid tell.size) (ExtendFile tell.file.rid tell.size) e))
        (grown_new tell.file.rid tell.size m (subst S (fits.new e) sized))
    by false e =
        let P : Frame → Type 0 = λ frame. Grown (Some tell.size) m (mirror_step tell.file.rid frame m) in
        let S : Option ℕ → Type 0 = λ size. Sized size m in
        let known = fits.old e in
        let was : told_at tell.file.rid told ≡ known.0 = ap (λ (o : Option ℕ). unwrap_or o 0) known.1 in
        let less : told_at tell.file.rid told < tell.size =
        ltb-true (told_at tell.file.rid told) tell.size (sym (ap (λ (b : Bool). b || ltb (told_at tell.file.rid told) tell.size) e) ∙ more) in
        subst P (sym (cond-false tell.is_new (OpenFile tell.file.rid tell.size) (ExtendFile tell.file.rid tell.size) e))
        (grown_old tell.file.rid known.0 tell.size m (omega (arith, was, less)) (subst S known.1 sized))

-- the mirror of another file
other_size : (rid : ℤ) (tell : Tell) (m : Option (List ℕ)) → int_eq tell.file.rid rid ≡ false → mirror_step rid (size_frame tell) m ≡ m
other_size rid tell m apart =
    cond_both tell.is_new (OpenFile tell.file.rid tell.size) (ExtendFile tell.file.rid tell.size) (λ frame. mirror_step rid frame m ≡ m)
    (λ e. cond-false (int_eq tell.file.rid rid) _ m apart)
    (λ e. cond-false (int_eq tell.file.rid rid) _ m apart)

pub apart_back : (a b : ℤ) → int_eq a b ≡ false → int_eq b a ≡ false
apart_back a b e =
    false_from_ne_true (int_eq b a) (λ is. false≢true (sym e ∙ (Decides-int_eq a b).1 (sym ((Decides-int_eq b a).0 is))))

grown_step : (rid : ℤ) (tell : Tell) (told : ToldSizes) (m : Option (List ℕ)) → FitsTold told tell → grows tell told ≡ true → Sized (size_at rid told) m
    → Grown (size_at rid (with_size tell.file.rid tell.size told)) m (mirror_step rid (size_frame tell) m)
grown_step rid tell told m fits more sized =
    ⊎_elim
    (λ same.
    let P : ℤ → Type 0 = λ r. Sized (size_at r told) m → Grown (size_at r (with_size tell.file.rid tell.size told)) m (mirror_step r (size_frame tell) m) in
    let T : Option ℕ → Type 0 = λ size. Grown size m (mirror_step tell.file.rid (size_frame tell) m) in
    subst P (sym same)
    (λ own. subst T (sym (lookup_put int_cmp_total exact_signed told tell.file.rid tell.size)) (grown_own tell told m fits more own))
    sized)
    (λ apart.
    let T : Option ℕ → Type 0 = λ size. Grown size m (mirror_step rid (size_frame tell) m) in
    let M : Option (List ℕ) → Type 0 = λ x. Grown (size_at rid told) m x in
    subst T (sym (lookup_other int_cmp_total exact_signed told tell.file.rid rid tell.size apart))
    (subst M (sym (other_size rid tell m (apart_back rid tell.file.rid apart))) (grown_same (size_at rid told) m sized)))
    (same_or_apart int_cmp_total exact_signed rid tell.file.rid)

grown_tell : (rid : ℤ) (tell : Option Tell) (told : ToldSizes) (m : Option (List ℕ)) → TellFits told tell → Sized (size_at rid told) m
    → Grown (size_at rid (after_tell tell told)) m (mirror_from rid (sized_by tell told) m)
grown_tell rid None told m fits sized = grown_same (size_at rid told) m sized
grown_tell rid (Some tell) told m fits sized = by (grows tell told) refl
  where
    by : (b : Bool) → grows tell told ≡ b
        → Grown (size_at rid (cond b (with_size tell.file.rid tell.size told) told)) m (mirror_from rid (cond b (size_frame tell ∷ []) []) m)
    by true e = grown_step rid tell told m (fits tell refl) e sized
    by false e = grown_same (size_at rid told) m sized

-- ---- all frames before the blocks

pipe_unmirrored : (rid : ℤ) (passing : Option Passing) (m : Option (List ℕ)) → mirror_from rid (pipe_opened passing) m ≡ m
pipe_unmirrored rid None m = refl
pipe_unmirrored rid (Some it) m = cond_both (is_new_pipe it) (OpenPipe it.rid ∷ []) [] (λ frames. mirror_from rid frames m ≡ m) (λ e. refl) (λ e. refl)

inject_unmirrored : (rid : ℤ) (passing : Option Passing) (m : Option (List ℕ)) → mirror_from rid (injected passing) m ≡ m
inject_unmirrored rid None m = refl
inject_unmirrored rid (Some it) m = refl

before_is : (rid : ℤ) (passing : Option Passing) (tell : Option Tell) (told : ToldSizes) (m : Option (List ℕ))
    → mirror_from rid (pipe_opened passing ++ (sized_by tell told ++ injected passing)) m ≡ mirror_from rid (sized_by tell told) m
before_is rid passing tell told m =
    mirror-append rid (pipe_opened passing) (sized_by tell told ++ injected passing) m
    ∙ ap (λ (x : Option (List ℕ)). mirror_from rid (sized_by tell told ++ injected passing) x) (pipe_unmirrored rid passing m)
    ∙ mirror-append rid (sized_by tell told) (injected passing) m
    ∙ inject_unmirrored rid passing (mirror_from rid (sized_by tell told) m)

pub grown_before : (rid : ℤ) (passing : Option Passing) (tell : Option Tell) (told : ToldSizes) (m : Option (List ℕ)) → TellFits told tell → Sized (size_at rid told) m
    → Grown (size_at rid (after_tell tell told)) m (mirror_from rid (pipe_opened passing ++ (sized_by tell told ++ injected passing)) m)
grown_before rid passing tell told m fits sized =
    let P : Option (List ℕ) → Type 0 = λ x. Grown (size_at rid (after_tell tell told)) m x in
    subst P (sym (before_is rid passing tell told m)) (grown_tell rid tell told m fits sized)

-- ---- the size that a message tells fits

pub tell_fits : (side : Side) (tables : Tables) (shm : ShmState) (message : List ℕ) (handle : Option Handle) (done : Admission) (passing : Option Passing)
    → SaneTables side tables shm → HasRid tables.handles handle passing → TellFits shm.told (tell_in tables shm message done passing)
tell_fits side tables shm message None done None h has =
    fits_again shm.told (tell_in tables shm message done None) (tells_resized shm (object_of message) (deed_of (own_way tables.handles.side) done.passed) h.1.pools)
tell_fits side tables shm message None done (Some it) h has = absurd has
tell_fits side tables shm message (Some handle) done None h has = absurd has
tell_fits side tables shm message (Some handle) done (Some it) h has =
    let deed : Deed = deed_of (own_way tables.handles.side) done.passed in
    ⊎_elim
    (λ new.
    let rid_is : it.rid ≡ rid_at side (length tables.handles.passed) = ap (λ (p : Passing). p.rid) new.is ∙ ap (λ (sd : Side). rid_at sd (length tables.handles.passed)) h.0 in
    fits_new it.handle.kind deed it shm.told (ap (λ (p : Passing). p.is_new) new.is)
    (ap (λ (r : ℤ). size_at r shm.told) rid_is ∙ not_told side tables.handles.passed shm.told h.1.rids))
    (λ old.
    let handle_is : it.handle ≡ handle = ap (λ (p : Passing). p.handle) old.is in
    let rid_is : it.rid ≡ rid_at side old.place = ap (λ (p : Passing). p.rid) old.is ∙ ap (λ (sd : Side). rid_at sd old.place) h.0 in
    let told : it.handle.kind ≡ File → Told shm.told it.rid =
    λ kind. let P : ℤ → Type 0 = λ r. Told shm.told r in
    subst P (sym rid_is) (h.1.files old.place old.known old.at (old.same ∙ ap (λ (x : Handle). x.kind) (sym handle_is) ∙ kind)) in
    fits_again shm.told (tell_in tables shm message done (Some it))
    (tells_old it.handle.kind deed it shm.told (ap (λ (p : Passing). p.is_new) old.is) told))
    (new_or_old tables.handles handle it has)
