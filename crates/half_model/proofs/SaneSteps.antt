-- A message that is not refused leaves sane tables.
use Rattle.std.proofs.Common.{◌≡◌, ℕ, ◌<◌, Bool, true, false, cond, List, [], ◌∷◌, ◌++◌, length, get_or, ℤ, Option, Some, None, ◌⊎◌, inl, inr, ⊎_elim, refl, sym, ap, ◌∙◌, subst, arith, length-append}
use Rattle.std.proofs.lemmas.Bool.{and_right, false≢true, cases_order}
use Rattle.std.proofs.lemmas.Cmp.{int_cmp_total}
use Rattle.std.proofs.lemmas.Map.Lookups.{exact_signed}
use Rattle.std.proofs.lemmas.Option.{slice_get_within, get_or_from_slice_get, slice_get-get_or}
use Rattle.std.proofs.lemmas.List.{get_or_append_left}
use Rattle.std.proofs.Math.Seq.{get_or-append_seam}
use Rattle.std.specs.BTreeMap.{is_at}
use Rattle.std.specs.List.{slice_get}
use Rattle.std.specs.Map.{lookup}
use Rattle.std.specs.Ordering.{nat_cmp}
use Rattle.wp_outside.specs.declared.kinds.HandleKind.{HandleKind}
use Rattle.wp_outside.specs.declared.kinds.HandleKind.TheVariants.{File, PipeWrite}
use Rattle.wp_outside.specs.declared.kinds.Side.{Side}
use Rattle.wl_wire.specs.Wire.{object_of}
use Rattle.wl_objects.specs.Tracking.{Admission}
use Rattle.handle_table.specs.declared.handles.Handle.{Handle}
use Rattle.handle_table.specs.Table.{most_handles, rid_at, after_pass, is_kind}
use Rattle.half_model.specs.declared.deeds.Deed.{Deed}
use Rattle.half_model.specs.declared.roles.Role.{Role}
use Rattle.half_model.specs.declared.roles.Role.TheVariants as roles
use Rattle.half_model.specs.declared.roles.SentFile.{SentFile}
use Rattle.half_model.specs.Deeds.{deed_of}
use Rattle.pipe_relay.specs.Pipes.{Rids, has_rid, with_rid, PipesState, with_own}
use Rattle.half_model.specs.Planning.{Plan, limit_refusal, is_new_pipe, with_pipe, plan_with, tell_in, seen_in}
use Rattle.half_model.specs.Shm.{ShmState, Passing, file_of, file_by, file_passed, Tell, size_said, tell_passed, after_tell}
use Rattle.half_model.specs.Showing.{after_deed}
use Rattle.wl_tables.specs.Ways.{own_way}
use Rattle.mirror_pools.specs.Sizes.{ToldSizes, size_at}
use Rattle.half_model.specs.Tables.{Tables}
use Rattle.half_model.proofs.Maps.{any_cases}
use Rattle.half_model.proofs.Plans.{HasRid, IsPlanned}
use Rattle.half_model.proofs.Sane.{IsGiven, Sane, told-after_deed, pool_comes, TellsAgain, tells_resized}
use Rattle.half_model.proofs.Seats.{IsNew, IsOld, new_or_old, same_place}
use Rattle.half_model.proofs.Told.{Told, are_sizes, told_stays, told_new, told_back}

-- ---- no new handle

-- each pool is of a file that was told a size
abbrev PoolsTold : ToldSizes → List (ℕ × Role) → Type 0
PoolsTold told all = (id : ℕ) (file : SentFile) → lookup (is_at (nat_cmp id)) all ≡ Some (roles.Pool file) → Told told file.rid

rids_again : (side : Side) (passed : List Handle) (told : ToldSizes) (tell : Option Tell) → TellsAgain told tell
    → ((rid : ℤ) (size : ℕ) → size_at rid told ≡ Some size → IsGiven side passed rid)
    → (rid : ℤ) (size : ℕ) → size_at rid (after_tell tell told) ≡ Some size → IsGiven side passed rid
rids_again side passed told None again h rid size e = h rid size e
rids_again side passed told (Some tell) again h rid size e =
    let known = again tell refl in
    ⊎_elim
    (λ at. h rid known.1.0 (ap (λ (r : ℤ). size_at r told) at ∙ known.1.1))
    (λ before. h rid size before)
    (told_back tell told rid size e)

sane_again : (side : Side) (passed : List Handle) (own other : Rids) (told : ToldSizes) (tell : Option Tell) (old new : List (ℕ × Role))
    → Sane side passed own other told old → limit_refusal tell told ≡ None → TellsAgain told tell → PoolsTold told new
    → Sane side passed own other (after_tell tell told) new
sane_again side passed own other told tell old new h limited again pools = record {
  few = h.few;
  sizes = are_sizes tell told h.sizes limited (λ it is fresh. absurd (false≢true (sym (again it is).0 ∙ fresh)));
  rids = rids_again side passed told tell again h.rids;
  files = λ place handle at kind. told_stays tell told (rid_at side place) (h.files place handle at kind);
  pools = λ id file at. told_stays tell told file.rid (pools id file at);
  own_given = h.own_given;
  other_is = h.other_is;
}

-- ---- a new handle

push_cases : (passed : List Handle) (handle other : Handle) (place : ℕ) → slice_get (passed ++ handle ∷ []) place ≡ Some other
    → (slice_get passed place ≡ Some other) ⊎ ((place ≡ length passed) × (handle ≡ other))
push_cases passed handle other place e =
    let more = length-append passed (handle ∷ []) in
    let within : place < length (passed ++ handle ∷ []) = slice_get_within (passed ++ handle ∷ []) place other e in
    let is = get_or_from_slice_get (passed ++ handle ∷ []) place other handle e in
    ⊎_elim
    (λ last. inr (last, sym (get_or-append_seam passed handle [] handle) ∙ ap (λ (n : ℕ). get_or (passed ++ handle ∷ []) n handle) (sym last) ∙ is))
    (λ apart. ⊎_elim
    (λ before. inl (slice_get-get_or passed place handle before ∙ ap (λ (h : Handle). Some h) (sym (get_or_append_left passed (handle ∷ []) handle place before) ∙ is)))
    (λ after. absurd (omega (arith, within, more)))
    apart)
    (cases_order place (length passed))

given_more : (side : Side) (passed : List Handle) (handle : Handle) (rid : ℤ) → IsGiven side passed rid → IsGiven side (passed ++ handle ∷ []) rid
given_more side passed handle rid h =
    let more = length-append passed (handle ∷ []) in
    (h.0, omega (arith, h.1, more), h.2)

given_last : (side : Side) (passed : List Handle) (handle : Handle) → IsGiven side (passed ++ handle ∷ []) (rid_at side (length passed))
given_last side passed handle =
    let more = length-append passed (handle ∷ []) in
    (length passed, omega (arith, more), refl)

-- a rid that is not given yet was told no size
pub not_told : (side : Side) (passed : List Handle) (told : ToldSizes) → ((rid : ℤ) (size : ℕ) → size_at rid told ≡ Some size → IsGiven side passed rid)
    → size_at (rid_at side (length passed)) told ≡ None
not_told side passed told rids = go (size_at (rid_at side (length passed)) told) refl
  where
    go : (size : Option ℕ) → size_at (rid_at side (length passed)) told ≡ size → size ≡ None
    go None e = refl
    go (Some size) e =
        let given = rids (rid_at side (length passed)) size e in
        let same = same_place side (length passed) given.0 given.2 in
        absurd (omega (arith, same, given.1))

-- the size that a new file's message tells
record TellsNew (side : Side) (passed : List Handle) (kind : HandleKind) (tell : Option Tell) : Type 0 where
  told : (it : Tell) → tell ≡ Some it → (it.is_new ≡ true) × (it.file.rid ≡ rid_at side (length passed))
  file : kind ≡ File → (it : Tell) × (tell ≡ Some it)

rids_new : (side : Side) (passed : List Handle) (handle : Handle) (told : ToldSizes) (tell : Option Tell) → TellsNew side passed handle.kind tell
    → ((rid : ℤ) (size : ℕ) → size_at rid told ≡ Some size → IsGiven side passed rid)
    → (rid : ℤ) (size : ℕ) → size_at rid (after_tell tell told) ≡ Some size → IsGiven side (passed ++ handle ∷ []) rid
rids_new side passed handle told None new h rid size e = given_more side passed handle rid (h rid size e)
rids_new side passed handle told (Some tell) new h rid size e =
    let at = new.told tell refl in
    ⊎_elim
    (λ same. let P : ℤ → Type 0 = λ r. IsGiven side (passed ++ handle ∷ []) r in subst P (sym (same ∙ at.1)) (given_last side passed handle))
    (λ before. given_more side passed handle rid (h rid size before))
    (told_back tell told rid size e)

files_new : (side : Side) (passed : List Handle) (handle : Handle) (told : ToldSizes) (tell : Option Tell) → TellsNew side passed handle.kind tell
    → ((place : ℕ) (other : Handle) → slice_get passed place ≡ Some other → other.kind ≡ File → Told told (rid_at side place))
    → (place : ℕ) (other : Handle) → slice_get (passed ++ handle ∷ []) place ≡ Some other → other.kind ≡ File → Told (after_tell tell told) (rid_at side place)
files_new side passed handle told tell new h place other e kind =
    ⊎_elim
    (λ before. told_stays tell told (rid_at side place) (h place other before kind))
    (λ last.
    let tells = new.file (ap (λ (x : Handle). x.kind) last.1 ∙ kind) in
    let at = new.told tells.0 tells.1 in
    let there : Told (after_tell (Some tells.0) told) tells.0.file.rid = told_new tells.0 told at.0 in
    let rid : tells.0.file.rid ≡ rid_at side place = at.1 ∙ ap (λ (n : ℕ). rid_at side n) (sym last.0) in
    let P : ℤ → Type 0 = λ r. Told (after_tell tell told) r in
    let Q : Option Tell → Type 0 = λ t. Told (after_tell t told) tells.0.file.rid in
    subst P rid (subst Q (sym tells.1) there))
    (push_cases passed handle other place e)

own_new : (side : Side) (passed : List Handle) (handle : Handle) (own : Rids) (is_pipe : Bool)
    → ((rid : ℤ) → has_rid rid own ≡ true → IsGiven side passed rid)
    → (rid : ℤ) → has_rid rid (cond is_pipe (with_rid (rid_at side (length passed)) own) own) ≡ true → IsGiven side (passed ++ handle ∷ []) rid
own_new side passed handle own false h rid e = given_more side passed handle rid (h rid e)
own_new side passed handle own true h rid e =
    ⊎_elim
    (λ at. let P : ℤ → Type 0 = λ r. IsGiven side (passed ++ handle ∷ []) r in subst P (sym at.0) (given_last side passed handle))
    (λ same. given_more side passed handle rid (h rid (sym same ∙ e)))
    (any_cases int_cmp_total exact_signed own (rid_at side (length passed)) rid)

sane_new : (side : Side) (passed : List Handle) (handle : Handle) (is_pipe : Bool) (own other : Rids) (told : ToldSizes) (tell : Option Tell) (old new : List (ℕ × Role))
    → length passed < most_handles → Sane side passed own other told old → limit_refusal tell told ≡ None → TellsNew side passed handle.kind tell
    → ((id : ℕ) (file : SentFile) → lookup (is_at (nat_cmp id)) new ≡ Some (roles.Pool file) → Told (after_tell tell told) file.rid)
    → Sane side (passed ++ handle ∷ []) (cond is_pipe (with_rid (rid_at side (length passed)) own) own) other (after_tell tell told) new
sane_new side passed handle is_pipe own other told tell old new room h limited tells pools =
    let more = length-append passed (handle ∷ []) in
    let none = not_told side passed told h.rids in
    record {
      few = omega (arith, room, more);
      sizes = are_sizes tell told h.sizes limited (λ it is fresh. ap (λ (r : ℤ). size_at r told) (tells.told it is).1 ∙ none);
      rids = rids_new side passed handle told tell tells h.rids;
      files = files_new side passed handle told tell tells h.files;
      pools = pools;
      own_given = own_new side passed handle own is_pipe h.own_given;
      other_is = h.other_is;
    }

-- ---- a message

abbrev pub SaneTables : Side → Tables → ShmState → Type 0
SaneTables side tables shm =
    (tables.handles.side ≡ side)
    × Sane side tables.handles.passed tables.pipes.own tables.pipes.other shm.told shm.roles

-- what a message leaves of shared memory, where the told sizes are these
abbrev left_by : Tables → ShmState → List ℕ → Admission → Option Passing → ToldSizes → ShmState
left_by tables shm message done passing sizes =
    after_deed done.objects (object_of message) (deed_of (own_way tables.handles.side) done.passed) passing (record shm { told = sizes })

-- pools behind a message, where the file that it carries was told a size
pools_after : (tables : Tables) (shm : ShmState) (message : List ℕ) (done : Admission) (passing : Option Passing) (sizes told : ToldSizes)
    → PoolsTold told shm.roles
    → ((file : SentFile) → file_passed passing ≡ Some file → Told told file.rid)
    → PoolsTold told (left_by tables shm message done passing sizes).roles
pools_after tables shm message done passing sizes told before carried id file e =
    ⊎_elim (λ was. before id file was) (λ is. carried file is)
    (pool_comes done.objects (object_of message) (deed_of (own_way tables.handles.side) done.passed) passing (record shm { told = sizes }) id file e)

-- the file of a handle that was passed before
pub old_file : (kind : HandleKind) (it : Passing) (told : ToldSizes) → (kind ≡ File → Told told it.rid) → (file : SentFile) → file_by kind it ≡ Some file → Told told file.rid
old_file File it told h file e =
    let is : file_of it ≡ file = cc in
    let P : SentFile → Type 0 = λ f. Told told f.rid in
    subst P is (h refl)
old_file PipeWrite it told h file e = absurd cc

pub tells_old : (kind : HandleKind) (deed : Deed) (it : Passing) (told : ToldSizes) → it.is_new ≡ false → (kind ≡ File → Told told it.rid) → TellsAgain told (tell_passed kind deed it)
tells_old File deed it told old h tell e =
    let P : Tell → Type 0 = λ t. (t.is_new ≡ false) × Told told t.file.rid in
    let same : (a b : Tell) → Some a ≡ Some b → a ≡ b = λ a b s. cc in
    subst P (same _ tell e) (old, h refl)
tells_old PipeWrite deed it told old h tell e = absurd cc

tells_new : (side : Side) (passed : List Handle) (kind : HandleKind) (deed : Deed) (it : Passing) → it.is_new ≡ true → it.rid ≡ rid_at side (length passed)
    → TellsNew side passed kind (tell_passed kind deed it)
tells_new side passed File deed it new at =
    let P : Tell → Type 0 = λ t. (t.is_new ≡ true) × (t.file.rid ≡ rid_at side (length passed)) in
    let same : (a b : Tell) → Some a ≡ Some b → a ≡ b = λ a b s. cc in
    record { told = λ tell e. subst P (same _ tell e) (new, at); file = λ e. (_, refl) }
tells_new side passed PipeWrite deed it new at = record { told = λ tell e. absurd cc; file = λ e. absurd cc }

-- the told sizes behind a message
told_left : (side : Side) (passed : List Handle) (own other : Rids) (tables : Tables) (shm : ShmState) (message : List ℕ) (done : Admission) (passing : Option Passing) (sizes : ToldSizes)
    → Sane side passed own other sizes (left_by tables shm message done passing sizes).roles
    → Sane side passed own other (left_by tables shm message done passing sizes).told (left_by tables shm message done passing sizes).roles
told_left side passed own other tables shm message done passing sizes h =
    let P : ToldSizes → Type 0 = λ t. Sane side passed own other t (left_by tables shm message done passing sizes).roles in
    subst P (sym (told-after_deed done.objects (object_of message) (deed_of (own_way tables.handles.side) done.passed) passing (record shm { told = sizes }))) h

sane_alone : (side : Side) (tables : Tables) (shm : ShmState) (message : List ℕ) (done : Admission)
    → SaneTables side tables shm → limit_refusal (tell_in tables shm message done None) shm.told ≡ None
    → SaneTables side (plan_with tables shm message None done None (tell_in tables shm message done None) (seen_in tables message done)).tables
    (plan_with tables shm message None done None (tell_in tables shm message done None) (seen_in tables message done)).shm
sane_alone side tables shm message done h limited =
    let tell : Option Tell = tell_in tables shm message done None in
    let sizes : ToldSizes = after_tell tell shm.told in (
      h.0,
      told_left side tables.handles.passed tables.pipes.own tables.pipes.other tables shm message done None sizes
          (sane_again side tables.handles.passed tables.pipes.own tables.pipes.other shm.told tell shm.roles (left_by tables shm message done None sizes).roles
          h.1 limited
          (tells_resized shm (object_of message) (deed_of (own_way tables.handles.side) done.passed) h.1.pools)
          (pools_after tables shm message done None sizes shm.told h.1.pools (λ file e. absurd cc))),
    )

sane_old : (side : Side) (tables : Tables) (shm : ShmState) (message : List ℕ) (handle : Handle) (done : Admission) (it : Passing)
    → SaneTables side tables shm → IsOld tables.handles handle it → limit_refusal (tell_in tables shm message done (Some it)) shm.told ≡ None
    → SaneTables side (plan_with tables shm message (Some handle) done (Some it) (tell_in tables shm message done (Some it)) (seen_in tables message done)).tables
    (plan_with tables shm message (Some handle) done (Some it) (tell_in tables shm message done (Some it)) (seen_in tables message done)).shm
sane_old side tables shm message handle done it h old limited =
    let tell : Option Tell = tell_in tables shm message done (Some it) in
    let sizes : ToldSizes = after_tell tell shm.told in
    let roles' : List (ℕ × Role) = (left_by tables shm message done (Some it) sizes).roles in
    let handle_is : it.handle ≡ handle = ap (λ (p : Passing). p.handle) old.is in
    let rid_is : it.rid ≡ rid_at side old.place = ap (λ (p : Passing). p.rid) old.is ∙ ap (λ (sd : Side). rid_at sd old.place) h.0 in
    let new_is : it.is_new ≡ false = ap (λ (p : Passing). p.is_new) old.is in
    let told : it.handle.kind ≡ File → Told shm.told it.rid =
    λ kind. let P : ℤ → Type 0 = λ r. Told shm.told r in
    subst P (sym rid_is) (h.1.files old.place old.known old.at (old.same ∙ ap (λ (x : Handle). x.kind) (sym handle_is) ∙ kind)) in
    let again : Sane side tables.handles.passed tables.pipes.own tables.pipes.other sizes roles' =
    sane_again side tables.handles.passed tables.pipes.own tables.pipes.other shm.told tell shm.roles roles' h.1 limited
    (tells_old it.handle.kind (deed_of (own_way tables.handles.side) done.passed) it shm.told new_is told)
    (pools_after tables shm message done (Some it) sizes shm.told h.1.pools (old_file it.handle.kind it shm.told told)) in
    let pipe : is_new_pipe it ≡ false = and_right (is_kind it.handle.kind PipeWrite) it.is_new new_is in
    let P : List Handle → Type 0 = λ ps. Sane side ps tables.pipes.own tables.pipes.other sizes roles' in
    let Q : Bool → Type 0 = λ b. Sane side (after_pass tables.handles handle).passed (cond b (with_own it.rid tables.pipes) tables.pipes).own (cond b (with_own it.rid tables.pipes) tables.pipes).other sizes roles' in
    (h.0, told_left side (after_pass tables.handles handle).passed _ _ tables shm message done (Some it) sizes (subst Q (sym pipe) (subst P (sym old.after) again)))

-- the file of a handle that is passed for the first time
new_file : (side : Side) (passed : List Handle) (kind : HandleKind) (deed : Deed) (it : Passing) (told : ToldSizes) → it.is_new ≡ true
    → (file : SentFile) → file_by kind it ≡ Some file → Told (after_tell (tell_passed kind deed it) told) file.rid
new_file side passed File deed it told new file e =
    let is : file_of it ≡ file = cc in
    let P : SentFile → Type 0 = λ f. Told (after_tell (tell_passed File deed it) told) f.rid in
    subst P is (told_new (record { file = file_of it; size = size_said deed; is_new = it.is_new }) told new)
new_file side passed PipeWrite deed it told new file e = absurd cc

own-with_pipe : (b : Bool) (rid : ℤ) (pipes : PipesState) → (cond b (with_own rid pipes) pipes).own ≡ cond b (with_rid rid pipes.own) pipes.own
own-with_pipe true rid pipes = refl
own-with_pipe false rid pipes = refl

other-with_pipe : (b : Bool) (rid : ℤ) (pipes : PipesState) → (cond b (with_own rid pipes) pipes).other ≡ pipes.other
other-with_pipe true rid pipes = refl
other-with_pipe false rid pipes = refl

sane_fresh : (side : Side) (tables : Tables) (shm : ShmState) (message : List ℕ) (handle : Handle) (done : Admission) (it : Passing)
    → SaneTables side tables shm → IsNew tables.handles handle it → limit_refusal (tell_in tables shm message done (Some it)) shm.told ≡ None
    → SaneTables side (plan_with tables shm message (Some handle) done (Some it) (tell_in tables shm message done (Some it)) (seen_in tables message done)).tables
    (plan_with tables shm message (Some handle) done (Some it) (tell_in tables shm message done (Some it)) (seen_in tables message done)).shm
sane_fresh side tables shm message handle done it h new limited =
    let passed : List Handle = tables.handles.passed in
    let pipes : PipesState = tables.pipes in
    let tell : Option Tell = tell_in tables shm message done (Some it) in
    let sizes : ToldSizes = after_tell tell shm.told in
    let roles' : List (ℕ × Role) = (left_by tables shm message done (Some it) sizes).roles in
    let handle_is : it.handle ≡ handle = ap (λ (p : Passing). p.handle) new.is in
    let rid_is : it.rid ≡ rid_at side (length passed) = ap (λ (p : Passing). p.rid) new.is ∙ ap (λ (sd : Side). rid_at sd (length passed)) h.0 in
    let new_is : it.is_new ≡ true = ap (λ (p : Passing). p.is_new) new.is in
    let tells : TellsNew side passed it.handle.kind tell = tells_new side passed it.handle.kind (deed_of (own_way tables.handles.side) done.passed) it new_is rid_is in
    let K : Handle → Type 0 = λ x. TellsNew side passed x.kind tell in
    let left : Sane side (passed ++ handle ∷ []) (cond (is_new_pipe it) (with_rid (rid_at side (length passed)) pipes.own) pipes.own) pipes.other sizes roles' =
    sane_new side passed handle (is_new_pipe it) pipes.own pipes.other shm.told tell shm.roles roles' new.room h.1 limited (subst K handle_is tells)
    (pools_after tables shm message done (Some it) sizes sizes (λ id file e. told_stays tell shm.told file.rid (h.1.pools id file e))
    (new_file side passed it.handle.kind (deed_of (own_way tables.handles.side) done.passed) it shm.told new_is)) in
    let R : ℤ → Type 0 = λ r. Sane side (passed ++ handle ∷ []) (cond (is_new_pipe it) (with_rid r pipes.own) pipes.own) pipes.other sizes roles' in
    let O : Rids → Type 0 = λ own. Sane side (passed ++ handle ∷ []) own pipes.other sizes roles' in
    let T : Rids → Type 0 = λ other. Sane side (passed ++ handle ∷ []) (with_pipe (Some it) pipes).own other sizes roles' in
    let P : List Handle → Type 0 = λ ps. Sane side ps (with_pipe (Some it) pipes).own (with_pipe (Some it) pipes).other sizes roles' in (
      h.0,
      told_left side (after_pass tables.handles handle).passed _ _ tables shm message done (Some it) sizes
          (subst P (sym new.after)
          (subst T (sym (other-with_pipe (is_new_pipe it) it.rid pipes))
          (subst O (sym (own-with_pipe (is_new_pipe it) it.rid pipes)) (subst R (sym rid_is) left)))),
    )

sane_with : (side : Side) (tables : Tables) (shm : ShmState) (message : List ℕ) (handle : Option Handle) (done : Admission) (passing : Option Passing)
    → SaneTables side tables shm → HasRid tables.handles handle passing → limit_refusal (tell_in tables shm message done passing) shm.told ≡ None
    → SaneTables side (plan_with tables shm message handle done passing (tell_in tables shm message done passing) (seen_in tables message done)).tables
    (plan_with tables shm message handle done passing (tell_in tables shm message done passing) (seen_in tables message done)).shm
sane_with side tables shm message None done None h has limited = sane_alone side tables shm message done h limited
sane_with side tables shm message None done (Some it) h has limited = absurd has
sane_with side tables shm message (Some handle) done None h has limited = absurd has
sane_with side tables shm message (Some handle) done (Some it) h has limited =
    ⊎_elim
    (λ new. sane_fresh side tables shm message handle done it h new limited)
    (λ old. sane_old side tables shm message handle done it h old limited)
    (new_or_old tables.handles handle it has)

-- a message that is not refused leaves sane tables
pub sane_planned : (side : Side) (tables : Tables) (shm : ShmState) (message : List ℕ) (handle : Option Handle) (done : Admission) (it : Plan)
    → SaneTables side tables shm → IsPlanned tables shm message handle done it → SaneTables side it.tables it.shm
sane_planned side tables shm message handle done it h planned =
    let P : Plan → Type 0 = λ p. SaneTables side p.tables p.shm in
    subst P planned.is (sane_with side tables shm message handle done planned.passing h planned.has_rid planned.limited)
