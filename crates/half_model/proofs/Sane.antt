-- What holds of a side's tables wherever a story has come to: which rids were given, which sizes were told, and of which files the pools are.
use Rattle.std.proofs.Common.{◌≡◌, ℕ, ◌<◌, ◌≤◌, true, false, List, length, ℤ, Option, Some, None, ◌⊎◌, inl, inr, ⊎_elim, refl, sym, ◌∙◌, subst}
use Rattle.std.proofs.lemmas.Cmp.{nat_cmp_total}
use Rattle.std.proofs.lemmas.Map.Lookups.{exact_unsigned}
use Rattle.std.specs.BTreeMap.{is_at}
use Rattle.std.specs.List.{slice_get}
use Rattle.std.specs.Map.{lookup}
use Rattle.std.specs.Ordering.{nat_cmp}
use Rattle.wp_outside.specs.declared.kinds.HandleKind.TheVariants.{File}
use Rattle.wp_outside.specs.declared.kinds.Side.{Side}
use Rattle.wl_objects.specs.Entries.{Tracked}
use Rattle.handle_table.specs.declared.handles.Handle.{Handle}
use Rattle.handle_table.specs.Table.{most_handles, rid_at}
use Rattle.transfer_frames.specs.Numbers.{IsRid}
use Rattle.half_model.specs.declared.deeds.Deed.{Deed}
use Rattle.half_model.specs.declared.deeds.Deed.TheVariants.{MakePool, Resize, MakeBuffer, MakeSurface, EndSurface, Attach, DamageSurface, DamageBuffer, Scale, Transform, Commit, Keymap, Other}
use Rattle.half_model.specs.declared.roles.Role.{Role}
use Rattle.half_model.specs.declared.roles.Role.TheVariants as roles
use Rattle.half_model.specs.declared.roles.SentFile.{SentFile}
use Rattle.pipe_relay.specs.Pipes.{Rids, has_rid}
use Rattle.half_model.specs.Shm.{ShmState, Passing, file_passed, role_at, with_role, pool_in, pool_at, Tell, tell_again, tell_resized}
use Rattle.half_model.specs.Showing.{after_deed, with_pool, with_buffer}
use Rattle.mirror_pools.specs.Sizes.{ToldSizes, size_at}
use Rattle.half_model.proofs.Maps.{put_cases}
use Rattle.half_model.proofs.Told.{Told, AreSizes}

-- a rid that was given to a handle
abbrev pub IsGiven : Side → List Handle → ℤ → Type 0
IsGiven side passed rid = (place : ℕ) × (place < length passed) × (rid ≡ rid_at side place)

pub record Sane (side : Side) (passed : List Handle) (own other : Rids) (told : ToldSizes) (all : List (ℕ × Role)) : Type 0 where
  pub few : length passed ≤ most_handles
  pub sizes : AreSizes told
  pub rids : (rid : ℤ) (size : ℕ) → size_at rid told ≡ Some size → IsGiven side passed rid
  pub files : (place : ℕ) (handle : Handle) → slice_get passed place ≡ Some handle → handle.kind ≡ File → Told told (rid_at side place)
  pub pools : (id : ℕ) (file : SentFile) → lookup (is_at (nat_cmp id)) all ≡ Some (roles.Pool file) → Told told file.rid
  pub own_given : (rid : ℤ) → has_rid rid own ≡ true → IsGiven side passed rid
  pub other_is : (rid : ℤ) → has_rid rid other ≡ true → IsRid rid

-- ---- what a message leaves

pub told-after_deed : (objects : Tracked) (object : ℕ) (deed : Deed) (passing : Option Passing) (shm : ShmState) → (after_deed objects object deed passing shm).told ≡ shm.told
told-after_deed objects object (MakePool pool size) passing shm = go (file_passed passing)
  where
    go : (file : Option SentFile) → (with_pool pool file shm).told ≡ shm.told
    go None = refl
    go (Some file) = refl
told-after_deed objects object (Resize size) passing shm = refl
told-after_deed objects object (MakeBuffer buffer shape) passing shm = go (pool_at object shm)
  where
    go : (file : Option SentFile) → (with_buffer buffer shape file shm).told ≡ shm.told
    go None = refl
    go (Some file) = refl
told-after_deed objects object (MakeSurface surface) passing shm = refl
told-after_deed objects object EndSurface passing shm = refl
told-after_deed objects object (Attach buffer) passing shm = refl
told-after_deed objects object (DamageSurface rect) passing shm = refl
told-after_deed objects object (DamageBuffer rect) passing shm = refl
told-after_deed objects object (Scale scale) passing shm = refl
told-after_deed objects object (Transform transform) passing shm = refl
told-after_deed objects object Commit passing shm = refl
told-after_deed objects object (Keymap size) passing shm = refl
told-after_deed objects object Other passing shm = refl

-- a pool that is there was there, or is of the file that the message carries
abbrev pub PoolComes : Option SentFile → ShmState → ShmState → Type 0
PoolComes carried old new =
    (id : ℕ) (file : SentFile) → role_at id new ≡ Some (roles.Pool file) → (role_at id old ≡ Some (roles.Pool file)) ⊎ (carried ≡ Some file)

same_pool : (a b : SentFile) → Some (roles.Pool a) ≡ Some (roles.Pool b) → Some a ≡ Some b
same_pool a b e = cc

pool_put : (id : ℕ) (role : Role) (shm : ShmState) (carried : Option SentFile)
    → ((file : SentFile) → role ≡ roles.Pool file → carried ≡ Some file) → PoolComes carried shm (with_role id role shm)
pool_put id role shm carried is q file e =
    ⊎_elim
    (λ at. inr (is file (let f : Some role ≡ Some (roles.Pool file) = sym at.1 ∙ e in cc)))
    (λ same. inl (sym same ∙ e))
    (put_cases nat_cmp_total exact_unsigned shm.roles id q role)

pub pool_comes : (objects : Tracked) (object : ℕ) (deed : Deed) (passing : Option Passing) (shm : ShmState)
    → PoolComes (file_passed passing) shm (after_deed objects object deed passing shm)
pool_comes objects object (MakePool pool size) passing shm = go (file_passed passing)
  where
    go : (carried : Option SentFile) → PoolComes carried shm (with_pool pool carried shm)
    go None = λ id file e. inl e
    go (Some it) = pool_put pool (roles.Pool it) shm (Some it) (λ file e. let f : roles.Pool it ≡ roles.Pool file = e in cc)
pool_comes objects object (Resize size) passing shm = λ id file e. inl e
pool_comes objects object (MakeBuffer buffer shape) passing shm = go (pool_at object shm)
  where
    go : (file : Option SentFile) → PoolComes (file_passed passing) shm (with_buffer buffer shape file shm)
    go None = λ id file e. inl e
    go (Some it) = pool_put buffer (roles.Buffer (record { 0 = shm.keys }) it shape) shm (file_passed passing) (λ file e. absurd (let f : roles.Buffer (record { 0 = shm.keys }) it shape ≡ roles.Pool file = e in cc))
pool_comes objects object (MakeSurface surface) passing shm =
    pool_put surface (roles.Surface 0) shm (file_passed passing) (λ file e. absurd (let f : roles.Surface 0 ≡ roles.Pool file = e in cc))
pool_comes objects object EndSurface passing shm = λ id file e. inl e
pool_comes objects object (Attach buffer) passing shm =
    pool_put object (roles.Surface buffer) shm (file_passed passing) (λ file e. absurd (let f : roles.Surface buffer ≡ roles.Pool file = e in cc))
pool_comes objects object (DamageSurface rect) passing shm = λ id file e. inl e
pool_comes objects object (DamageBuffer rect) passing shm = λ id file e. inl e
pool_comes objects object (Scale scale) passing shm = λ id file e. inl e
pool_comes objects object (Transform transform) passing shm = λ id file e. inl e
pool_comes objects object Commit passing shm = λ id file e. inl e
pool_comes objects object (Keymap size) passing shm = λ id file e. inl e
pool_comes objects object Other passing shm = λ id file e. inl e

-- ---- the size that a message tells

-- of a file that was told a size before
abbrev pub TellsAgain : ToldSizes → Option Tell → Type 0
TellsAgain told tell = (it : Tell) → tell ≡ Some it → (it.is_new ≡ false) × Told told it.file.rid

tells_pool : (told : ToldSizes) (size : ℕ) (file : Option SentFile) → ((it : SentFile) → file ≡ Some it → Told told it.rid) → TellsAgain told (tell_again size file)
tells_pool told size None h it e = absurd cc
tells_pool told size (Some file) h it e =
    let is : record { file = file; size = size; is_new = false } ≡ it = cc in
    let P : Tell → Type 0 = λ t. (t.is_new ≡ false) × Told told t.file.rid in
    subst P is (refl, h file refl)

pool_is : (role : Option Role) (file : SentFile) → pool_in role ≡ Some file → role ≡ Some (roles.Pool file)
pool_is None file e = absurd cc
pool_is (Some (roles.Pool it)) file e = cc
pool_is (Some (roles.Buffer key it shape)) file e = absurd cc
pool_is (Some (roles.Surface id)) file e = absurd cc

pub tells_resized : (shm : ShmState) (object : ℕ) (deed : Deed) → ((id : ℕ) (file : SentFile) → role_at id shm ≡ Some (roles.Pool file) → Told shm.told file.rid)
    → TellsAgain shm.told (tell_resized shm object deed)
tells_resized shm object (Resize size) pools = tells_pool shm.told _ (pool_at object shm) (λ file e. pools object file (pool_is (role_at object shm) file e))
tells_resized shm object _ pools = λ it e. absurd cc
