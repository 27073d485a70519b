-- Every request leaves the surfaces sound.
use Rattle.std.proofs.Common.{◌≡◌, ℕ, zero, suc, ◌+◌, ◌<◌, ◌≤◌, List, [], ◌∷◌, length, take, map, Ordering, Less, Equal, Greater, nat_cmp, refl, sym, subst, ap, ◌∙◌, arith}
use Rattle.std.specs.Prelude.{ℤ, pos, negsuc}
use Rattle.std.specs.Ordering.{match_ordering, ordering_reverse}
use Rattle.std.specs.List.{All, AllByRecursion}
use Rattle.std.specs.List.Sorted.{IsStrictlySortedBy}
use Rattle.std.specs.Map.{keys_of, values_of, remove_entry}
use Rattle.std.specs.BTreeMap.{is_at, insert_entry}
use Rattle.std.proofs.lemmas.Bool.{cond_both}
use Rattle.std.proofs.lemmas.Cmp.{nat_cmp_total}
use Rattle.std.proofs.lemmas.List.{length-take}
use Rattle.std.proofs.lemmas.List.Elements.{All-nil, All-cons, All-tail, All-from_recursion, recursion_from_All}
use Rattle.std.proofs.lemmas.Map.Views.{All-keys-insert_entry, All-values-insert_entry, All-map-remove_entry}
use Rattle.surface_damage.specs.declared.standing.Standing.{Standing}
use Rattle.surface_damage.specs.DueBytes.{backlog}
use Rattle.surface_damage.specs.History.{SurfaceState, Committed}
use Rattle.surface_damage.specs.Pixels.{scale_of}
use Rattle.surface_damage.specs.Requests.{Request, Make, Destroy, Attach, AddDamage, SetScale, SetTransform, Commit, after, after_all}
use Rattle.surface_damage.specs.Sound.{IsSoundSurface, IsSound}
use Rattle.surface_damage.specs.Statements.{SoundLasts}
use Rattle.surface_damage.specs.Steps.{fresh, with_attached, with_damage, with_scale, with_transform, with_commit, next_commit, changed}

-- ---- ids rise

all_above : (ids : List ℕ) (low mid : ℕ) → nat_cmp low mid ≡ Less → AllByRecursion (λ k. nat_cmp mid k ≡ Less) ids → AllByRecursion (λ k. nat_cmp low k ≡ Less) ids
all_above [] low mid below all = tt
all_above (k ∷ ids) low mid below all = (nat_cmp_total.trans low mid k below all.0, all_above ids low mid below all.1)

rising_made : (all : List (ℕ × SurfaceState)) (id : ℕ) (s : SurfaceState) → IsStrictlySortedBy nat_cmp (keys_of all) → IsStrictlySortedBy nat_cmp (keys_of (insert_entry nat_cmp all id s))
unfolding IsStrictlySortedBy
rising_made [] id s rising = (tt, tt)
rising_made (one ∷ others) id s rising = by (rising_made others id s rising.1) (nat_cmp id one.0) refl
  where
    by : IsStrictlySortedBy nat_cmp (keys_of (insert_entry nat_cmp others id s)) → (order : Ordering) → nat_cmp id one.0 ≡ order
        → IsStrictlySortedBy nat_cmp (keys_of (match_ordering order ((id, s) ∷ one ∷ others) ((one.0, s) ∷ others) (one ∷ insert_entry nat_cmp others id s)))
    by rest Less is = ((is, all_above (keys_of others) id one.0 is rising.0), rising)
    by rest Equal is = rising
    by rest Greater is =
        let Above : ℕ → Type 0 = λ k. nat_cmp one.0 k ≡ Less in
        let others_above : All Above (keys_of others) = All-from_recursion Above (keys_of others) rising.0 in
        let id_above : nat_cmp one.0 id ≡ Less = nat_cmp_total.antisymm one.0 id ∙ ap ordering_reverse is in
        (recursion_from_All Above (keys_of (insert_entry nat_cmp others id s)) (All-keys-insert_entry nat_cmp id s Above others others_above id_above), rest)

rising_destroyed : (id : ℕ) (all : List (ℕ × SurfaceState)) → IsStrictlySortedBy nat_cmp (keys_of all) → IsStrictlySortedBy nat_cmp (keys_of (remove_entry (is_at (nat_cmp id)) all))
unfolding IsStrictlySortedBy
rising_destroyed id [] rising = tt
rising_destroyed id (one ∷ others) rising =
    let Above : ℕ → Type 0 = λ k. nat_cmp one.0 k ≡ Less in
    cond_both (is_at (nat_cmp id) one.0) others (one ∷ remove_entry (is_at (nat_cmp id)) others) (λ after. IsStrictlySortedBy nat_cmp (keys_of after))
    (λ here. rising.1)
    (λ later. (recursion_from_All Above (keys_of (remove_entry (is_at (nat_cmp id)) others)) (All-map-remove_entry (is_at (nat_cmp id)) (λ (e : ℕ × SurfaceState). e.0) Above others (All-from_recursion Above (keys_of others) rising.0)), rising_destroyed id others rising.1))

keys_of-changed : (id : ℕ) (step : SurfaceState → SurfaceState) (all : List (ℕ × SurfaceState)) → keys_of (changed id step all) ≡ keys_of all
keys_of-changed id step [] = refl
keys_of-changed id step (one ∷ others) =
    cond_both (is_at (nat_cmp id) one.0) ((one.0, step one.1) ∷ others) (one ∷ changed id step others) (λ after. keys_of after ≡ keys_of (one ∷ others))
    (λ here. refl) (λ later. ap (λ ids. one.0 ∷ ids) (keys_of-changed id step others))

-- ---- each surface is sound

each_changed : (id : ℕ) (step : SurfaceState → SurfaceState) (all : List (ℕ × SurfaceState)) → ((s : SurfaceState) → IsSoundSurface s → IsSoundSurface (step s)) → All IsSoundSurface (values_of all) → All IsSoundSurface (values_of (changed id step all))
each_changed id step [] keeps each = each
each_changed id step (one ∷ others) keeps each =
    let first : IsSoundSurface one.1 = each 0 one.1 (omega arith) in
    let rest : All IsSoundSurface (values_of others) = All-tail IsSoundSurface one.1 (values_of others) each in
    cond_both (is_at (nat_cmp id) one.0) ((one.0, step one.1) ∷ others) (one ∷ changed id step others) (λ after. All IsSoundSurface (values_of after))
    (λ here. All-cons IsSoundSurface (step one.1) (values_of others) (keeps one.1 first) rest)
    (λ later. All-cons IsSoundSurface one.1 (values_of (changed id step others)) first (each_changed id step others keeps rest))

fresh_sound : IsSoundSurface fresh
fresh_sound = record { scaled = omega arith; few = omega arith }

scale_some : (scale : ℤ) → 0 < scale_of scale
scale_some (pos zero) = omega arith
scale_some (pos (suc n)) = omega arith
scale_some (negsuc n) = omega arith

-- ---- requests

pub sound_changed : (id : ℕ) (step : SurfaceState → SurfaceState) (all : List (ℕ × SurfaceState)) → ((s : SurfaceState) → IsSoundSurface s → IsSoundSurface (step s)) → IsSound all → IsSound (changed id step all)
sound_changed id step all keeps sound = record {
  rising = subst (λ (ids : List ℕ). IsStrictlySortedBy nat_cmp ids) (sym (keys_of-changed id step all)) sound.rising;
  each = each_changed id step all keeps sound.each;
}

pub sound_after : (request : Request) (all : List (ℕ × SurfaceState)) → IsSound all → IsSound (after request all)
sound_after (Make id) all sound = record { rising = rising_made all id fresh sound.rising; each = All-values-insert_entry nat_cmp id fresh IsSoundSurface all sound.each fresh_sound }
sound_after (Destroy id) all sound = record { rising = rising_destroyed id all sound.rising; each = All-map-remove_entry (is_at (nat_cmp id)) (λ (e : ℕ × SurfaceState). e.1) IsSoundSurface all sound.each }
sound_after (Attach id buffer) all sound = sound_changed id (with_attached buffer) all (λ s sane. record { scaled = sane.scaled; few = sane.few }) sound
sound_after (AddDamage id damage) all sound = sound_changed id (with_damage damage) all (λ s sane. record { scaled = sane.scaled; few = sane.few }) sound
sound_after (SetScale id scale) all sound = sound_changed id (with_scale scale) all (λ s sane. record { scaled = scale_some scale; few = sane.few }) sound
sound_after (SetTransform id transform) all sound = sound_changed id (with_transform transform) all (λ s sane. record { scaled = sane.scaled; few = sane.few }) sound
sound_after (Commit id standing) all sound =
    sound_changed id (with_commit standing) all (λ s sane. record { scaled = sane.scaled; few = omega (arith, length-take backlog (next_commit s standing ∷ s.commits)) }) sound

pub sound_none : IsSound []
unfolding IsStrictlySortedBy
sound_none = record { rising = tt; each = λ k d within. absurd (omega arith) }

pub sound_lasts_law : SoundLasts
sound_lasts_law = record { none = sound_none; after = sound_after }
