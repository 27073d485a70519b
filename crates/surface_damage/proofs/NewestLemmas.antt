-- The newest seven commits of a surface decide which bytes are due, so that the others can be forgotten.
--
-- The last commit with a buffer is asked for only where it is one of the newest seven, and then only commits after it are; so a
-- list cut after seven gives the same answer at each question. And each request does to surfaces that are cut what it does to
-- whole ones, so that after any list of requests what is kept is what no forgetting would leave, cut.
use Rattle.std.proofs.Common.{◌≡◌, ℕ, zero, suc, ◌+◌, ◌*◌, ◌/◌, ◌<◌, ◌≤◌, Bool, true, false, ◌&&◌, cond, min, List, [], ◌∷◌, ◌++◌, length, take, map, Ordering, Less, Equal, Greater, nat_cmp, refl, ap, ◌∙◌, sym, arith, Option, Some, None, ⊎_elim, not}
use Rattle.std.specs.Prelude.{position, nat_le, nat_lt, unsigned_abs}
use Rattle.std.specs.Option.{option_map}
use Rattle.std.specs.Ordering.{match_ordering}
use Rattle.std.specs.List.{flat_map, prefix_len, position_or_len}
use Rattle.std.specs.Map.{remove_entry}
use Rattle.std.specs.BTreeMap.{is_at, insert_entry}
use Rattle.std.proofs.lemmas.Bool.{cases_Bool, cases_lt, cond-true, cond-false, cond_both, and_parts, ltb-true, lt-ltb, le-ltb}
use Rattle.std.proofs.lemmas.List.{take-take, length-take}
use Rattle.block_intervals.specs.Sets.{lies_within}
use Rattle.shm_pools.specs.declared.buffers.Buffer.{Buffer}
use Rattle.shm_pools.specs.Buffers.{has_pixels}
use Rattle.surface_damage.specs.declared.history.BufferKey.{BufferKey}
use Rattle.surface_damage.specs.declared.history.Geometry.{Geometry}
use Rattle.surface_damage.specs.declared.standing.Standing.{Standing}
use Rattle.surface_damage.specs.declared.standing.Standing.TheVariants.{Nothing, Fits}
use Rattle.surface_damage.specs.History.{SurfaceState, Committed, shows}
use Rattle.surface_damage.specs.Images.{image_of, row_of, place_in_row}
use Rattle.surface_damage.specs.DueBytes.{geometry_of, is_due, told_of, all_had, if_enough, commits_since, is_covered, pixel_due_since, pixel_is_due, due_if_attached}
use Rattle.surface_damage.specs.Filled.{filled, filled_at, filled_for}
use Rattle.surface_damage.specs.Requests.{Request, Make, Destroy, Attach, AddDamage, SetScale, SetTransform, Commit, with_every_commit, after_by, after_all, kept_after, whole_after}
use Rattle.surface_damage.specs.Statements.{newest_seven, NewestSuffice}
use Rattle.surface_damage.specs.Steps.{fresh, with_attached, with_damage, with_scale, with_transform, with_commit, next_commit, find, changed}

-- ---- the newest seven decide

suc_min : (m n : ℕ) → 1 + min m n ≡ min (suc m) (1 + n)
suc_min m n = omega arith

min_zero : (n : ℕ) → zero ≡ min n zero
min_zero n = omega arith

-- the first place in a list that is cut
prefix_len_take : {X : Type 0} (p : X → Bool) (n : ℕ) (xs : List X) → prefix_len p (take n xs) ≡ min n (prefix_len p xs)
prefix_len_take p zero xs = omega arith
prefix_len_take p (suc n) [] = omega arith
prefix_len_take p (suc n) (x ∷ xs) =
    ⊎_elim
    (λ e. cond-true (p x) _ _ e ∙ ap (λ t. 1 + t) (prefix_len_take p n xs) ∙ suc_min n (prefix_len p xs) ∙ ap (min (suc n)) (sym (cond-true (p x) _ _ e)))
    (λ e. cond-false (p x) _ _ e ∙ min_zero (suc n) ∙ ap (min (suc n)) (sym (cond-false (p x) _ _ e)))
    (cases_Bool (p x))

found_at : (p : Committed → Bool) (xs : List Committed) (k : ℕ) → position_or_len p xs ≡ k → k < length xs → position p xs ≡ Some k
found_at p xs k is l = cond-true (nat_lt (position_or_len p xs) (length xs)) _ _ (lt-ltb _ _ (omega arith)) ∙ ap Some is

found_none : (p : Committed → Bool) (xs : List Committed) → length xs ≤ position_or_len p xs → position p xs ≡ None
found_none p xs l = cond-false (nat_lt (position_or_len p xs) (length xs)) _ _ (le-ltb _ _ l)

-- an answer is asked for only among the newest seven
enough_cut : (g : Geometry) (p : Committed → Bool) (xs : List Committed) → if_enough g (take 7 xs) (position p (take 7 xs)) ≡ if_enough g xs (position p xs)
enough_cut g p xs =
    let place : ℕ = position_or_len p xs in
    let cut_place : position_or_len p (take 7 xs) ≡ min 7 place = prefix_len_take (λ x. not (p x)) 7 xs in
    let cut_length : length (take 7 xs) ≡ min 7 (length xs) = length-take 7 xs in
    ⊎_elim
    (λ found. ⊎_elim
    (λ near.
    let cut : position p (take 7 xs) ≡ Some place = found_at p (take 7 xs) place (omega arith) (omega arith) in
    let whole : position p xs ≡ Some place = found_at p xs place refl found in
    ap (if_enough g (take 7 xs)) cut
    ∙ ap (λ t. cond (nat_lt place 7 && all_had g t) (Some place) None) (take-take (place + 1) 7 xs (omega arith))
    ∙ sym (ap (if_enough g xs) whole))
    (λ far.
    let cut : position p (take 7 xs) ≡ None = found_none p (take 7 xs) (omega arith) in
    let whole : position p xs ≡ Some place = found_at p xs place refl found in
    ap (if_enough g (take 7 xs)) cut
    ∙ sym (ap (if_enough g xs) whole ∙ ap (λ t. cond (t && all_had g (take (place + 1) xs)) (Some place) None) (le-ltb place 7 far)))
    (cases_lt place 7))
    (λ missing.
    let cut : position p (take 7 xs) ≡ None = found_none p (take 7 xs) (omega arith) in
    let whole : position p xs ≡ None = found_none p xs missing in
    ap (if_enough g (take 7 xs)) cut ∙ sym (ap (if_enough g xs) whole))
    (cases_lt place (length xs))

-- and its answer is one of them
enough_below : (g : Geometry) (xs : List Committed) (o : Option ℕ) (back : ℕ) → if_enough g xs o ≡ Some back → back < 7
enough_below g xs None back e = absurd (cc)
enough_below g xs (Some k) back e =
    ⊎_elim
    (λ t. let near : k < 7 = ltb-true k 7 (and_parts (nat_lt k 7) (all_had g (take (k + 1) xs)) t).0 in
    let is : Some k ≡ Some back = sym (cond-true (nat_lt k 7 && all_had g (take (k + 1) xs)) (Some k) None t) ∙ e in
    let same : k ≡ back = cc in omega arith)
    (λ f. let is : None ≡ Some back = sym (cond-false (nat_lt k 7 && all_had g (take (k + 1) xs)) (Some k) None f) ∙ e in absurd (cc))
    (cases_Bool (nat_lt k 7 && all_had g (take (k + 1) xs)))

pixel_cut : (s : SurfaceState) (b : Buffer) (o : Option ℕ) (bx by : ℕ) → ((back : ℕ) → o ≡ Some back → back < 7) → pixel_due_since (newest_seven s) b o bx by ≡ pixel_due_since s b o bx by
pixel_cut s b None bx by below = refl
pixel_cut s b (Some back) bx by below =
    let near : back < 7 = below back refl in
    ap (λ t. is_covered s b (s.pending ++ flat_map (λ (c : Committed). c.damage) t) bx by) (take-take back 7 s.commits (omega arith))

due_cut : (s : SurfaceState) (key : BufferKey) (b : Buffer) (bx by : ℕ) → pixel_is_due (newest_seven s) key b bx by ≡ pixel_is_due s key b bx by
due_cut s key b bx by =
    ap (λ o. pixel_due_since (newest_seven s) b o bx by) (enough_cut (geometry_of s b) (λ c. shows key c.content) s.commits)
    ∙ pixel_cut s b (commits_since s key (geometry_of s b)) bx by (λ back e. enough_below (geometry_of s b) s.commits (position (λ c. shows key c.content) s.commits) back e)

attached_cut : (s : SurfaceState) (attached : Option BufferKey) (b : Buffer) (told at : ℕ) → due_if_attached (newest_seven s) attached b told at ≡ due_if_attached s attached b told at
attached_cut s None b told at = refl
attached_cut s (Some key) b told at =
    ap
    (λ t. cond (has_pixels b.format) (nat_le (image_of b).offset at && (nat_lt (row_of (image_of b) at) (image_of b).height && (nat_lt (place_in_row (image_of b) at) (4 * (image_of b).width) && t))) (lies_within (unsigned_abs b.offset) told at))
    (due_cut s key b (place_in_row (image_of b) at / 4) (row_of (image_of b) at))

older_idle : (s : SurfaceState) (standing : Standing) (at : ℕ) → is_due (newest_seven s) standing at ≡ is_due s standing at
older_idle s Nothing at = refl
older_idle s (Fits b told) at = attached_cut s s.attached b told at

-- so the filled blocks are the same
filled_cut : (s : SurfaceState) (standing : Standing) → filled_at (newest_seven s) standing ≡ filled_at s standing
filled_cut s standing = ap (λ due. filled due (told_of standing)) (λ j at. older_idle s standing at j)

-- ---- each request does the same to what is cut

cut : List (ℕ × SurfaceState) → List (ℕ × SurfaceState)
cut all = map (λ (one : ℕ × SurfaceState). (one.0, newest_seven one.1)) all

cut_made : (id : ℕ) (all : List (ℕ × SurfaceState)) → insert_entry nat_cmp (cut all) id fresh ≡ cut (insert_entry nat_cmp all id fresh)
unfolding cut
cut_made id [] = refl
cut_made id (one ∷ others) = by (cut_made id others) (nat_cmp id one.0)
  where
    by : insert_entry nat_cmp (cut others) id fresh ≡ cut (insert_entry nat_cmp others id fresh) → (order : Ordering)
        → match_ordering order ((id, fresh) ∷ cut (one ∷ others)) ((one.0, fresh) ∷ cut others) ((one.0, newest_seven one.1) ∷ insert_entry nat_cmp (cut others) id fresh)
        ≡ cut (match_ordering order ((id, fresh) ∷ one ∷ others) ((one.0, fresh) ∷ others) (one ∷ insert_entry nat_cmp others id fresh))
    by rest Less = refl
    by rest Equal = refl
    by rest Greater = ap (λ list. (one.0, newest_seven one.1) ∷ list) rest

cut_destroyed : (id : ℕ) (all : List (ℕ × SurfaceState)) → remove_entry (is_at (nat_cmp id)) (cut all) ≡ cut (remove_entry (is_at (nat_cmp id)) all)
unfolding cut
cut_destroyed id [] = refl
cut_destroyed id (one ∷ others) = by (is_at (nat_cmp id) one.0) (cut_destroyed id others)
  where
    by : (here : Bool) → remove_entry (is_at (nat_cmp id)) (cut others) ≡ cut (remove_entry (is_at (nat_cmp id)) others)
        → cond here (cut others) ((one.0, newest_seven one.1) ∷ remove_entry (is_at (nat_cmp id)) (cut others)) ≡ cut (cond here others (one ∷ remove_entry (is_at (nat_cmp id)) others))
    by true rest = refl
    by false rest = ap (λ list. (one.0, newest_seven one.1) ∷ list) rest

cut_changed : (id : ℕ) (step whole : SurfaceState → SurfaceState) → ((s : SurfaceState) → step (newest_seven s) ≡ newest_seven (whole s)) → (all : List (ℕ × SurfaceState)) → changed id step (cut all) ≡ cut (changed id whole all)
unfolding cut
cut_changed id step whole same [] = refl
cut_changed id step whole same (one ∷ others) = by (is_at (nat_cmp id) one.0) (cut_changed id step whole same others)
  where
    by : (here : Bool) → changed id step (cut others) ≡ cut (changed id whole others)
        → cond here ((one.0, step (newest_seven one.1)) ∷ cut others) ((one.0, newest_seven one.1) ∷ changed id step (cut others)) ≡ cut (cond here ((one.0, whole one.1) ∷ others) (one ∷ changed id whole others))
    by true rest = ap (λ (s : SurfaceState). (one.0, s) ∷ cut others) (same one.1)
    by false rest = ap (λ list. (one.0, newest_seven one.1) ∷ list) rest

commit_cut : (standing : Standing) (s : SurfaceState) → with_commit standing (newest_seven s) ≡ newest_seven (with_every_commit standing s)
commit_cut standing s = ap (λ (older : List Committed). record s { pending = []; commits = next_commit s standing ∷ older }) (take-take 6 7 s.commits (omega arith))

request_cut : (request : Request) (all : List (ℕ × SurfaceState)) → after_by with_commit request (cut all) ≡ cut (after_by with_every_commit request all)
request_cut (Make id) all = cut_made id all
request_cut (Destroy id) all = cut_destroyed id all
request_cut (Attach id buffer) all = cut_changed id (with_attached buffer) (with_attached buffer) (λ s. refl) all
request_cut (AddDamage id damage) all = cut_changed id (with_damage damage) (with_damage damage) (λ s. refl) all
request_cut (SetScale id scale) all = cut_changed id (with_scale scale) (with_scale scale) (λ s. refl) all
request_cut (SetTransform id transform) all = cut_changed id (with_transform transform) (with_transform transform) (λ s. refl) all
request_cut (Commit id standing) all = cut_changed id (with_commit standing) (with_every_commit standing) (commit_cut standing) all

all_cut : (requests : List Request) (all : List (ℕ × SurfaceState)) → after_all with_commit requests (cut all) ≡ cut (after_all with_every_commit requests all)
all_cut [] all = refl
all_cut (request ∷ requests) all =
    ap (after_all with_commit requests) (request_cut request all) ∙ all_cut requests (after_by with_every_commit request all)

kept_cut : (requests : List Request) → kept_after requests ≡ cut (whole_after requests)
unfolding cut
kept_cut requests = all_cut requests []

-- ---- what a look-up finds

find_cut : (id : ℕ) (all : List (ℕ × SurfaceState)) → find id (cut all) ≡ option_map newest_seven (find id all)
unfolding cut
find_cut id [] = refl
find_cut id (one ∷ others) = by (is_at (nat_cmp id) one.0) (find_cut id others)
  where
    by : (here : Bool) → find id (cut others) ≡ option_map newest_seven (find id others)
        → cond here (Some (newest_seven one.1)) (find id (cut others)) ≡ option_map newest_seven (cond here (Some one.1) (find id others))
    by true rest = refl
    by false rest = rest

filled_for_cut : (found : Option SurfaceState) (standing : Standing) → filled_for (option_map newest_seven found) standing ≡ filled_for found standing
filled_for_cut None standing = refl
filled_for_cut (Some s) standing = filled_cut s standing

pub newest_suffice_law : NewestSuffice
unfolding cut
newest_suffice_law = record {
  kept = kept_cut;
  filled = λ requests id standing.
      ap (λ all. filled_for (find id all) standing) (kept_cut requests)
      ∙ ap (λ found. filled_for found standing) (find_cut id (whole_after requests))
      ∙ filled_for_cut (find id (whole_after requests)) standing;
}
